-- Steps as records that a writer leaves in a lent list.
pub mod Emit
pub mod Stretches
pub mod Moves
