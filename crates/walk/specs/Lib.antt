-- What the walk's code computes.
pub mod Ranges
pub mod Given
pub mod Readiness
pub mod Choose
pub mod Turns
pub mod Prepare
pub mod Walked
pub mod CutRecords
