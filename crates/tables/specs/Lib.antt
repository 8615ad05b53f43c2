-- What the tables of a range hold.
pub mod Lanes
pub mod Jagged
pub mod Laid
pub mod Tables
-- What the code computes
pub mod Lay
pub mod Gather
pub mod Indexed
pub mod Reached
pub mod Gaps
pub mod Sizes
pub mod Counted
pub mod Covers
