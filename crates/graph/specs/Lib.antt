-- What the loops of the graph's code compute.
pub mod Loops
pub mod Cutting
pub mod Rows
pub mod Records
pub mod Counts
pub mod Kinds
