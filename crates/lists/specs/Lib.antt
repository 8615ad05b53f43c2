-- Plain lists, and nothing of graphs.
pub mod Lists
pub mod Areas
pub mod Padded
pub mod Scans
