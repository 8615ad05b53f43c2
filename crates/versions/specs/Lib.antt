-- What the loops of the versions' code compute.
pub mod Flags
pub mod Heads
pub mod Parents
pub mod Ranges
pub mod Words
