-- The laws of reads.
pub mod Readings
