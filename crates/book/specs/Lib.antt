-- The book's reader and printer.
pub mod Turns
pub mod Output
pub mod Writing
