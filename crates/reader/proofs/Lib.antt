-- The laws behind the step reader.
pub mod Decoding
pub mod Handing
pub mod Back
