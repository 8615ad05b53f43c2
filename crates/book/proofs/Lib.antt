-- The laws behind the book's reader and printer.
pub mod Decoding
pub mod Taking
pub mod Turning
pub mod Decimals
pub mod Fits
pub mod Lining
pub mod Numbers
pub mod Whole
pub mod Enough
