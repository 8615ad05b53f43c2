-- The laws behind the calls given as words.
pub mod Reading
pub mod Making
pub mod Covering
pub mod Again
