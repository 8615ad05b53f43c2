-- Calls given as words, and a run start that is made again after some.
pub mod Words
pub mod Again
pub mod Said
