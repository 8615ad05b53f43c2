-- The laws behind the writing of steps.
-- What a writer leaves
pub mod Emitting
pub mod Closing
-- Stretches of runs, chain by chain
pub mod Stretching
pub mod ByChain
-- How many events a visit moves at most
pub mod Bounds
-- The definitions' steps
pub mod Pieces
pub mod Defined
pub mod Written
