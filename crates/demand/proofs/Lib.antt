-- What ran is what demand 3's claim speaks of.
pub mod Ran
