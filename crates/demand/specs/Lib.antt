-- Demand 3 of what runs.
pub mod Running
