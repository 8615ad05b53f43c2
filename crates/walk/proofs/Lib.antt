-- The laws behind a walk.
-- A range of a graph's runs by the graph's arrays
pub mod Arrays
-- Words of the definitions and of the library
pub mod Library
-- The choice
pub mod Weighing
pub mod Newest
pub mod Viewing
pub mod Chosen
-- Readiness: what runs wait for, the state that tells of it, started, after a visit and with a run taken out
pub mod Distinct
pub mod Inside
pub mod Waiting
pub mod Newly
pub mod Waking
pub mod Telling
pub mod Removing
pub mod Starting
pub mod Keeping
-- The loop: `first` within the range, and turn by turn
pub mod Clamping
pub mod Turning
-- The loop over the tables of a range
pub mod Looping
pub mod Looped
pub mod Reading
pub mod Stepping
-- A range prepared
pub mod Kinship
pub mod Preparing
pub mod RangeReady
-- Answers
pub mod Answering
pub mod Ranging
pub mod RangeWalked
-- Whole walks and full replay, by a record's arrays
pub mod WholeWalk
pub mod CutRead
pub mod WholeReplay
pub mod ReplayWays
pub mod Counting
