-- The laws behind a range's tables.
-- Lists in one area
pub mod JaggedRows
pub mod Laning
-- Chains and rows of a range
pub mod Prefixes
pub mod Chaining
pub mod Holding
pub mod Turns
pub mod Making
pub mod Pasting
pub mod Placing
pub mod Fitted
pub mod Outcome
pub mod FirstWords
pub mod LaidRun
pub mod RowsIn
-- The parents of a range
pub mod Gathering
pub mod Ranging
-- Both
-- Members and sums; versions and distances
pub mod Standing
pub mod Summing
pub mod ClosedSets
pub mod Differing
pub mod Indexing
pub mod Gapping
pub mod Distances
pub mod Reaching
-- Children
pub mod Counting
pub mod ParentGroups
pub mod Rooms
pub mod Putting
pub mod Filling
pub mod Begins
pub mod KidsListed
pub mod KidsLent
-- Covers and weights
pub mod Bits
pub mod Ranges
pub mod Joins
pub mod Covering
pub mod Weighing
pub mod Weighted
