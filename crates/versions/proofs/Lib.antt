-- The laws behind the versions' code.
-- Words into a lent list
pub mod Writing
-- The concurrency list
pub mod Flagging
-- The rows of a graph
pub mod GraphRows
pub mod Comparing
pub mod Passes
pub mod ConcurrentWays
-- Archive points
pub mod FirstChildren
pub mod HeadCounting
pub mod ByHeads
pub mod HeadTurns
pub mod ArchiveWays
-- Wanted parents
pub mod RangeWords
pub mod FirstParts
pub mod MarkedRuns
pub mod RangeTurns
pub mod WantedWays
