-- `versions::ranges::EventRanges::marked_ends` meets its contract. The loop's invariant: each place so far. Assumes nothing.
use Rattle.std.proofs.Common.{◌≡◌, ◌≤◌, length, get_or}
use Rattle.versions.specs.Ranges.{place_of, Ends}
use Rattle.versions.proofs.ranges.EventRanges.marked_ends.Given as goal

abbrev pub invariant-loop-r : goal.invariant-loop-r
invariant-loop-r l = (length l.ends ≡ 512) × (l.k ≤ place_of l.self.words.now (get_or l.starts l.r 0)) × Ends l.starts l.self.words.now l.r l.ends
