-- `versions::ranges::EventRanges::all_clear` meets its contract. The loop's invariant: the runs so far are clear, and the place is not past the next start's. Assumes nothing.
use Rattle.std.proofs.Common.{◌≡◌, ◌≤◌, true, length, get_or}
use Rattle.lists.specs.Lists.{all, upto}
use Rattle.versions.specs.Ranges.{place_of, clear_in}
use Rattle.versions.proofs.ranges.EventRanges.all_clear.Given as goal

abbrev pub invariant-loop-start : goal.invariant-loop-start
invariant-loop-start l =
    (goal.iterator-loop-start).can_next l.start-iterator ×
    (goal.iterator-loop-start).is_finite l.start-iterator ×
    (l.k ≤ place_of l.self.words.now (get_or l.starts (length l.yielded) 0)) ×
    (all (clear_in l.starts l.self.words.now) (upto (length l.yielded)) ≡ true)
