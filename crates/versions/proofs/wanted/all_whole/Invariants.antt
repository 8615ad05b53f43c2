-- `versions::wanted::all_whole` meets its contract. The loop's invariant: the runs so far pass. Assumes nothing.
use Rattle.std.proofs.Common.{◌≡◌, true}
use Rattle.lists.specs.Lists.{all, upto}
use Rattle.versions.specs.Ranges.{marked_whole}
use Rattle.versions.proofs.wanted.all_whole.Given as goal

abbrev pub invariant-loop-r : goal.invariant-loop-r
invariant-loop-r l = all (marked_whole l.flags l.ends l.starts) (upto l.r) ≡ true
