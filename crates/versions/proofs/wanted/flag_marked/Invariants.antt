-- `versions::wanted::flag_marked` meets its contract. The loop's invariant: the flags of the runs so far. Assumes nothing.
use Rattle.std.proofs.Common.{◌≡◌}
use Rattle.versions.specs.Ranges.{flag_marked}
use Rattle.versions.specs.Parents.{parents_in}
use Rattle.versions.proofs.wanted.flag_marked.Given as goal

abbrev pub invariant-loop-r : goal.invariant-loop-r
invariant-loop-r l = l.flags ≡ flag_marked (parents_in l.parents) l.ends l.r
