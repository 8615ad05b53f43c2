-- `versions::archive::starts_of` meets its contract. The loop's invariant: the starts of the runs so far. Assumes nothing.
use Rattle.std.proofs.Common.{◌≡◌, map, take, get_or}
use Rattle.versions.proofs.archive.starts_of.Given as goal

abbrev pub invariant-loop-r : goal.invariant-loop-r
invariant-loop-r l = l.found ≡ map (λ r. get_or l.starts r 0) (take l.r-index l.r-items)
