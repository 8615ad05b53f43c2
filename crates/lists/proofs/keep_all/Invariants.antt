-- `lists::keep_all` meets its contract: the loop's invariant is that the filter of the items so far is kept. Assumes nothing.
use Rattle.std.proofs.Common.{◌≡◌, not, take}
use Rattle.lists.specs.Lists.{mem, filter}
use Rattle.lists.proofs.keep_all.Given as goal

abbrev pub invariant-loop-x : goal.invariant-loop-x
invariant-loop-x l = l.kept ≡ filter (λ e. not (mem e l.ps)) (take l.x-index l.a)
