-- `lists::all_below` meets its contract: the loop's invariant is that the flag tells whether the items so far are below the limit. Assumes nothing.
use Rattle.std.proofs.Common.{◌≡◌, take}
use Rattle.lists.specs.Lists.{below}
use Rattle.lists.proofs.all_below.Given as goal

abbrev pub invariant-loop-x : goal.invariant-loop-x
invariant-loop-x l = l.is_below ≡ below l.limit (take l.x-index l.s)
