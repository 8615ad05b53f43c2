-- `lists::is_rising` meets its contract: the loop's invariant is that the flag tells whether the items so far rise. Assumes nothing.
use Rattle.std.proofs.Common.{◌≡◌, take, nat_lt}
use Rattle.lists.proofs.Scanning.{pairs}
use Rattle.lists.proofs.is_rising.Given as goal

abbrev pub invariant-loop-i : goal.invariant-loop-i
invariant-loop-i l = l.rises ≡ pairs nat_lt (take l.i l.s)
