-- `lists::is_climb` meets its contract: the loop's invariant is that the flag tells whether the items so far never fall, and the last of all is as told. Assumes nothing.
use Rattle.std.proofs.Common.{◌≡◌, ◌&&◌, ◌-◌, take, get_or, length, nat_le, nat_eq}
use Rattle.lists.proofs.Scanning.{pairs}
use Rattle.lists.proofs.is_climb.Given as goal

abbrev pub invariant-loop-i : goal.invariant-loop-i
invariant-loop-i l = l.climbs ≡ nat_eq (get_or l.s (length l.s - 1) 0) l.last && pairs nat_le (take l.i l.s)
