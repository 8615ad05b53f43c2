-- `lists::groups_fit` meets its contract: the loop's invariant is that the groups from the one behind the start before `r` on fit exactly if all do. Assumes nothing.
use Rattle.std.proofs.Common.{◌≡◌, ◌-◌, drop}
use Rattle.lists.specs.Areas.{groups}
use Rattle.lists.specs.Scans.{groups_fit}
use Rattle.lists.proofs.groups_fit.Given as goal

abbrev pub invariant-loop-r : goal.invariant-loop-r
invariant-loop-r l = groups_fit 0 (groups l.starts l.items) ≡ groups_fit (l.r - 1) (groups (drop (l.r - 1) l.starts) l.items)
