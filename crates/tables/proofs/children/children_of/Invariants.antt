-- `tables::children::children_of` meets its contract: the kids of each run stand in their places. Assumes nothing.
use Rattle.std.proofs.Common.{length}
use Rattle.tables.specs.Counted.{kids, kids_from}
use Rattle.tables.proofs.Filling.{Filled}
use Rattle.tables.proofs.children.children_of.Given as goal

abbrev pub invariant-loop-r : goal.invariant-loop-r
invariant-loop-r l = Filled (kids_from l.parents (length l.parents)) (λ q. kids l.parents q l.r) (length l.parents) (l.next, l.children)
