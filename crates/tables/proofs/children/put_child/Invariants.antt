-- `tables::children::put_child` meets its contract: a run is put among the kids of each of its parents. Assumes nothing.
use Rattle.tables.proofs.Putting.{Putting}
use Rattle.tables.proofs.children.put_child.Given as goal

abbrev pub invariant-loop-p : goal.invariant-loop-p
invariant-loop-p l = Putting l.r l.ps (l.initial.next, l.initial.children) (l.next, l.children) l.p-index
