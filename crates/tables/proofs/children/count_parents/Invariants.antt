-- `tables::children::count_parents` meets its contract: each run's occurrences are counted one place on. Assumes nothing.
use Rattle.std.proofs.Common.{take}
use Rattle.tables.specs.Counted.{Counted}
use Rattle.tables.proofs.children.count_parents.Given as goal

abbrev pub invariant-loop-p : goal.invariant-loop-p
invariant-loop-p l = Counted (take l.p-index l.ps) l.initial.starts l.starts
