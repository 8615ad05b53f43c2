-- `tables::groups::gather` meets its contract: the groups of the runs so far. Assumes nothing.
use Rattle.tables.proofs.Gathering.{Gathers}
use Rattle.tables.proofs.groups.gather.Given as goal

abbrev pub invariant-loop-j : goal.invariant-loop-j
invariant-loop-j l = Gathers l.all l.a l.j l.initial.starts l.initial.items l.at l.starts l.items
