-- `graph::splitting::split_all` meets its contract. The loop's invariant: the record with its marks is held, has room for the splits of the
-- rest, and these come to those of all the parents. Assumes nothing.
use Rattle.graph.specs.Loops.{marked}
use Rattle.graph.proofs.PartingAll.{Going}
use Rattle.graph.proofs.splitting.split_all.Given as goal

abbrev pub invariant-loop-p : goal.invariant-loop-p
invariant-loop-p l = Going l.ps l.fn.g.graph (marked l.h) l.p-index
