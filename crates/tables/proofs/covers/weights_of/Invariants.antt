-- `tables::covers::weights_of` meets its contract: the weights are those of the definition. Assumes nothing.
use Rattle.tables.proofs.Weighted.{Weighed}
use Rattle.tables.proofs.covers.weights_of.Given as goal

abbrev pub invariant-loop-r : goal.invariant-loop-r
invariant-loop-r l = Weighed l.starts l.begins l.children l.n l.r l.weights l.covers
