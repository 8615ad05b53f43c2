-- `tables::distance::sizes_of` meets its contract: the events of each run's history. Assumes nothing.
use Rattle.tables.specs.Sizes.{Sized}
use Rattle.tables.proofs.distance.sizes_of.Given as goal

abbrev pub invariant-loop-r : goal.invariant-loop-r
invariant-loop-r l = Sized l.sums.before.now l.sums.begins.now l.rows l.sums.chains l.r l.sizes
