-- `tables::versions::start_version` meets its contract: how far the first runs reach. Assumes nothing.
use Rattle.tables.specs.Reached.{started, Holds}
use Rattle.tables.proofs.versions.start_version.Given as goal

abbrev pub invariant-loop-r : goal.invariant-loop-r
invariant-loop-r l = Holds (started l.chain l.place l.r) l.chains l.current
