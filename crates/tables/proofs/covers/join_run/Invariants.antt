-- `tables::covers::join_run` meets its contract: a run's cover is joined. Assumes nothing.
use Rattle.std.proofs.Common.{◌≡◌}
use Rattle.tables.specs.Covers.{join_words}
use Rattle.tables.proofs.Ranges.{join_rest}
use Rattle.tables.proofs.covers.join_run.Given as goal

abbrev pub invariant-loop-i : goal.invariant-loop-i
invariant-loop-i l = join_rest l.i l.z l.w-items ≡ join_words l.initial.z l.w-items
