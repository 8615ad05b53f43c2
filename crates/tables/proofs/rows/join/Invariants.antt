-- `tables::rows::join` meets its contract: each place becomes the larger of the two. Assumes nothing.
use Rattle.std.proofs.Common.{◌≡◌}
use Rattle.tables.specs.Lay.{join_of}
use Rattle.tables.proofs.Turns.{join_from}
use Rattle.tables.proofs.rows.join.Given as goal

abbrev pub invariant-loop-i : goal.invariant-loop-i
invariant-loop-i l = join_from l.i l.row l.theirs ≡ join_of l.initial.row l.theirs
