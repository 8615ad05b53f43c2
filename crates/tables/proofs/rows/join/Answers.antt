-- `tables::rows::join` meets its contract: each place becomes the larger of the two. Assumes nothing.
use Rattle.std.proofs.Common.{sym, ◌∙◌, arith}
use Rattle.tables.proofs.Turns.{join-start, join_end, join_step}
use Rattle.tables.proofs.rows.join.Goals as goal

pub loop-i-init : goal.loop-i-init
loop-i-init c = join-start _ _

pub loop-i-preserved : goal.loop-i-preserved
loop-i-preserved c =
    let l = c.loop-i in
    rw c.max.ensures (join_step l.i l.row c.args.theirs.now (omega arith) (omega arith) ∙ l.invariant)

pub returns : goal.returns
returns c = sym (join_end _ _ _ c.loop-i-test.false) ∙ c.loop-i.invariant
