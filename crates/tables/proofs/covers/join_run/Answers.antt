-- `tables::covers::join_run` meets its contract: a run's cover is joined. Assumes nothing.
use Rattle.std.proofs.Common.{◌∙◌, arith}
use Rattle.lists.specs.Areas.{part}
use Rattle.tables.specs.Lanes.{lane}
use Rattle.tables.specs.Covers.{word_bits, cover_at}
use Rattle.tables.proofs.Ranges.{join-start, join_step, bits_joined}
use Rattle.tables.proofs.covers.join_run.Goals as goal

pub loop-i-init : goal.loop-i-init
loop-i-init c = join-start _ _

pub loop-i-preserved : goal.loop-i-preserved
loop-i-preserved c = let l = c.loop-i in join_step l.i l.z _ (omega arith) (omega arith) ∙ l.invariant

pub returns : goal.returns
unfolding cover_at lane part
returns c = let l = c.loop-i in bits_joined word_bits l.z c.args.z.now _ l.i (omega arith) (omega arith) l.invariant
