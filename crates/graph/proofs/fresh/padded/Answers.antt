-- `graph::fresh::padded` meets its contract: zeros of which the first places are written over. Assumes nothing.
use Rattle.lists.proofs.Pads.{over-zeros}
use Rattle.graph.proofs.fresh.padded.Goals as goal

pub returns : goal.returns
returns c = rw (c.copy_from_slice.ensures.after, c.zeros-a.ensures) (over-zeros 512 c.args.s.now)
