-- `lists::zeros` meets its contract: zeros are the padding of no list. Assumes nothing.
use Rattle.std.proofs.Math.Nat.{sub-zero}
use Rattle.lists.specs.Areas.{pad}
use Rattle.lists.proofs.zeros.Goals as goal

pub returns : goal.returns
unfolding pad
returns g c = rw sub-zero
