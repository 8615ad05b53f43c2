-- `Kept::new` meets its contract: zeros are the padding of no list. Assumes nothing.
use Rattle.std.proofs.Common.{arith}
use Rattle.lists.proofs.kept.Kept.new.Goals as goal

pub invariant_of-result : goal.invariant_of-result
invariant_of-result c = (omega arith, c.zeros.ensures)
