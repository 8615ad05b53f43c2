-- `lists::all_below` meets its contract: a turn asks one item more. Assumes nothing.
use Rattle.std.proofs.Common.{refl, sym, arith}
use Rattle.lists.specs.Lists.{all, below}
use Rattle.lists.proofs.Scanning.{below_more}
use Rattle.lists.proofs.all_below.Goals as goal

pub loop-x-init : goal.loop-x-init
unfolding all below
loop-x-init c = refl

pub loop-x-preserved : goal.loop-x-preserved
loop-x-preserved c = rw c.loop-x.invariant (sym (below_more _ _ _ (omega arith)))
