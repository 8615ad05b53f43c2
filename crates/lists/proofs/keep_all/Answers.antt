-- `lists::keep_all` meets its contract: a turn filters one item more. Assumes nothing.
use Rattle.std.proofs.Common.{◌∙◌, not, arith}
use Rattle.lists.specs.Lists.{mem, filter}
use Rattle.lists.proofs.Keeping.{filter-first, keep_other}
use Rattle.lists.proofs.keep_all.Goals as goal

pub loop-x-init : goal.loop-x-init
unfolding filter
loop-x-init c = c.new-kept.ensures

pub push_if-requires : goal.push_if-requires
push_if-requires c = rw c.loop-x.invariant (omega (arith, c.requires, filter-first (λ e. not (mem e c.args.ps.now)) c.args.a.now c.loop-x.x-index))

pub loop-x-preserved : goal.loop-x-preserved
loop-x-preserved c = c.push_if.ensures ∙ keep_other c.args.ps.now c.args.a.now c.loop-x.x-index _ _ (omega arith) c.loop-x.invariant c.contains.ensures.value
