-- `tables::children::count_parents` meets its contract: each run's occurrences are counted one place on. Assumes nothing.
use Rattle.std.proofs.Common.{◌+◌, ◌^◌, get_or, take, refl, arith}
use Rattle.std.proofs.Math.ListN.{length-take}
use Rattle.tables.proofs.Counting.{counted_none, counted_next, counted-low}
use Rattle.tables.proofs.children.count_parents.Goals as goal

pub loop-p-init : goal.loop-p-init
loop-p-init c = counted_none c.args.ps.now c.args.starts.now

pub overflow_add-starts-in-loop-p : goal.overflow_add-starts-in-loop-p
overflow_add-starts-in-loop-p c =
    let l = c.loop-p in
    let ps = c.args.ps.now in
    omega (arith, counted-low (take l.p-index ps) c.args.starts.now l.starts (2 ^ 20) l.invariant c.requires.small (get_or ps l.p-index 0 + 1), length-take l.p-index ps, c.requires.few)

pub loop-p-preserved : goal.loop-p-preserved
loop-p-preserved c =
    let l = c.loop-p in
    let ps = c.args.ps.now in
    counted_next ps c.args.starts.now l.starts l.p-index (get_or ps l.p-index 0) (omega arith) refl (c.requires.countable l.p-index (omega arith)) l.invariant
