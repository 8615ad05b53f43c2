-- `tables::words::sum_up` meets its contract: each place is the sum of those up to it. Assumes nothing.
use Rattle.std.proofs.Common.{arith}
use Rattle.tables.proofs.Counting.{summing_start, summing_room, summing_next, summing_end}
use Rattle.tables.proofs.words.sum_up.Goals as goal

pub loop-x-init : goal.loop-x-init
loop-x-init c = summing_start c.args.list.now

pub overflow_add-sum : goal.overflow_add-sum
overflow_add-sum c = let l = c.loop-x in omega (arith, summing_room c.args.list.now l.x-index l.sum l.list l.invariant (omega (arith, c.requires.few)) c.requires.small)

pub loop-x-preserved : goal.loop-x-preserved
loop-x-preserved c = let l = c.loop-x in summing_next c.args.list.now l.x-index l.sum l.list l.invariant (omega arith)

pub returns : goal.returns
returns c =
    let l = c.loop-x in summing_end c.args.list.now l.x-index l.sum l.list c.requires.first (omega arith) l.invariant
