-- `tables::children::count_all` meets its contract: every run's kids are counted. Assumes nothing.
use Rattle.std.proofs.Common.{◌+◌, ◌<◌, length, take, ap, arith}
use Rattle.lists.specs.Lists.{concat}
use Rattle.tables.proofs.Counting.{tallied_start, tallied_more}
use Rattle.tables.proofs.ParentGroups.{parents-countable}
use Rattle.tables.proofs.JaggedRows.{rows_more, rows-most}
use Rattle.tables.proofs.children.count_all.Goals as goal

pub loop-r-init : goal.loop-r-init
loop-r-init c =
    let pss = c.args.parents.now in tallied_start pss (length pss) (length (concat (take 0 pss))) c.args.starts.now c.fill.new.self (c.fill.ensures.after (λ y e. e)) c.requires.sized

pub count_parents-requires : goal.count_parents-requires
count_parents-requires c =
    let l = c.loop-r in
    let pss = c.args.parents.now in
    let lt : l.r < length pss = omega arith in
    let now = rows-most pss l.r in
    let next = rows-most pss (l.r + 1) in
    let more = rows_more pss l.r lt in
    record {
      countable = rw c.row.ensures (parents-countable pss l.r l.starts c.requires.below lt l.invariant.size);
      few = omega (arith, ap length c.row.ensures, c.requires.few);
      small = λ k. omega (arith, l.invariant.low k, c.requires.few);
    }

pub loop-r-preserved : goal.loop-r-preserved
loop-r-preserved c =
    let l = c.loop-r in
    let pss = c.args.parents.now in
    let lt : l.r < length pss = omega arith in
    tallied_more pss (length pss) l.r (length (concat (take l.r pss))) (length (concat (take (l.r + 1) pss))) c.row.result.now l.starts c.count_parents.new.starts c.row.ensures
    (omega (arith, rows_more pss l.r lt, ap length c.row.ensures)) c.count_parents.ensures l.invariant
