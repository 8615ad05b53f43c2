-- `graph::marks::lows` meets its contract. The loop's invariant: the places from `i` on hold the lowest of what is seen from there on. Assumes nothing.
use Rattle.std.proofs.Common.{rules, arith}
use Rattle.graph.proofs.Marking.{lows_start, lows_turn}
use Rattle.graph.proofs.marks.lows.Goals as goal

pub loop-i-init : goal.loop-i-init
loop-i-init c = lows_start _ _ (search rules)

pub loop-i-preserved : goal.loop-i-preserved
loop-i-preserved c =
    let l = c.loop-i in
    lows_turn _ _ _ _ _ c.requires c.loop-i-test.true l.invariant c.min-low.ensures

pub returns : goal.returns
returns c = λ k h. c.loop-i.invariant.done k (omega arith) h
