-- `graph::marks::lows` meets its contract. The loop's invariant: the places from `i` on hold the lowest of what is seen from there on. Assumes nothing.
use Rattle.graph.proofs.Marking.{Lows}
use Rattle.graph.proofs.marks.lows.Given as goal

abbrev pub invariant-loop-i : goal.invariant-loop-i
invariant-loop-i l = Lows l.seen l.a l.low l.i
