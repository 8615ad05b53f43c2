-- `graph::marks::marks_of` meets its contract: the loop's invariant is that the marks below `i` are kept. Assumes nothing.
use Rattle.std.proofs.Common.{◌≡◌}
use Rattle.graph.proofs.Marking.{marked_by}
use Rattle.graph.proofs.marks.marks_of.Given as goal

abbrev pub invariant-loop-i : goal.invariant-loop-i
invariant-loop-i l = l.marks ≡ marked_by l.starts l.seen l.i
