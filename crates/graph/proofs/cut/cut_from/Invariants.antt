-- `graph::cut::cut_from` meets its contract. The loop's invariant: what is left, written from here, is the whole. Assumes nothing.
use Rattle.std.proofs.Common.{◌≡◌, drop}
use Rattle.model.specs.Cut.{ranges_from}
use Rattle.graph.specs.Records.{same_list}
use Rattle.graph.specs.Cutting.{cutting}
use Rattle.graph.proofs.Joining.{cut_rest}
use Rattle.graph.proofs.cut.cut_from.Given as goal

abbrev pub invariant-loop-i : goal.invariant-loop-i
invariant-loop-i l = record {
  same_list : same_list l.out l.initial.out;
  rest : cut_rest (cutting l.first l.out) (ranges_from (drop l.i l.marks) l.end.0) l.end.0 ≡ cut_rest (cutting l.initial.first l.initial.out) (ranges_from (drop l.from l.marks) l.end.0) l.end.0;
}
