-- `graph::pushing::count_parents` meets its contract. The loop's invariant: no count is above the parents so far, and with those of the rest
-- they are the counts of all the parents. Assumes nothing.
use Rattle.std.proofs.Common.{◌≡◌, ◌≤◌, drop}
use Rattle.graph.specs.Loops.{count_parents}
use Rattle.graph.proofs.Counting.{plus_counts}
use Rattle.graph.proofs.pushing.count_parents.Given as goal

abbrev pub invariant-loop-p : goal.invariant-loop-p
invariant-loop-p l = record {
  unknown : l.t.unknown ≤ l.p-index;
  held : l.t.held ≤ l.p-index;
  splits : l.t.splits ≤ l.p-index;
  all : plus_counts l.t (count_parents l.g.graph.starts l.g.graph.run_count (drop l.p-index l.ps)) ≡ count_parents l.g.graph.starts l.g.graph.run_count l.ps;
}
