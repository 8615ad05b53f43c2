-- `graph::growth::own_all` meets its contract. The loop's invariant: there is room for the held ones of the rest, and the rest
-- done from here is all done from the start. Assumes nothing.
use Rattle.std.proofs.Common.{◌≡◌, ◌≤◌, ◌+◌, drop}
use Rattle.lists.specs.Lists.{count}
use Rattle.model.specs.Graph.{is_held}
use Rattle.graph.specs.Loops.{side_in, own_all}
use Rattle.graph.proofs.growth.own_all.Given as goal

abbrev pub invariant-loop-p : goal.invariant-loop-p
invariant-loop-p l =
    let g = l.g.graph in
    record {
      room : l.h.count + count (λ p. is_held (side_in g.starts g.run_count p)) (drop l.p-index l.ps) ≤ 2048;
      rest : own_all g.starts g.seen_prefix_len g.run_count (l.items, l.h) (drop l.p-index l.ps) ≡ own_all g.starts g.seen_prefix_len g.run_count (l.initial.items, l.initial.h) l.ps;
    }
