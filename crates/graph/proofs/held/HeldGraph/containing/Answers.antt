-- `graph::held::HeldGraph::containing` meets its contract: the side by the starts is the graph's. Assumes nothing.
use Rattle.std.proofs.Common.{arith, ap, ◌∙◌}
use Rattle.model.specs.Answers.{containing_at}
use Rattle.graph.proofs.Views.{facts, starts_count, starts_list}
use Rattle.graph.proofs.Placing.{by_used, side-view}
use Rattle.graph.proofs.held.HeldGraph.containing.Goals as goal

pub containing_in-requires : goal.containing_in-requires
containing_in-requires c =
    let k = c.args.self.now in
    let n = starts_count k.graph k.held in
    let f = facts k.graph k.held in
    rw c.starts.ensures (record { some = omega (arith, n); few = omega (arith, n, f.runs); rises = k.held.formed.starts })

pub returns : goal.returns
returns c =
    let k = c.args.self.now in
    let f = facts k.graph k.held in
    by_used k.graph.starts k.graph.run_count c.args.event.0 (omega (arith, f.runs, f.sized.starts)) (rw (c.starts.ensures, starts_list k.graph k.held) at c.containing_in.ensures)
    ∙ ap containing_at (side-view k.graph k.held c.args.event.0)
