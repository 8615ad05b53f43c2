-- `graph::held::HeldGraph::starts` meets its contract: the used part of the array is the graph's starts. Assumes nothing.
use Rattle.std.proofs.Common.{sym, arith}
use Rattle.graph.proofs.Views.{facts, starts_list}
use Rattle.graph.proofs.held.HeldGraph.starts.Goals as goal

pub overflow_add-result : goal.overflow_add-result
overflow_add-result c = omega (arith, (facts c.args.self.now.graph c.args.self.now.held).runs)

pub shared_ref_as_front-result : goal.shared_ref_as_front-result
shared_ref_as_front-result c =
    let f = facts c.args.self.now.graph c.args.self.now.held in
    omega (arith, f.runs)

pub returns : goal.returns
returns c = sym (starts_list c.args.self.now.graph c.args.self.now.held)
