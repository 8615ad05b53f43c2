-- `graph::held::HeldGraph::frontier` meets its contract: the used part of the array is the graph's frontier. Assumes nothing.
use Rattle.std.proofs.Common.{sym}
use Rattle.graph.proofs.Views.{facts, frontier_list}
use Rattle.graph.proofs.held.HeldGraph.frontier.Goals as goal

pub shared_ref_as_front-result : goal.shared_ref_as_front-result
shared_ref_as_front-result c = (facts c.args.self.now.graph c.args.self.now.held).tips

pub returns : goal.returns
returns c = sym (frontier_list c.args.self.now.graph c.args.self.now.held)
