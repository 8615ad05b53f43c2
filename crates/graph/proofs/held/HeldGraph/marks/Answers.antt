-- `graph::held::HeldGraph::marks` meets its contract: the used part of the array is the graph's marks. Assumes nothing.
use Rattle.std.proofs.Common.{sym}
use Rattle.graph.proofs.Views.{facts, marks_list}
use Rattle.graph.proofs.held.HeldGraph.marks.Goals as goal

pub shared_ref_as_front-result : goal.shared_ref_as_front-result
shared_ref_as_front-result c = (facts c.args.self.now.graph c.args.self.now.held).marked

pub returns : goal.returns
returns c = sym (marks_list c.args.self.now.graph c.args.self.now.held)
