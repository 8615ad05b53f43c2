-- `graph::held::HeldGraph::len` meets its contract: its read is one of the graph. Assumes nothing.
use Rattle.std.proofs.Common.{sym, arith}
use Rattle.graph.proofs.Views.{facts, len-view}
use Rattle.graph.proofs.held.HeldGraph.len.Goals as goal

pub offset_bounds-self-self : goal.offset_bounds-self-self
offset_bounds-self-self c = omega (arith, (facts c.args.self.now.graph c.args.self.now.held).runs)

pub bounds-self-self : goal.bounds-self-self
bounds-self-self c = omega (arith, (facts c.args.self.now.graph c.args.self.now.held).runs)

pub returns : goal.returns
returns c = sym (len-view c.args.self.now.graph c.args.self.now.held)
