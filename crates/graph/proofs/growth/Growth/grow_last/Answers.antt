-- `graph::growth::Growth::grow_last` meets its contract: the last start and the last of the frontier are set. Assumes nothing.
use Rattle.std.proofs.Common.{arith, rules}
use Rattle.graph.proofs.Views.{facts}
use Rattle.graph.proofs.Extending.{some_tip, grown-stored}
use Rattle.graph.proofs.growth.Growth.grow_last.Goals as goal

pub overflow_cast-runs : goal.overflow_cast-runs
overflow_cast-runs c = omega (arith, (facts c.args.self.graph.now.graph c.args.self.graph.now.held).runs)

pub offset_bounds-h-runs : goal.offset_bounds-h-runs
offset_bounds-h-runs c = omega (arith, (facts c.args.self.graph.now.graph c.args.self.graph.now.held).runs)

pub bounds-h-runs : goal.bounds-h-runs
bounds-h-runs c = omega (arith, (facts c.args.self.graph.now.graph c.args.self.graph.now.held).runs)

pub overflow_sub-h-2 : goal.overflow_sub-h-2
overflow_sub-h-2 c = omega (arith, some_tip c.args.self.graph.now.graph c.args.self.graph.now.held c.requires)

pub offset_bounds-h-tips : goal.offset_bounds-h-tips
offset_bounds-h-tips c = omega (arith, (facts c.args.self.graph.now.graph c.args.self.graph.now.held).tips)

pub bounds-h-tips : goal.bounds-h-tips
bounds-h-tips c =
    let k = c.args.self.graph.now in
    omega (arith, (facts k.graph k.held).tips, some_tip k.graph k.held c.requires)

pub returns : goal.returns
returns c =
    let k = c.args.self.graph.now in
    grown-stored k.graph k.held c.requires c.args.self.more c.len.result.0 c.min-h.result.0 c.len.ensures (search rules)
