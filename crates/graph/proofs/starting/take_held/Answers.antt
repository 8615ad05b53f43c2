-- `graph::starting::take_held` meets its contract: the record is that of the graph with nothing changed since. Assumes nothing.
use Rattle.std.proofs.Common.{arith}
use Rattle.graph.proofs.Views.{facts}
use Rattle.graph.proofs.StartWays.{take-taken}
use Rattle.graph.proofs.starting.take_held.Goals as goal

pub overflow_cast-none : goal.overflow_cast-none
overflow_cast-none c = omega (arith, facts c.args.g.graph c.args.g.held)

pub returns : goal.returns
returns c = take-taken c.args.g.graph c.args.g.held
