-- `graph::held::HeldGraph::of` meets its contract: a graph that passed the test is held. Assumes nothing.
use Rattle.std.proofs.Common.{rules, sym, ◌∙◌}
use Rattle.model.proofs.Stored.{held_of}
use Rattle.graph.proofs.held.HeldGraph.of.Goals as goal

pub invariant_of-result : goal.invariant_of-result
invariant_of-result c = record { held = held_of c.args.g (search rules) (sym c.is_broken.ensures ∙ c.if-is_broken.false) }
