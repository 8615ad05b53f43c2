-- `graph::growth::pick_seen` meets its contract, by the test's two cases. Assumes nothing.
use Rattle.std.proofs.Common.{sym, ◌∙◌}
use Rattle.lists.proofs.Scanning.{same-pointwise}
use Rattle.graph.proofs.growth.pick_seen.Goals as goal

pub returns-then-eq : goal.returns-then-eq
returns-then-eq c = rw (← c.frontier.ensures, ← same-pointwise, sym c.eq.ensures ∙ c.if-eq.true)

pub returns : goal.returns
returns c = rw (← c.frontier.ensures, ← same-pointwise, sym c.eq.ensures ∙ c.if-eq.false)
