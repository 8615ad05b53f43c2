-- `graph::broken::is_broken` meets its contract: the limits, and then the other clauses. Assumes nothing.
use Rattle.std.proofs.Common.{rules, ◌∙◌}
use Rattle.model.specs.Broken.{broken}
use Rattle.graph.proofs.Testing.{told, counts_of, within-limits}
use Rattle.graph.proofs.broken.is_broken.Goals as goal

pub returns-then-over_limit : goal.returns-then-over_limit
unfolding broken
returns-then-over_limit c = rw (told c.over_limit.ensures c.if-over_limit.true)

pub invariant_of-bad_arrays : goal.invariant_of-bad_arrays
invariant_of-bad_arrays c = record { fit = counts_of (search rules) c.over_limit.ensures c.if-over_limit.false }

pub returns : goal.returns
returns c = c.bad_arrays.ensures ∙ within-limits c.args.g (told c.over_limit.ensures c.if-over_limit.false)
