-- `versions::rows::ParentRows::of_graph` meets its contract: the rows of a held graph fit. Assumes nothing.
use Rattle.versions.proofs.GraphRows.{rows_taken, taken_view}
use Rattle.versions.proofs.rows.ParentRows.of_graph.Goals as goal

pub invariant_of-result : goal.invariant_of-result
invariant_of-result c = let h = c.args.g.now in record { rows = rows_taken h.graph h.held }

pub returns-clause-parents : goal.returns-clause-parents
returns-clause-parents c = let h = c.args.g.now in taken_view h.graph h.held
