-- `tables::rows::Rows::join_parent` meets its contract: a parent's row and the parent joined in. Assumes nothing.
use Rattle.lists.specs.Areas.{part}
use Rattle.tables.specs.Lay.{raised, join_parent}
use Rattle.tables.proofs.rows.Rows.join_parent.Goals as goal

pub returns : goal.returns
unfolding join_parent raised part
returns c = cc
