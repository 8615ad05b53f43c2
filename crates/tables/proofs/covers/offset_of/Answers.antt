-- `tables::covers::offset_of` meets its contract: how far into the range a run starts. Assumes nothing.
use Rattle.std.proofs.Common.{arith}
use Rattle.tables.specs.Covers.{offset}
use Rattle.tables.proofs.covers.offset_of.Goals as goal

pub returns-clause-value : goal.returns-clause-value
unfolding offset
returns-clause-value c = omega (arith, c.saturating_sub.ensures, c.item.ensures, c.item-2.ensures)
