-- `tables::members::size_of` meets its contract: the events of a run. Assumes nothing.
use Rattle.std.proofs.Common.{rules}
use Rattle.tables.specs.Tables.{size_in}
use Rattle.tables.proofs.members.size_of.Goals as goal

pub returns : goal.returns
unfolding size_in
returns c = search rules
