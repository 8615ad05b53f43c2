-- `lists::is_between` meets its contract. Assumes nothing.
use Rattle.std.proofs.Common.{rules}
use Rattle.std.proofs.iter.runs.Made.{chains}
use Rattle.lists.proofs.Scanning.{between_is}
use Rattle.lists.proofs.is_between.Goals as goal

pub returns : goal.returns
returns c = between_is _ _ _ _ c.requires (search (rules, chains))
