-- `walk::ready::count_unknown`: the library's count of the parents that pass is that of the definitions.
use Rattle.std.proofs.Common.{rules}
use Rattle.walk.proofs.Library.{count_is}
use Rattle.walk.proofs.ready.count_unknown.Goals as goal

pub returns-clause-value : goal.returns-clause-value
returns-clause-value c = search (rules, count_is)
