-- `tables::children::count_all` meets its contract: every run's kids are counted. Assumes nothing.
use Rattle.std.proofs.Common.{length, take}
use Rattle.lists.specs.Lists.{concat}
use Rattle.tables.proofs.Counting.{Tallied}
use Rattle.tables.proofs.children.count_all.Given as goal

abbrev pub invariant-loop-r : goal.invariant-loop-r
invariant-loop-r l = Tallied l.parents (length l.parents) l.r (length (concat (take l.r l.parents))) l.starts
