-- `tables::words::sum_up` meets its contract: each place is the sum of those up to it. Assumes nothing.
use Rattle.tables.proofs.Counting.{Summing}
use Rattle.tables.proofs.words.sum_up.Given as goal

abbrev pub invariant-loop-x : goal.invariant-loop-x
invariant-loop-x l = Summing l.initial.list l.x-index l.sum l.list
