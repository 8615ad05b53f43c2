-- `calls::calls` meets its contract: the calls that are left, made from here, give the whole. Assumes nothing.
use Rattle.std.proofs.Common.{◌≡◌, length}
use Rattle.calls.specs.Words.{calls_after, graph_after}
use Rattle.calls.proofs.calls.Given as goal

abbrev pub invariant-loop-form : goal.invariant-loop-form
invariant-loop-form l = graph_after l.g (calls_after 0 l.left) ≡ graph_after l.initial.g (calls_after 0 l.initial.left)

abbrev pub decreases-loop-form : goal.decreases-loop-form
decreases-loop-form l = length l.left
