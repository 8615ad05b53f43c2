-- `lists::insert_and_grow` meets its contract: the loop's invariant is that the items from place `i` on have moved up by one, each grown. Assumes nothing.
use Rattle.std.proofs.Common.{◌≡◌, ◌≤◌}
use Rattle.lists.specs.Scans.{grow}
use Rattle.lists.proofs.Inserting.{shifted}
use Rattle.lists.proofs.insert_and_grow.Given as goal

abbrev pub invariant-loop-i : goal.invariant-loop-i
invariant-loop-i l = (l.at ≤ l.i) × (l.a ≡ shifted l.initial.a l.last (grow l.from l.by) l.i)
