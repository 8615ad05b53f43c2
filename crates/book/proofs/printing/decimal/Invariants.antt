-- `book::printing::decimal` meets its contract: one more digit stands in its place each turn, the last one first. Assumes nothing.
use Rattle.std.proofs.Common.{◌≡◌, ◌^◌, ◌<◌, ◌≤◌, length, drop}
use Rattle.model.specs.Print.{digits, decimal}
use Rattle.book.proofs.printing.decimal.Given as goal

abbrev pub invariant-loop-left : goal.invariant-loop-left
invariant-loop-left l = (0 < l.at) × (l.at ≤ 20) × (l.left < 10 ^ l.at) × (length l.bytes ≡ 20) × (digits l.at l.left (drop l.at l.bytes) ≡ decimal l.n)

abbrev pub decreases-loop-left : goal.decreases-loop-left
decreases-loop-left l = l.left
