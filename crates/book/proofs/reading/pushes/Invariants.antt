-- `book::reading::pushes` meets its contract: the pushes that are left, taken from here, give the whole. Assumes nothing.
use Rattle.std.proofs.Common.{◌≡◌, ◌-◌}
use Rattle.model.specs.Book.{read_pushes}
use Rattle.book.proofs.reading.pushes.Given as goal

abbrev pub invariant-loop-k : goal.invariant-loop-k
invariant-loop-k l =
    read_pushes (l.count - l.k) l.k l.g.graph l.left.bytes.now ≡ read_pushes l.count 0 l.initial.g.graph l.initial.left.bytes.now
