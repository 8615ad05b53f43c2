-- `book::words::decode` meets its contract: one more word stands in its place each turn. Assumes nothing.
use Rattle.std.proofs.Common.{◌≡◌, ℕ, ◌*◌, ◌<◌, get_or, drop}
use Rattle.model.specs.Book.{word}
use Rattle.book.proofs.words.decode.Given as goal

abbrev pub invariant-loop-k : goal.invariant-loop-k
invariant-loop-k l = (i : ℕ) → i < l.k → get_or l.words i 0 ≡ word (drop (4 * i) l.bytes)
