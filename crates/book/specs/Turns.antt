-- What was read of a book, and what one push of it does to the reading. Assumes nothing.
use Rattle.std.specs.Prelude.{◌≡◌, List, ℕ, suc, Result, Ok, Err}
use Rattle.model.specs.declared.record.CausalGraph.{CausalGraph}
use Rattle.model.specs.declared.answers.BookRefusal.{BookRefusal}
use Rattle.model.specs.declared.answers.BookRead.{BookRead}
use Rattle.model.specs.Book.{book_read, read_pushes}
use Rattle.book.specs.declared.words.Words.{Words}
use Rattle.book.specs.declared.reading.HeldRead.{HeldRead}

-- what was read, as the public call answers it
abbrev pub read_of : HeldRead → BookRead
read_of r = record { graph = r.held.graph; answer = r.answer }

-- push k was taken, which leaves graph h, and the book goes on: `n` pushes more are then as before it `suc n`; or it was refused, which ends
-- the book, however many pushes follow
abbrev pub Turned : CausalGraph → List ℕ → ℕ → CausalGraph → Result Words BookRefusal → Type 0
Turned g bytes k h (Ok left) = (n : ℕ) → read_pushes (suc n) k g bytes ≡ read_pushes n (suc k) h left.bytes.now
Turned g bytes k h (Err r) = (n : ℕ) → read_pushes (suc n) k g bytes ≡ book_read h (Err r)
