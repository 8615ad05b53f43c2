-- A program that reads no more than 65,537 bytes prints what one that reads on prints: a longer book is refused by its length. Assumes nothing.
use Rattle.std.proofs.Common.{◌≡◌, sym, ◌∙◌, ap, List, [], ◌∷◌, ◌⊎◌, inl, inr, ℕ, ◌<◌, ◌≤◌, arith, length, take, length-take-le, take_all}
use Rattle.lists.proofs.Truth.{lt_or_le}
use Rattle.model.specs.declared.answers.BookRead.{BookRead}
use Rattle.model.specs.Book.{book_of}
use Rattle.model.specs.Print.{Line, refusal_line, replay_lines, printed}
use Rattle.model.proofs.BookMade.{book-long}
use Rattle.std.specs.Prelude.{Ok, Err}

-- The first 65,537 bytes are read as all of them are
pub book_cut : (bs : List ℕ) → book_of (take 65537 bs) ≡ book_of bs
book_cut bs = go (lt_or_le 65536 (length bs))
  where
    go : (65536 < length bs) ⊎ (length bs ≤ 65536) → book_of (take 65537 bs) ≡ book_of bs
    go (inl h) = book-long (take 65537 bs) (omega (arith, length-take-le 65537 bs (omega arith))) ∙ sym (book-long bs h)
    go (inr h) = ap book_of (take_all 65537 bs (omega arith))

-- the lines of a book that was read
lines_of : BookRead → List Line
lines_of b = elim b.answer [
  | Ok _ ↦ replay_lines b.graph
  | Err r ↦ refusal_line r ∷ []
]

-- and so is what is printed
pub printed_cut : (bs : List ℕ) → printed (take 65537 bs) ≡ printed bs
unfolding printed lines_of
printed_cut bs = ap lines_of (book_cut bs)
