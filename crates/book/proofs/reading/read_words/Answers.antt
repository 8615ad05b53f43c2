-- `book::reading::read_words` meets its contract: the header is cut short, or whole and tried. Assumes nothing.
use Rattle.std.proofs.Common.{◌∙◌, ap}
use Rattle.model.specs.Book.{book_read}
use Rattle.model.proofs.Begins.{after-held}
use Rattle.book.specs.Turns.{read_of}
use Rattle.book.proofs.Taking.{header_cut, header_done, header_refused}
use Rattle.book.proofs.reading.read_words.Goals as goal

pub returns-in_default : goal.returns-in_default
returns-in_default c = header_cut _ _ c.in_default.ensures c.refused.ensures

pub known-held-requires : goal.known-held-requires
known-held-requires c = rw c.after-made.ensures (after-held _ _)

pub returns-in-Ok : goal.returns-in-Ok
returns-in-Ok c = (rw c.known-held.ensures at c.pushes.ensures) ∙ header_done _ _ _ _ _ c.in-Some.ensures _ c.after-made.ensures c.in-Ok.is

pub returns-in-Err : goal.returns-in-Err
unfolding book_read
returns-in-Err c =
    (rw c.known-held.ensures at (ap read_of c.answered.ensures)) ∙ header_refused _ _ _ _ _ c.in-Some.ensures _ c.after-made.ensures _ c.in-Err.is
