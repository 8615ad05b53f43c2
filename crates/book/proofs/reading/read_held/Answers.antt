-- `book::reading::read_held` meets its contract: the length is tested first. Assumes nothing.
use Rattle.std.proofs.Common.{◌∙◌, sym, ap, arith, length, eqb-true}
use Rattle.std.proofs.lemmas.Bool.{eqb-false}
use Rattle.model.specs.declared.record.CausalGraph.{CausalGraph}
use Rattle.model.specs.Book.{book_read}
use Rattle.model.proofs.BookMade.{book-empty, book-long, book_in}
use Rattle.book.specs.Turns.{read_of}
use Rattle.book.proofs.reading.read_held.Goals as goal
use Rattle.std.specs.Prelude.{Ok}

pub returns-then-is_empty : goal.returns-then-is_empty
unfolding book_read
returns-then-is_empty c =
    ap read_of c.answered.ensures ∙ ap (λ (g : CausalGraph). book_read g (Ok tt)) c.fresh.ensures
    ∙ sym (book-empty c.args.bytes.now (eqb-true (length c.args.bytes.now) 0 (sym c.is_empty.ensures ∙ c.if-is_empty.true)))

pub returns-then-bytes-gt-MAX_BOOK : goal.returns-then-bytes-gt-MAX_BOOK
returns-then-bytes-gt-MAX_BOOK c = c.refused.ensures ∙ sym (book-long c.args.bytes.now c.if-bytes-gt-MAX_BOOK.true)

pub returns : goal.returns
returns c =
    let some = eqb-false (length c.args.bytes.now) 0 (sym c.is_empty.ensures ∙ c.if-is_empty.false) in
    c.read_words.ensures ∙ sym (book_in c.args.bytes.now (omega (arith, some)) c.if-bytes-gt-MAX_BOOK.false)
