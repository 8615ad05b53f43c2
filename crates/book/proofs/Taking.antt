-- A count, the header and a push, by the words that are taken from a book's front in turn. Assumes nothing.
use Rattle.std.proofs.Common.{◌≡◌, ◌==◌, sym, ◌∙◌, ap, List, [], ◌∷◌, ℕ, suc, ◌+◌, ◌-◌, ◌<◌, ◌≤◌, true, false, length, arith}
use Rattle.std.proofs.Math.Option.{none, some}
use Rattle.model.specs.declared.record.CausalGraph.{CausalGraph}
use Rattle.model.specs.declared.answers.BookRead.{BookRead}
use Rattle.model.specs.declared.answers.Refusal.{Refusal}
use Rattle.model.specs.declared.answers.Refusal.TheVariants.{BookTooShort, BookTooLong}
use Rattle.model.specs.Push.{push_of}
use Rattle.model.specs.Book.{take_words, take_counted, book_read, ends_early, read_pushes, read_header}
use Rattle.model.specs.BookCalls.{header}
use Rattle.model.specs.Fresh.{new_of, after_of}
use Rattle.model.proofs.BookMade.{headed, header_read}
use Rattle.std.specs.Prelude.{Ok, Err}
use Rattle.model.specs.Refusals.{Outcome}
use Rattle.model.specs.Answers.{Made, Pushed}
use Rattle.model.specs.declared.answers.BookRefusal.TheVariants.{Refused as BookRefused, PushRefused}

-- A count and its words
module _ (bs : List ℕ) where
  pub counted_none : take_words 1 bs ≡ none → take_counted bs ≡ none
  unfolding take_counted
  counted_none e = rw (e, take_counted)

  pub counted_by : (n : ℕ) (r : List ℕ) → take_words 1 bs ≡ some (n ∷ [], r) → take_counted bs ≡ take_words n r
  unfolding take_counted
  counted_by n r e = rw (e, take_counted)

-- The header: cut short, or whole
module _ (bs : List ℕ) where
  pub first_cut : take_words 1 bs ≡ none → header bs ≡ none
  unfolding header
  first_cut e = rw (e, header)

  module _ (first : ℕ) (after : List ℕ) (e : take_words 1 bs ≡ some (first ∷ [], after)) where
    pub frontier_cut : take_counted after ≡ none → header bs ≡ none
    unfolding header
    frontier_cut f = rw (e, f, header)

    module _ (frontier later : List ℕ) (f : take_counted after ≡ some (frontier, later)) where
      pub count_cut : take_words 1 later ≡ none → header bs ≡ none
      unfolding header
      count_cut h = rw (e, f, h, header)

      pub header_whole : (n : ℕ) (left : List ℕ) → take_words 1 later ≡ some (n ∷ [], left) → header bs ≡ some (first, frontier, n, left)
      unfolding header
      header_whole n left h = rw (e, f, h, header)

pub ruleset header_parts = (first_cut, frontier_cut, count_cut, header_whole)

-- A push: cut short, or whole and then tried
unfoldable pub tried : ℕ → ℕ → Pushed → List ℕ → BookRead
tried n k r bs = elim r.answer [ Ok (first, end) ↦ read_pushes n (suc k) r.graph bs | Err refusal ↦ book_read r.graph (Err (PushRefused refusal k)) ]

module _ (g : CausalGraph) (n k : ℕ) (bs : List ℕ) where
  pub length_cut : take_words 1 bs ≡ none → read_pushes (suc n) k g bs ≡ ends_early g
  unfolding read_pushes
  length_cut e = rw (e, read_pushes)

  module _ (len : ℕ) (after : List ℕ) (e : take_words 1 bs ≡ some (len ∷ [], after)) where
    pub parents_cut : take_counted after ≡ none → read_pushes (suc n) k g bs ≡ ends_early g
    unfolding read_pushes
    parents_cut f = rw (e, f, read_pushes)

    pub push_whole : (ps left : List ℕ) → take_counted after ≡ some (ps, left) → read_pushes (suc n) k g bs ≡ tried n k (push_of g ps len) left
    unfolding read_pushes tried
    push_whole ps left f = rw (e, f, read_pushes)

-- one push of those that are left
pub next_push : (count k : ℕ) (g : CausalGraph) (bs : List ℕ) → k < count → read_pushes (count - k) k g bs ≡ read_pushes (suc (count - (k + 1))) k g bs
next_push count k g bs h = let e : count - k ≡ suc (count - (k + 1)) = omega arith in ap (λ n. read_pushes n k g bs) e

pub no_push : (count k : ℕ) (g : CausalGraph) (bs : List ℕ) → count ≤ k → read_pushes 0 0 g bs ≡ read_pushes (count - k) k g bs
unfolding read_pushes
no_push count k g bs h = let e : count - k ≡ 0 = omega arith in sym (ap (λ n. read_pushes n k g bs) e)

-- No push is left: bytes over, or not
module _ (k : ℕ) (g : CausalGraph) (bs : List ℕ) where
  pub none_over : (length bs == 0) ≡ true → book_read g (Ok tt) ≡ read_pushes 0 k g bs
  unfolding read_pushes
  none_over e = rw (e, read_pushes)

  pub some_over : (length bs == 0) ≡ false → book_read g (Err (BookRefused BookTooLong)) ≡ read_pushes 0 k g bs
  unfolding read_pushes
  some_over e = rw (e, read_pushes)

-- What the header gives
by_outcome : ℕ → List ℕ → CausalGraph → Outcome → BookRead
by_outcome n left g o = elim o [ Ok _ ↦ read_pushes n 0 g left | Err r ↦ book_read g (Err (BookRefused r)) ]

module _ (bs : List ℕ) where
  pub header_cut : (b : BookRead) → header bs ≡ none → b ≡ book_read new_of (Err (BookRefused BookTooShort)) → b ≡ read_header bs
  unfolding ends_early
  header_cut b e q = q ∙ sym (header_read bs ∙ ap headed e)

  module _ (first : ℕ) (frontier : List ℕ) (n : ℕ) (left : List ℕ) (e : header bs ≡ some (first, frontier, n, left))
      (m : Made) (q : m ≡ after_of first frontier) where
    read_is : read_header bs ≡ headed (some (first, frontier, n, left))
    read_is = header_read bs ∙ ap headed e

    pub header_done : m.answer ≡ Ok tt → read_pushes n 0 m.graph left ≡ read_header bs
    unfolding by_outcome
    header_done o = sym (read_is ∙ ap (λ (x : Made). by_outcome n left x.graph x.answer) (sym q) ∙ ap (by_outcome n left m.graph) o)

    pub header_refused : (r : Refusal) → m.answer ≡ Err r → book_read m.graph (Err (BookRefused r)) ≡ read_header bs
    unfolding by_outcome
    header_refused r o = sym (read_is ∙ ap (λ (x : Made). by_outcome n left x.graph x.answer) (sym q) ∙ ap (by_outcome n left m.graph) o)
