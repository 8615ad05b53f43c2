-- Words taken from bytes at a place, and a book's header by its words. Assumes nothing.
use Rattle.std.proofs.Common.{◌≡◌, refl, sym, ◌∙◌, ap, Bool, true, false, ◌⊎◌, inl, inr, List, ℕ, ◌+◌, ◌*◌, ◌/◌, ◌<◌, ◌≤◌, arith, length, get_or, drop, length-drop, drop-drop, lt-ltb, le-ltb}
use mathlib.Core.Option.{Option, none, some}
use Rattle.lists.proofs.Truth.{lt_or_le}
use Rattle.model.specs.Book.{word, words_of, take_words, take_counted}
use Rattle.model.specs.BookCalls.{header}

-- Words and the bytes after them
abbrev pub Parted : Type 0
Parted = Option (List ℕ × List ℕ)

parted : ℕ → List ℕ → Bool → Parted
parted n bs t = elim t [ true ↦ none | false ↦ some (words_of n bs, drop (4 * n) bs) ]

take-some : (n : ℕ) (bs : List ℕ) → 4 * n ≤ length bs → take_words n bs ≡ some (words_of n bs, drop (4 * n) bs)
unfolding take_words parted
take-some n bs h = ap (parted n bs) (le-ltb (length bs) (4 * n) h)

take_none : (n : ℕ) (bs : List ℕ) → length bs < 4 * n → take_words n bs ≡ none
unfolding take_words parted
take_none n bs h = ap (parted n bs) (lt-ltb (length bs) (4 * n) h)

-- At the place `at` of a book, in words
module _ (bs : List ℕ) (at : ℕ) where
  pub taken : (m : ℕ) → at + m ≤ length bs / 4 → take_words m (drop (4 * at) bs) ≡ some (words_of m (drop (4 * at) bs), drop (4 * (at + m)) bs)
  taken m h =
      let e : 4 * at + 4 * m ≡ 4 * (at + m) = omega arith in
      take-some m (drop (4 * at) bs) (omega (arith, length-drop (4 * at) bs)) ∙
      ap (λ r. some (words_of m (drop (4 * at) bs), r)) (drop-drop (4 * m) (4 * at) bs ∙ ap (λ k. drop k bs) e)

  pub cut_off : (m : ℕ) → at ≤ length bs / 4 → length bs / 4 < at + m → take_words m (drop (4 * at) bs) ≡ none
  cut_off m i h = take_none m (drop (4 * at) bs) (omega (arith, length-drop (4 * at) bs))

-- A count and its words, at the place `at`
counting : Parted → Parted
counting o = elim o [ none ↦ none | some t ↦ take_words (get_or t.0 0 0) t.1 ]

module _ (bs : List ℕ) (at : ℕ) where
  pub counted_none : at ≤ length bs / 4 → length bs / 4 < at + 1 → take_counted (drop (4 * at) bs) ≡ none
  unfolding take_counted counting
  counted_none i h = ap counting (cut_off bs at 1 i h)

  module _ (c : ℕ) (e : c ≡ word (drop (4 * at) bs)) where
    -- the count is there, so many words are asked for
    asked : at + 1 ≤ length bs / 4 → take_counted (drop (4 * at) bs) ≡ take_words c (drop (4 * (at + 1)) bs)
    unfolding take_counted counting words_of
    asked h = ap counting (taken bs at 1 h) ∙ ap (λ n. take_words n (drop (4 * (at + 1)) bs)) (sym e)

    pub counted_cut : at + 1 ≤ length bs / 4 → length bs / 4 < at + 1 + c → take_counted (drop (4 * at) bs) ≡ none
    counted_cut h k = asked h ∙ cut_off bs (at + 1) c h k

    pub counted : at + 1 + c ≤ length bs / 4 → take_counted (drop (4 * at) bs) ≡ some (words_of c (drop (4 * (at + 1)) bs), drop (4 * (at + 1 + c)) bs)
    counted h = asked (omega arith) ∙ taken bs (at + 1) c h

-- What a header holds, and the bytes after it
abbrev pub Headed : Type 0
Headed = Option (ℕ × List ℕ × ℕ × List ℕ)

by_count : ℕ → List ℕ → Parted → Headed
by_count f es o = elim o [ none ↦ none | some n ↦ some (f, es, get_or n.0 0 0, n.1) ]

by_frontier : ℕ → Parted → Headed
by_frontier f o = elim o [ none ↦ none | some es ↦ by_count f es.0 (take_words 1 es.1) ]

by_first : Parted → Headed
by_first o = elim o [ none ↦ none | some f ↦ by_frontier (get_or f.0 0 0) (take_counted f.1) ]

module _ (bs : List ℕ) where
  first-none : length bs / 4 < 1 → header bs ≡ none
  unfolding header by_first by_frontier by_count
  first-none h = ap by_first (cut_off bs 0 1 (omega arith) (omega arith))

  first_read : 1 ≤ length bs / 4 → header bs ≡ by_frontier (word bs) (take_counted (drop (4 * 1) bs))
  unfolding header by_first by_frontier by_count words_of
  first_read h = ap by_first (taken bs 0 1 h)

  module _ (c : ℕ) (e : c ≡ word (drop (4 * 1) bs)) where
    -- its frontier or its push count is cut off
    pub header_cut : 2 ≤ length bs / 4 → length bs / 4 < 3 + c → header bs ≡ none
    unfolding by_frontier by_count
    header_cut i h = first_read (omega arith) ∙ go (lt_or_le (length bs / 4) (2 + c))
      where
        go : (length bs / 4 < 2 + c) ⊎ (2 + c ≤ length bs / 4) → by_frontier (word bs) (take_counted (drop (4 * 1) bs)) ≡ none
        go (inl l) = ap (by_frontier (word bs)) (counted_cut bs 1 c e i l)
        go (inr l) =
            ap (by_frontier (word bs)) (counted bs 1 c e l) ∙
            ap (by_count (word bs) (words_of c (drop (4 * 2) bs))) (cut_off bs (2 + c) 1 l (omega arith))

    -- it is whole
    pub header-whole : 3 + c ≤ length bs / 4 →
        header bs ≡ some (word bs, words_of c (drop (4 * 2) bs), word (drop (4 * (2 + c)) bs), drop (4 * (3 + c)) bs)
    unfolding by_frontier by_count words_of
    header-whole h =
        let d : 2 + c + 1 ≡ 3 + c = omega arith in
        first_read (omega arith) ∙
        ap (by_frontier (word bs)) (counted bs 1 c e (omega arith)) ∙
        ap (by_count (word bs) (words_of c (drop (4 * 2) bs))) (taken bs (2 + c) 1 (omega arith)) ∙
        ap (λ m. some (word bs, words_of c (drop (4 * 2) bs), word (drop (4 * (2 + c)) bs), drop (4 * m) bs)) d

  -- it has not three words
  pub header_early : length bs / 4 < 3 → header bs ≡ none
  unfolding by_frontier
  header_early h = go (lt_or_le (length bs / 4) 1)
    where
      second : 1 ≤ length bs / 4 → (length bs / 4 < 2) ⊎ (2 ≤ length bs / 4) → header bs ≡ none
      second i (inl l) = first_read i ∙ ap (by_frontier (word bs)) (counted_none bs 1 i l)
      second i (inr l) = header_cut (word (drop (4 * 1) bs)) refl l (omega arith)

      go : (length bs / 4 < 1) ⊎ (1 ≤ length bs / 4) → header bs ≡ none
      go (inl l) = first-none l
      go (inr l) = second l (lt_or_le (length bs / 4) 2)
