-- Stretches written run by run. Assumes nothing.
use Rattle.std.proofs.Common.{◌≡◌, refl, List, [], ◌∷◌, ℕ, ◌+◌, ◌-◌, ◌≤◌, ◌<◌, add-one, arith, length, get_or, take, drop, length-drop, drop_of_length-le, drop-cons}
use Rattle.std.proofs.Common.{take_all, get_or-drop, eq-eqb, ne_eqb}
use Rattle.moves.specs.declared.writing.Kind.{Kind}
use Rattle.moves.specs.Emit.{Writing, emit_one, emit}
use Rattle.moves.specs.Stretches.{Below, span_of, stretch_from, stretches}

module _ (st : List ℕ) (k : Kind) (b : ℕ) (w : Writing) where
  -- What is still to be written from the open stretch f to l on
  abbrev pub rest : ℕ → ℕ → List ℕ → Writing
  rest f l xs = emit w (stretch_from st k b f l xs)

  -- One run more: it goes on with the stretch
  pub stretch_on : (f l : ℕ) (xs : List ℕ) (i : ℕ) → i < length xs → get_or xs i 0 ≡ l + 1 →
      rest f (get_or xs i 0) (drop (i + 1) xs) ≡ rest f l (drop i xs)
  unfolding stretch_from
  stretch_on f l xs i h e = rw (add-one i, drop-cons xs i 0 h, eq-eqb _ _ e)

  -- or that is written, and it begins one
  pub stretch_next : (f l : ℕ) (xs : List ℕ) (i : ℕ) → i < length xs → (get_or xs i 0 ≡ l + 1 → ⊥) →
      emit (emit_one w (span_of st k b f l)) (stretch_from st k b (get_or xs i 0) (get_or xs i 0) (drop (i + 1) xs)) ≡ rest f l (drop i xs)
  unfolding stretch_from emit
  stretch_next f l xs i h n = rw (add-one i, drop-cons xs i 0 h, ne_eqb _ _ n)

  -- At the end the open stretch is written
  pub stretch_last : (f l : ℕ) (xs : List ℕ) (i : ℕ) → length xs ≤ i → emit_one w (span_of st k b f l) ≡ rest f l (drop i xs)
  unfolding stretch_from emit
  stretch_last f l xs i h = rw (drop_of_length-le xs h)

  -- The first run opens the first stretch
  pub stretch_start : (xs : List ℕ) → 0 < length xs → rest (get_or xs 0 0) (get_or xs 0 0) (drop 1 xs) ≡ emit w (stretches st k b xs)
  unfolding stretches
  stretch_start [] h = absurd (omega arith)
  stretch_start (x ∷ xs) h = refl

  -- No run, no stretch
  pub stretch_empty : (xs : List ℕ) → length xs ≡ 0 → w ≡ emit w (stretches st k b xs)
  unfolding stretches emit
  stretch_empty [] h = refl
  stretch_empty (x ∷ xs) h = absurd (omega (arith, h))

-- The runs after the first, as a slice
pub tail_is : (xs : List ℕ) → take (length xs - 1) (drop 1 xs) ≡ drop 1 xs
tail_is xs = take_all (length xs - 1) (drop 1 xs) (omega (arith, length-drop 1 xs))

-- are below n if all are
pub tail_below : (n : ℕ) (xs : List ℕ) → Below n xs → Below n (take (length xs - 1) (drop 1 xs))
tail_below n xs h i = rw (tail_is xs, get_or-drop 1 xs i 0) (h (1 + i))
