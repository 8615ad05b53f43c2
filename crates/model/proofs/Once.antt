-- A walk applies each run past the known ones exactly once, and no other. Assumes nothing.
use Rattle.std.proofs.Common.{◌≡◌, refl, sym, ap, ◌∙◌, ◌⊎◌, inl, inr, Bool, true, false, not, ◌&&◌, ◌||◌, List, [], ◌∷◌, ◌++◌, map, append_assoc, ℕ, zero, suc, ◌+◌, ◌-◌, ◌≤◌, ◌<◌, arith, length}
use Rattle.std.proofs.Common.{leb, ltb, eqb, ltb-true, lt-ltb, le-ltb, le-leb, eq-eqb, ne_eqb}
use mathlib.Core.Option.{Option, none, some}
use borrow.Author.Tests.{lt-leb}
use Rattle.lists.specs.Lists.{bit, mem, occurs}
use Rattle.lists.proofs.Truth.{lt_or_le, eq_or-not, and_left, and_right, and_false, bit_true, bit_false}
use Rattle.lists.proofs.Counts.{mem-occurs, nothing-occurs}
use Rattle.lists.proofs.Each.{members}
use Rattle.model.specs.History.{at}
use Rattle.model.specs.Choice.{Range, passed, is_ready, choice}
use Rattle.model.specs.Steps.{Step, retreat, advance, apply, visit, visits}
use Rattle.model.specs.PlainSet.{times}
use Rattle.model.proofs.Moves.{stretches_of}
use Rattle.model.proofs.Following.{step_at, moves_are, retreats_times, advances_times}
use Rattle.model.proofs.Choosing.{ready_after, FineRun, choice_fine, none-ready}
use Rattle.model.proofs.Visiting.{version_after, later}
use Rattle.model.proofs.Kahn.{due, ready_due, no_due, left, due_next, left-next, none_left, Listed, listed_next}

-- A visit applies its run and no other
visit-times : (q : ℕ) (w : Range) (a : ℕ) (now : List ℕ) (r : ℕ) (rest : List Step) →
    times q (visit w a now r ++ rest) ≡ bit (eqb (a + r) q) + times q rest
unfolding visit times
visit-times q w a now r rest =
    let h : List ℕ = at w.history r in
    let back : List (ℕ × ℕ) = stretches_of (λ m. mem m now && not (mem m h)) w.chains in
    let forth : List (ℕ × ℕ) = stretches_of (λ m. mem m h && not (mem m now)) w.chains in
    let parts : visit w a now r ++ rest ≡ map (step_at retreat a) back ++ (map (step_at advance a) forth ++ apply (a + r) ∷ rest) =
    rw (moves_are retreat a w.chains now h, moves_are advance a w.chains h now) (simp append_assoc) in
    ap (times q) parts ∙
    (retreats_times q a back (map (step_at advance a) forth ++ apply (a + r) ∷ rest) ∙ advances_times q a forth (apply (a + r) ∷ rest))

-- Run q of the graph is in the range, and due
abbrev pub due_at : Range → ℕ → ℕ → ℕ → ℕ → List ℕ → ℕ → Bool
due_at w a known first n visited q = leb a q && (ltb (q - a) n && due w known first n visited (q - a))

-- Before any visit just the runs of the range past the known ones are due
pub due_first : (w : Range) (a known first n q : ℕ) → due_at w a known first n [] q ≡ leb (a + known) q && ltb q (a + n)
unfolding due passed mem
due_first w a known first n q = go (lt_or_le q a) (lt_or_le (q - a) n) (lt_or_le (q - a) known)
  where
    go : (q < a) ⊎ (a ≤ q) → (q - a < n) ⊎ (n ≤ q - a) → (q - a < known) ⊎ (known ≤ q - a) →
        leb a q && (ltb (q - a) n && not (ltb (q - a) known || false)) ≡ leb (a + known) q && ltb q (a + n)
    go (inl p) c d = rw (lt-leb a q p, lt-leb (a + known) q (omega arith))
    go (inr p) (inl c) (inl d) = rw (le-leb a q p, lt-ltb (q - a) n c, lt-ltb (q - a) known d, lt-leb (a + known) q (omega arith))
    go (inr p) (inl c) (inr d) =
        rw (le-leb a q p, lt-ltb (q - a) n c, le-ltb (q - a) known d, le-leb (a + known) q (omega arith), lt-ltb q (a + n) (omega arith))
    go (inr p) (inr c) d = rw (le-leb a q p, le-ltb (q - a) n c, le-ltb q (a + n) (omega arith)) (sym (and_false (leb (a + known) q)))

module _ (w : Range) (a known first n : ℕ) (size : length w.parents ≡ n)
    (below : (x : ℕ) → x < n → (p : ℕ) → mem p (at w.parents x) ≡ true → p < x) where
  abbrev due_here : List ℕ → ℕ → Bool
  due_here visited q = due_at w a known first n visited q

  abbrev due_in : List ℕ → ℕ → Bool
  due_in visited x = due w known first n visited x

  none_due : (visited : List ℕ) (q : ℕ) → ((x : ℕ) → x < n → due_in visited x ≡ false) → due_here visited q ≡ false
  none_due visited q h = go (leb a q) (lt_or_le (q - a) n)
    where
      go : (t : Bool) → (q - a < n) ⊎ (n ≤ q - a) → t && (ltb (q - a) n && due_in visited (q - a)) ≡ false
      go true (inl p) = rw (lt-ltb (q - a) n p) (h (q - a) p)
      go true (inr p) = rw (le-ltb (q - a) n p)
      go false c = refl

  -- A run visited is the one no longer due
  one_due : (visited : List ℕ) (r q : ℕ) → r < n → due_in visited r ≡ true →
      bit (due_here visited q) ≡ bit (eqb (a + r) q) + bit (due_here (r ∷ visited) q)
  one_due visited r q lt d = rw (due_next w known first n visited r (q - a)) (go (eq_or-not (a + r) q) (lt_or_le q a))
    where
      go : ((a + r) ≡ q) ⊎ ((a + r) ≡ q → ⊥) → (q < a) ⊎ (a ≤ q) → bit (leb a q && (ltb (q - a) n && due_in visited (q - a))) ≡
          bit (eqb (a + r) q) + bit (leb a q && (ltb (q - a) n && (due_in visited (q - a) && not (eqb (q - a) r))))
      go (inl e) c =
          let k : q - a ≡ r = omega arith in
          rw (eq-eqb (a + r) q e, le-leb a q (omega arith), k, lt-ltb r n lt, d, eq-eqb r r refl)
      go (inr ne) (inl c) = rw (ne_eqb (a + r) q ne, lt-leb a q c)
      go (inr ne) (inr c) =
          rw (ne_eqb (a + r) q ne, le-leb a q c, ne_eqb (q - a) r (λ e. ne (omega arith))) (same (ltb (q - a) n) (due_in visited (q - a)))
        where
          same : (x y : Bool) → bit (x && y) ≡ 0 + bit (x && (y && true))
          same true true = refl
          same true false = refl
          same false y = refl

  -- The visits apply each run that is due exactly once, and no other
  pub once : (fuel : ℕ) (now : List ℕ) (last : Option ℕ) (visited ready : List ℕ) → Listed w known first n visited ready →
      left w known first n visited ≤ fuel → (q : ℕ) →
      times q (visits fuel w a known first now last visited ready) ≡ bit (due_at w a known first n visited q)
  unfolding visits
  once zero now last visited ready h f q = unfold times in (sym (ap bit (none_due visited q (none_left w known first n visited f))))
  once (suc fuel) now last visited ready h f q =
      go (choice w now last ready) (λ r. later fuel w a known first visited ready r) refl
      (choice_fine (λ x. mem x ready ≡ true) w now last ready (members ready))
      (λ r. once fuel (version_after w r) (some r) (r ∷ visited) (ready_after w known first visited ready r)
      (listed_next w known first n size visited ready r h))
    where
      is-ready : (r : ℕ) → mem r ready ≡ true → ltb r n && is_ready w known first visited r ≡ true
      is-ready r m =
          bit_true (ltb r n && is_ready w known first visited r) (omega (arith, ltb-true 0 (occurs r ready) (sym (mem-occurs r ready) ∙ m), h r))

      idle : ready ≡ [] → (x : ℕ) → x < n → is_ready w known first visited x ≡ false
      idle e x lt = bit_false (is_ready w known first visited x)
          (omega (arith, rw (e, nothing-occurs x, lt-ltb x n lt) at (h x)))

      go : (o : Option ℕ) (more : ℕ → List Step) → choice w now last ready ≡ o → FineRun (λ x. mem x ready ≡ true) o →
          ((r : ℕ) → left w known first n (r ∷ visited) ≤ fuel → (q : ℕ) → times q (more r) ≡ bit (due_here (r ∷ visited) q)) →
          times q (elim o as (λ _. List Step) [ none ↦ [] | some r ↦ visit w a now r ++ more r ]) ≡ bit (due_here visited q)
      go none more e p ih = unfold times in
          (sym (ap bit (none_due visited q
          (λ x lt. no_due w known first n below visited (idle (none-ready w now last ready e)) (suc x) x (omega arith) lt))))
      go (some r) more e p ih =
          let lt : r < n = ltb-true r n (and_left (ltb r n) (is_ready w known first visited r) (is-ready r p)) in
          let d : due_in visited r ≡ true =
          ready_due w known first n visited r (and_right (ltb r n) (is_ready w known first visited r) (is-ready r p)) in
          visit-times q w a now r (more r) ∙
          (ap (λ k. bit (eqb (a + r) q) + k) (ih r (omega (arith, left-next w known first n visited r lt d)) q) ∙ sym (one_due visited r q lt d))
