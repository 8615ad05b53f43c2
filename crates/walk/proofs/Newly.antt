-- Which runs a visit makes ready: those that waited for it alone. Assumes nothing.
use Rattle.std.proofs.Common.{◌≡◌, refl, sym, ap, ap₂, ◌∙◌, ◌⊎◌, inl, inr, Bool, true, false, not, ◌&&◌, ◌||◌, List, [], ◌∷◌, ◌++◌, append-nil, ℕ, ◌+◌, ◌-◌, ◌≤◌, ◌<◌, arith, length, leb, ltb, eqb}
use Rattle.std.proofs.Common.{lt-ltb, le-ltb, eq-eqb, ne_eqb, eqb-true, le-leb}
use borrow.Author.Tests.{eqb-false, lt-leb, not-true}
use Rattle.lists.specs.Lists.{bit, mem, count, filter, from, upto}
use Rattle.lists.proofs.Truth.{lt_or_le, eq_or-not, false_true, and_left, and_right, and_false, or_cases}
use Rattle.lists.proofs.Members.{mem-append, mem-filter, filter_agree}
use Rattle.lists.proofs.Counts.{mem-from, count_same}
use Rattle.model.specs.History.{at}
use Rattle.model.specs.Choice.{Range, passed, is_ready, newly_ready}
use Rattle.model.proofs.Choosing.{ready_after}
use Rattle.model.proofs.Kahn.{keeps_ready}
use Rattle.tables.specs.Tables.{children_of}
use Rattle.walk.proofs.Distinct.{filter-once, once-append, filter_test, filter_twice, filter-append, filter_none, from-split, count-seen}
use Rattle.walk.proofs.Waiting.{passed-next, left_of, held, waits, ready_iff, ready-waits, ready-fresh, ready-unvisited, newly_test, newly-once, newly_under, left_step, Going}

-- the cases of a run's being newly ready: visited, the run itself, waiting for none before and after
truth : (m e za zb : Bool) → (m ≡ true → za ≡ true) → (e ≡ true → za ≡ true) → not (m || e) && zb && not (not e && (not m && za)) ≡ not za && zb
truth true e true zb p q = refl
truth true e false zb p q = false_true (p refl)
truth false true true zb p q = refl
truth false true false zb p q = false_true (q refl)
truth false false true true p q = refl
truth false false true false p q = refl
truth false false false true p q = refl
truth false false false false p q = refl

some_left : (n : ℕ) → ltb 0 n ≡ not (eqb n 0)
some_left n = go (eq_or-not n 0)
  where
    go : (n ≡ 0) ⊎ (n ≡ 0 → ⊥) → ltb 0 n ≡ not (eqb n 0)
    go (inl e) = rw (eq-eqb n 0 e, le-ltb 0 n (omega arith))
    go (inr e) = rw (ne_eqb n 0 e, lt-ltb 0 n (omega arith))

module _ (w : Range) (known first : ℕ) (visited ready : List ℕ) (r : ℕ) (G : Going w known first visited ready) (rr : is_ready w known first visited r ≡ true) where
  abbrev seen : List ℕ
  seen = r ∷ visited

  abbrev rest : List ℕ
  rest = filter (λ x. not (eqb x r)) ready

  abbrev n : ℕ
  n = length w.parents

  -- what runs wait for before the visit and after it
  abbrev before : ℕ → ℕ
  before x = waits w known first visited x

  abbrev after : ℕ → ℕ
  after x = waits w known first seen x

  abbrev child : ℕ → Bool
  child x = mem r (at w.parents x)

  -- Newly ready are those that waited, and wait no more
  newly_iff : (x : ℕ) → x < n → is_ready w known first seen x && not (mem x rest) ≡ ltb 0 (before x) && eqb (after x) 0
  newly_iff x l =
      rw (ready_iff w known first seen x, filter_test (λ x. not (eqb x r)) x ready, G.listed x l, ready_iff w known first visited x, passed-next known visited r x, some_left (before x))
      (truth (passed known visited x) (eqb x r) (eqb (before x) 0) (eqb (after x) 0)
      (λ e. eq-eqb (before x) 0 (G.past x e))
      (λ e. eq-eqb (before x) 0 (ap before (eqb-true x r e) ∙ ready-waits w known first visited r rr)))

  -- The visit that ends the first
  unfoldable pub last : Bool
  last = ltb 0 (left_of w known first visited) && eqb (left_of w known first seen) 0

  held-step : (x : ℕ) → held w known first visited x ≡ held w known first seen x + bit (last && leb first x)
  unfolding held last
  held-step x = go (lt_or_le 0 l) (lt_or_le 0 m) (leb first x)
    where
      l : ℕ
      l = left_of w known first visited

      m : ℕ
      m = left_of w known first seen

      go : (0 < l) ⊎ (l ≤ 0) → (0 < m) ⊎ (m ≤ 0) → (t : Bool) → bit (ltb 0 l && t) ≡ bit (ltb 0 m && t) + bit (ltb 0 l && eqb m 0 && t)
      go (inl p) (inl q) true = rw (lt-ltb 0 l p, lt-ltb 0 m q, ne_eqb m 0 (λ e. omega arith))
      go (inl p) (inl q) false = rw (lt-ltb 0 l p, lt-ltb 0 m q, ne_eqb m 0 (λ e. omega arith))
      go (inl p) (inr q) true = rw (lt-ltb 0 l p, le-ltb 0 m q, eq-eqb m 0 (omega arith))
      go (inl p) (inr q) false = rw (lt-ltb 0 l p, le-ltb 0 m q, eq-eqb m 0 (omega arith))
      go (inr p) (inl q) t = absurd (omega (arith, left_step w known first visited r (ready-unvisited w known first visited r rr)))
      go (inr p) (inr q) t = rw (le-ltb 0 l p, le-ltb 0 m q)

  -- A visit takes one from what its children wait for, and, where it ends the first, one from those held back
  pub waits-step : (x : ℕ) → before x ≡ after x + bit (child x) + bit (last && leb first x)
  unfolding waits
  waits-step x =
      let ps : List ℕ = at w.parents x in
      let c : count (λ p. not (passed known visited p || eqb p r)) ps ≡ count (λ p. not (passed known seen p)) ps =
      count_same (λ p. not (passed known visited p || eqb p r)) (λ p. not (passed known seen p)) ps (λ p m. ap not (sym (passed-next known visited r p))) in
      omega (arith, count-seen (passed known visited) r ps (G.parents-once x) (ready-fresh w known first visited r rr), c, held-step x)

  newly_are : newly_ready w known first seen rest ≡ filter (λ x. ltb 0 (before x) && eqb (after x) 0) (upto n)
  unfolding newly_ready upto
  newly_are =
      filter_agree (λ x. is_ready w known first seen x && not (mem x rest)) (λ x. ltb 0 (before x) && eqb (after x) 0) (from 0 n)
      (λ x m. newly_iff x (omega (arith, mem-from x 0 n m)))

  -- a child that waited for this run alone
  child_test : (x : ℕ) → last && leb first x ≡ false → ltb 0 (before x) && eqb (after x) 0 ≡ child x && eqb (before x) 1
  child_test x q = go (child x) refl (eq_or-not (after x) 0)
    where
      go : (t : Bool) → child x ≡ t → (after x ≡ 0) ⊎ (after x ≡ 0 → ⊥) → ltb 0 (before x) && eqb (after x) 0 ≡ t && eqb (before x) 1
      go true e (inl z) =
          let v : before x ≡ 1 = omega (arith, waits-step x, ap bit e, ap bit q) in
          rw (eq-eqb (after x) 0 z, eq-eqb (before x) 1 v, lt-ltb 0 (before x) (omega arith))
      go true e (inr z) =
          rw (ne_eqb (after x) 0 z, ne_eqb (before x) 1 (λ v. z (omega (arith, waits-step x, ap bit e, ap bit q)))) (and_false (ltb 0 (before x)))
      go false e (inl z) = let v : before x ≡ 0 = omega (arith, waits-step x, ap bit e, ap bit q) in rw (le-ltb 0 (before x) (omega arith))
      go false e (inr z) = rw (ne_eqb (after x) 0 z) (and_false (ltb 0 (before x)))

  -- Newly ready, where the first are not ended by this visit: its children that waited for it alone
  pub newly-children : last ≡ false → newly_ready w known first seen rest ≡ filter (λ x. eqb (before x) 1) (children_of w.parents r)
  unfolding children_of
  newly-children q = newly_are ∙
      (filter_agree (λ x. ltb 0 (before x) && eqb (after x) 0) (λ x. child x && eqb (before x) 1) (upto n) (λ x m. child_test x (rw q)) ∙
      sym (filter_twice (λ x. eqb (before x) 1) child (upto n)))

  -- those held back that wait for nothing more
  held_test : (x : ℕ) → last ≡ true → first ≤ x → ltb 0 (before x) && eqb (after x) 0 ≡ eqb (before x - bit (child x)) 1
  held_test x q le = let h : bit (last && leb first x) ≡ 1 = rw (q, le-leb first x le) in go (eq_or-not (after x) 0) h
    where
      go : (after x ≡ 0) ⊎ (after x ≡ 0 → ⊥) → bit (last && leb first x) ≡ 1 → ltb 0 (before x) && eqb (after x) 0 ≡ eqb (before x - bit (child x)) 1
      go (inl z) h = rw (eq-eqb (after x) 0 z, eq-eqb (before x - bit (child x)) 1 (omega (arith, waits-step x)), lt-ltb 0 (before x) (omega (arith, waits-step x)))
      go (inr z) h = rw (ne_eqb (after x) 0 z, ne_eqb (before x - bit (child x)) 1 (λ v. z (omega (arith, waits-step x)))) (and_false (ltb 0 (before x)))

  -- a held child waits for more than this run
  held_child : (x : ℕ) → last ≡ true → first ≤ x → child x && eqb (before x) 1 ≡ false
  held_child x q le = let h : bit (last && leb first x) ≡ 1 = rw (q, le-leb first x le) in go (child x) refl h
    where
      go : (t : Bool) → child x ≡ t → bit (last && leb first x) ≡ 1 → t && eqb (before x) 1 ≡ false
      go true e h = ne_eqb (before x) 1 (λ v. omega (arith, waits-step x, ap bit e))
      go false e h = refl

  -- Newly ready, where this visit ends the first: such children, then those held back
  pub newly_both : last ≡ true → first ≤ n → newly_ready w known first seen rest ≡
      filter (λ x. eqb (before x) 1) (children_of w.parents r) ++ filter (λ x. eqb (before x - bit (child x)) 1) (from first (n - first))
  unfolding children_of upto
  newly_both q le = newly_are ∙ (ap (filter new) parts ∙ (filter-append new (from 0 first) late ∙
      ap₂ (λ (a b : List ℕ). a ++ b) low (filter_agree new free late (λ x m. held_test x q (mem-from x first (n - first) m).0))))
    where
      late : List ℕ
      late = from first (n - first)

      new : ℕ → Bool
      new x = ltb 0 (before x) && eqb (after x) 0

      free : ℕ → Bool
      free x = eqb (before x - bit (child x)) 1

      alone : ℕ → Bool
      alone x = child x && eqb (before x) 1

      parts : from 0 n ≡ from 0 first ++ late
      parts = ap (from 0) (back first n le) ∙ (from-split 0 first (n - first) ∙ ap (λ (k : ℕ). from 0 first ++ from k (n - first)) (none_on first))
        where
          back : (f n : ℕ) → f ≤ n → n ≡ f + (n - f)
          back f n h = omega arith

          none_on : (f : ℕ) → 0 + f ≡ f
          none_on f = omega arith

      low : filter new (from 0 first) ≡ filter (λ x. eqb (before x) 1) (filter child (from 0 n))
      low = filter_agree new alone (from 0 first) (λ x m. child_test x (rw (q, lt-leb first x (omega (arith, mem-from x 0 first m))))) ∙
          (sym (filter-append alone (from 0 first) late ∙ (ap (λ (l : List ℕ). filter alone (from 0 first) ++ l) high ∙ append-nil (filter alone (from 0 first)))) ∙
          (ap (filter alone) (sym parts) ∙ sym (filter_twice (λ x. eqb (before x) 1) child (from 0 n))))
        where
          high : filter alone late ≡ []
          high = filter_none alone late (λ x m. held_child x q (mem-from x first (n - first) m).0)

  -- The walk goes on
  pub going_next : Going w known first seen (ready_after w known first visited ready r)
  going_next = record {
    parents-once = G.parents-once;
    order = G.order;
    once = once-append rest new (filter-once (λ x. not (eqb x r)) ready G.once) (newly-once w known first seen rest)
        (λ x m. is-new x (rest_under x m) ∙ rw m (and_false (is_ready w known first seen x)));
    under = λ x m. either x (or_cases (mem x rest) (mem x new) (sym (mem-append x rest new) ∙ m));
    past = λ x m. gone x (or_cases (passed known visited x) (eqb x r) (sym (passed-next known visited r x) ∙ m));
    listed = λ x l. mem-append x rest new ∙ (ap (λ t. mem x rest || t) (is-new x l) ∙ both (mem x rest) (is_ready w known first seen x) (kept x l));
  }
    where
      new : List ℕ
      new = newly_ready w known first seen rest

      rest_under : (x : ℕ) → mem x rest ≡ true → x < n
      rest_under x m = G.under x (mem-filter (λ x. not (eqb x r)) x ready m).0

      either : (x : ℕ) → (mem x rest ≡ true) ⊎ (mem x new ≡ true) → x < n
      either x (inl m) = rest_under x m
      either x (inr m) = newly_under w known first seen rest x m

      gone : (x : ℕ) → (passed known visited x ≡ true) ⊎ (eqb x r ≡ true) → after x ≡ 0
      gone x (inl e) = omega (arith, waits-step x, G.past x e)
      gone x (inr e) = ap after (eqb-true x r e) ∙ omega (arith, waits-step r, ready-waits w known first visited r rr)

      is-new : (x : ℕ) → x < n → mem x new ≡ is_ready w known first seen x && not (mem x rest)
      is-new x l = newly_test w known first seen rest x l

      kept : (x : ℕ) → x < n → mem x rest ≡ true → is_ready w known first seen x ≡ true
      kept x l m =
          let t : not (eqb x r) && mem x ready ≡ true = sym (filter_test (λ x. not (eqb x r)) x ready) ∙ m in
          keeps_ready w known first n visited r x (sym (G.listed x l) ∙ and_right (not (eqb x r)) (mem x ready) t)
          (eqb-false x r (not-true (eqb x r) (and_left (not (eqb x r)) (mem x ready) t)))

      both : (a b : Bool) → (a ≡ true → b ≡ true) → a || (b && not a) ≡ b
      both true true h = refl
      both true false h = sym (h refl)
      both false true h = refl
      both false false h = refl
