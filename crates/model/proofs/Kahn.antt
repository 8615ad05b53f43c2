-- The runs of a walk that are due and those that are ready: Kahn's order. Assumes nothing.
use Rattle.std.proofs.Common.{◌≡◌, refl, sym, ap, ◌∙◌, ◌⊎◌, inl, inr, Bool, true, false, not, cond, ◌&&◌, ◌||◌, List, [], ◌∷◌, ℕ, zero, suc, ◌+◌, ◌-◌, ◌≤◌, ◌<◌, arith, length, ltb, eqb, ltb-false}
use Rattle.std.proofs.Common.{lt-ltb, le-ltb, eq-eqb, ne_eqb}
use mathlib.Core.Path.{fun_ext}
use borrow.Author.Tests.{not-false}
use Rattle.lists.specs.Lists.{bit, all, filter, count, from, upto, mem, occurs}
use Rattle.lists.proofs.Truth.{eq_or-not, false_true, not_so, and_left, and_right, and_false}
use Rattle.lists.proofs.Members.{mem-rest, all_of, all-at}
use Rattle.lists.proofs.Counts.{count-append, mem-occurs, occurs-filter, occurs-upto, mem-from, from-length, count_without, count_le}
use Rattle.model.specs.EventGraph.{available}
use Rattle.model.specs.History.{at}
use Rattle.model.specs.Choice.{Range, passed, is_ready, newly_ready}
use Rattle.model.proofs.Choosing.{ready_after}

module _ (w : Range) (known first n : ℕ) where
  -- A run still to be visited
  unfoldable pub due : List ℕ → ℕ → Bool
  due visited x = not (passed known visited x)

  -- A run not due is passed
  not_due : (visited : List ℕ) (x : ℕ) → due visited x ≡ false → passed known visited x ≡ true
  unfolding due
  not_due visited x h = not-false (passed known visited x) h

  -- Each parent of x is passed
  abbrev pub parents_passed : List ℕ → ℕ → Type 0
  parents_passed visited x = (p : ℕ) → mem p (at w.parents x) ≡ true → passed known visited p ≡ true

  -- From `first` on, the runs known..first are visited
  abbrev pub firsts_visited : List ℕ → ℕ → Type 0
  firsts_visited visited x = first ≤ x → (k : ℕ) → mem k (from known (first - known)) ≡ true → mem k visited ≡ true

  -- What it takes to be ready
  pub ready_when : (visited : List ℕ) (x : ℕ) → due visited x ≡ true → parents_passed visited x → firsts_visited visited x →
      is_ready w known first visited x ≡ true
  unfolding is_ready available due
  ready_when visited x d ps fs =
      rw (d, all_of (passed known visited) (at w.parents x) ps) (go (ltb x first) refl)
    where
      go : (t : Bool) → ltb x first ≡ t → elim t as (λ _. Bool) [ true ↦ true | false ↦ all (λ k. mem k visited) (from known (first - known)) ] ≡ true
      go true e = refl
      go false e = all_of (λ k. mem k visited) (from known (first - known)) (fs (ltb-false x first e))

  -- A ready run is available: due, each parent passed
  ready-available : (visited : List ℕ) (x : ℕ) → is_ready w known first visited x ≡ true →
      available (passed known visited) (at w.parents x) x ≡ true
  unfolding is_ready
  ready-available visited x h = go (available (passed known visited) (at w.parents x) x) (ltb x first) h
    where
      go : (a t : Bool) → a && (elim t as (λ _. Bool) [ true ↦ true | false ↦ all (λ k. mem k visited) (from known (first - known)) ]) ≡ true →
          a ≡ true
      go true t e = refl
      go false t e = e

  -- and the other way: due, each parent passed, and from `first` on the first ones visited
  pub ready_due : (visited : List ℕ) (x : ℕ) → is_ready w known first visited x ≡ true → due visited x ≡ true
  unfolding available due
  ready_due visited x h =
      and_left (not (passed known visited x)) (all (passed known visited) (at w.parents x)) (ready-available visited x h)

  pub ready-parents : (visited : List ℕ) (x : ℕ) → is_ready w known first visited x ≡ true → parents_passed visited x
  unfolding available
  ready-parents visited x h =
      all-at (passed known visited) (at w.parents x)
      (and_right (not (passed known visited x)) (all (passed known visited) (at w.parents x)) (ready-available visited x h))

  pub ready-firsts : (visited : List ℕ) (x : ℕ) → is_ready w known first visited x ≡ true → firsts_visited visited x
  unfolding is_ready
  ready-firsts visited x h le =
      all-at (λ k. mem k visited) (from known (first - known))
      (go (available (passed known visited) (at w.parents x) x) (ltb x first) (le-ltb x first le) h)
    where
      go : (a t : Bool) → t ≡ false →
          a && (elim t as (λ _. Bool) [ true ↦ true | false ↦ all (λ k. mem k visited) (from known (first - known)) ]) ≡ true →
          all (λ k. mem k visited) (from known (first - known)) ≡ true
      go a true q e = false_true (sym q)
      go true false q e = e
      go false false q e = false_true e

  -- The lowest run still due is ready: with none ready, none is due
  module _ (below : (x : ℕ) → x < n → (p : ℕ) → mem p (at w.parents x) ≡ true → p < x) (visited : List ℕ) where
    pub no_due : ((x : ℕ) → x < n → is_ready w known first visited x ≡ false) → (k x : ℕ) → x < k → x < n → due visited x ≡ false
    no_due idle zero x lt lt₂ = absurd (omega arith)
    no_due idle (suc k) x lt lt₂ =
        go (due visited x) refl (λ y l. not_due visited y (no_due idle k y (omega arith) (omega arith)))
      where
        firsts : ((y : ℕ) → y < x → passed known visited y ≡ true) → firsts_visited visited x
        firsts done le y m =
            let b : (known ≤ y) × (y < known + (first - known)) = mem-from y known (first - known) m in
            let q : ltb y known || mem y visited ≡ true = (unfold passed in done y (omega (arith, b.0, b.1))) in
            rw (le-ltb y known b.0) at q

        go : (t : Bool) → due visited x ≡ t → ((y : ℕ) → y < x → passed known visited y ≡ true) → due visited x ≡ false
        go true d done = false_true (sym (idle x lt₂) ∙ ready_when visited x d (λ p m. done p (below x lt₂ p m)) (firsts done))
        go false d done = d

  -- How many are still due
  unfoldable pub left : List ℕ → ℕ
  left visited = count (due visited) (upto n)

  -- No more than there are
  pub left_le : (visited : List ℕ) → left visited ≤ n
  unfolding left upto
  left_le visited = omega (arith, count_le (due visited) (from 0 n), from-length 0 n)

  -- A visit ends one run's being due
  pub due_next : (visited : List ℕ) (r x : ℕ) → due (r ∷ visited) x ≡ due visited x && not (eqb x r)
  unfolding due passed mem
  due_next visited r x = go (ltb x known) (eqb x r) (mem x visited)
    where
      go : (a b c : Bool) → not (a || (b || c)) ≡ not (a || c) && not b
      go true b c = refl
      go false true true = refl
      go false true false = refl
      go false false true = refl
      go false false false = refl

  -- A visit leaves one fewer
  pub left-next : (visited : List ℕ) (r : ℕ) → r < n → due visited r ≡ true → left (r ∷ visited) + 1 ≡ left visited
  unfolding left
  left-next visited r lt d =
      ap (λ (p : ℕ → Bool). count p (upto n) + 1) (fun_ext (due_next visited r)) ∙
      omega (arith, count_without (due visited) r (upto n) d, occurs-upto r n, ap bit (lt-ltb r n lt))

  -- With none left, none is due
  pub none_left : (visited : List ℕ) → left visited ≤ 0 → (x : ℕ) → x < n → due visited x ≡ false
  unfolding left
  none_left visited h x lt =
      not_so (due visited x) (λ d. omega (arith, count_without (due visited) x (upto n) d, occurs-upto x n, ap bit (lt-ltb x n lt)))

  -- The ready list holds each ready run once
  abbrev pub Listed : List ℕ → List ℕ → Type 0
  Listed visited ready = (x : ℕ) → occurs x ready ≡ bit (ltb x n && is_ready w known first visited x)

  passed_later : (x r : ℕ) (visited : List ℕ) → passed known visited x ≡ true → passed known (r ∷ visited) x ≡ true
  unfolding passed mem
  passed_later x r visited h = go (ltb x known) (eqb x r) (mem x visited) h
    where
      go : (a b c : Bool) → a || c ≡ true → a || (b || c) ≡ true
      go true b c e = refl
      go false true c e = refl
      go false false c e = e

  -- A visit leaves each other ready run ready
  pub keeps_ready : (visited : List ℕ) (r x : ℕ) → is_ready w known first visited x ≡ true → (x ≡ r → ⊥) → is_ready w known first (r ∷ visited) x ≡ true
  keeps_ready visited r x h ne =
      ready_when (r ∷ visited) x
      (due_next visited r x ∙ rw (ready_due visited x h, ne_eqb x r ne))
      (λ p m. passed_later p r visited (ready-parents visited x h p m))
      (λ le k m. mem-rest r k visited (ready-firsts visited x h le k m))

  -- and the run visited not ready
  pub gone_ready : (visited : List ℕ) (r : ℕ) → is_ready w known first (r ∷ visited) r ≡ false
  gone_ready visited r = not_so (is_ready w known first (r ∷ visited) r) (λ e. false_true (sym passes ∙ ready_due (r ∷ visited) r e))
    where
      passes : due (r ∷ visited) r ≡ false
      passes = due_next visited r r ∙ rw (eq-eqb r r refl) (and_false (due visited r))

  module _ (size : length w.parents ≡ n) where
    -- How often a run stands among the newly ready
    newly : (visited ready : List ℕ) (x : ℕ) → occurs x (newly_ready w known first visited ready) ≡
        cond (is_ready w known first visited x && not (mem x ready)) (bit (ltb x n)) 0
    unfolding newly_ready
    newly visited ready x =
        occurs-filter (λ r. is_ready w known first visited r && not (mem r ready)) x (upto (length w.parents)) ∙
        rw (occurs-upto x (length w.parents), size)

    -- The first ready list holds each ready run once
    pub listed-first : Listed [] (newly_ready w known first [] [])
    unfolding mem
    listed-first x = newly [] [] x ∙ go (is_ready w known first [] x) (ltb x n)
      where
        go : (a b : Bool) → cond (a && true) (bit b) 0 ≡ bit (b && a)
        go true true = refl
        go true false = refl
        go false true = refl
        go false false = refl

    -- and so does the ready list after a visit
    pub listed_next : (visited ready : List ℕ) (r : ℕ) → Listed visited ready →
        Listed (r ∷ visited) (ready_after w known first visited ready r)
    unfolding occurs
    listed_next visited ready r h x =
        let rest : List ℕ = filter (λ x. not (eqb x r)) ready in
        count-append (λ m. eqb m x) rest (newly_ready w known first (r ∷ visited) rest) ∙
        rw (newly (r ∷ visited) rest x, mem-occurs x rest, occurs-filter (λ x. not (eqb x r)) x ready, h x)
        (go (eq_or-not x r))
      where
        goal : Bool → Type 0
        goal t =
            let stays : ℕ = cond (not t) (bit (ltb x n && is_ready w known first visited x)) 0 in
            stays + cond (is_ready w known first (r ∷ visited) x && not (ltb 0 stays)) (bit (ltb x n)) 0 ≡
            bit (ltb x n && is_ready w known first (r ∷ visited) x)

        other : (b a c : Bool) → (a ≡ true → c ≡ true) → bit (b && a) + cond (c && not (ltb 0 (bit (b && a)))) (bit b) 0 ≡ bit (b && c)
        other true true true i = refl
        other true true false i = false_true (i refl)
        other true false true i = refl
        other true false false i = refl
        other false a true i = refl
        other false a false i = refl

        go : (x ≡ r) ⊎ (x ≡ r → ⊥) → goal (eqb x r)
        go (inl e) = rw (eq-eqb x r e, e, gone_ready visited r) (zero_bit (ltb r n))
          where
            zero_bit : (t : Bool) → ◌≡◌ {A = ℕ} 0 (bit (t && false))
            zero_bit true = refl
            zero_bit false = refl
        go (inr ne) = rw (ne_eqb x r ne)
            (other (ltb x n) (is_ready w known first visited x) (is_ready w known first (r ∷ visited) x) (λ q. keeps_ready visited r x q ne))
