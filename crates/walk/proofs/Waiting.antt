-- What runs wait for: a run is ready exactly if it is due and waits for nothing, and what a visit takes from it. Assumes nothing.
use Rattle.std.proofs.Common.{◌≡◌, refl, sym, ap, ◌∙◌, ◌⊎◌, inl, inr, Bool, true, false, not, ◌&&◌, ◌||◌, List, [], ◌∷◌, ℕ, ◌+◌, ◌-◌, ◌≤◌, ◌<◌, arith, length, leb, ltb, eqb, lt-ltb, le-ltb}
use Rattle.std.proofs.Common.{ltb-true, ltb-false, eq-eqb, ne_eqb, eqb-true, le-leb}
use borrow.Author.Tests.{lt-leb, not-true}
use Rattle.lists.specs.Lists.{bit, all, mem, count, from, upto}
use Rattle.lists.proofs.Truth.{lt_or_le, eq_or-not, not_so, and_left, and_right, and_true, and_false, and_assoc, or-first, or-last, or_false}
use Rattle.lists.proofs.Counts.{mem-from, from-mem, from-length, count_same, all_none}
use Rattle.lists.proofs.Passing.{passing, passing_test}
use Rattle.model.specs.EventGraph.{available}
use Rattle.model.specs.History.{at}
use Rattle.model.specs.Choice.{Range, passed, is_ready, newly_ready}
use Rattle.walk.proofs.Distinct.{Once, from-once, filter-once, count-seen, count-whole, count-out}

zero_both : (a b : ℕ) → eqb a 0 && eqb b 0 ≡ eqb (a + b) 0
zero_both a b = go (eq_or-not a 0) (eq_or-not b 0)
  where
    go : (a ≡ 0) ⊎ (a ≡ 0 → ⊥) → (b ≡ 0) ⊎ (b ≡ 0 → ⊥) → eqb a 0 && eqb b 0 ≡ eqb (a + b) 0
    go (inl p) (inl q) = rw (eq-eqb a 0 p, eq-eqb b 0 q, eq-eqb (a + b) 0 (omega arith))
    go (inl p) (inr q) = rw (eq-eqb a 0 p, ne_eqb b 0 q, ne_eqb (a + b) 0 (λ e. q (omega arith)))
    go (inr p) q = rw (ne_eqb a 0 p, ne_eqb (a + b) 0 (λ e. p (omega arith)))

-- Being visited, one visit later
pub passed-next : (known : ℕ) (visited : List ℕ) (r x : ℕ) → passed known (r ∷ visited) x ≡ passed known visited x || eqb x r
unfolding passed mem
passed-next known visited r x = go (ltb x known) (eqb x r) (mem x visited)
  where
    go : (a b c : Bool) → a || (b || c) ≡ a || c || b
    go true b c = refl
    go false true true = refl
    go false true false = refl
    go false false c = sym (or_false c)

module _ (w : Range) (known first : ℕ) where
  -- How many of the runs known..first are not visited
  unfoldable pub left_of : List ℕ → ℕ
  left_of visited = count (λ k. not (mem k visited)) (from known (first - known))

  -- 1 for a run from `first` on while some of them are left
  unfoldable pub held : List ℕ → ℕ → ℕ
  held visited x = bit (ltb 0 (left_of visited) && leb first x)

  -- What a run waits for: its parents that are neither known nor visited, and one while it is held back
  unfoldable pub waits : List ℕ → ℕ → ℕ
  waits visited x = count (λ p. not (passed known visited p)) (at w.parents x) + held visited x

  -- Ready is due and waiting for nothing
  pub ready_iff : (visited : List ℕ) (x : ℕ) → is_ready w known first visited x ≡ not (passed known visited x) && eqb (waits visited x) 0
  unfolding is_ready available waits held left_of
  ready_iff visited x =
      ap (λ t. not (passed known visited x) && all (passed known visited) (at w.parents x) && t) (tested (ltb x first)) ∙
      rw (all_none (passed known visited) (at w.parents x), all_none (λ k. mem k visited) (from known (first - known)))
      (sym (and_assoc (not (passed known visited x)) (eqb a 0) (ltb x first || eqb b 0)) ∙
      ap (λ t. not (passed known visited x) && t)
      (ap (λ t. eqb a 0 && t) (free (lt_or_le x first) (lt_or_le 0 b)) ∙ zero_both a (bit (ltb 0 b && leb first x))))
    where
      a : ℕ
      a = count (λ p. not (passed known visited p)) (at w.parents x)

      b : ℕ
      b = count (λ k. not (mem k visited)) (from known (first - known))

      tested : (t : Bool) → elim t as (λ _. Bool) [ true ↦ true | false ↦ all (λ k. mem k visited) (from known (first - known)) ] ≡
          t || all (λ k. mem k visited) (from known (first - known))
      tested true = refl
      tested false = refl

      free : (x < first) ⊎ (first ≤ x) → (0 < b) ⊎ (b ≤ 0) → ltb x first || eqb b 0 ≡ eqb (bit (ltb 0 b && leb first x)) 0
      free (inl l) (inl g) = rw (lt-ltb x first l, lt-leb first x l, lt-ltb 0 b g)
      free (inl l) (inr g) = rw (lt-ltb x first l, le-ltb 0 b g)
      free (inr l) (inl g) = rw (le-ltb x first l, le-leb first x l, lt-ltb 0 b g, ne_eqb b 0 (λ e. omega arith))
      free (inr l) (inr g) = rw (le-ltb x first l, le-ltb 0 b g, eq-eqb b 0 (omega arith))

  -- A ready run waits for nothing, is not known and not visited
  pub ready-waits : (visited : List ℕ) (x : ℕ) → is_ready w known first visited x ≡ true → waits visited x ≡ 0
  ready-waits visited x h =
      eqb-true (waits visited x) 0 (and_right (not (passed known visited x)) (eqb (waits visited x) 0) (sym (ready_iff visited x) ∙ h))

  pub ready-fresh : (visited : List ℕ) (x : ℕ) → is_ready w known first visited x ≡ true → passed known visited x ≡ false
  ready-fresh visited x h =
      not-true (passed known visited x) (and_left (not (passed known visited x)) (eqb (waits visited x) 0) (sym (ready_iff visited x) ∙ h))

  pub ready-unknown : (visited : List ℕ) (x : ℕ) → is_ready w known first visited x ≡ true → known ≤ x
  unfolding passed
  ready-unknown visited x h = ltb-false x known (or-first (ltb x known) (mem x visited) (ready-fresh visited x h))

  pub ready-unvisited : (visited : List ℕ) (x : ℕ) → is_ready w known first visited x ≡ true → mem x visited ≡ false
  unfolding passed
  ready-unvisited visited x h = or-last (ltb x known) (mem x visited) (ready-fresh visited x h)

  -- Newly ready: in run order, each once, below the range's length
  pub newly_test : (visited ready : List ℕ) (x : ℕ) → x < length w.parents →
      mem x (newly_ready w known first visited ready) ≡ is_ready w known first visited x && not (mem x ready)
  unfolding newly_ready
  newly_test visited ready x l = passing_test (λ r. is_ready w known first visited r && not (mem r ready)) (length w.parents) x l

  pub newly-once : (visited ready : List ℕ) → Once (newly_ready w known first visited ready)
  unfolding newly_ready upto
  newly-once visited ready =
      filter-once (λ r. is_ready w known first visited r && not (mem r ready)) (from 0 (length w.parents)) (from-once 0 (length w.parents))

  pub newly_under : (visited ready : List ℕ) (x : ℕ) → mem x (newly_ready w known first visited ready) ≡ true → x < length w.parents
  unfolding newly_ready
  newly_under visited ready x m = ((passing (λ r. is_ready w known first visited r && not (mem r ready)) (length w.parents) x).0 m).0

  -- At the start
  pub left-start : left_of [] ≡ first - known
  unfolding left_of mem
  left-start = count-whole (λ k. true) (from known (first - known)) (λ k. refl) ∙ from-length known (first - known)

  -- What a visit leaves of the first
  pub left_step : (visited : List ℕ) (r : ℕ) → mem r visited ≡ false → left_of visited ≡ left_of (r ∷ visited) + bit (mem r (from known (first - known)))
  unfolding left_of mem
  left_step visited r e =
      let firsts : List ℕ = from known (first - known) in
      let c : count (λ k. not (mem k visited || eqb k r)) firsts ≡ count (λ k. not (eqb k r || mem k visited)) firsts =
      count_same (λ k. not (mem k visited || eqb k r)) (λ k. not (eqb k r || mem k visited)) firsts (λ k m. ap not (swap (mem k visited) (eqb k r))) in
      omega (arith, count-seen (λ k. mem k visited) r firsts (from-once known (first - known)) e, c)
    where
      swap : (a b : Bool) → a || b ≡ b || a
      swap true true = refl
      swap true false = refl
      swap false true = refl
      swap false false = refl

  pub left_other : (visited : List ℕ) (r : ℕ) → mem r visited ≡ false → first ≤ r → left_of (r ∷ visited) ≡ left_of visited
  left_other visited r e le =
      let out : mem r (from known (first - known)) ≡ false =
      not_so (mem r (from known (first - known))) (λ m. above r known first (mem-from r known (first - known) m).0 (mem-from r known (first - known) m).1 le) in
      omega (arith, left_step visited r e, ap bit out)
    where
      above : (r known first : ℕ) → known ≤ r → r < known + (first - known) → first ≤ r → ⊥
      above r known first a b h = omega arith

  pub left-first : (visited : List ℕ) (r : ℕ) → mem r visited ≡ false → known ≤ r → r < first → left_of visited ≡ left_of (r ∷ visited) + 1
  left-first visited r e le lt =
      omega (arith, left_step visited r e, ap bit (from-mem r known (first - known) le (omega arith)))

  -- What is known of a walk's visits so far, and of the runs that are ready
  pub record Going (visited ready : List ℕ) : Type 0 where
    pub parents-once : (x : ℕ) → Once (at w.parents x)
    pub order : known ≤ first
    pub once : Once ready
    pub under : (x : ℕ) → mem x ready ≡ true → x < length w.parents
    pub past : (x : ℕ) → passed known visited x ≡ true → waits visited x ≡ 0
    pub listed : (x : ℕ) → x < length w.parents → mem x ready ≡ is_ready w known first visited x

  -- Known runs wait for nothing
  known-free : (visited : List ℕ) → ((x p : ℕ) → mem p (at w.parents x) ≡ true → p < x) → known ≤ first → (x : ℕ) → x < known → waits visited x ≡ 0
  unfolding waits held passed
  known-free visited below order x l =
      let z : bit (ltb 0 (left_of visited) && leb first x) ≡ 0 = rw (lt-leb first x (omega arith)) (ap bit (and_false (ltb 0 (left_of visited)))) in
      omega (arith, z, count-out (λ p. not (ltb p known || mem p visited)) (at w.parents x) (λ p m. rw (lt-ltb p known (omega (arith, below x p m)))))

  pub going_start : ((x : ℕ) → Once (at w.parents x)) → ((x p : ℕ) → mem p (at w.parents x) ≡ true → p < x) → known ≤ first →
      Going [] (newly_ready w known first [] [])
  unfolding passed mem
  going_start o b le = record {
    parents-once = o;
    order = le;
    once = newly-once [] [];
    under = λ x m. newly_under [] [] x m;
    past = λ x m. known-free [] b le x (ltb-true x known (sym (or_false (ltb x known)) ∙ m));
    listed = λ x l. newly_test [] [] x l ∙ and_true (is_ready w known first [] x);
  }
