-- A walk's state tells what its runs wait for and which are ready, and so after a visit. Assumes nothing.
use Rattle.std.proofs.Common.{◌≡◌, refl, sym, ap, ◌∙◌, ◌⊎◌, inl, inr, Bool, true, false, not, cond, ◌&&◌, ◌||◌, List, [], ◌∷◌, ◌++◌, append_assoc, ℕ, ◌+◌, ◌-◌, ◌≤◌, ◌<◌, arith, length, take}
use Rattle.std.proofs.Common.{length-append, leb, ltb, eqb, lt-ltb, le-ltb, le-leb, eq-eqb, ne_eqb}
use mathlib.Core.Option.{Option, none}
use borrow.Author.Tests.{lt-leb}
use Rattle.lists.specs.Lists.{bit, mem, filter, from, upto, reverse}
use Rattle.lists.proofs.Truth.{lt_or_le, not_so, and_false}
use Rattle.lists.proofs.Members.{filter_agree}
use Rattle.lists.proofs.Counts.{mem-from, from-mem}
use Rattle.lists.proofs.Passing.{passing, passing_test}
use Rattle.model.specs.History.{at}
use Rattle.model.specs.Choice.{Range, is_ready, newly_ready, choice, chosen, weigh_all}
use Rattle.model.proofs.Choosing.{ready_after}
use Rattle.tables.specs.Tables.{children_of}
use Rattle.walk.specs.Readiness.{Wakes, wake_all, woken_of, left_after}
use Rattle.walk.proofs.Distinct.{Once, few, from-once, filter-once}
use Rattle.walk.proofs.Waiting.{left_of, waits, Going, ready-unknown, ready-unvisited, left_other, left-first}
use Rattle.walk.proofs.Newly.{last, waits-step, newly-children, newly_both, going_next}
use Rattle.walk.proofs.Waking.{Says, says_same, wake_list, wake_keeps}

-- A state tells of the runs of a range
pub record Tells (w : Range) (known first : ℕ) (visited ready : List ℕ) (s : Wakes) : Type 0 where
  pub size : length s.1 ≡ length w.parents
  pub wide : length w.parents ≤ length s.2
  pub says : Says (waits w known first visited) ready s

-- The ready list in the state: its length, its runs, and none chosen at its end
module _ (w : Range) (known first : ℕ) (visited ready : List ℕ) (s : Wakes) (T : Tells w known first visited ready s) where
  pub told_list : take s.0 s.2 ≡ ready
  told_list = ap (λ (k : ℕ). take k s.2) T.says.number ∙ T.says.ready

  pub told-few : Going w known first visited ready → s.0 ≤ length w.parents
  told-few G = omega (arith, T.says.number, few (length w.parents) ready G.once G.under)

  pub told_none : s.0 ≤ 0 → (now : List ℕ) (last : Option ℕ) → choice w now last ready ≡ none
  told_none h now last = ap (choice w now last) (empty ready (omega (arith, T.says.number))) ∙ nothing
    where
      empty : (xs : List ℕ) → length xs ≤ 0 → xs ≡ []
      empty [] l = refl
      empty (x ∷ xs) l = absurd (omega arith)

      nothing : choice w now last [] ≡ none
      nothing = unfold choice reverse weigh_all chosen in refl

module _ (w : Range) (known first : ℕ) (visited ready : List ℕ) (r : ℕ) (G : Going w known first visited ready) (rr : is_ready w known first visited r ≡ true)
    (s : Wakes) (T : Tells w known first visited (filter (λ x. not (eqb x r)) ready) s) where
  abbrev n : ℕ
  n = length w.parents

  abbrev seen : List ℕ
  seen = r ∷ visited

  abbrev rest : List ℕ
  rest = filter (λ x. not (eqb x r)) ready

  abbrev kids : List ℕ
  kids = children_of w.parents r

  abbrev new : List ℕ
  new = newly_ready w known first seen rest

  abbrev before : ℕ → ℕ
  before x = waits w known first visited x

  -- There is room
  fits : length (rest ++ new) ≤ length s.2
  fits =
      let g : Going w known first seen (rest ++ new) = going_next w known first visited ready r G rr in
      omega (arith, few n (rest ++ new) g.once g.under, T.wide)

  -- Children: each once, in the range
  kids-once : Once kids
  unfolding children_of upto
  kids-once = filter-once (λ x. mem r (at w.parents x)) (from 0 n) (from-once 0 n)

  kids_under : (x : ℕ) → mem x kids ≡ true → x < n
  unfolding children_of
  kids_under x m = ((passing (λ x. mem r (at w.parents x)) n x).0 m).0

  is_kid : (x : ℕ) → x < n → mem x kids ≡ mem r (at w.parents x)
  unfolding children_of
  is_kid x l = passing_test (λ x. mem r (at w.parents x)) n x l

  -- The children woken
  children-told : length rest + length (filter (λ x. eqb (before x) 1) kids) ≤ length s.2 →
      Says (λ x. before x - bit (mem x kids)) (rest ++ filter (λ x. eqb (before x) 1) kids) (wake_all s kids)
  children-told room = wake_list kids before rest s T.says kids-once (λ x m. omega (arith, kids_under x m, T.size)) room

  -- Where the first are not ended, no more
  visit-children : last w known first visited ready r G rr ≡ false → Says (waits w known first seen) (rest ++ new) (wake_all s kids)
  visit-children q =
      says_same (λ x. before x - bit (mem x kids)) (waits w known first seen) (rest ++ filter (λ x. eqb (before x) 1) kids) (rest ++ new) (wake_all s kids)
      (children-told (omega (arith, fits, ap length joined, length-append rest (filter (λ x. eqb (before x) 1) kids))))
      (λ x l. less x (omega (arith, (wake_keeps kids s).0, T.size))) joined
    where
      joined : rest ++ filter (λ x. eqb (before x) 1) kids ≡ rest ++ new
      joined = ap (λ (l : List ℕ). rest ++ l) (sym (newly-children w known first visited ready r G rr q))

      less : (x : ℕ) → x < n → before x - bit (mem x kids) ≡ waits w known first seen x
      less x l = rw (is_kid x l) (omega (arith, waits-step w known first visited ready r G rr x, ap (λ t. bit (t && leb first x)) q))

  -- Where this visit ends the first, those held back follow
  visit_both : last w known first visited ready r G rr ≡ true → first ≤ n →
      Says (waits w known first seen) (rest ++ new) (wake_all (wake_all s kids) (from first (n - first)))
  visit_both q le =
      says_same (λ x. mid x - bit (mem x late)) (waits w known first seen) (rest ++ waked ++ freed) (rest ++ new) (wake_all (wake_all s kids) late)
      (wake_list late mid (rest ++ waked) (wake_all s kids)
      (children-told (omega (arith, fits, ap length joined, length-append rest waked, length-append (rest ++ waked) freed)))
      (from-once first (n - first)) (λ x m. omega (arith, mem-from x first (n - first) m, (wake_keeps kids s).0, T.size))
      (omega (arith, fits, ap length joined, (wake_keeps kids s).1, length-append (rest ++ waked) freed)))
      (λ x l. less x (omega (arith, (wake_keeps late (wake_all s kids)).0, (wake_keeps kids s).0, T.size)) (lt_or_le x first)) joined
    where
      late : List ℕ
      late = from first (n - first)

      mid : ℕ → ℕ
      mid x = before x - bit (mem x kids)

      waked : List ℕ
      waked = filter (λ x. eqb (before x) 1) kids

      freed : List ℕ
      freed = filter (λ x. eqb (mid x) 1) late

      mid_is : (x : ℕ) → mem x late ≡ true → mid x ≡ before x - bit (mem r (at w.parents x))
      mid_is x m = ap (λ (t : Bool). before x - bit t) (is_kid x (omega (arith, mem-from x first (n - first) m)))

      joined : rest ++ waked ++ freed ≡ rest ++ new
      joined = append_assoc rest waked freed ∙
          ap (λ (l : List ℕ). rest ++ l)
          (ap (λ (l : List ℕ). waked ++ l)
          (filter_agree (λ x. eqb (mid x) 1) (λ x. eqb (before x - bit (mem r (at w.parents x))) 1) late (λ x m. ap (λ (k : ℕ). eqb k 1) (mid_is x m))) ∙
          sym (newly_both w known first visited ready r G rr q le))

      outside : (x : ℕ) → x < first → mem x late ≡ false
      outside x l = not_so (mem x late) (λ e. omega (arith, mem-from x first (n - first) e))

      less : (x : ℕ) → x < n → (x < first) ⊎ (first ≤ x) → mid x - bit (mem x late) ≡ waits w known first seen x
      less x l (inl f) = rw (is_kid x l, outside x f)
          (omega (arith, waits-step w known first visited ready r G rr x, ap (λ t. bit (t && leb first x)) q, ap bit (lt-leb first x f)))
      less x l (inr f) = rw (is_kid x l, from-mem x first (n - first) f (omega arith))
          (omega (arith, waits-step w known first visited ready r G rr x, ap (λ t. bit (t && leb first x)) q, ap bit (le-leb first x f)))

  known-not : ltb r known ≡ false
  known-not = le-ltb r known (ready-unknown w known first visited r rr)

  -- After a visit the state tells of it, and how many of the first are left
  pub left-told : (left : ℕ) → left ≡ left_of w known first visited → left_after r known first left ≡ left_of w known first seen
  unfolding left_after
  left-told left e = rw known-not (go (lt_or_le r first))
    where
      go : (r < first) ⊎ (first ≤ r) → cond (leb first r) left (left - 1) ≡ left_of w known first seen
      go (inl l) = rw (lt-leb first r l)
          (omega (arith, e, left-first w known first visited r (ready-unvisited w known first visited r rr) (ready-unknown w known first visited r rr) l))
      go (inr l) = rw (le-leb first r l) (e ∙ sym (left_other w known first visited r (ready-unvisited w known first visited r rr) l))

  told : (left : ℕ) → left ≡ left_of w known first visited → first ≤ n →
      Says (waits w known first seen) (rest ++ new) (woken_of s kids r known first n left)
  unfolding woken_of last
  told left e le = rw known-not (go (lt_or_le r first) (lt_or_le 1 left))
    where
      l₀ : ℕ
      l₀ = left_of w known first visited

      l₁ : ℕ
      l₁ = left_of w known first seen

      not_last : (0 < l₁) ⊎ (l₁ ≡ l₀) → last w known first visited ready r G rr ≡ false
      not_last (inl p) = rw (ne_eqb l₁ 0 (λ z. omega arith)) (and_false (ltb 0 l₀))
      not_last (inr q) = rw q (none l₀)
        where
          none : (k : ℕ) → ltb 0 k && eqb k 0 ≡ false
          none k = cases (lt_or_le 0 k)
            where
              cases : (0 < k) ⊎ (k ≤ 0) → ltb 0 k && eqb k 0 ≡ false
              cases (inl p) = rw (lt-ltb 0 k p, ne_eqb k 0 (λ z. omega arith))
              cases (inr p) = rw (le-ltb 0 k p)

      is_last : l₁ ≡ 0 → l₀ ≡ 1 → last w known first visited ready r G rr ≡ true
      is_last p q = rw (eq-eqb l₁ 0 p, lt-ltb 0 l₀ (omega arith))

      one_less : r < first → l₀ ≡ l₁ + 1
      one_less l = left-first w known first visited r (ready-unvisited w known first visited r rr) (ready-unknown w known first visited r rr) l

      go : (r < first) ⊎ (first ≤ r) → (1 < left) ⊎ (left ≤ 1) →
          Says (waits w known first seen) (rest ++ new) (cond (leb first r || ltb 1 left) (wake_all s kids) (wake_all (wake_all s kids) (from first (n - first))))
      go (inr l) c = rw (le-leb first r l)
          (visit-children (not_last (inr (left_other w known first visited r (ready-unvisited w known first visited r rr) l))))
      go (inl l) (inl c) = rw (lt-leb first r l, lt-ltb 1 left c) (visit-children (not_last (inl (omega (arith, one_less l, e)))))
      go (inl l) (inr c) = rw (lt-leb first r l, le-ltb 1 left c) (visit_both (is_last (omega (arith, one_less l, e)) (omega (arith, one_less l, e))) le)

  woken_keeps : (left : ℕ) → (length (woken_of s kids r known first n left).1 ≡ length s.1) × (length (woken_of s kids r known first n left).2 ≡ length s.2)
  unfolding woken_of
  woken_keeps left = go (ltb r known || leb first r || ltb 1 left)
    where
      late : List ℕ
      late = from first (n - first)

      go : (t : Bool) → let u : Wakes = cond t (wake_all s kids) (wake_all (wake_all s kids) late) in (length u.1 ≡ length s.1) × (length u.2 ≡ length s.2)
      go true = wake_keeps kids s
      go false = ((wake_keeps late (wake_all s kids)).0 ∙ (wake_keeps kids s).0, (wake_keeps late (wake_all s kids)).1 ∙ (wake_keeps kids s).1)

  pub visit_tells : (left : ℕ) → left ≡ left_of w known first visited → first ≤ n →
      Tells w known first seen (ready_after w known first visited ready r) (woken_of s kids r known first n left)
  visit_tells left e le = record {
    size = (woken_keeps left).0 ∙ T.size;
    wide = omega (arith, T.wide, (woken_keeps left).1);
    says = told left e le;
  }
