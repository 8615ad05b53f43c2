-- Kids are children where no parent is named twice, and their tables are the children's. Assumes nothing.
use Rattle.std.proofs.Common.{◌≡◌, refl, sym, ap, ap₂, ◌∙◌, ◌⊎◌, inl, inr, Bool, true, false, cond, List, [], ◌∷◌, ◌++◌, append-nil, ℕ, zero, suc, ◌+◌, ◌-◌, ◌≤◌, ◌<◌, add-one, arith, length}
use Rattle.std.proofs.Common.{get_or, drop, replicate, get_or-take, get_or-drop, ext_get_or, eq-eqb, ne_eqb, lt-ltb, le-ltb}
use Rattle.lists.specs.Lists.{bit, mem, occurs, rising, filter, from, upto}
use Rattle.lists.specs.Areas.{part}
use Rattle.lists.proofs.Truth.{lt_or_le, eq_or-not}
use Rattle.lists.proofs.Counts.{mem-occurs, nothing-occurs, upto_snoc}
use Rattle.lists.proofs.Rising.{rising_tail, rising_above}
use Rattle.lists.proofs.Keeping.{filter_snoc}
use Rattle.lists.proofs.Groups.{length_part}
use Rattle.model.specs.History.{at}
use Rattle.tables.specs.Tables.{children_of, Children}
use Rattle.tables.specs.Counted.{kids, kids_from, KidsTabled}
use Rattle.tables.proofs.Rooms.{occurs-cons, begin-next, begins-climb, kids-none, kids-next, kids-length}

-- In a rising list a number occurs once or not at all
once : (r : ℕ) (ps : List ℕ) → rising ps ≡ true → occurs r ps ≤ 1
once r [] h = omega (arith, nothing-occurs r)
once r (y ∷ ys) h = go (eq_or-not y r) (lt_or_le 0 (occurs r ys)) (once r ys (rising_tail y ys h))
  where
    go : (y ≡ r) ⊎ (y ≡ r → ⊥) → (0 < occurs r ys) ⊎ (occurs r ys ≤ 0) → occurs r ys ≤ 1 → occurs r (y ∷ ys) ≤ 1
    go (inl e) (inl some) ih = absurd (omega (arith, rising_above y ys h r (mem-occurs r ys ∙ lt-ltb 0 (occurs r ys) some)))
    go (inl e) (inr none) ih = omega (arith, occurs-cons r y ys, ap bit (eq-eqb y r e))
    go (inr q) t ih = omega (arith, occurs-cons r y ys, ap bit (ne_eqb y r q))

occurs-bit : (r : ℕ) (ps : List ℕ) → rising ps ≡ true → occurs r ps ≡ bit (mem r ps)
occurs-bit r ps h = go (lt_or_le 0 (occurs r ps)) (once r ps h)
  where
    go : (0 < occurs r ps) ⊎ (occurs r ps ≤ 0) → occurs r ps ≤ 1 → occurs r ps ≡ bit (mem r ps)
    go (inl some) le = omega (arith, ap bit (mem-occurs r ps ∙ lt-ltb 0 (occurs r ps) some))
    go (inr none) le = omega (arith, ap bit (mem-occurs r ps ∙ le-ltb 0 (occurs r ps) none))

-- A last number that is kept or not
kept-once : (b : Bool) (l : List ℕ) (x : ℕ) → l ++ replicate (bit b) x ≡ cond b (l ++ x ∷ []) l
kept-once true l x = refl
kept-once false l x = append-nil l

-- So kids are children
pub kids_are : (pss : List (List ℕ)) (r : ℕ) → ((x : ℕ) → rising (at pss x) ≡ true) → (n : ℕ) → kids pss r n ≡ filter (λ x. mem r (at pss x)) (upto n)
kids_are pss r h zero = kids-none pss r ∙ (unfold filter upto from in refl)
kids_are pss r h (suc n) =
    kids-next pss r n ∙
    (ap₂ (λ (l : List ℕ) (k : ℕ). l ++ replicate k n) (kids_are pss r h n) (occurs-bit r (at pss n) (h n)) ∙
    (kept-once (mem r (at pss n)) (filter (λ x. mem r (at pss x)) (upto n)) n ∙
    sym (ap (filter (λ x. mem r (at pss x))) (upto_snoc n) ∙ filter_snoc (λ x. mem r (at pss x)) (upto n) n)))

-- A part read place by place
part-is : (s t : ℕ) (items l : List ℕ) → s + length l ≡ t → t ≤ length items → ((j : ℕ) → j < length l → get_or items (s + j) 0 ≡ get_or l j 0) → part s t items ≡ l
part-is s t items l e fits h = ext_get_or 0 (part s t items) l size (λ i lt. at_place i (omega (arith, size)))
  where
    size : length (part s t items) ≡ length l
    size = omega (arith, length_part s t items (omega arith) fits)

    at_place : (i : ℕ) → i < length l → get_or (part s t items) i 0 ≡ get_or l i 0
    at_place i lt = unfold part in (get_or-take (t - s) (drop s items) i 0 (omega arith) ∙ (get_or-drop s items i 0 ∙ h i lt))

-- The tables of kids are those of children
pub children_are : (pss : List (List ℕ)) (n : ℕ) (begins items : List ℕ) → length pss ≡ n → ((x : ℕ) → rising (at pss x) ≡ true) → KidsTabled pss n begins items → Children pss begins items
children_are pss n begins items size h T = record {
  climb = λ r lt. omega (arith, here r lt, there r lt, begins-climb pss n r (r + 1) (omega arith));
  inside = λ r lt. omega (arith, there r lt, begins-climb pss n (r + 1) n (omega arith), T.room);
  each = λ r lt. part_at r lt;
}
  where
    here : (r : ℕ) → r < length pss → get_or begins r 0 ≡ kids_from pss n r
    here r lt = T.begins_at r (omega arith)

    there : (r : ℕ) → r < length pss → get_or begins (r + 1) 0 ≡ kids_from pss n (r + 1)
    there r lt = T.begins_at (r + 1) (omega arith)

    listed : (r : ℕ) → kids pss r n ≡ children_of pss r
    listed r = unfold children_of in (kids_are pss r h n ∙ ap (λ (k : ℕ). filter (λ x. mem r (at pss x)) (upto k)) (sym size))

    part_at : (r : ℕ) → r < length pss → part (get_or begins r 0) (get_or begins (r + 1) 0) items ≡ children_of pss r
    part_at r lt =
        ap₂ (λ (a b : ℕ). part a b items) (here r lt) (there r lt) ∙
        (part-is (kids_from pss n r) (kids_from pss n (r + 1)) items (kids pss r n)
        (omega (arith, kids-length pss r n, begin-next pss n r, ap (kids_from pss n) (add-one r)))
        (omega (arith, begins-climb pss n (r + 1) n (omega arith), T.room))
        (λ j q. T.kids_at r j (omega arith) q) ∙ listed r)
