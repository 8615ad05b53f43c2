-- Lists that hold each number at most once, filters, and counts over them. Assumes nothing.
use Rattle.std.proofs.Common.{◌≡◌, refl, sym, ap, ap₂, ◌∙◌, subst, ◌⊎◌, inl, inr, Bool, true, false, not, cond, ◌&&◌, ◌||◌, List, [], ◌∷◌, ◌++◌, ℕ, zero, suc, ◌+◌, ◌≤◌, ◌<◌, arith, length, eqb}
use Rattle.std.proofs.Common.{eq-eqb, ne_eqb}
use mathlib.Core.Bool.{false≢true}
use borrow.Author.Tests.{eqb-false}
use Rattle.lists.specs.Lists.{bit, mem, count, filter, from, rising}
use Rattle.lists.proofs.Truth.{eq_or-not, false_true, not_so, bool_iff, and_left, and_right, and_both, or_right}
use Rattle.lists.proofs.Members.{mem-first, mem-rest, mem-append, mem-filter, filter-mem}
use Rattle.lists.proofs.Counts.{mem-from}
use Rattle.lists.proofs.Rising.{rising_tail, rising_above}

-- Each number at most once
abbrev pub Once : List ℕ → Type 0
Once [] = Unit {0}
Once (x ∷ xs) = (mem x xs ≡ false) × Once xs

pub from-once : (a n : ℕ) → Once (from a n)
unfolding from
from-once a zero = tt
from-once a (suc n) = (not_so (mem a (from (suc a) n)) (λ m. omega (arith, mem-from a (suc a) n m)), from-once (suc a) n)

pub filter-once : (p : ℕ → Bool) (xs : List ℕ) → Once xs → Once (filter p xs)
unfolding filter
filter-once p [] o = tt
filter-once p (x ∷ xs) o = go (p x) (filter-once p xs o.1)
  where
    out : mem x (filter p xs) ≡ false
    out = not_so (mem x (filter p xs)) (λ e. false≢true (sym o.0 ∙ (mem-filter p x xs e).0))

    go : (t : Bool) → Once (filter p xs) → Once (cond t (x ∷ filter p xs) (filter p xs))
    go true ih = (out, ih)
    go false ih = ih

pub once-append : (xs ys : List ℕ) → Once xs → Once ys → ((x : ℕ) → mem x xs ≡ true → mem x ys ≡ false) → Once (xs ++ ys)
once-append [] ys o p h = p
once-append (x ∷ xs) ys o p h =
    (mem-append x xs ys ∙ rw o.0 (h x (mem-first x xs)), once-append xs ys o.1 p (λ y m. h y (mem-rest x y xs m)))

-- A rising list holds each number once
pub rising-once : (xs : List ℕ) → rising xs ≡ true → Once xs
rising-once [] r = tt
rising-once (x ∷ xs) r = (not_so (mem x xs) (λ m. omega (arith, rising_above x xs r x m)), rising-once xs (rising_tail x xs r))

-- A number taken out of a list that does not hold it, and of one that holds it once
pub out-all : (r : ℕ) (xs : List ℕ) → mem r xs ≡ false → filter (λ x. not (eqb x r)) xs ≡ xs
unfolding filter mem
out-all r [] e = refl
out-all r (x ∷ xs) e = go (eqb r x) refl e (λ d. out-all r xs d)
  where
    go : (t : Bool) → eqb r x ≡ t → t || mem r xs ≡ false → (mem r xs ≡ false → filter (λ x. not (eqb x r)) xs ≡ xs) →
        cond (not (eqb x r)) (x ∷ filter (λ x. not (eqb x r)) xs) (filter (λ x. not (eqb x r)) xs) ≡ x ∷ xs
    go true q d rec = false_true (sym d)
    go false q d rec = rw (ne_eqb x r (λ p. eqb-false r x q (sym p))) (ap (λ (l : List ℕ). x ∷ l) (rec d))

pub taken_out_lem : (r : ℕ) (xs ys : List ℕ) → Once (xs ++ r ∷ ys) → filter (λ x. not (eqb x r)) (xs ++ r ∷ ys) ≡ xs ++ ys
unfolding filter
taken_out_lem r [] ys o = rw (eq-eqb r r refl) (out-all r ys o.0)
taken_out_lem r (x ∷ xs) ys o = rw (ne_eqb x r ne) (ap (λ (l : List ℕ). x ∷ l) (taken_out_lem r xs ys o.1))
  where
    here : x ≡ r → mem x (xs ++ r ∷ ys) ≡ true
    here e = mem-append x xs (r ∷ ys) ∙ or_right (mem x xs) (ap (λ (k : ℕ). mem x (k ∷ ys)) (sym e) ∙ mem-first x ys)

    ne : x ≡ r → ⊥
    ne e = false≢true (sym o.0 ∙ here e)

-- Distinct numbers below n are at most n
one_out : (r : ℕ) (xs : List ℕ) → Once xs → length xs ≤ suc (length (filter (λ x. not (eqb x r)) xs))
unfolding filter
one_out r [] o = omega arith
one_out r (x ∷ xs) o = go (eq_or-not x r) (one_out r xs o.1)
  where
    go : (x ≡ r) ⊎ (x ≡ r → ⊥) → length xs ≤ suc (length (filter (λ x. not (eqb x r)) xs)) →
        suc (length xs) ≤ suc (length (cond (not (eqb x r)) (x ∷ filter (λ x. not (eqb x r)) xs) (filter (λ x. not (eqb x r)) xs)))
    go (inl e) ih = rw (eq-eqb x r e) (omega (arith, ap length (out-all r xs (subst (λ (k : ℕ). mem k xs ≡ false) e o.0))))
    go (inr n) ih = rw (ne_eqb x r n) (omega arith)

pub few : (n : ℕ) (xs : List ℕ) → Once xs → ((m : ℕ) → mem m xs ≡ true → m < n) → length xs ≤ n
few zero [] o b = omega arith
few zero (x ∷ xs) o b = absurd (omega (arith, b x (mem-first x xs)))
few (suc n) xs o b =
    omega (arith, one_out n xs o, few n (filter (λ x. not (eqb x n)) xs) (filter-once (λ x. not (eqb x n)) xs o) lower)
  where
    lower : (m : ℕ) → mem m (filter (λ x. not (eqb x n)) xs) ≡ true → m < n
    lower m e = let q = mem-filter (λ x. not (eqb x n)) m xs e in other (eq_or-not m n) q.1 (b m q.0)
      where
        other : (m ≡ n) ⊎ (m ≡ n → ⊥) → not (eqb m n) ≡ true → m < suc n → m < n
        other (inl e) t l = false_true (sym (ap not (eq-eqb m n e)) ∙ t)
        other (inr d) t l = omega arith

-- Filters
pub filter_test : (p : ℕ → Bool) (x : ℕ) (xs : List ℕ) → mem x (filter p xs) ≡ p x && mem x xs
filter_test p x xs =
    bool_iff (mem x (filter p xs)) (p x && mem x xs)
    (λ e. let q = mem-filter p x xs e in and_both (p x) (mem x xs) q.1 q.0)
    (λ e. filter-mem p x xs (and_right (p x) (mem x xs) e) (and_left (p x) (mem x xs) e))

pub filter_twice : (p q : ℕ → Bool) (xs : List ℕ) → filter p (filter q xs) ≡ filter (λ x. q x && p x) xs
unfolding filter
filter_twice p q [] = refl
filter_twice p q (x ∷ xs) = go (q x) (p x) refl (filter_twice p q xs)
  where
    go : (a b : Bool) → p x ≡ b → filter p (filter q xs) ≡ filter (λ x. q x && p x) xs →
        filter p (cond a (x ∷ filter q xs) (filter q xs)) ≡ cond (a && b) (x ∷ filter (λ x. q x && p x) xs) (filter (λ x. q x && p x) xs)
    go true true e ih = rw e (ap (λ (l : List ℕ). x ∷ l) ih)
    go true false e ih = rw e ih
    go false b e ih = ih

pub filter-append : (p : ℕ → Bool) (xs ys : List ℕ) → filter p (xs ++ ys) ≡ filter p xs ++ filter p ys
unfolding filter
filter-append p [] ys = refl
filter-append p (x ∷ xs) ys = go (p x) (filter-append p xs ys)
  where
    go : (t : Bool) → filter p (xs ++ ys) ≡ filter p xs ++ filter p ys →
        cond t (x ∷ filter p (xs ++ ys)) (filter p (xs ++ ys)) ≡ cond t (x ∷ filter p xs) (filter p xs) ++ filter p ys
    go true ih = ap (λ (l : List ℕ). x ∷ l) ih
    go false ih = ih

pub filter_none : (p : ℕ → Bool) (xs : List ℕ) → ((x : ℕ) → mem x xs ≡ true → p x ≡ false) → filter p xs ≡ []
unfolding filter
filter_none p [] h = refl
filter_none p (x ∷ xs) h = rw (h x (mem-first x xs)) (filter_none p xs (λ y m. h y (mem-rest x y xs m)))

-- Numbers in two parts
pub from-split : (a m n : ℕ) → from a (m + n) ≡ from a m ++ from (a + m) n
unfolding from
from-split a zero n = ap₂ from (plus_none a) (none-plus n)
  where
    plus_none : (a : ℕ) → a ≡ a + 0
    plus_none a = omega arith

    none-plus : (n : ℕ) → 0 + n ≡ n
    none-plus n = omega arith
from-split a (suc m) n =
    let e : suc m + n ≡ suc (m + n) = omega arith in
    let f : suc a + m ≡ a + suc m = omega arith in
    rw e (ap (λ (l : List ℕ). a ∷ l) (from-split (suc a) m n ∙ ap (λ (k : ℕ). from (suc a) m ++ from k n) f))

-- One number more passes: where it is in the list, one fails less
pub count-seen : (p : ℕ → Bool) (r : ℕ) (xs : List ℕ) → Once xs → p r ≡ false →
    count (λ x. not (p x)) xs ≡ count (λ x. not (p x || eqb x r)) xs + bit (mem r xs)
unfolding count mem
count-seen p r [] o e = refl
count-seen p r (x ∷ xs) o e = go (eq_or-not x r) (count-seen p r xs o.1 e)
  where
    go : (x ≡ r) ⊎ (x ≡ r → ⊥) → count (λ x. not (p x)) xs ≡ count (λ x. not (p x || eqb x r)) xs + bit (mem r xs) →
        bit (not (p x)) + count (λ x. not (p x)) xs ≡ bit (not (p x || eqb x r)) + count (λ x. not (p x || eqb x r)) xs + bit (eqb r x || mem r xs)
    go (inl q) ih =
        let z : p x ≡ false = ap p q ∙ e in
        let m : mem r xs ≡ false = subst (λ (k : ℕ). mem k xs ≡ false) q o.0 in
        rw (z, eq-eqb x r q, eq-eqb r x (sym q)) (omega (arith, ap bit m))
    go (inr n) ih = rw (ne_eqb x r n, ne_eqb r x (λ q. n (sym q))) (opened (p x))
      where
        opened : (t : Bool) → bit (not t) + count (λ x. not (p x)) xs ≡ bit (not (t || false)) + count (λ x. not (p x || eqb x r)) xs + bit (mem r xs)
        opened true = omega arith
        opened false = omega arith

-- All pass: as many as there are; none passes: none
pub count-whole : (p : ℕ → Bool) (xs : List ℕ) → ((x : ℕ) → p x ≡ true) → count p xs ≡ length xs
unfolding count
count-whole p [] h = refl
count-whole p (x ∷ xs) h = omega (arith, ap bit (h x), count-whole p xs h)

pub count-out : (p : ℕ → Bool) (xs : List ℕ) → ((x : ℕ) → mem x xs ≡ true → p x ≡ false) → count p xs ≡ 0
unfolding count
count-out p [] h = refl
count-out p (x ∷ xs) h = omega (arith, ap bit (h x (mem-first x xs)), count-out p xs (λ y m. h y (mem-rest x y xs m)))
