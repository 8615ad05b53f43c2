-- How often numbers stand in lists, how many pass a test, sums, and stretches of numbers. Assumes nothing.
use Rattle.std.proofs.Common.{◌≡◌, refl, sym, ap, ◌∙◌, subst, ◌⊎◌, inl, inr, Bool, true, false, not, cond, ◌&&◌, ◌||◌, List, [], ◌∷◌, ◌++◌, ℕ, zero, suc, ◌+◌, ◌≤◌, ◌<◌, arith, zero-add, add-one}
use Rattle.std.proofs.Common.{length, drop, get_or, drop_of_length-le, drop-cons, ltb, eqb, ltb-true, eqb-true, lt-ltb, le-ltb, eq-eqb, ne_eqb}
use Rattle.lists.specs.Lists.{bit, all, filter, count, sum, from, upto, mem, occurs}
use Rattle.lists.proofs.Truth.{lt_or_le, eq_or-not, false_true, cond_same, or_cases, or_left, or_right, bit_le}
use Rattle.lists.proofs.Between.{within, within_in, within-before, within-after, none_within, longer}

module _ {ℓ} {A : Type ℓ} where
  -- Two lists one after the other
  pub count-append : (p : A → Bool) (xs ys : List A) → count p (xs ++ ys) ≡ count p xs + count p ys
  unfolding count
  count-append p [] ys = omega arith
  count-append p (x ∷ xs) ys = omega (arith, count-append p xs ys)

  -- One item more at the end
  pub length_snoc : (l : List A) (x : A) → length (l ++ x ∷ []) ≡ suc (length l)
  length_snoc [] x = refl
  length_snoc (y ∷ l) x = ap suc (length_snoc l x)

  pub sum_snoc : (f : A → ℕ) (l : List A) (x : A) → sum f (l ++ x ∷ []) ≡ sum f l + f x
  unfolding sum
  sum_snoc f [] x = omega arith
  sum_snoc f (y ∷ l) x = omega (arith, sum_snoc f l x)

-- A number occurs in a list that it is a member of, and in no other
pub mem-occurs : (x : ℕ) (xs : List ℕ) → mem x xs ≡ ltb 0 (occurs x xs)
unfolding mem occurs count
mem-occurs x [] = refl
mem-occurs x (y ∷ ys) = go (eq_or-not x y) (mem-occurs x ys)
  where
    go : (x ≡ y) ⊎ (x ≡ y → ⊥) → mem x ys ≡ ltb 0 (count (λ m. eqb m x) ys) → eqb x y || mem x ys ≡ ltb 0 (bit (eqb y x) + count (λ m. eqb m x) ys)
    go (inl e) ih = rw (eq-eqb x y e, eq-eqb y x (sym e)) (sym (lt-ltb 0 (1 + count (λ m. eqb m x) ys) (omega arith)))
    go (inr q) ih = rw (ne_eqb x y q, ne_eqb y x (λ e. q (sym e)), zero-add) ih

pub nothing-occurs : (x : ℕ) → occurs x [] ≡ 0
unfolding occurs count
nothing-occurs x = refl

-- A filter keeps a number as often as it stands, or not at all
pub occurs-filter : (p : ℕ → Bool) (r : ℕ) (xs : List ℕ) → occurs r (filter p xs) ≡ cond (p r) (occurs r xs) 0
unfolding occurs count filter
occurs-filter p r [] = sym (cond_same (p r) 0)
occurs-filter p r (x ∷ xs) = go (p x) refl (eqb x r) refl (occurs-filter p r xs)
  where
    go : (t : Bool) → p x ≡ t → (u : Bool) → eqb x r ≡ u → count (λ m. eqb m r) (filter p xs) ≡ cond (p r) (count (λ m. eqb m r) xs) 0 →
        count (λ m. eqb m r) (cond (p x) (x ∷ filter p xs) (filter p xs)) ≡ cond (p r) (bit (eqb x r) + count (λ m. eqb m r) xs) 0
    go true e true q ih =
        let s : p r ≡ true = subst (λ (k : ℕ). p k ≡ true) (eqb-true x r q) e in
        rw (e, q, s) (rw s at (ap (λ n. 1 + n) ih))
    go false e true q ih =
        let s : p r ≡ false = subst (λ (k : ℕ). p k ≡ false) (eqb-true x r q) e in
        rw (e, q, s) (rw s at ih)
    go true e false q ih = rw (e, q) (simp zero-add ih)
    go false e false q ih = rw (e, q) (simp zero-add ih)

-- A stretch of numbers holds each of them once
pub occurs-from : (x a n : ℕ) → occurs x (from a n) ≡ bit (within (a, a + n) x)
unfolding occurs count from
occurs-from x a zero = sym (ap bit (ap (λ k. within (a, k) x) (omega arith) ∙ none_within a x))
occurs-from x a (suc n) =
    omega (arith, occurs-from x (suc a) n, longer a (a + suc n) x (omega arith), ap (λ k. bit (within (suc a, k) x)) (plus_one a n))
  where
    plus_one : (a n : ℕ) → suc a + n ≡ a + suc n
    plus_one a n = omega arith

pub occurs-upto : (x n : ℕ) → occurs x (upto n) ≡ bit (ltb x n)
unfolding upto
occurs-upto x n = occurs-from x 0 n ∙ go (lt_or_le x n)
  where
    go : (x < n) ⊎ (n ≤ x) → bit (within (0, 0 + n) x) ≡ bit (ltb x n)
    go (inl p) = rw (within_in 0 (0 + n) x (omega arith) (omega arith), lt-ltb x n p)
    go (inr p) = rw (within-after 0 (0 + n) x (omega arith), le-ltb x n p)

-- The members of a stretch
pub mem-from : (x a n : ℕ) → mem x (from a n) ≡ true → (a ≤ x) × (x < a + n)
mem-from x a n m = go (lt_or_le x a) (lt_or_le x (a + n))
  where
    some-occurs : 1 ≤ bit (within (a, a + n) x)
    some-occurs = omega (arith, ltb-true 0 (occurs x (from a n)) (sym (mem-occurs x (from a n)) ∙ m), occurs-from x a n)

    go : (x < a) ⊎ (a ≤ x) → (x < a + n) ⊎ (a + n ≤ x) → (a ≤ x) × (x < a + n)
    go (inl p) q = absurd (omega (arith, some-occurs, ap bit (within-before a (a + n) x p)))
    go (inr p) (inl q) = (p, q)
    go (inr p) (inr q) = absurd (omega (arith, some-occurs, ap bit (within-after a (a + n) x q)))

pub from-mem : (x a n : ℕ) → a ≤ x → x < a + n → mem x (from a n) ≡ true
from-mem x a n p q = mem-occurs x (from a n) ∙ ap (ltb 0) (occurs-from x a n ∙ ap bit (within_in a (a + n) x p q))

pub upto-mem : (x n : ℕ) → x < n → mem x (upto n) ≡ true
upto-mem x n lt = mem-occurs x (upto n) ∙ rw (occurs-upto x n, lt-ltb x n lt)

-- It is as long as it says
pub from-length : (a n : ℕ) → length (from a n) ≡ n
unfolding from
from-length a zero = refl
from-length a (suc n) = ap suc (from-length (suc a) n)

-- One number more
pub from_snoc : (a n : ℕ) → from a (suc n) ≡ from a n ++ (a + n) ∷ []
unfolding from
from_snoc a zero = let e : a ≡ a + 0 = omega arith in ap (λ (k : ℕ). k ∷ []) e
from_snoc a (suc n) =
    let e : suc a + n ≡ a + suc n = omega arith in
    ap (λ (l : List ℕ). a ∷ l) (from_snoc (suc a) n ∙ ap (λ (k : ℕ). from (suc a) n ++ k ∷ []) e)

pub upto_snoc : (n : ℕ) → upto (suc n) ≡ upto n ++ n ∷ []
unfolding upto
upto_snoc n = let e : 0 + n ≡ n = omega arith in from_snoc 0 n ∙ ap (λ (k : ℕ). from 0 n ++ k ∷ []) e

-- A count by tests that agree on the list
pub count_same : (p q : ℕ → Bool) (l : List ℕ) → ((x : ℕ) → mem x l ≡ true → p x ≡ q x) → count p l ≡ count q l
unfolding count mem
count_same p q [] h = refl
count_same p q (x ∷ l) h =
    rw (h x (or_left (mem x l) (eq-eqb x x refl)), count_same p q l (λ y m. h y (or_right (eqb y x) m)))

-- A count without one number
pub count_without : (p : ℕ → Bool) (r : ℕ) (xs : List ℕ) → p r ≡ true → count (λ x. p x && not (eqb x r)) xs + occurs r xs ≡ count p xs
unfolding count occurs
count_without p r [] q = refl
count_without p r (x ∷ xs) q = go (eq_or-not x r) (count_without p r xs q)
  where
    go : (x ≡ r) ⊎ (x ≡ r → ⊥) → count (λ x. p x && not (eqb x r)) xs + count (λ m. eqb m r) xs ≡ count p xs →
        bit (p x && not (eqb x r)) + count (λ x. p x && not (eqb x r)) xs + (bit (eqb x r) + count (λ m. eqb m r) xs) ≡ bit (p x) + count p xs
    go (inl e) ih = rw (eq-eqb x r e, e, q) (omega arith)
    go (inr n) ih = rw (ne_eqb x r n) (opens (p x))
      where
        opens : (t : Bool) → bit (t && true) + count (λ x. p x && not (eqb x r)) xs + (0 + count (λ m. eqb m r) xs) ≡ bit t + count p xs
        opens true = omega arith
        opens false = omega arith

-- A count from a place on: the next, and the end
pub count_next : (p : ℕ → Bool) (xs : List ℕ) (i : ℕ) → i < length xs → bit (p (get_or xs i 0)) + count p (drop (i + 1) xs) ≡ count p (drop i xs)
unfolding count
count_next p xs i h = rw (add-one i, drop-cons xs i 0 h)

pub count_end : (p : ℕ → Bool) (xs : List ℕ) (i : ℕ) → length xs ≤ i → count p (drop i xs) ≡ 0
unfolding count
count_end p xs i h = rw (drop_of_length-le xs h)

-- None passes
pub count_none : (p : ℕ → Bool) (xs : List ℕ) → ((x : ℕ) → p x ≡ false) → count p xs ≡ 0
unfolding count
count_none p [] h = refl
count_none p (x ∷ xs) h = rw (h x) (omega (arith, count_none p xs h))

-- No more pass than there are
pub count_le : (p : ℕ → Bool) (xs : List ℕ) → count p xs ≤ length xs
unfolding count
count_le p [] = omega arith
count_le p (x ∷ xs) = omega (arith, count_le p xs, bit_le (p x))

pub filter-length : (p : ℕ → Bool) (l : List ℕ) → length (filter p l) ≤ length l
unfolding filter
filter-length p [] = omega arith
filter-length p (x ∷ l) = go (p x) (filter-length p l)
  where
    go : (t : Bool) → length (filter p l) ≤ length l → length (cond t (x ∷ filter p l) (filter p l)) ≤ suc (length l)
    go true h = omega arith
    go false h = omega arith

-- A filter that drops a member is shorter
pub filter_shorter : (p : ℕ → Bool) (x : ℕ) (l : List ℕ) → mem x l ≡ true → p x ≡ false → length (filter p l) < length l
unfolding filter mem
filter_shorter p x [] m e = false_true m
filter_shorter p x (y ∷ l) m e = go (p y) refl (or_cases (eqb x y) (mem x l) m) (λ k. filter_shorter p x l k e)
  where
    go : (t : Bool) → p y ≡ t → (eqb x y ≡ true) ⊎ (mem x l ≡ true) → (mem x l ≡ true → length (filter p l) < length l) →
        length (cond t (y ∷ filter p l) (filter p l)) < suc (length l)
    go true q (inl k) ih = false_true (sym e ∙ ap p (eqb-true x y k) ∙ q)
    go true q (inr k) ih = omega (arith, ih k)
    go false q k ih = omega (arith, filter-length p l)

-- as many as pass
pub filter-count : (p : ℕ → Bool) (xs : List ℕ) → length (filter p xs) ≡ count p xs
unfolding filter count
filter-count p [] = refl
filter-count p (x ∷ xs) = go (p x) (filter-count p xs)
  where
    go : (t : Bool) → length (filter p xs) ≡ count p xs → length (cond t (x ∷ filter p xs) (filter p xs)) ≡ bit t + count p xs
    go true ih = omega arith
    go false ih = omega arith

-- None fails exactly if each passes
pub all_none : (p : ℕ → Bool) (xs : List ℕ) → all p xs ≡ eqb (count (λ x. not (p x)) xs) 0
unfolding all count
all_none p [] = refl
all_none p (x ∷ xs) = go (p x) (all_none p xs)
  where
    go : (t : Bool) → all p xs ≡ eqb (count (λ x. not (p x)) xs) 0 → t && all p xs ≡ eqb (bit (not t) + count (λ x. not (p x)) xs) 0
    go true ih = rw zero-add ih
    go false ih = sym (ne_eqb (1 + count (λ x. not (p x)) xs) 0 (λ z. omega arith))

-- A filter that drops none
pub filter_true : (p : ℕ → Bool) (xs : List ℕ) → ((x : ℕ) → p x ≡ true) → filter p xs ≡ xs
unfolding filter
filter_true p [] h = refl
filter_true p (x ∷ xs) h = rw (h x, filter_true p xs h)

-- Filters that agree on a stretch
pub filter_same : (p q : ℕ → Bool) (a k end : ℕ) → a + k ≡ end → ((r : ℕ) → r < end → p r ≡ q r) → filter p (from a k) ≡ filter q (from a k)
unfolding filter from
filter_same p q a zero end e h = refl
filter_same p q a (suc k) end e h = rw (h a (omega arith), filter_same p q (suc a) k end (omega arith) h)

-- A count as a sum, and sums of sums
pub count-sum : (p : ℕ → Bool) (xs : List ℕ) → count p xs ≡ sum (λ x. bit (p x)) xs
unfolding sum count
count-sum p [] = refl
count-sum p (x ∷ xs) = ap (λ k. bit (p x) + k) (count-sum p xs)

pub sum-zero : (xs : List ℕ) → sum (λ (x : ℕ). 0) xs ≡ 0
unfolding sum
sum-zero [] = refl
sum-zero (x ∷ xs) = omega (arith, sum-zero xs)

pub sum-add : (f g : ℕ → ℕ) (xs : List ℕ) → sum (λ x. f x + g x) xs ≡ sum f xs + sum g xs
unfolding sum
sum-add f g [] = refl
sum-add f g (x ∷ xs) = omega (arith, sum-add f g xs)
