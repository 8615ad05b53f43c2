-- Lists below a bound, and the largest and the least of a list. Assumes nothing.
use Rattle.std.proofs.Common.{◌≡◌, refl, subst, ◌⊎◌, inl, inr, true, ◌||◌, List, [], ◌∷◌, ◌++◌, ℕ, zero, suc, ◌≤◌, ◌<◌, min, max, arith, length, get_or, ltb, eqb, ltb-true, eqb-true, lt-ltb}
use Rattle.std.proofs.Common.{eq-eqb}
use Rattle.lists.specs.Lists.{all, mem, below, largest, least}
use Rattle.lists.proofs.Truth.{lt_or_le, false_true, and_left, and_right, and_both, or_cases, or_right}
use Rattle.lists.proofs.Members.{mem_index, all_of, all-at}

-- Each number is below n
pub below_of : (n : ℕ) (l : List ℕ) → ((x : ℕ) → mem x l ≡ true → x < n) → below n l ≡ true
unfolding below
below_of n l h = all_of (λ x. ltb x n) l (λ x m. lt-ltb x n (h x m))

pub below_at : (n : ℕ) (l : List ℕ) → below n l ≡ true → (x : ℕ) → mem x l ≡ true → x < n
unfolding below
below_at n l b x m = ltb-true x n (all-at (λ x. ltb x n) l b x m)

pub below_get_d : (n : ℕ) (l : List ℕ) → ((i : ℕ) → i < length l → get_or l i 0 < n) → below n l ≡ true
below_get_d n l h = below_of n l (λ x m. let w : (j : ℕ) × (j < length l) × (get_or l j 0 ≡ x) = mem_index x 0 l m in omega
    (arith, h w.0 w.1, w.2))

pub below_snoc : (n v : ℕ) (l : List ℕ) → below n l ≡ true → v < n → below n (l ++ v ∷ []) ≡ true
unfolding below all
below_snoc n v [] b h = and_both (ltb v n) true (lt-ltb v n h) refl
below_snoc n v (x ∷ l) b h = and_both (ltb x n) (below n (l ++ v ∷ [])) (and_left (ltb x n) (below n l) b)
    (below_snoc n v l (and_right (ltb x n) (below n l) b) h)

-- The largest is one of the numbers, or what stands in where there are none: what holds of these holds of it
pub largest_has : (P : ℕ → Type 0) (d : ℕ) (xs : List ℕ) → P d → ((x : ℕ) → mem x xs ≡ true → P x) → P (largest d xs)
unfolding largest mem
largest_has P d [] k h = k
largest_has P d (x ∷ []) k h = h x (rw (eq-eqb x x refl))
largest_has P d (x ∷ y ∷ ys) k h =
    go (largest d (y ∷ ys)) (lt_or_le x (largest d (y ∷ ys))) (h x (rw (eq-eqb x x refl))) (largest_has P d (y ∷ ys) k (λ z m. h z (or_right (eqb z x) m)))
  where
    go : (l : ℕ) → (x < l) ⊎ (l ≤ x) → P x → P l → P (max x l)
    go l (inl c) p q = let e : l ≡ max x l = omega arith in subst P e q
    go l (inr c) p q = let e : x ≡ max x l = omega arith in subst P e p

-- No number of it is larger
pub largest_get : (xs : List ℕ) (i : ℕ) → get_or xs i 0 ≤ largest 0 xs
unfolding largest
largest_get [] i = omega arith
largest_get (x ∷ []) zero = omega arith
largest_get (x ∷ []) (suc i) = omega arith
largest_get (x ∷ y ∷ ys) zero = omega arith
largest_get (x ∷ y ∷ ys) (suc i) = omega (arith, largest_get (y ∷ ys) i)

-- What lies below the largest lies below one of the numbers, or below what stands in where there are none
pub largest-from : (d e : ℕ) (xs : List ℕ) → e < largest d xs → (e < d) ⊎ ((x : ℕ) × (mem x xs ≡ true) × (e < x))
unfolding largest mem
largest-from d e [] h = inl h
largest-from d e (x ∷ []) h = inr (x, rw (eq-eqb x x refl), h)
largest-from d e (x ∷ y ∷ ys) h = go (lt_or_le e x) (λ k. largest-from d e (y ∷ ys) k)
  where
    go : (e < x) ⊎ (x ≤ e) → (e < largest d (y ∷ ys) → (e < d) ⊎ ((z : ℕ) × (eqb z y || mem z ys ≡ true) × (e < z))) →
        (e < d) ⊎ ((z : ℕ) × (eqb z x || (eqb z y || mem z ys) ≡ true) × (e < z))
    go (inl k) ih = inr (x, rw (eq-eqb x x refl), k)
    go (inr k) ih = later (ih (omega arith))
      where
        later : (e < d) ⊎ ((z : ℕ) × (eqb z y || mem z ys ≡ true) × (e < z)) → (e < d) ⊎ ((z : ℕ) × (eqb z x || (eqb z y || mem z ys) ≡ true) × (e < z))
        later (inl z) = inl z
        later (inr z) = inr (z.0, or_right (eqb z.0 x) z.1, z.2)

-- The least is at most each
pub least_le : (d : ℕ) (xs : List ℕ) → least d xs ≤ d
unfolding least
least_le d [] = omega arith
least_le d (x ∷ xs) = omega (arith, least_le d xs)

pub least-mem : (d : ℕ) (xs : List ℕ) (x : ℕ) → mem x xs ≡ true → least d xs ≤ x
unfolding least mem
least-mem d [] x m = false_true m
least-mem d (y ∷ ys) x m = go (or_cases (eqb x y) (mem x ys) m) (λ k. least-mem d ys x k)
  where
    go : (eqb x y ≡ true) ⊎ (mem x ys ≡ true) → (mem x ys ≡ true → least d ys ≤ x) → min y (least d ys) ≤ x
    go (inl e) ih = omega (arith, eqb-true x y e)
    go (inr k) ih = omega (arith, ih k)
