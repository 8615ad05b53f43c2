-- Counts along a list in sets that meet it in a prefix. Assumes nothing.
use Rattle.std.proofs.Common.{◌≡◌, refl, sym, ap, ◌∙◌, ◌⊎◌, inl, inr, Bool, true, false, ◌&&◌, ◌||◌, List, [], ◌∷◌, ◌++◌, ℕ, zero, suc, ◌+◌, ◌≤◌, ◌<◌, max, arith, length, get_or, length-append}
use Rattle.std.proofs.Common.{ltb, eqb, lt-ltb, le-ltb, eq-eqb, ne_eqb}
use lib.ListN.{get_or-append}
use lib.Seq.{get_or-append_seam}
use Rattle.lists.specs.Lists.{bit, all, mem, count}
use Rattle.lists.proofs.Truth.{lt_or_le, eq_or-not, false_true, or_cases}
use Rattle.lists.proofs.Members.{get_d_mem, all-at}
use Rattle.lists.proofs.Counts.{count-append, count_le}

-- What holds of a place holds of those before it
abbrev pub Falls : (ℕ → Bool) → List ℕ → Type 0
Falls p c = (i j : ℕ) → i < j → j < length c → p (get_or c j 0) ≡ true → p (get_or c i 0) ≡ true

-- After a member that fails none passes
pub none_after : (p : ℕ → Bool) (x : ℕ) (xs : List ℕ) → p x ≡ false → Falls p (x ∷ xs) → count p xs ≡ 0
unfolding count
none_after p x [] e h = refl
none_after p x (y ∷ ys) e h = go (p y) refl (none_after p x ys e (skip h))
  where
    skip : Falls p (x ∷ y ∷ ys) → Falls p (x ∷ ys)
    skip f zero zero a b q = absurd (omega arith)
    skip f zero (suc j) a b q = f 0 (suc (suc j)) (omega arith) (omega arith) q
    skip f (suc i) zero a b q = absurd (omega arith)
    skip f (suc i) (suc j) a b q = f (suc (suc i)) (suc (suc j)) (omega arith) (omega arith) q

    go : (t : Bool) → p y ≡ t → count p ys ≡ 0 → bit t + count p ys ≡ 0
    go true q k = false_true (sym e ∙ h 0 1 (omega arith) (omega arith) q)
    go false q k = omega arith

pub tail : (p : ℕ → Bool) (x : ℕ) (xs : List ℕ) → Falls p (x ∷ xs) → Falls p xs
tail p x xs h i k a b q = h (suc i) (suc k) (omega arith) (omega arith) q

-- Two prefixes together are the longer
pub count_union : (p q : ℕ → Bool) (c : List ℕ) → Falls p c → Falls q c → count (λ m. p m || q m) c ≡ max (count p c) (count q c)
unfolding count
count_union p q [] f g = omega arith
count_union p q (x ∷ xs) f g = go (p x) refl (q x) refl (count_union p q xs (tail p x xs f) (tail q x xs g))
  where
    go : (s : Bool) → p x ≡ s → (t : Bool) → q x ≡ t → count (λ m. p m || q m) xs ≡ max (count p xs) (count q xs) →
        bit (s || t) + count (λ m. p m || q m) xs ≡ max (bit s + count p xs) (bit t + count q xs)
    go true e true d ih = omega arith
    go true e false d ih = omega (arith, none_after q x xs d g)
    go false e true d ih = omega (arith, none_after p x xs e f)
    go false e false d ih = omega arith

-- they meet the list in a prefix
pub falls_union : (p q : ℕ → Bool) (c : List ℕ) → Falls p c → Falls q c → Falls (λ m. p m || q m) c
falls_union p q c f g i j a b h = go (or_cases (p (get_or c j 0)) (q (get_or c j 0)) h)
  where
    right : (t : Bool) → t || true ≡ true
    right true = refl
    right false = refl

    go : (p (get_or c j 0) ≡ true) ⊎ (q (get_or c j 0) ≡ true) → p (get_or c i 0) || q (get_or c i 0) ≡ true
    go (inl e) = rw (f i j a b e)
    go (inr e) = rw (g i j a b e) (right (p (get_or c i 0)))

-- A test that the first k members pass, and no other, counts k
pub count-is : (p : ℕ → Bool) (c : List ℕ) (k : ℕ) → k ≤ length c → ((i : ℕ) → i < length c → p (get_or c i 0) ≡ ltb i k) → count p c ≡ k
unfolding count
count-is p [] k le h = omega arith
count-is p (x ∷ xs) zero le h = omega (arith, ap bit (h 0 (omega arith)), count-is p xs 0 (omega arith) (λ i a. h (suc i) (omega arith) ∙ (le-ltb (suc i) 0 (omega arith) ∙ sym (le-ltb i 0 (omega arith)))))
count-is p (x ∷ xs) (suc k) le h =
    omega (arith, ap bit (h 0 (omega arith) ∙ lt-ltb 0 (suc k) (omega arith)), count-is p xs k (omega arith) (λ i a. h (suc i) (omega arith) ∙ shift i))
  where
    shift : (i : ℕ) → ltb (suc i) (suc k) ≡ ltb i k
    shift i = go (lt_or_le i k)
      where
        go : (i < k) ⊎ (k ≤ i) → ltb (suc i) (suc k) ≡ ltb i k
        go (inl a) = lt-ltb (suc i) (suc k) (omega arith) ∙ sym (lt-ltb i k a)
        go (inr a) = le-ltb (suc i) (suc k) (omega arith) ∙ sym (le-ltb i k a)

-- All members pass exactly if as many pass as there are
pub all-count : (p : ℕ → Bool) (c : List ℕ) → all p c ≡ eqb (count p c) (length c)
unfolding count all
all-count p [] = refl
all-count p (x ∷ xs) = go (p x) (all-count p xs)
  where
    go : (t : Bool) → all p xs ≡ eqb (count p xs) (length xs) → t && all p xs ≡ eqb (bit t + count p xs) (suc (length xs))
    go true ih = ih ∙ cases (eq_or-not (count p xs) (length xs))
      where
        cases : (count p xs ≡ length xs) ⊎ (count p xs ≡ length xs → ⊥) → eqb (count p xs) (length xs) ≡ eqb (1 + count p xs) (suc (length xs))
        cases (inl e) = eq-eqb _ _ e ∙ sym (eq-eqb (1 + count p xs) (suc (length xs)) (omega arith))
        cases (inr n) = ne_eqb _ _ n ∙ sym (ne_eqb (1 + count p xs) (suc (length xs)) (λ e. n (omega arith)))
    go false ih = sym (ne_eqb (0 + count p xs) (suc (length xs)) (λ e. omega (arith, count_le p xs)))

-- One member more, which does not pass
pub count_snoc_out : (p : ℕ → Bool) (c : List ℕ) (r : ℕ) → p r ≡ false → count p (c ++ r ∷ []) ≡ count p c
unfolding count
count_snoc_out p c r e = omega (arith, count-append p c (r ∷ []), ap bit e)

-- Each member has all before it in its history
abbrev pub Chained : (ℕ → List ℕ) → List ℕ → Type 0
Chained hist c = (i j : ℕ) → i < j → j < length c → mem (get_or c i 0) (hist (get_or c j 0)) ≡ true

-- One more member, with all before it in its history
pub chained_snoc : (hist : ℕ → List ℕ) (c : List ℕ) (r : ℕ) → Chained hist c → all (λ m. mem m (hist r)) c ≡ true → Chained hist (c ++ r ∷ [])
chained_snoc hist c r h a i j p q = go (eq_or-not j (length c))
  where
    size : length (c ++ r ∷ []) ≡ suc (length c)
    size = omega (arith, length-append c (r ∷ []))

    old : (k : ℕ) → k < length c → get_or (c ++ r ∷ []) k 0 ≡ get_or c k 0
    old k lt = get_or-append c (r ∷ []) 0 k lt

    go : (j ≡ length c) ⊎ (j ≡ length c → ⊥) → mem (get_or (c ++ r ∷ []) i 0) (hist (get_or (c ++ r ∷ []) j 0)) ≡ true
    go (inl e) = rw (old i (omega arith), e, get_or-append_seam c r [] 0) (all-at (λ m. mem m (hist r)) c a (get_or c i 0) (get_d_mem c i 0 (omega arith)))
    go (inr e) = rw (old i (omega (arith, size, less e)), old j (less e)) (h i j p (less e))
      where
        less : (j ≡ length c → ⊥) → j < length c
        less e = omega (arith, size)
