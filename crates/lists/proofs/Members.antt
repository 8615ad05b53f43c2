-- Members of lists of numbers, and tests of each member. Assumes nothing.
use Rattle.std.proofs.Common.{◌≡◌, refl, sym, ap, ◌∙◌, subst, ◌⊎◌, inl, inr, Bool, true, false, cond, ◌&&◌, ◌||◌, List, [], ◌∷◌, ◌++◌, map, ℕ, zero, suc, ◌≤◌, ◌<◌, arith, length, get_or, drop}
use Rattle.std.proofs.Common.{eqb, eqb-true, eq-eqb}
use Rattle.lists.specs.Lists.{any, all, filter, mem, same}
use Rattle.lists.proofs.Truth.{false_true, and_left, and_right, and_both, and_assoc, or_cases, or_assoc, or_left, or_right}

-- A list with one number in front
pub mem-first : (p : ℕ) (ps : List ℕ) → mem p (p ∷ ps) ≡ true
unfolding mem
mem-first p ps = or_left (mem p ps) (eq-eqb p p refl)

pub mem-rest : (p q : ℕ) (ps : List ℕ) → mem q ps ≡ true → mem q (p ∷ ps) ≡ true
unfolding mem
mem-rest p q ps m = or_right (eqb q p) m

pub mem-either : (p q : ℕ) (ps : List ℕ) → mem q (p ∷ ps) ≡ true → (q ≡ p) ⊎ (mem q ps ≡ true)
unfolding mem
mem-either p q ps m = go (or_cases (eqb q p) (mem q ps) m)
  where
    go : (eqb q p ≡ true) ⊎ (mem q ps ≡ true) → (q ≡ p) ⊎ (mem q ps ≡ true)
    go (inl e) = inl (eqb-true q p e)
    go (inr k) = inr k

-- The only number of a list
pub mem_one : (p r : ℕ) → mem p (r ∷ []) ≡ true → p ≡ r
unfolding mem
mem_one p r m = go (or_cases (eqb p r) false m)
  where
    go : (eqb p r ≡ true) ⊎ (false ≡ true) → p ≡ r
    go (inl e) = eqb-true p r e
    go (inr e) = false_true e

-- Members of two lists
pub mem-append : (m : ℕ) (xs ys : List ℕ) → mem m (xs ++ ys) ≡ mem m xs || mem m ys
unfolding mem
mem-append m [] ys = refl
mem-append m (x ∷ xs) ys = rw (mem-append m xs ys) (sym (or_assoc (eqb m x) (mem m xs) (mem m ys)))

-- Members of a list are at its places, and what is at them are members
pub mem_index : (x d : ℕ) (xs : List ℕ) → mem x xs ≡ true → (j : ℕ) × (j < length xs) × (get_or xs j d ≡ x)
unfolding mem
mem_index x d [] m = false_true m
mem_index x d (y ∷ ys) m = go (or_cases (eqb x y) (mem x ys) m) (λ k. mem_index x d ys k)
  where
    go : (eqb x y ≡ true) ⊎ (mem x ys ≡ true) → (mem x ys ≡ true → (j : ℕ) × (j < length ys) × (get_or ys j d ≡ x)) →
        (j : ℕ) × (j < suc (length ys)) × (get_or (y ∷ ys) j d ≡ x)
    go (inl e) ih = (0, omega arith, sym (eqb-true x y e))
    go (inr k) ih = let r : (j : ℕ) × (j < length ys) × (get_or ys j d ≡ x) = ih k in (suc r.0, omega (arith, r.1), r.2)

pub get_d_mem : (xs : List ℕ) (i d : ℕ) → i < length xs → mem (get_or xs i d) xs ≡ true
unfolding mem
get_d_mem [] i d lt = absurd (omega arith)
get_d_mem (x ∷ xs) zero d lt = rw (eq-eqb x x refl)
get_d_mem (x ∷ xs) (suc i) d lt = or_right (eqb (get_or xs i d) x) (get_d_mem xs i d (omega arith))

-- Inside a list what a read gives past the end plays no part
pub get_d_any : (xs : List ℕ) (i d k : ℕ) → i < length xs → get_or xs i d ≡ get_or xs i k
get_d_any [] i d k lt = absurd (omega arith)
get_d_any (x ∷ xs) zero d k lt = refl
get_d_any (x ∷ xs) (suc i) d k lt = get_d_any xs i d k (omega arith)

-- A read of a list with one number behind it: past the list it gives that number
pub get_d_snoc : (xs : List ℕ) (n d i : ℕ) → i ≤ length xs → get_or (xs ++ n ∷ []) i d ≡ get_or xs i n
get_d_snoc [] n d zero h = refl
get_d_snoc [] n d (suc i) h = absurd (omega arith)
get_d_snoc (x ∷ xs) n d zero h = refl
get_d_snoc (x ∷ xs) n d (suc i) h = get_d_snoc xs n d i (omega arith)

-- What passes a filter is a member that passes its test
pub mem-filter : (p : ℕ → Bool) (x : ℕ) (xs : List ℕ) → mem x (filter p xs) ≡ true → (mem x xs ≡ true) × (p x ≡ true)
unfolding filter mem
mem-filter p x [] m = false_true m
mem-filter p x (y ∷ ys) m = go (p y) refl (λ k. mem-filter p x ys k) m
  where
    go : (t : Bool) → p y ≡ t → (mem x (filter p ys) ≡ true → (mem x ys ≡ true) × (p x ≡ true)) → mem x (cond t (y ∷ filter p ys) (filter p ys)) ≡ true →
        (eqb x y || mem x ys ≡ true) × (p x ≡ true)
    go true e ih k = cases (or_cases (eqb x y) (mem x (filter p ys)) k)
      where
        cases : (eqb x y ≡ true) ⊎ (mem x (filter p ys) ≡ true) → (eqb x y || mem x ys ≡ true) × (p x ≡ true)
        cases (inl q) = (or_left (mem x ys) q, subst (λ (k : ℕ). p k ≡ true) (sym (eqb-true x y q)) e)
        cases (inr q) = (or_right (eqb x y) (ih q).0, (ih q).1)
    go false e ih k = (or_right (eqb x y) (ih k).0, (ih k).1)

pub filter-mem : (p : ℕ → Bool) (x : ℕ) (xs : List ℕ) → mem x xs ≡ true → p x ≡ true → mem x (filter p xs) ≡ true
unfolding filter mem
filter-mem p x [] m q = m
filter-mem p x (y ∷ ys) m q = go (p y) refl (or_cases (eqb x y) (mem x ys) m) (λ k. filter-mem p x ys k q)
  where
    go : (t : Bool) → p y ≡ t → (eqb x y ≡ true) ⊎ (mem x ys ≡ true) → (mem x ys ≡ true → mem x (filter p ys) ≡ true) → mem x (cond t (y ∷ filter p ys) (filter p ys)) ≡ true
    go true e (inl k) ih = or_left (mem x (filter p ys)) k
    go true e (inr k) ih = or_right (eqb x y) (ih k)
    go false e (inl k) ih = false_true (sym e ∙ subst (λ (k : ℕ). p k ≡ true) (eqb-true x y k) q)
    go false e (inr k) ih = ih k

-- The members of a mapped list are the values at members
pub mem-map : (f : ℕ → ℕ) (x : ℕ) (xs : List ℕ) → mem x xs ≡ true → mem (f x) (map f xs) ≡ true
unfolding mem
mem-map f x [] m = m
mem-map f x (y ∷ ys) m = go (or_cases (eqb x y) (mem x ys) m) (λ k. mem-map f x ys k)
  where
    go : (eqb x y ≡ true) ⊎ (mem x ys ≡ true) → (mem x ys ≡ true → mem (f x) (map f ys) ≡ true) → eqb (f x) (f y) || mem (f x) (map f ys) ≡ true
    go (inl e) ih = or_left (mem (f x) (map f ys)) (eq-eqb (f x) (f y) (ap f (eqb-true x y e)))
    go (inr k) ih = or_right (eqb (f x) (f y)) (ih k)

pub map-mem : (f : ℕ → ℕ) (y : ℕ) (xs : List ℕ) → mem y (map f xs) ≡ true → (x : ℕ) × (mem x xs ≡ true) × (y ≡ f x)
unfolding mem
map-mem f y [] m = false_true m
map-mem f y (x ∷ xs) m = go (or_cases (eqb y (f x)) (mem y (map f xs)) m) (λ k. map-mem f y xs k)
  where
    go : (eqb y (f x) ≡ true) ⊎ (mem y (map f xs) ≡ true) → (mem y (map f xs) ≡ true → (z : ℕ) × (mem z xs ≡ true) × (y ≡ f z)) →
        (z : ℕ) × (eqb z x || mem z xs ≡ true) × (y ≡ f z)
    go (inl e) ih = (x, or_left (mem x xs) (eq-eqb x x refl), eqb-true y (f x) e)
    go (inr k) ih = let r : (z : ℕ) × (mem z xs ≡ true) × (y ≡ f z) = ih k in (r.0, or_right (eqb r.0 x) r.1, r.2)

-- Functions that agree on a list
pub map_same : (f g : ℕ → ℕ) (xs : List ℕ) → ((x : ℕ) → mem x xs ≡ true → f x ≡ g x) → map f xs ≡ map g xs
unfolding mem
map_same f g [] h = refl
map_same f g (x ∷ xs) h = rw (h x (or_left (mem x xs) (eq-eqb x x refl)), map_same f g xs (λ y m. h y (or_right (eqb y x) m)))

-- A map that leaves each number of a list leaves the list
pub map_leaves : (f : ℕ → ℕ) (xs : List ℕ) → ((x : ℕ) → mem x xs ≡ true → f x ≡ x) → map f xs ≡ xs
unfolding mem
map_leaves f [] h = refl
map_leaves f (x ∷ xs) h = rw (h x (or_left (mem x xs) (eq-eqb x x refl)), map_leaves f xs (λ y m. h y (or_right (eqb y x) m)))

-- Each number passes: by members, and by places
pub all_of : (p : ℕ → Bool) (xs : List ℕ) → ((x : ℕ) → mem x xs ≡ true → p x ≡ true) → all p xs ≡ true
unfolding all mem
all_of p [] h = refl
all_of p (x ∷ xs) h = and_both (p x) (all p xs) (h x (rw (eq-eqb x x refl))) (all_of p xs (λ y q. h y (or_right (eqb y x) q)))

pub all-at : (p : ℕ → Bool) (xs : List ℕ) → all p xs ≡ true → (x : ℕ) → mem x xs ≡ true → p x ≡ true
unfolding all mem
all-at p [] h x m = false_true m
all-at p (y ∷ ys) h x m = go (eqb x y) refl (all-at p ys (and_right (p y) (all p ys) h) x)
  where
    go : (t : Bool) → eqb x y ≡ t → (mem x ys ≡ true → p x ≡ true) → p x ≡ true
    go true e ih = rw (eqb-true x y e) (and_left (p y) (all p ys) h)
    go false e ih = ih (rw e at m)

pub get_d_all : (p : ℕ → Bool) (xs : List ℕ) → ((i : ℕ) → i < length xs → p (get_or xs i 0) ≡ true) → all p xs ≡ true
unfolding all
get_d_all p [] h = refl
get_d_all p (x ∷ xs) h = and_both (p x) (all p xs) (h 0 (omega arith)) (get_d_all p xs (λ i lt. h (suc i) (omega arith)))

pub all_get_d : (p : ℕ → Bool) (xs : List ℕ) (i : ℕ) → all p xs ≡ true → i < length xs → p (get_or xs i 0) ≡ true
unfolding all
all_get_d p [] i h lt = absurd (omega arith)
all_get_d p (x ∷ xs) zero h lt = and_left (p x) (all p xs) h
all_get_d p (x ∷ xs) (suc i) h lt = all_get_d p xs i (and_right (p x) (all p xs) h) (omega arith)

-- What all items from a place on pass, each one at it or after passes
pub all-from_on : (p : ℕ → Bool) (q r : ℕ) (l : List ℕ) → q ≤ r → r < length l → all p (drop q l) ≡ true → p (get_or l r 0) ≡ true
all-from_on p zero r l h k e = all_get_d p l r e k
all-from_on p (suc q) r [] h k e = absurd (omega arith)
all-from_on p (suc q) zero (x ∷ xs) h k e = absurd (omega arith)
all-from_on p (suc q) (suc r) (x ∷ xs) h k e = all-from_on p q r xs (omega arith) (omega arith) e

-- Where not each number passes, one fails
pub all_fails : (p : ℕ → Bool) (xs : List ℕ) → all p xs ≡ false → (x : ℕ) × (mem x xs ≡ true) × (p x ≡ false)
unfolding all mem
all_fails p [] h = false_true (sym h)
all_fails p (y ∷ ys) h = go (p y) refl h (λ k. all_fails p ys k)
  where
    go : (b : Bool) → p y ≡ b → b && all p ys ≡ false → (all p ys ≡ false → (x : ℕ) × (mem x ys ≡ true) × (p x ≡ false)) →
        (x : ℕ) × (mem x (y ∷ ys) ≡ true) × (p x ≡ false)
    go true e k ih =
        let r : (x : ℕ) × (mem x ys ≡ true) × (p x ≡ false) = ih k in (r.0, or_right (eqb r.0 y) r.1, r.2)
    go false e k ih = (y, or_left (mem y ys) (eq-eqb y y refl), e)

-- One number passes
pub any_intro : (p : ℕ → Bool) (xs : List ℕ) (x : ℕ) → mem x xs ≡ true → p x ≡ true → any p xs ≡ true
unfolding any mem
any_intro p [] x m q = m
any_intro p (y ∷ ys) x m q = go (or_cases (eqb x y) (mem x ys) m) (λ m₂. any_intro p ys x m₂ q)
  where
    go : (eqb x y ≡ true) ⊎ (mem x ys ≡ true) → (mem x ys ≡ true → any p ys ≡ true) → p y || any p ys ≡ true
    go (inl e) ih = or_left (any p ys) (subst (λ (k : ℕ). p k ≡ true) (eqb-true x y e) q)
    go (inr m₂) ih = or_right (p y) (ih m₂)

pub any_elim : (p : ℕ → Bool) (xs : List ℕ) → any p xs ≡ true → (x : ℕ) × (mem x xs ≡ true) × (p x ≡ true)
unfolding any mem
any_elim p [] h = false_true h
any_elim p (y ∷ ys) h = go (or_cases (p y) (any p ys) h) (λ k. any_elim p ys k)
  where
    go : (p y ≡ true) ⊎ (any p ys ≡ true) → (any p ys ≡ true → (x : ℕ) × (mem x ys ≡ true) × (p x ≡ true)) →
        (x : ℕ) × (eqb x y || mem x ys ≡ true) × (p x ≡ true)
    go (inl q) ih = (y, or_left (mem y ys) (eq-eqb y y refl), q)
    go (inr k) ih = let r : (x : ℕ) × (mem x ys ≡ true) × (p x ≡ true) = ih k in (r.0, or_right (eqb r.0 y) r.1, r.2)

-- Tests that agree on a list
pub any_same : (p q : ℕ → Bool) (xs : List ℕ) → ((x : ℕ) → mem x xs ≡ true → p x ≡ q x) → any p xs ≡ any q xs
unfolding any mem
any_same p q [] h = refl
any_same p q (x ∷ xs) h =
    rw (h x (or_left (mem x xs) (eq-eqb x x refl)), any_same p q xs (λ y m. h y (or_right (eqb y x) m)))

pub all_same : (p q : ℕ → Bool) (xs : List ℕ) → ((x : ℕ) → mem x xs ≡ true → p x ≡ q x) → all p xs ≡ all q xs
unfolding all
all_same p q [] h = refl
all_same p q (x ∷ xs) h = rw (h x (mem-first x xs), all_same p q xs (λ y m. h y (mem-rest x y xs m)))

pub filter_agree : (p q : ℕ → Bool) (xs : List ℕ) → ((x : ℕ) → mem x xs ≡ true → p x ≡ q x) → filter p xs ≡ filter q xs
unfolding filter
filter_agree p q [] h = refl
filter_agree p q (x ∷ xs) h = rw (h x (mem-first x xs), filter_agree p q xs (λ y m. h y (mem-rest x y xs m)))

-- Those of mapped numbers that pass
pub filter_map : (p : ℕ → Bool) (f : ℕ → ℕ) (xs : List ℕ) → filter p (map f xs) ≡ map f (filter (λ x. p (f x)) xs)
unfolding filter
filter_map p f [] = refl
filter_map p f (x ∷ xs) = rw (filter_map p f xs) (go (p (f x)))
  where
    go : (t : Bool) → cond t (f x ∷ map f (filter (λ x. p (f x)) xs)) (map f (filter (λ x. p (f x)) xs)) ≡ map f (cond t (x ∷ filter (λ x. p (f x)) xs) (filter (λ x. p (f x)) xs))
    go true = refl
    go false = refl

-- The same numbers in the same order are the same list
pub same_eq : (xs ys : List ℕ) → same xs ys ≡ true → xs ≡ ys
unfolding same
same_eq [] [] h = refl
same_eq [] (y ∷ ys) h = false_true h
same_eq (x ∷ xs) [] h = false_true h
same_eq (x ∷ xs) (y ∷ ys) h = rw (eqb-true x y (and_left (eqb x y) (same xs ys) h), same_eq xs ys (and_right (eqb x y) (same xs ys) h))

pub same_self : (xs : List ℕ) → same xs xs ≡ true
unfolding same
same_self [] = refl
same_self (x ∷ xs) = rw (eq-eqb x x refl) (same_self xs)

module _ {ℓ} {A : Type ℓ} where
  -- A test of all items of two lists
  pub all_both : (p : A → Bool) (xs ys : List A) → all p (xs ++ ys) ≡ all p xs && all p ys
  unfolding all
  all_both p [] ys = refl
  all_both p (x ∷ xs) ys = ap (λ (t : Bool). p x && t) (all_both p xs ys) ∙ and_assoc (p x) (all p xs) (all p ys)
