-- What holds of each number of a list. Assumes nothing.
use Rattle.std.proofs.Common.{◌≡◌, refl, Bool, true, false, cond, List, [], ◌∷◌, ◌++◌, ℕ, zero, suc, ◌+◌, ◌<◌, arith, take, eqb, eq-eqb}
use Rattle.lists.specs.Lists.{filter, reverse, from, mem}
use Rattle.lists.proofs.Truth.{or_right}

-- P holds of each
abbrev pub All : (ℕ → Type 0) → List ℕ → Type 0
All P [] = Unit {0}
All P (x ∷ xs) = P x × All P xs

-- What follows from it
pub all_map : {P Q : ℕ → Type 0} → ((x : ℕ) → P x → Q x) → (xs : List ℕ) → All P xs → All Q xs
all_map f [] h = tt
all_map f (x ∷ xs) h = (f x h.0, all_map f xs h.1)

-- Lists made of such lists
pub all_append : (P : ℕ → Type 0) (xs ys : List ℕ) → All P xs → All P ys → All P (xs ++ ys)
all_append P [] ys h k = k
all_append P (x ∷ xs) ys h k = (h.0, all_append P xs ys h.1 k)

pub all_filter : (P : ℕ → Type 0) (p : ℕ → Bool) (xs : List ℕ) → All P xs → All P (filter p xs)
unfolding filter
all_filter P p [] h = tt
all_filter P p (x ∷ xs) h = go (p x) (all_filter P p xs h.1)
  where
    go : (t : Bool) → All P (filter p xs) → All P (cond t (x ∷ filter p xs) (filter p xs))
    go true k = (h.0, k)
    go false k = k

pub all_take : (P : ℕ → Type 0) (n : ℕ) (xs : List ℕ) → All P xs → All P (take n xs)
all_take P zero xs h = tt
all_take P (suc n) [] h = tt
all_take P (suc n) (x ∷ xs) h = (h.0, all_take P n xs h.1)

pub all-reverse : (P : ℕ → Type 0) (done xs : List ℕ) → All P done → All P xs → All P (reverse done xs)
unfolding reverse
all-reverse P done [] d h = d
all-reverse P done (x ∷ xs) d h = all-reverse P (x ∷ done) xs (h.0, d) h.1

-- A stretch of numbers lies below its end
pub all_from : (a n : ℕ) → All (λ x. x < a + n) (from a n)
unfolding from
all_from a zero = tt
all_from a (suc n) = (omega arith, all_map (λ x h. omega arith) (from (suc a) n) (all_from (suc a) n))

-- A list's numbers are members of it
pub members : (xs : List ℕ) → All (λ x. mem x xs ≡ true) xs
unfolding mem
members xs = go xs (λ x m. m)
  where
    go : (ys : List ℕ) → ((x : ℕ) → mem x ys ≡ true → mem x xs ≡ true) → All (λ x. mem x xs ≡ true) ys
    go [] f = tt
    go (y ∷ ys) f = (f y (rw (eq-eqb y y refl)), go ys (λ x m. f x (or_right (eqb x y) m)))
