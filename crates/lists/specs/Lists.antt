-- Lists as sets, tables and orders. Assumes nothing.
use Rattle.std.specs.Prelude.{Bool, true, false, cond, ◌&&◌, ◌||◌, List, [], ◌∷◌, ◌++◌, ℕ, zero, suc, ◌+◌, ◌-◌, ◌/◌, min, max, take, drop, ltb, eqb}

-- 1 for a test that passes
abbrev pub bit : Bool → ℕ
bit true = 1
bit false = 0

module _ {ℓ} {A : Type ℓ} where
  -- one passes
  unfoldable pub any : (A → Bool) → List A → Bool
  any p [] = false
  any p (x ∷ xs) = p x || any p xs

  -- each one passes
  unfoldable pub all : (A → Bool) → List A → Bool
  all p [] = true
  all p (x ∷ xs) = p x && all p xs

  -- those that pass, in their order
  unfoldable pub filter : (A → Bool) → List A → List A
  filter p [] = []
  filter p (x ∷ xs) = cond (p x) (x ∷ filter p xs) (filter p xs)

  -- how many pass
  unfoldable pub count : (A → Bool) → List A → ℕ
  count p [] = 0
  count p (x ∷ xs) = bit (p x) + count p xs

  unfoldable pub sum : (A → ℕ) → List A → ℕ
  sum f [] = 0
  sum f (x ∷ xs) = f x + sum f xs

  unfoldable pub concat : List (List A) → List A
  concat [] = []
  concat (x ∷ xs) = x ++ concat xs

  -- the items of a list, last first, before those of `done`
  unfoldable pub reverse : List A → List A → List A
  reverse done [] = done
  reverse done (x ∷ xs) = reverse (x ∷ done) xs

  -- `x` before the item at `i`
  unfoldable pub insert_at : ℕ → A → List A → List A
  insert_at i x l = take i l ++ x ∷ drop i l

-- the numbers from `a`, as many as `n`
unfoldable pub from : ℕ → ℕ → List ℕ
from a zero = []
from a (suc n) = a ∷ from (suc a) n

-- the numbers below `n`
unfoldable pub upto : ℕ → List ℕ
upto n = from 0 n

-- x is among the numbers
unfoldable pub mem : ℕ → List ℕ → Bool
mem x [] = false
mem x (y ∷ ys) = eqb x y || mem x ys

-- how often x stands in a list
unfoldable pub occurs : ℕ → List ℕ → ℕ
occurs x ys = count (λ y. eqb y x) ys

-- the same numbers in the same order
unfoldable pub same : List ℕ → List ℕ → Bool
same [] [] = true
same [] (y ∷ ys) = false
same (x ∷ xs) [] = false
same (x ∷ xs) (y ∷ ys) = eqb x y && same xs ys

-- strictly rising
unfoldable pub rising : List ℕ → Bool
rising [] = true
rising (x ∷ []) = true
rising (x ∷ y ∷ ys) = ltb x y && rising (y ∷ ys)

-- each number is below `n`
unfoldable pub below : ℕ → List ℕ → Bool
below n xs = all (λ x. ltb x n) xs

-- the largest, or `d` where there is none
unfoldable pub largest : ℕ → List ℕ → ℕ
largest d [] = d
largest d (x ∷ []) = x
largest d (x ∷ y ∷ ys) = max x (largest d (y ∷ ys))

-- the least of `d` and a list
unfoldable pub least : ℕ → List ℕ → ℕ
least d [] = d
least d (x ∷ xs) = min x (least d xs)

-- `x / m`, rounded up
unfoldable pub ceil : ℕ → ℕ → ℕ
ceil x m = (x + (m - 1)) / m
