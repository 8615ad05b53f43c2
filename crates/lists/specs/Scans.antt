-- What scans, insertions and filters over lists find and leave. Assumes nothing.
use Rattle.std.specs.Prelude.{Bool, true, false, cond, ◌&&◌, List, [], ◌∷◌, ◌++◌, map, ℕ, zero, suc, ◌+◌, take, drop, get_or, leb}
use Rattle.lists.specs.Lists.{rising, below}

-- the last place below n whose number is at most e, 0 where there is none
unfoldable pub last_at_most : List ℕ → ℕ → ℕ → ℕ
last_at_most xs e zero = 0
last_at_most xs e (suc n) = cond (leb (get_or xs n 0) e) n (last_at_most xs e n)

-- a number from `from` on grows by `by`
unfoldable pub grow : ℕ → ℕ → ℕ → ℕ
grow from by v = cond (leb from v) (v + by) v

-- `item` put in at `at`, each later one changed by f
unfoldable pub insert : ℕ → ℕ → (ℕ → ℕ) → List ℕ → List ℕ
insert at item f xs = take at xs ++ (item ∷ map f (drop at xs))

-- the same in an area of which the first n places are in use: the place after them is taken up
unfoldable pub insert_in : ℕ → ℕ → ℕ → (ℕ → ℕ) → List ℕ → List ℕ
insert_in n at item f a = insert at item f (take n a) ++ drop (suc n) a

-- each group, numbered from r on, is strictly rising and below its number
unfoldable pub groups_fit : ℕ → List (List ℕ) → Bool
groups_fit r [] = true
groups_fit r (x ∷ xs) = rising x && below r x && groups_fit (suc r) xs

-- each number of the second list is at least f, and at most the number at its place in the first
unfoldable pub between : ℕ → List ℕ → List ℕ → Bool
between f xs [] = true
between f [] (s ∷ ss) = false
between f (x ∷ xs) (s ∷ ss) = leb f s && leb s x && between f xs ss

-- how many numbers a list by value has room for
abbrev pub max_kept : ℕ
max_kept = 512
