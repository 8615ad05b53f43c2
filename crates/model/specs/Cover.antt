-- 01, "walk.rs": covers and weights. A cover is a set of the range's 127ths. Assumes nothing.
use Rattle.std.specs.Prelude.{Bool, true, false, ◌&&◌, ◌||◌, List, [], ◌∷◌, map, ℕ, suc, ◌/◌, max, length, get_or, leb, ltb}
use Rattle.lists.specs.Lists.{count, upto, mem, ceil}
use Rattle.model.specs.Limits.{cover_bits}

-- "per_bit = max(1, ceil(events/127))"
unfoldable pub per_bit : ℕ → ℕ
per_bit events = max 1 (ceil events cover_bits)

-- "a run covers bits floor(first/per_bit) up to, not including, ceil(end/per_bit), offsets within the range"
unfoldable pub own_bits : ℕ → ℕ → ℕ → List Bool
own_bits per first end = map (λ k. leb (first / per) k && ltb k (ceil end per)) (upto cover_bits)

-- the bits of either
unfoldable pub either : List Bool → List Bool → List Bool
either [] ys = []
either (x ∷ xs) [] = []
either (x ∷ xs) (y ∷ ys) = (x || y) ∷ either xs ys

-- "joined with its children's": of the later runs, whose parents and covers are given, those that have r for a parent
unfoldable pub join_children : ℕ → List Bool → List (List ℕ) → List (List Bool) → List Bool
join_children r bits [] cs = bits
join_children r bits (ps ∷ pss) [] = bits
join_children r bits (ps ∷ pss) (c ∷ cs) = elim (mem r ps) [
  | true ↦ either c (join_children r bits pss cs)
  | false ↦ join_children r bits pss cs
]

-- the covers of the runs from r on, whose parents are given
unfoldable pub covers_from : ℕ → ℕ → List ℕ → List (List ℕ) → List (List Bool)
covers_from per r starts [] = []
covers_from per r starts (ps ∷ pss) =
    let cs : List (List Bool) = covers_from per (suc r) starts pss in
    join_children r (own_bits per (get_or starts r 0) (get_or starts (suc r) 0)) pss cs ∷ cs

-- "Weight is its bits set"
unfoldable pub weights : List ℕ → List (List ℕ) → List ℕ
weights starts parents = map (λ c. count (λ x. x) c) (covers_from (per_bit (get_or starts (length parents) 0)) 0 starts parents)
