-- Lists in areas: zeros past a list's end, words written into a lent list, groups beside their flat form. Assumes nothing.
use Rattle.std.specs.Prelude.{Bool, true, false, ◌&&◌, List, [], ◌∷◌, ◌++◌, ℕ, ◌+◌, ◌-◌, length, take, drop, replicate, leb, eqb}
use Rattle.lists.specs.Lists.{all}

-- each place is 0
unfoldable pub zeros : List ℕ → Bool
zeros xs = all (λ x. eqb x 0) xs

-- zeros after a list, up to `n` places
unfoldable pub pad : ℕ → List ℕ → List ℕ
pad n xs = xs ++ replicate (n - length xs) 0

-- words written from the start of a lent list, the rest of which keeps its value
unfoldable pub over : List ℕ → List ℕ → List ℕ
over words lent = words ++ drop (length words) lent

-- the whole records that fit into `room` words, from the first on
unfoldable pub fitting : ℕ → List (List ℕ) → List (List ℕ)
fitting room [] = []
fitting room (r ∷ rs) = elim (leb (length r) room) [ true ↦ r ∷ fitting (room - length r) rs | false ↦ [] ]

-- where each group begins in the flat list, the first at `n`, and where the last ends
unfoldable pub group_starts : ℕ → List (List ℕ) → List ℕ
group_starts n [] = n ∷ []
group_starts n (x ∷ xs) = n ∷ group_starts (n + length x) xs

-- the items from place `s` up to, not including, place `t`
unfoldable pub part : ℕ → ℕ → List ℕ → List ℕ
part s t items = take (t - s) (drop s items)

-- the groups between the starts
unfoldable pub groups : List ℕ → List ℕ → List (List ℕ)
groups [] items = []
groups (s ∷ []) items = []
groups (s ∷ t ∷ ts) items = part s t items ∷ groups (t ∷ ts) items

-- the starts never fall, and the last is `n`
unfoldable pub climbs : ℕ → List ℕ → Bool
climbs n [] = false
climbs n (s ∷ []) = eqb s n
climbs n (s ∷ t ∷ ts) = leb s t && climbs n (t ∷ ts)
