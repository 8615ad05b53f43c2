-- 01, "walk.rs": a range of runs, numbered from 0 within it, and its chains and rows. Assumes nothing.
use Rattle.std.specs.Prelude.{true, false, List, [], ◌∷◌, ◌++◌, map, ℕ, suc, ◌-◌, take, drop, leb}
use Rattle.lists.specs.Lists.{all, filter, count, mem}
use Rattle.model.specs.Graph.{Graph, start}

-- "parents before it are dropped"; a run of the range keeps its number less the range's first run
unfoldable pub parents_in : Graph → ℕ → ℕ → List (List ℕ)
parents_in g a b = map (λ ps. map (λ p. p - a) (filter (λ p. leb a p) ps)) (take (b - a) (drop a g.parents))

-- where each run starts, as an offset within the range, and where the last ends
unfoldable pub starts_in : Graph → ℕ → ℕ → List ℕ
starts_in g a b = map (λ s. s - start g a) (take (suc (b - a)) (drop a g.starts))

-- the events of each run
unfoldable pub sizes_of : List ℕ → List ℕ
sizes_of [] = []
sizes_of (x ∷ []) = []
sizes_of (x ∷ y ∷ ys) = (y - x) ∷ sizes_of (y ∷ ys)

-- "a run joins the first chain whose runs it has all seen, else begins one": run r with history h
unfoldable pub join : ℕ → List ℕ → List (List ℕ) → List (List ℕ)
join r h [] = (r ∷ []) ∷ []
join r h (c ∷ cs) = elim (all (λ m. mem m h) c) [ true ↦ (c ++ r ∷ []) ∷ cs | false ↦ c ∷ join r h cs ]

-- the chains after the runs from r on, whose histories are given, have joined in run order
unfoldable pub chains_from : ℕ → List (List ℕ) → List (List ℕ) → List (List ℕ)
chains_from r cs [] = cs
chains_from r cs (h ∷ hs) = chains_from (suc r) (join r h cs) hs

-- "Its row says per chain begun so far, its own included, how many runs are in its history"
unfoldable pub row : List ℕ → List (List ℕ) → List ℕ
row h cs = map (λ c. count (λ m. mem m h) c) cs

-- the rows of the runs from r on
unfoldable pub rows_from : ℕ → List (List ℕ) → List (List ℕ) → List (List ℕ)
rows_from r cs [] = []
rows_from r cs (h ∷ hs) = row h (join r h cs) ∷ rows_from (suc r) (join r h cs) hs
