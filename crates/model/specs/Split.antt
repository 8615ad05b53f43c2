-- 01, "pushes and run starts": a split, and each held parent's run split after it. Assumes nothing.
use Rattle.std.specs.Prelude.{Bool, true, false, not, cond, List, [], ◌∷◌, map, ℕ, suc, min, get_or, ltb, eqb}
use Rattle.lists.specs.Lists.{insert_at, mem, count}
use Rattle.model.specs.Graph.{Graph, start, containing, held}

-- "Later runs that named the split run name the second part", and each run after it moves up one
unfoldable pub renumber : ℕ → ℕ → ℕ
renumber r p = cond (ltb p r) p (suc p)

-- What the second part of run r gets: "seen `at` if the first's seen equals its start, else the same seen"
unfoldable pub second_seen : Graph → ℕ → ℕ → ℕ
second_seen g r at = let seen = get_or g.seen r 0 in cond (eqb seen (start g r)) at seen

-- "A split at `at` gives the second part the first as its only parent"; `changed_from` "is lowered to each .. split .. run"
unfoldable pub split : Graph → ℕ → ℕ → Graph
split g r at = record {
  starts = insert_at (suc r) at g.starts;
  parents = insert_at (suc r) (r ∷ []) (map (map (renumber r)) g.parents);
  frontier = g.frontier;
  seen = insert_at (suc r) (second_seen g r at) g.seen;
  changed = min r g.changed;
}

-- "a run or the graph ends there": after event p
unfoldable pub ends : Graph → ℕ → Bool
ends g p = mem (suc p) g.starts

-- "each held parent p splits its run after p, unless a run or the graph ends there"; the parents given are held ones
unfoldable pub split_after : Graph → List ℕ → Graph
split_after g [] = g
split_after g (p ∷ ps) = elim (ends g p) [ true ↦ split_after g ps | false ↦ split_after (split g (containing g p) (suc p)) ps ]

-- how many of the parents split a run
unfoldable pub splits : Graph → List ℕ → ℕ
splits g ps = count (λ p. not (ends g p)) (held g ps)
