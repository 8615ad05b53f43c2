-- 01, "pushes and run starts": `push`, what it answers and the graph it leaves, on every input. Assumes nothing.
use Rattle.std.specs.Prelude.{true, false, not, cond, ◌&&◌, List, [], ◌∷◌, ◌++◌, map, ℕ, suc, ◌+◌, ◌-◌, min, length, get_or, take, ltb, eqb, Ok, Err}
use Rattle.lists.specs.Lists.{filter, mem, same, rising, largest, least}
use Rattle.model.specs.declared.record.CausalGraph.{CausalGraph}
use Rattle.model.specs.declared.answers.Refusal.{Refusal}
use Rattle.model.specs.Limits.{max_len, max_runs, max_entries, max_frontier}
use Rattle.model.specs.Refusals.{refusal, first_of, Outcome}
use Rattle.model.specs.Answers.{events_or, Pushed}
use Rattle.model.specs.Graph.{Graph, runs, start, first_held, len, entries, containing, marks, held, all_known, extends}
use Rattle.model.specs.Record.{view, store}
use Rattle.model.specs.Broken.{broken}
use Rattle.model.specs.Split.{splits, split_after}

-- "Frontier: those not named stay"
unfoldable pub staying : Graph → List ℕ → List ℕ
staying g ps = filter (λ e. not (mem e ps)) g.frontier

-- "the last run grows", by n events; "the new last event joins" the frontier
unfoldable pub grown : Graph → List ℕ → ℕ → Graph
grown g ps n = record {
  starts = take (runs g) g.starts ++ (len g + n) ∷ [];
  parents = g.parents;
  frontier = staying g ps ++ (len g + n - 1) ∷ [];
  seen = g.seen;
  changed = min (runs g - 1) g.changed;
}

-- "The new run's parents are the runs ending in the held parents"
unfoldable pub parent_runs : Graph → List ℕ → List ℕ
parent_runs g ps = map (containing g) (held g ps)

-- "Seen after a run is its end where its seen equals its start, else its seen"
unfoldable pub seen_after : Graph → ℕ → ℕ
seen_after g r = cond (eqb (get_or g.seen r 0) (start g r)) (start g (suc r)) (get_or g.seen r 0)

-- "Seen of a new run: its own start, if the parents equal the frontier; else the largest 'seen after' of its parent runs; else,
-- without any, the first held"
unfoldable pub new_seen : Graph → List ℕ → ℕ
new_seen g ps = cond (same ps g.frontier) (len g) (largest (first_held g) (map (seen_after g) (parent_runs g ps)))

-- A new run of n events, once the held parents end runs
unfoldable pub joined : Graph → List ℕ → ℕ → Graph
joined g ps n = record {
  starts = g.starts ++ (len g + n) ∷ [];
  parents = g.parents ++ parent_runs g ps ∷ [];
  frontier = staying g ps ++ (len g + n - 1) ∷ [];
  seen = g.seen ++ new_seen g ps ∷ [];
  changed = min (runs g) g.changed;
}

-- `changed_from` "is lowered to .. each run that loses its mark", from one graph to the next
unfoldable pub lowered : Graph → Graph → Graph
lowered g h = record {
  starts = h.starts;
  parents = h.parents;
  frontier = h.frontier;
  seen = h.seen;
  changed = least h.changed (filter (λ r. not (mem r (marks h))) (marks g));
}

-- The graph after an accepted push
unfoldable pub push : Graph → List ℕ → ℕ → Graph
push g ps n = elim (extends g ps) [
  | true ↦ grown g ps n
  | false ↦ let s = split_after g (held g ps) in lowered s (joined s ps n)
]

-- Refusals 2 to 8 in their order; a push that grows the last run takes no place, so 6 to 8 are for the others
unfoldable pub push_outcome : Graph → List ℕ → ℕ → Outcome
push_outcome g ps n =
    let new = not (extends g ps) in
    first_of (
    (eqb n 0, 2) ∷
    (not (rising ps), 3) ∷
    (not (all_known g ps), 4) ∷
    (ltb max_len (len g + n), 5) ∷
    (new && ltb max_runs (runs g + splits g ps + 1), 6) ∷
    (new && ltb max_entries (entries g + splits g ps + length (held g ps)), 7) ∷
    (new && ltb max_frontier (length (staying g ps) + 1), 8) ∷ [])

-- "takes events from `len`() on": the first new event and the end
unfoldable pub pushed : Graph → List ℕ → ℕ → Pushed
pushed g ps n = record { graph = store (push g ps n); answer = events_or (Ok tt) (len g) (len g + n) }

-- "Graph unchanged"
unfoldable pub push_refused : CausalGraph → Refusal → Pushed
push_refused g r = record { graph = g; answer = events_or (Err r) 0 0 }

-- `push(parents, len)` on a graph that is not broken
unfoldable pub push_held_of : CausalGraph → List ℕ → ℕ → Pushed
push_held_of g ps n = elim (push_outcome (view g) ps n) [ Ok _ ↦ pushed (view g) ps n | Err r ↦ push_refused g r ]

-- `push(parents, len)`
unfoldable pub push_of : CausalGraph → List ℕ → ℕ → Pushed
push_of g ps n = elim (broken g) [ true ↦ push_refused g (refusal 1) | false ↦ push_held_of g ps n ]
