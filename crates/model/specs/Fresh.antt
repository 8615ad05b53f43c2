-- 01, "pushes and run starts": `new` and `after`. Assumes nothing.
use Rattle.std.specs.Prelude.{not, List, [], ◌∷◌, ℕ, length, ltb, Ok, Err}
use Rattle.lists.specs.Lists.{rising, below}
use Rattle.model.specs.declared.record.CausalGraph.{CausalGraph}
use Rattle.model.specs.Limits.{max_frontier}
use Rattle.model.specs.Refusals.{first_of, Outcome}
use Rattle.model.specs.Graph.{Graph}
use Rattle.model.specs.Record.{store}
use Rattle.model.specs.Answers.{Made}

-- The graph with no runs after the first `events` events, whose frontier is `frontier`; `changed_from` "is 0 in a fresh graph"
unfoldable pub fresh : ℕ → List ℕ → Graph
fresh events frontier = record { starts = events ∷ []; parents = []; frontier = frontier; seen = []; changed = 0 }

-- `new`
unfoldable pub new_of : CausalGraph
new_of = store (fresh 0 [])

-- "frontier rising and below `events`": refusals 3, 4, 8
unfoldable pub after_outcome : ℕ → List ℕ → Outcome
after_outcome events frontier =
    first_of ((not (rising frontier), 3) ∷ (not (below events frontier), 4) ∷ (ltb max_frontier (length frontier), 8) ∷ [])

-- `after(events, frontier)`; "a refused `after` gives `new`"
unfoldable pub after_of : ℕ → List ℕ → Made
after_of events frontier = elim (after_outcome events frontier) [
  | Ok _ ↦ record { graph = store (fresh events frontier); answer = Ok tt }
  | Err r ↦ record { graph = new_of; answer = Err r }
]
