-- 01, "pushes and run starts": `start_run_at` and `take_changed_from`, on every input. Assumes nothing.
use Rattle.std.specs.Prelude.{Bool, true, false, not, ◌&&◌, ◌||◌, [], ◌∷◌, ℕ, suc, ◌+◌, ltb, eqb, Ok, Err}
use Rattle.model.specs.declared.record.CausalGraph.{CausalGraph}
use Rattle.model.specs.declared.answers.Refusal.{Refusal}
use Rattle.model.specs.Limits.{max_runs, max_entries}
use Rattle.model.specs.Refusals.{refusal, first_of, Outcome}
use Rattle.model.specs.Answers.{answer_or, run_or, Started, Taken}
use Rattle.model.specs.Graph.{Graph, runs, start, entries, containing, marked, in_run, before, unknown, side}
use Rattle.model.specs.Record.{view, store}
use Rattle.model.specs.Broken.{broken}
use Rattle.model.specs.Split.{split}

-- What a run start comes to: an answer with nothing done, or a split
pub data Starting : Type 0 where
  answers : Bool → Starting
  splitting : Starting

-- "r is marked and r is last or r+1 marked"
unfoldable pub alone : Graph → ℕ → Bool
alone g r = marked g r && (eqb (suc r) (runs g) || marked g (suc r))

-- In run r. "At a run's start: true exactly if unmarked. Inside run r: false if r is marked and r is last or r+1 marked; else split, true"
unfoldable pub starting_in : Graph → ℕ → ℕ → Starting
starting_in g at r =
    elim (eqb (start g r) at) [ true ↦ answers (not (marked g r)) | false ↦ elim (alone g r) [ true ↦ answers false | false ↦ splitting ] ]

-- "false if `at` is at most the first held event or at least `len`": it lies in no run; or it is the first held event, at which run 0
-- starts, and that run is marked in every graph that is not broken (`starts` of specs/Sides.antt)
unfoldable pub starting : Graph → ℕ → Starting
starting g at = elim (side g at) [ in_run r ↦ starting_in g at r | before ↦ answers false | unknown ↦ answers false ]

-- A split takes one run and one entry: refusals 6 and 7
unfoldable pub split_outcome : Graph → Outcome
split_outcome g = first_of ((ltb max_runs (runs g + 1), 6) ∷ (ltb max_entries (entries g + 1), 7) ∷ [])

unfoldable pub told : CausalGraph → Bool → Started
told g b = record { graph = g; answer = answer_or (Ok tt) b }

-- "Graph unchanged"
unfoldable pub start_refused : CausalGraph → Refusal → Started
start_refused g r = record { graph = g; answer = answer_or (Err r) false }

-- `start_run_at(at)` on a graph that is not broken
unfoldable pub start_held_of : CausalGraph → ℕ → Started
start_held_of g at =
    let a = view g in
    elim (starting a at) [
      | answers b ↦ told g b
      | splitting ↦ elim (split_outcome a) [ Ok _ ↦ told (store (split a (containing a at) at)) true | Err r ↦ start_refused g r ]
    ]

-- `start_run_at(at)`
unfoldable pub start_run_at_of : CausalGraph → ℕ → Started
start_run_at_of g at = elim (broken g) [ true ↦ start_refused g (refusal 1) | false ↦ start_held_of g at ]

-- "`take_changed_from` gives `changed_from` and sets it to the run count"
unfoldable pub taken : Graph → Graph
taken g = record { starts = g.starts; parents = g.parents; frontier = g.frontier; seen = g.seen; changed = runs g }

-- `take_changed_from()` on a graph that is not broken
unfoldable pub take_held_of : CausalGraph → Taken
take_held_of g = record { graph = store (taken (view g)); answer = run_or (Ok tt) g.changed_from.0 }

-- `take_changed_from()`
unfoldable pub take_changed_from_of : CausalGraph → Taken
take_changed_from_of g = elim (broken g) [ true ↦ record { graph = g; answer = run_or (Err (refusal 1)) 0 } | false ↦ take_held_of g ]
