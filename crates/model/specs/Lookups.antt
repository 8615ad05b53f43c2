-- 01, "pushes and run starts": the lookups, on every input. Assumes nothing.
use Rattle.std.specs.Prelude.{Bool, false, List, [], ◌∷◌, ℕ, suc, get_or, leb, ltb, eqb}
use Rattle.model.specs.declared.record.CausalGraph.{CausalGraph}
use Rattle.model.specs.declared.answers.ParentRuns.{ParentRuns}
use Rattle.model.specs.declared.answers.FrontierEvents.{FrontierEvents}
use Rattle.model.specs.Refusals.{first_of, OrRefusal, Outcome}
use Rattle.model.specs.Answers.{answer_or, event_or, events_or, containing_at, runs_listed, events_listed}
use Rattle.model.specs.Graph.{runs, start, first_held, len, side, extends}
use Rattle.model.specs.Record.{view}
use Rattle.model.specs.Broken.{broken}
use Rattle.model.specs.declared.record.EventIndex.{EventIndex}
use Rattle.model.specs.declared.answers.Containing.{Containing}

-- Refusal 1, and then 9 where what is asked for lies outside the graph
unfoldable pub lookup : CausalGraph → Bool → Outcome
lookup g outside = first_of ((broken g, 1) ∷ (outside, 9) ∷ [])

-- `start(run)`, "run count allowed"
unfoldable pub start_of : CausalGraph → ℕ → OrRefusal EventIndex
start_of g r = event_or (lookup g (ltb (runs (view g)) r)) (start (view g) r)

-- `events(run)`: first and end, exclusive
unfoldable pub events_of : CausalGraph → ℕ → OrRefusal (EventIndex × EventIndex)
events_of g r = events_or (lookup g (leb (runs (view g)) r)) (start (view g) r) (start (view g) (suc r))

-- `parents(run)`
unfoldable pub parents_of : CausalGraph → ℕ → OrRefusal ParentRuns
parents_of g r = answer_or (lookup g (leb (runs (view g)) r)) (runs_listed (get_or (view g).parents r []))

-- `containing(event)`. 02, F-11: "`containing` shall answer one of: the run, before the graph, or not yet known. Refusal 9 no longer comes
-- from it; 1 does"
unfoldable pub containing_of : CausalGraph → ℕ → OrRefusal Containing
containing_of g e = answer_or (lookup g false) (containing_at (side (view g) e))

-- `len()`
unfoldable pub len_of : CausalGraph → OrRefusal EventIndex
len_of g = event_or (lookup g false) (len (view g))

-- `is_empty()`: "true exactly with no runs"
unfoldable pub is_empty_of : CausalGraph → OrRefusal Bool
is_empty_of g = answer_or (lookup g false) (eqb (runs (view g)) 0)

-- `frontier()`
unfoldable pub frontier_of : CausalGraph → OrRefusal FrontierEvents
frontier_of g = answer_or (lookup g false) (events_listed (view g).frontier)

-- `extends_last_event(parents)`, "any list"
unfoldable pub extends_last_event_of : CausalGraph → List ℕ → OrRefusal Bool
extends_last_event_of g ps = answer_or (lookup g false) (extends (view g) ps)

-- `first_held_event()`
unfoldable pub first_held_event_of : CausalGraph → OrRefusal EventIndex
first_held_event_of g = event_or (lookup g false) (first_held (view g))
