-- A graph's own events as the paper's event graph, read from its starts and parents alone. Assumes nothing.
use Rattle.std.specs.Prelude.{cond, List, [], ◌∷◌, map, ℕ, suc, ◌-◌, eqb}
use Rattle.model.specs.EventGraph.{EventGraph}
use Rattle.model.specs.Graph.{Graph, start, in_run, before, unknown, side, is_held}
use Rattle.model.specs.History.{at}

-- a run's last event
unfoldable pub last_event : Graph → ℕ → ℕ
last_event g r = start g (suc r) - 1

-- a run's first event has its parent runs' last events for parents, each other event just the one before it
unfoldable pub event_parents : Graph → ℕ → List ℕ
event_parents g e = elim (side g e) [
  | in_run r ↦ cond (eqb e (start g r)) (map (last_event g) (at g.parents r)) ((e - 1) ∷ [])
  | before ↦ []
  | unknown ↦ []
]

-- A graph as the paper's event graph: its events are those that are held
abbrev pub held_events : Graph → EventGraph
held_events g = record { is_event = λ e. is_held (side g e); parents = event_parents g }
