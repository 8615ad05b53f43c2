-- 02, F-6: archive points as the paper has them, on every input, and what is claimed of them. Assumes nothing.
use Rattle.std.specs.Prelude.{◌≡◌, ◌↔◌, Bool, true, false, List, [], ◌∷◌, map, ℕ, ◌-◌, ◌≤◌, ◌<◌}
use Rattle.lists.specs.Lists.{all, filter, from, upto, mem, rising}
use Rattle.model.specs.declared.record.CausalGraph.{CausalGraph}
use Rattle.model.specs.declared.answers.Written.{Written}
use Rattle.model.specs.EventGraph.{EventGraph, HappenedBefore, ancestor, CriticalAt}
use Rattle.model.specs.Refusals.{refusal}
use Rattle.model.specs.Graph.{Graph, runs, start, first_held, len, marked}
use Rattle.model.specs.Record.{view}
use Rattle.model.specs.Broken.{broken, WellFormed}
use Rattle.model.specs.Cut.{writing, unwritten}
use Rattle.model.specs.HeldEvents.{held_events}
use Rattle.model.specs.Log.{Fresh, Call, made_by, run_count, run_start, event_graph}

-- "each event from that start on has all held events before that start as ancestors": the graph's own events, which its starts and parents
-- give, from s up to `len` and from the first held one up to s
unfoldable pub seen_by_later : Graph → ℕ → Bool
seen_by_later g s = all (λ e. all (λ p. ancestor (held_events g) e p) (from (first_held g) (s - first_held g))) (from s (len g - s))

-- "An archive point shall be the start of any run such that ..", rising
unfoldable pub archive_points : Graph → List ℕ
archive_points g = filter (seen_by_later g) (map (start g) (upto (runs g)))

-- The archive points into a lent list, a word each, and the list afterwards: refusals 1, 11
unfoldable pub archive_points_of : CausalGraph → List ℕ → Written × List ℕ
archive_points_of g lent = elim (broken g) [
  | true ↦ unwritten (refusal 1) lent
  | false ↦ writing 1 (map (λ e. e ∷ []) (archive_points (view g))) lent
]

-- The same sentence of any event graph, ancestors as paths
abbrev pub SeenByAll : EventGraph → ℕ → Type 0
SeenByAll G s = (a b : ℕ) → G.is_event a ≡ true → a < s → G.is_event b ≡ true → s ≤ b → HappenedBefore G a b

-- What is claimed of archive points
pub record Archive : Type 0 where
  -- in a well-formed graph s is one exactly if it is the start of a run, and each event from s on has all held events before s as ancestors
  pub points : (g : Graph) → WellFormed g → (s : ℕ) →
      (mem s (archive_points g) ≡ true) ↔ ((r : ℕ) × (r < runs g) × (start g r ≡ s) × SeenByAll (held_events g) s)
  -- that is the paper's: the events before s are those of a critical version, both ways
  pub critical : (g : Graph) → WellFormed g → (s : ℕ) → SeenByAll (held_events g) s ↔ CriticalAt (held_events g) s
  -- they rise, and where there are runs the first held event is one
  pub rises : (g : Graph) → WellFormed g → rising (archive_points g) ≡ true
  pub first : (g : Graph) → WellFormed g → 0 < runs g → mem (first_held g) (archive_points g) ≡ true
  -- "the definition reads parents only": graphs with the same runs and parents have the same points, whatever else they hold
  pub parents_only : (g h : Graph) → g.starts ≡ h.starts → g.parents ≡ h.parents → archive_points g ≡ archive_points h
  -- in a graph that calls made they are the starts of the plain log's runs at a critical version of the log, all of these and no others
  pub made : (f : Fresh) (cs : List Call) (s : ℕ) →
      (mem s (archive_points (view (made_by f cs).0)) ≡ true) ↔
      ((r : ℕ) × (r < run_count (made_by f cs).1) × (run_start (made_by f cs).1 r ≡ s) × CriticalAt (event_graph (made_by f cs).1) s)
  -- and there every marked run starts at one, so that the points that 01 had stay
  pub marked_made : (f : Fresh) (cs : List Call) (r : ℕ) → r < runs (view (made_by f cs).0) → marked (view (made_by f cs).0) r ≡ true →
      mem (start (view (made_by f cs).0) r) (archive_points (view (made_by f cs).0)) ≡ true
