-- 02, F-11: what the side of an event tells, in a well-formed graph. And "none of theirs differs": a push and a run start read the side
-- where 01 compares with the first held event and `len`; there the two agree. Assumes nothing.
use Rattle.std.specs.Prelude.{◌≡◌, ◌↔◌, true, false, cond, ◌||◌, List, ℕ, suc, ◌≤◌, ◌<◌, leb}
use Rattle.lists.specs.Lists.{filter, below}
use Rattle.model.specs.Graph.{Graph, runs, start, first_held, len, containing, in_run, before, unknown, side, held, all_known}
use Rattle.model.specs.Start.{answers, starting_in, starting}

pub record Sides (g : Graph) : Type 0 where
  -- "the run": run r exactly if e is one of its events
  pub run : (e r : ℕ) → (side g e ≡ in_run r) ↔ ((r < runs g) × (start g r ≤ e) × (e < start g (suc r)))
  -- "before the graph", "not yet known"
  pub before_first : (e : ℕ) → (side g e ≡ before) ↔ (e < first_held g)
  pub from_len : (e : ℕ) → (side g e ≡ unknown) ↔ (len g ≤ e)
  -- A push's refusal 4, "one is not a known event": it is not below `len`
  pub known : (es : List ℕ) → all_known g es ≡ below (len g) es
  -- Its held parents, which make entries, split runs and hand on what they have seen: those from the first held event on
  pub held_from : (es : List ℕ) → all_known g es ≡ true → held g es ≡ filter (λ e. leb (first_held g) e) es
  -- A run start is told "false if `at` is at most the first held event or at least `len`"
  pub starts : (at : ℕ) → starting g at ≡ cond (leb at (first_held g) || leb (len g) at) (answers false) (starting_in g at (containing g at))
