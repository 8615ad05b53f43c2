-- Demand 3: one claim over every list of pushes, run starts and change takes from a fresh graph, refused ones included. Assumes nothing.
use Rattle.std.specs.Prelude.{◌≡◌, Bool, true, false, List, [], ◌∷◌, ◌++◌, ℕ, suc, ◌+◌, ◌≤◌, ◌<◌, length, get_or, ltb, Ok}
use Rattle.std.proofs.Math.Option.{Option, none, some}
use Rattle.lists.specs.Lists.{filter}
use Rattle.model.specs.declared.record.CausalGraph.{CausalGraph}
use Rattle.model.specs.declared.record.EventIndex.{EventIndex}
use Rattle.model.specs.EventGraph.{VersionOf, CriticalAt}
use Rattle.model.specs.Graph.{Graph, runs, start, marked, held}
use Rattle.model.specs.Record.{view}
use Rattle.model.specs.Broken.{broken}
use Rattle.model.specs.HeldEvents.{held_events}
use Rattle.model.specs.Push.{push_of}
use Rattle.model.specs.Walk.{walk_of}
use Rattle.model.specs.Replay.{replay_of}
use Rattle.model.specs.Log.{Fresh, Call, push, start_run_at, take_changed_from, Log, made_by, run_count, run_start, event_graph}
use Rattle.model.specs.PlainSet.{Events as EventSet, IsAncestors, ancestors_of, ReplayFollows, WalkFollows}

-- The room with which nothing is refused: 512 rows of at most 1 to 512 words; at most 1,026 steps of three words for each of 512 runs
abbrev pub RowRoom : ℕ
RowRoom = 131328

abbrev pub StepRoom : ℕ
StepRoom = 1575936

-- What holds of the graph and the plain log after a list of calls
pub record Claimed (g : CausalGraph) (l : Log) : Type 0 where
  -- no later call meets refusal 1
  pub unbroken : broken g ≡ false
  -- the numbers of runs and events that the graph tells are the log's: its runs start at the edges and the last one ends at `next`, and
  -- its events and their held parents are the log's
  pub starts : (view g).starts ≡ l.edges ++ l.next ∷ []
  pub events : held_events (view g) ≡ event_graph l
  -- and so are those that an accepted push would tell
  pub pushes : (ps : List ℕ) (n : ℕ) (a b : EventIndex) → (push_of g ps n).answer ≡ Ok (a, b) → (a.0 ≡ l.next) × (b.0 ≡ l.next + n)
  -- the sets that `moved` is summed over are the runs' ancestors
  pub ancestors : (counted : EventSet) (r : ℕ) → IsAncestors l counted r (ancestors_of l counted r)
  -- "every full replay that is not refused, whatever room it is lent", and whatever that held
  pub replays : (rows steps : List ℕ) → (replay_of g rows steps).0.outcome ≡ Ok tt → ReplayFollows l (replay_of g rows steps)
  -- "every walk over any range with any known prefix and any `first`"
  pub walks : (a b known first : ℕ) (rows steps : List ℕ) → (walk_of g a b known first rows steps).0.outcome ≡ Ok tt →
      WalkFollows l a b known (walk_of g a b known first rows steps)
  -- it is not empty: with this much room no full replay is refused, and no walk of a known prefix of a range inside the graph
  pub replay_done : (rows steps : List ℕ) → RowRoom ≤ length rows → StepRoom ≤ length steps → (replay_of g rows steps).0.outcome ≡ Ok tt
  pub walk_done : (a b known first : ℕ) (rows steps : List ℕ) → a + known ≤ b → b ≤ run_count l → RowRoom ≤ length rows → StepRoom ≤ length steps →
      (walk_of g a b known first rows steps).0.outcome ≡ Ok tt

-- After every list of calls from every fresh start. Each beginning of a list is a list, so no call of it meets refusal 1 either
abbrev pub Claim : Type 0
Claim = (f : Fresh) (cs : List Call) → Claimed (made_by f cs).0 (made_by f cs).1

-- Run r as a reader sees it: its events, its parents, whether it is marked
unfoldable pub run_state : Graph → ℕ → Option (ℕ × ℕ × List ℕ × Bool)
run_state g r = elim (ltb r (runs g)) [
  | true ↦ some (start g r, start g (suc r), get_or g.parents r [], marked g r)
  | false ↦ none
]

-- no take among the calls
unfoldable pub is_take : Call → Bool
is_take (push ps n) = false
is_take (start_run_at at) = false
is_take take_changed_from = true

unfoldable pub takeless : List Call → Type 0
takeless cs = filter is_take cs ≡ []

-- Every run below `changed_from`, which a take would give, is as it was
unfoldable pub Unchanged : CausalGraph → CausalGraph → Type 0
Unchanged before after = (r : ℕ) → r < after.changed_from.0 → run_state (view before) r ≡ run_state (view after) r

-- Beside demand 3, of the same graphs
pub record Beside : Type 0 where
  -- a marked run's start is a critical version in the paper's sense
  pub marks_critical : (f : Fresh) (cs : List Call) (r : ℕ) → r < run_count (made_by f cs).1 → marked (view (made_by f cs).0) r ≡ true →
      CriticalAt (event_graph (made_by f cs).1) (run_start (made_by f cs).1 r)
  -- the frontier's held events are the paper's version of the log
  pub frontier_version : (f : Fresh) (cs : List Call) →
      VersionOf (event_graph (made_by f cs).1) (held (view (made_by f cs).0) (view (made_by f cs).0).frontier)
  -- "It is 0 in a fresh graph, and is lowered to ..": so it is 0 until the first take
  pub before_take : (f : Fresh) (ds : List Call) → takeless ds → (made_by f ds).0.changed_from.0 ≡ 0
  -- "The value is at most the lowest run whose events, parents or mark differ since the last take"
  pub since_take : (f : Fresh) (cs ds : List Call) → takeless ds →
      Unchanged (made_by f (cs ++ take_changed_from ∷ [])).0 (made_by f (cs ++ take_changed_from ∷ ds)).0
