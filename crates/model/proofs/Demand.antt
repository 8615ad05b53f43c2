-- Demand 3, and what stands beside it. Assumes nothing.
use Rattle.std.proofs.Common.{◌≡◌, ap, ◌∙◌, false, List, ℕ, ◌+◌, ◌-◌, ◌≤◌, arith, length, le-ltb}
use Rattle.model.specs.declared.record.CausalGraph.{CausalGraph}
use Rattle.model.specs.Refusals.{first_of}
use Rattle.model.specs.Graph.{runs}
use Rattle.model.specs.Record.{view}
use Rattle.model.specs.Broken.{broken}
use Rattle.model.specs.Walk.{WalkResult, wrote, range_outcome, walk_of}
use Rattle.model.specs.Replay.{replay_of}
use Rattle.model.specs.Log.{Log, run_count, made_by}
use Rattle.model.specs.Claim.{RowRoom, StepRoom, Claimed, Claim, Beside}
use Rattle.model.proofs.Stored.{not-broken}
use Rattle.model.proofs.Agreeing.{ancestors_of_lem}
use Rattle.model.proofs.Keeping.{lower_of}
use Rattle.model.proofs.Seen.{len_tied}
use Rattle.model.proofs.Telling.{events_are, push-told}
use Rattle.model.proofs.Critical.{marks_critical}
use Rattle.model.proofs.Rooms.{walk_done}
use Rattle.model.proofs.RoomsReplay.{replay_done}
use Rattle.model.proofs.Results.{walk_done-is, replay_is, walks_follow, replays_follow}
use Rattle.model.proofs.Calls.{Kept}
use Rattle.model.proofs.Good.{Good, made_good, before_take, since_take}
use Rattle.std.specs.Prelude.{Ok}

module _ (g : CausalGraph) (l : Log) (G : Kept Good g l) where
  unbroken : broken g ≡ false
  unbroken = not-broken g G.held

  -- With the stated room a full replay is done
  replay_has_room : (rows steps : List ℕ) → RowRoom ≤ length rows → StepRoom ≤ length steps → (replay_of g rows steps).0.outcome ≡ Ok tt
  unfolding wrote
  replay_has_room rows steps p q =
      ap (λ (r : WalkResult). r.0.outcome) (replay_is g rows steps unbroken) ∙ replay_done (view g) G.held.limits.runs rows steps p q

  -- The log has as many runs as the graph
  runs_are : runs (view g) ≡ run_count l
  unfolding runs run_count
  runs_are = G.fact.inv.tied.rows

  range_inside : (a b known : ℕ) → a + known ≤ b → b ≤ run_count l → range_outcome g a b known ≡ Ok tt
  unfolding range_outcome first_of
  range_inside a b known p q = rw (
    unbroken,
    le-ltb b a (omega arith),
    le-ltb (runs (view g)) b (omega (arith, runs_are)),
    le-ltb (b - a) known (omega arith),
  )

  -- and so is a walk of a known prefix of a range inside the graph
  walk_has_room : (a b known first : ℕ) (rows steps : List ℕ) → a + known ≤ b → b ≤ run_count l → RowRoom ≤ length rows → StepRoom ≤ length steps →
      (walk_of g a b known first rows steps).0.outcome ≡ Ok tt
  walk_has_room a b known first rows steps p q x y =
      ap (λ (r : WalkResult). r.0.outcome) (walk_done-is g a b known first rows steps (range_inside a b known p q)) ∙
      walk_done (view g) G.held.limits.runs a b known first rows steps x y

  claimed : Claimed g l
  claimed = record {
    unbroken = unbroken;
    starts = G.fact.inv.tied.starts;
    events = events_are (view g) l G.fact.inv.tied G.fact.inv.lower;
    pushes = push-told g l (len_tied (view g) l G.fact.inv.tied);
    ancestors = ancestors_of_lem l (lower_of (view g) l G.fact.inv);
    replays = replays_follow g l G.fact.inv.tied (lower_of (view g) l G.fact.inv) G.fact.inv.seen unbroken;
    walks = walks_follow g l G.fact.inv.tied (lower_of (view g) l G.fact.inv);
    replay_done = replay_has_room;
    walk_done = walk_has_room;
  }

-- Demand 3
pub claim : Claim
claim f cs = claimed (made_by f cs).0 (made_by f cs).1 (made_good f cs)

-- Beside demand 3
pub beside : Beside
unfolding run_count
beside = record {
  marks_critical = λ f cs r lt m.
      let G = made_good f cs in
      marks_critical (view (made_by f cs).0) (made_by f cs).1 G.fact.inv.tied G.fact.inv.seen (lower_of (view (made_by f cs).0) (made_by f cs).1 G.fact.inv) r lt m;
  frontier_version = λ f cs. (made_good f cs).fact.front;
  before_take = before_take;
  since_take = since_take;
}
