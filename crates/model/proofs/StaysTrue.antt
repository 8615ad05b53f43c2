-- 02, F-4: a run start once told true stays true. Assumes nothing.
use Rattle.std.proofs.Common.{◌≡◌, refl, sym, ap, subst, Bool, true, false, List, [], ◌∷◌, ◌++◌, append_assoc, ℕ}
use Rattle.lists.proofs.Truth.{false_true}
use Rattle.model.specs.declared.record.CausalGraph.{CausalGraph}
use Rattle.model.specs.Graph.{Graph, containing}
use Rattle.model.specs.Record.{view}
use Rattle.model.specs.Broken.{broken, Held}
use Rattle.model.specs.Split.{split}
use Rattle.model.specs.Start.{Starting, answers, splitting, starting, split_outcome, told, start_refused, start_held_of, start_run_at_of}
use Rattle.model.specs.Log.{Fresh, Call, start_run_at, Log, answer, after_calls, made_by}
use Rattle.model.specs.StaysTrue.{ToldTrue, UnmarkedAt, SeenStarts, StaysTrue}
use Rattle.model.proofs.Stored.{view-store, not-broken}
use Rattle.model.proofs.FormedCalls.{start-formed}
use Rattle.model.proofs.Calls.{started_by}
use Rattle.model.proofs.Good.{made_good, made-append, later_with, made_with}
use Rattle.model.proofs.SeenStarts.{among_starts, among_persists, among_fresh, among_taken}
use Rattle.model.proofs.Unmarked.{unmarked_persists, unmarked-taken, splitting-unmarked, told-unmarked, unmarked_tells}
use Rattle.std.specs.Prelude.{Ok, Err}
use Rattle.model.specs.Refusals.{OrRefusal, Outcome}

-- An answer that is told true
abbrev is_true : OrRefusal Bool → Bool
is_true (Ok b) = b
is_true (Err r) = false

-- On a record that holds a graph
module _ (g : CausalGraph) (H : Held g) (at : ℕ) where
  -- Told true, a run start leaves an unmarked run that starts there
  start_leaves : SeenStarts (view g) → ToldTrue g at → UnmarkedAt (view (start_run_at_of g at).graph) at
  unfolding start_run_at_of start_held_of told start_refused
  start_leaves S e = go (broken g) (starting (view g) at) refl (split_outcome (view g)) e
    where
      go : (b : Bool) (s : Starting) → starting (view g) at ≡ s → (o : Outcome) → (started_by g at b s o).answer ≡ Ok true → UnmarkedAt (view (started_by g at b s o).graph) at
      go true s e o t = false_true (ap is_true t)
      go false (answers true) e o t = told-unmarked (view g) H.formed at e
      go false (answers false) e o t = false_true (ap is_true t)
      go false splitting e (Err r) t = false_true (ap is_true t)
      go false splitting e (Ok _) t =
          subst (λ (h : Graph). UnmarkedAt h at) (sym (view-store (split (view g) (containing (view g) at) at) (start-formed (view g) H.formed at e)))
          (splitting-unmarked (view g) H.formed S at e)

  -- Where one starts, a run start is told true with nothing done
  start_tells : UnmarkedAt (view g) at → start_run_at_of g at ≡ told g true
  unfolding start_run_at_of start_held_of
  start_tells U = λ i. started_by g at (not-broken g H i) (unmarked_tells (view g) H.formed at U i) (split_outcome (view g))

-- After every list of calls
seen_starts : (f : Fresh) (cs : List Call) → SeenStarts (view (made_by f cs).0)
seen_starts f cs = among_starts (view (made_by f cs).0) (made_good f cs).held.formed (made_with _ among_persists among_taken among_fresh f cs)

unmarked_stays : (f : Fresh) (cs ds : List Call) (e : ℕ) → UnmarkedAt (view (made_by f cs).0) e → UnmarkedAt (view (made_by f (cs ++ ds)).0) e
unmarked_stays f cs ds e U = later_with (λ g. UnmarkedAt g e) (unmarked_persists e) (unmarked-taken e) f cs ds U

unmarked_told : (f : Fresh) (cs : List Call) (at : ℕ) → UnmarkedAt (view (made_by f cs).0) at → start_run_at_of (made_by f cs).0 at ≡ told (made_by f cs).0 true
unmarked_told f cs at U = start_tells (made_by f cs).0 (made_good f cs).held at U

leaves_unmarked : (f : Fresh) (cs : List Call) (at : ℕ) → ToldTrue (made_by f cs).0 at → UnmarkedAt (view (made_by f (cs ++ start_run_at at ∷ [])).0) at
unfolding after_calls answer
leaves_unmarked f cs at t =
    subst (λ (m : CausalGraph × Log). UnmarkedAt (view m.0) at) (sym (made-append f cs (start_run_at at ∷ [])))
    (start_leaves (made_by f cs).0 (made_good f cs).held at (seen_starts f cs) t)

-- "a position that was once told true is told true by any later run start at it, and that later call leaves the graph unchanged"
pub stays_true : StaysTrue
stays_true = record {
  stays = λ f cs ds at t.
      unmarked_told f (cs ++ start_run_at at ∷ ds) at
      (subst (λ (es : List Call). UnmarkedAt (view (made_by f es).0) at) (append_assoc cs (start_run_at at ∷ []) ds)
      (unmarked_stays f (cs ++ start_run_at at ∷ []) ds at (leaves_unmarked f cs at t)));
  leaves_unmarked = leaves_unmarked;
  seen_starts = seen_starts;
  unmarked_stays = unmarked_stays;
  unmarked_told = unmarked_told;
}
