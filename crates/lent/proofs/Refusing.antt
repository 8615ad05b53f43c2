-- A refused call leaves the lent graph as it was: from each contract's equation, of the graph at entry (`was`) and at exit (`is`). Assumes nothing.
use Rattle.std.proofs.Common.{◌≡◌, ap, Bool, true, false, List, ℕ}
use mathlib.Core.Bool.{false≢true}
use Rattle.model.specs.declared.record.CausalGraph.{CausalGraph}
use Rattle.model.specs.declared.answers.Refusal.{Refusal}
use Rattle.model.specs.declared.answers.Refusal.TheVariants.{Broken}
use Rattle.model.specs.Graph.{containing}
use Rattle.model.specs.Record.{view, store}
use Rattle.model.specs.Broken.{broken}
use Rattle.model.specs.Split.{split}
use Rattle.model.specs.Push.{push_outcome, pushed, push_refused, push_held_of, push_of}
use Rattle.model.specs.Start.{Starting, answers, splitting, starting, split_outcome, told, start_refused, start_held_of, start_run_at_of, take_held_of, take_changed_from_of}
use Rattle.std.specs.Prelude.{Ok, Err}
use Rattle.model.specs.Refusals.{OrRefusal, Outcome}
use Rattle.model.specs.Answers.{Pushed, Started, Taken}
use Rattle.model.specs.declared.record.EventIndex.{EventIndex}
use Rattle.model.specs.declared.record.EventRunIndex.{EventRunIndex}

-- Whether an answer is a result, and no refusal

abbrev gave_events : OrRefusal (EventIndex × EventIndex) → Bool
gave_events (Ok (a, b)) = true
gave_events (Err r) = false

abbrev gave_truth : OrRefusal Bool → Bool
gave_truth (Ok b) = true
gave_truth (Err r) = false

abbrev gave_run : OrRefusal EventRunIndex → Bool
gave_run (Ok n) = true
gave_run (Err r) = false

module _ (was is : CausalGraph) (why : Refusal) where
  pub push_leaves : (ps : List ℕ) (n : ℕ) → ◌≡◌ {A = Pushed} (record { graph = is; answer = Err why }) (push_of was ps n) → is ≡ was
  unfolding push_of push_held_of pushed push_refused
  push_leaves ps n = go (broken was) (push_outcome (view was) ps n)
    where
      go : (b : Bool) (o : Outcome) → ◌≡◌ {A = Pushed} (record { graph = is; answer = Err why }) (elim b as (λ _. Pushed) [
        | true ↦ push_refused was Broken
        | false ↦ elim o as (λ _. Pushed) [ Ok _ ↦ pushed (view was) ps n | Err r ↦ push_refused was r ]
      ]) → is ≡ was
      go true o e = ap (λ (p : Pushed). p.graph) e
      go false (Err r) e = ap (λ (p : Pushed). p.graph) e
      go false (Ok _) e = absurd (false≢true (ap (λ (p : Pushed). gave_events p.answer) e))

  pub start_leaves : (at : ℕ) → ◌≡◌ {A = Started} (record { graph = is; answer = Err why }) (start_run_at_of was at) → is ≡ was
  unfolding start_run_at_of start_held_of told start_refused
  start_leaves at = go (broken was) (starting (view was) at) (split_outcome (view was))
    where
      go : (b : Bool) (s : Starting) (o : Outcome) → ◌≡◌ {A = Started} (record { graph = is; answer = Err why }) (elim b as (λ _. Started) [
        | true ↦ start_refused was Broken
        | false ↦ elim s as (λ _. Started) [
          | answers t ↦ told was t
          | splitting ↦ elim o as (λ _. Started) [ Ok _ ↦ told (store (split (view was) (containing (view was) at) at)) true | Err r ↦ start_refused was r ]
        ]
      ]) → is ≡ was
      go true s o e = ap (λ (p : Started). p.graph) e
      go false (answers t) o e = ap (λ (p : Started). p.graph) e
      go false splitting (Err r) e = ap (λ (p : Started). p.graph) e
      go false splitting (Ok _) e = absurd (false≢true (ap (λ (p : Started). gave_truth p.answer) e))

  pub take_leaves : ◌≡◌ {A = Taken} (record { graph = is; answer = Err why }) (take_changed_from_of was) → is ≡ was
  unfolding take_changed_from_of take_held_of
  take_leaves = go (broken was)
    where
      go : (b : Bool) → ◌≡◌ {A = Taken} (record { graph = is; answer = Err why }) (elim b as (λ _. Taken) [
        | true ↦ record { graph = was; answer = Err Broken }
        | false ↦ take_held_of was
      ]) → is ≡ was
      go true e = ap (λ (p : Taken). p.graph) e
      go false e = absurd (false≢true (ap (λ (p : Taken). gave_run p.answer) e))
