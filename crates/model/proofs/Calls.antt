-- What every call keeps, lists of calls keep, on the record as on plain graphs. Assumes nothing.
use Rattle.std.proofs.Common.{◌≡◌, refl, sym, ◌∙◌, subst, Bool, true, false, cond, List, [], ◌∷◌, ◌++◌, ℕ}
use mathlib.Core.List.{cons≢nil}
use Rattle.lists.specs.Lists.{all, filter, rising, below}
use Rattle.lists.proofs.Truth.{false_true}
use Rattle.model.specs.declared.record.CausalGraph.{CausalGraph}
use Rattle.model.specs.declared.answers.Refusal.TheVariants.{Broken}
use Rattle.model.specs.Refusals.{first_of, Outcome}
use Rattle.model.specs.Graph.{Graph, containing}
use Rattle.model.specs.Record.{view, store}
use Rattle.model.specs.Broken.{broken, WellFormed, WithinLimits, Held}
use Rattle.model.specs.Fresh.{fresh, new_of, after_outcome, after_of}
use Rattle.model.specs.Split.{split}
use Rattle.model.specs.Push.{push as pushGraph, push_outcome, pushed, push_refused, push_held_of, push_of}
use Rattle.model.specs.Start.{Starting, answers, splitting, starting, split_outcome, told, start_refused, start_held_of, start_run_at_of, taken, take_held_of, take_changed_from_of}
use Rattle.model.specs.Log.{Fresh, new, after, Call, push, start_run_at, take_changed_from, Log, begin, answer, empty_log, begin_log, log_push, log_start, note, after_calls}
use Rattle.model.specs.Claim.{is_take, takeless}
use Rattle.model.proofs.Stored.{view-store, held-store}
use Rattle.std.specs.Prelude.{Ok, Err}
use Rattle.model.specs.Answers.{Made, Pushed, Started, Taken}

-- A fact of a plain graph and its log that calls keep, takes apart; it holds of well-formed graphs within the limits alone
pub record Keeps (P : Graph → Log → Type 0) : Type 0 where
  pub formed : (g : Graph) (l : Log) → P g l → WellFormed g
  pub limits : (g : Graph) (l : Log) → P g l → WithinLimits g
  pub pushes : (g : Graph) (l : Log) → P g l → (ps : List ℕ) (n : ℕ) → push_outcome g ps n ≡ Ok tt → P (pushGraph g ps n) (log_push l ps n)
  pub splits : (g : Graph) (l : Log) → P g l → (at : ℕ) → starting g at ≡ splitting → split_outcome g ≡ Ok tt → P (split g (containing g at) at) (log_start l at)
  pub tells : (g : Graph) (l : Log) → P g l → (at : ℕ) → starting g at ≡ answers true → P g (log_start l at)

-- The record is held, and the fact holds of its graph
pub record Kept (P : Graph → Log → Type 0) (g : CausalGraph) (l : Log) : Type 0 where
  pub held : Held g
  pub fact : P (view g) l

-- A run start, by whether the graph is broken, what its tests come to, and whether there is room for a split
abbrev pub started_by : CausalGraph → ℕ → Bool → Starting → Outcome → Started
started_by g at b s o = elim b as (λ _. Started) [
  | true ↦ start_refused g Broken
  | false ↦ elim s as (λ _. Started) [
    | answers t ↦ told g t
    | splitting ↦ elim o as (λ _. Started) [ Ok _ ↦ told (store (split (view g) (containing (view g) at) at)) true | Err r ↦ start_refused g r ]
  ]
]

module _ (P : Graph → Log → Type 0) (K : Keeps P) where
  stored : (g : Graph) (l : Log) → P g l → Kept P (store g) l
  stored g l p = record {
    held = held-store g (K.formed g l p) (K.limits g l p);
    fact = subst (λ (h : Graph). P h l) (sym (view-store g (K.formed g l p))) p;
  }

  module _ (g : CausalGraph) (l : Log) (G : Kept P g l) where
    -- A push, a run start and a take, on the record
    push_keeps : (ps : List ℕ) (n : ℕ) → Kept P (push_of g ps n).graph (note l (push ps n) (push_of g ps n).answer)
    unfolding push_of push_held_of pushed push_refused note
    push_keeps ps n = go (broken g) (push_outcome (view g) ps n) refl
      where
        out : Bool → Outcome → Pushed
        out b o = elim b as (λ _. Pushed) [
          | true ↦ push_refused g Broken
          | false ↦ elim o as (λ _. Pushed) [ Ok _ ↦ pushed (view g) ps n | Err r ↦ push_refused g r ]
        ]

        go : (b : Bool) (o : Outcome) → push_outcome (view g) ps n ≡ o → Kept P (out b o).graph (note l (push ps n) (out b o).answer)
        go true o e = G
        go false (Err r) e = G
        go false (Ok _) e = stored (pushGraph (view g) ps n) (log_push l ps n) (K.pushes (view g) l G.fact ps n e)

    start_keeps : (at : ℕ) → Kept P (start_run_at_of g at).graph (note l (start_run_at at) (start_run_at_of g at).answer)
    unfolding start_run_at_of start_held_of told start_refused note
    start_keeps at = go (broken g) (starting (view g) at) refl (split_outcome (view g)) refl
      where
        go : (b : Bool) (s : Starting) → starting (view g) at ≡ s → (o : Outcome) → split_outcome (view g) ≡ o →
            Kept P (started_by g at b s o).graph (note l (start_run_at at) (started_by g at b s o).answer)
        go true s e o q = G
        go false (answers true) e o q = record { held = G.held; fact = K.tells (view g) l G.fact at e }
        go false (answers false) e o q = G
        go false splitting e (Err r) q = G
        go false splitting e (Ok _) q = stored (split (view g) (containing (view g) at) at) (log_start l at) (K.splits (view g) l G.fact at e q)

    take_keeps : P (taken (view g)) l → Kept P (take_changed_from_of g).graph l
    unfolding take_changed_from_of take_held_of
    take_keeps p = go (broken g)
      where
        go : (b : Bool) → Kept P (elim b as (λ _. Taken) [
          | true ↦ record { graph = g; answer = Err Broken }
          | false ↦ record { graph = store (taken (view g)); answer = Ok g.changed_from }
        ]).graph l
        go true = G
        go false = stored (taken (view g)) l p

    -- A call; what a take leaves is to be shown where the call is one
    call_keeps : (c : Call) → (is_take c ≡ true → P (taken (view g)) l) → Kept P (answer g c).1 (note l c (answer g c).0)
    unfolding answer note is_take
    call_keeps (push ps n) t = push_keeps ps n
    call_keeps (start_run_at at) t = start_keeps at
    call_keeps take_changed_from t = take_keeps (t refl)

  -- Lists of calls, if takes keep the fact too
  pub calls_keep : ((g : Graph) (l : Log) → P g l → P (taken g) l) → (cs : List Call) (g : CausalGraph) (l : Log) → Kept P g l →
      Kept P (after_calls g l cs).0 (after_calls g l cs).1
  unfolding after_calls
  calls_keep takes [] g l G = G
  calls_keep takes (c ∷ cs) g l G = calls_keep takes cs (answer g c).1 (note l c (answer g c).0) (call_keeps g l G c (λ t. takes (view g) l G.fact))

  -- Lists with no take
  pub takeless_keep : (cs : List Call) → takeless cs → (g : CausalGraph) (l : Log) → Kept P g l → Kept P (after_calls g l cs).0 (after_calls g l cs).1
  unfolding after_calls takeless filter
  takeless_keep [] h g l G = G
  takeless_keep (c ∷ cs) h g l G = go (is_take c) refl h (λ q. takeless_keep cs q (answer g c).1 (note l c (answer g c).0))
    where
      later : CausalGraph × Log
      later = after_calls (answer g c).1 (note l c (answer g c).0) cs

      go : (b : Bool) → is_take c ≡ b → cond b (c ∷ filter is_take cs) (filter is_take cs) ≡ [] →
          (filter is_take cs ≡ [] → Kept P (answer g c).1 (note l c (answer g c).0) → Kept P later.0 later.1) → Kept P later.0 later.1
      go true e q ih = absurd (cons≢nil q)
      go false e q ih = ih q (call_keeps g l G c (λ t. false_true (sym e ∙ t)))

  fresh_keeps : ((events : ℕ) (frontier : List ℕ) → after_outcome events frontier ≡ Ok tt → P (fresh events frontier) (empty_log events)) →
      (events : ℕ) (frontier : List ℕ) → after_outcome events frontier ≡ Ok tt → Kept P (store (fresh events frontier)) (empty_log events)
  fresh_keeps F events frontier e = stored (fresh events frontier) (empty_log events) (F events frontier e)

  nothing_refused : after_outcome 0 [] ≡ Ok tt
  unfolding after_outcome first_of rising below all
  nothing_refused = refl

  -- A fresh start, if the fact holds of every fresh graph
  pub begin_keeps : ((events : ℕ) (frontier : List ℕ) → after_outcome events frontier ≡ Ok tt → P (fresh events frontier) (empty_log events)) →
      (f : Fresh) → Kept P (begin f).1 (begin_log f (begin f).0)
  unfolding begin begin_log new_of after_of
  begin_keeps F new = fresh_keeps F 0 [] nothing_refused
  begin_keeps F (after events frontier) = go (after_outcome events frontier) refl
    where
      made : Outcome → Made
      made o = elim o as (λ _. Made) [
        | Ok _ ↦ record { graph = store (fresh events frontier); answer = Ok tt }
        | Err r ↦ record { graph = store (fresh 0 []); answer = Err r }
      ]

      go : (o : Outcome) → after_outcome events frontier ≡ o → Kept P (made o).graph (begin_log (after events frontier) (made o).answer)
      go (Ok _) e = fresh_keeps F events frontier e
      go (Err r) e = fresh_keeps F 0 [] nothing_refused

-- Calls one list after another
pub calls_append : (cs ds : List Call) (g : CausalGraph) (l : Log) →
    after_calls g l (cs ++ ds) ≡ after_calls (after_calls g l cs).0 (after_calls g l cs).1 ds
unfolding after_calls
calls_append [] ds g l = refl
calls_append (c ∷ cs) ds g l = calls_append cs ds (answer g c).1 (note l c (answer g c).0)
