-- The numbers that a graph tells of its runs and events are those of the plain log that it is tied to. Assumes nothing.
use Rattle.std.proofs.Common.{◌≡◌, refl, sym, ap, ap₂, ◌∙◌, subst, ◌⊎◌, inl, inr, Bool, true, false, cond, List, [], ◌∷◌, map, ℕ, suc, ◌+◌, ◌-◌, ◌≤◌, ◌<◌, arith, length, leb, eqb, leb-true}
use Rattle.std.proofs.Common.{eq-eqb, ne_eqb}
use mathlib.Core.Path.{fun_ext}
use Rattle.lists.specs.Lists.{mem}
use Rattle.lists.proofs.Truth.{eq_or-not, lt_of_ne, false_true}
use Rattle.lists.proofs.Members.{mem-first, mem-filter, map_same}
use Rattle.lists.proofs.Counts.{count_le}
use Rattle.model.specs.declared.record.CausalGraph.{CausalGraph}
use Rattle.model.specs.declared.record.EventIndex.{EventIndex}
use Rattle.model.specs.declared.answers.Refusal.TheVariants.{Broken}
use Rattle.model.specs.EventGraph.{EventGraph}
use Rattle.model.specs.Graph.{Graph, start, len, containing, Side, in_run, before, unknown, side, is_held}
use Rattle.model.specs.Record.{view}
use Rattle.model.specs.Broken.{broken}
use Rattle.model.specs.History.{at}
use Rattle.model.specs.HeldEvents.{last_event, event_parents, held_events}
use Rattle.model.specs.Push.{push_outcome, pushed, push_refused, push_held_of, push_of}
use Rattle.model.specs.Log.{Log, run_start, held_of, held_before, event_graph}
use Rattle.model.proofs.Siding.{side-run, is_held_lem, held-between}
use Rattle.model.proofs.Runs.{held-is, held_bounds, run_of}
use Rattle.model.proofs.Tied.{last_of, Tied, alone-held, in_run_lem}
use Rattle.model.proofs.Seen.{ParentsLower, start_is, len_tied, first_tied, containing-is}
use Rattle.std.specs.Prelude.{Ok, Err}
use Rattle.model.specs.Refusals.{OrRefusal, Outcome}
use Rattle.model.specs.Answers.{Pushed}

-- A list of which nothing is a member is empty
no_members : (xs : List ℕ) → ((x : ℕ) → ¬ (mem x xs ≡ true)) → xs ≡ []
no_members [] h = refl
no_members (x ∷ xs) h = absurd (h x (mem-first x xs))

abbrev event_graph_of : (ℕ → Bool) → (ℕ → List ℕ) → EventGraph
event_graph_of is_event parents = record { is_event = is_event; parents = parents }

-- The parents of an event, by where it lies
module _ (g : Graph) (e : ℕ) where
  abbrev parents_by : Side → List ℕ
  parents_by s = elim s as (λ _. List ℕ) [
    | in_run r ↦ cond (eqb e (start g r)) (map (last_event g) (at g.parents r)) ((e - 1) ∷ [])
    | before ↦ []
    | unknown ↦ []
  ]

  pub parents_inside : (r : ℕ) → side g e ≡ in_run r → event_parents g e ≡ cond (eqb e (start g r)) (map (last_event g) (at g.parents r)) ((e - 1) ∷ [])
  unfolding event_parents
  parents_inside r h = ap parents_by h

  pub parents-out : is_held (side g e) ≡ false → event_parents g e ≡ []
  unfolding event_parents is_held
  parents-out h = go (side g e) h
    where
      go : (s : Side) → is_held s ≡ false → parents_by s ≡ []
      go (in_run r) q = false_true (sym q)
      go before q = refl
      go unknown q = refl

module _ (g : Graph) (l : Log) (t : Tied g l) (lower : ParentsLower l) where
  held_same : (e : ℕ) → is_held (side g e) ≡ held_before l l.next e
  unfolding held_before
  held_same e = is_held_lem g e ∙ rw (first_tied g l t, len_tied g l t)

  parents-same : (e : ℕ) → event_parents g e ≡ held_of l (l.parents e)
  unfolding last_event held_of run_of
  parents-same e = go (held_before l l.next e) refl
    where
      none : held_before l l.next e ≡ false → (p : ℕ) → ¬ (mem p (held_of l (l.parents e)) ≡ true)
      none h p m =
          let f : (mem p (l.parents e) ≡ true) × (leb l.first_held p ≡ true) = mem-filter (λ q. leb l.first_held q) p (l.parents e) m in
          let b : (p < e) × (e < l.next) = lower e p f.0 in
          false_true (sym h ∙ held-is l l.next e (omega (arith, leb-true l.first_held p f.1, b.0)) b.1)

      lies : held_before l l.next e ≡ true → (r : ℕ) → containing g e ≡ r → side g e ≡ in_run r
      lies h r c = let b = held-between g e (held_same e ∙ h) in side-run g e b.0 b.1 ∙ ap in_run c

      held : held_before l l.next e ≡ true → (r : ℕ) → containing g e ≡ r → r < length l.edges → run_start l r ≤ e → e < run_start l (suc r) →
          (e ≡ run_start l r) ⊎ (e ≡ run_start l r → ⊥) → event_parents g e ≡ held_of l (l.parents e)
      held h r c lt p q (inl z) =
          parents_inside g e r (lies h r c) ∙
          rw (start_is g l t r (omega arith), eq-eqb e (run_start l r) z)
          (map_same (last_event g) (last_of l) (at g.parents r) (λ j m. ap (λ (k : ℕ). k - 1) (start_is g l t (suc j) (omega (arith, t.below r j m)))) ∙
          (sym (t.parents r lt) ∙ ap (λ (x : ℕ). held_of l (l.parents x)) (sym z)))
      held h r c lt p q (inr z) =
          parents_inside g e r (lies h r c) ∙
          rw (start_is g l t r (omega arith), ne_eqb e (run_start l r) z) (sym (alone-held g l t r e (lt_of_ne (run_start l r) e p (λ w. z (sym w))) q))

      go : (b : Bool) → held_before l l.next e ≡ b → event_parents g e ≡ held_of l (l.parents e)
      go false h = parents-out g e (held_same e ∙ h) ∙ sym (no_members (held_of l (l.parents e)) (none h))
      go true h =
          let b = held_bounds l l.next e h in
          let i = in_run_lem g l t e h in
          let c = containing-is g l t e b.1 b.0 in
          held h (run_of l e) (omega arith) (omega (arith, count_le (λ s. leb s e) l.edges)) i.0 i.1 (eq_or-not e (run_start l (run_of l e)))

  -- The event graph of a graph that is tied to a log is the log's
  pub events_are : held_events g ≡ event_graph l
  events_are = ap₂ event_graph_of (fun_ext held_same) (fun_ext parents-same)

-- What an accepted push tells
tells : OrRefusal (EventIndex × EventIndex) → ℕ → ℕ → Type 0
tells (Ok (a, b)) first end = (a.0 ≡ first) × (b.0 ≡ end)
tells (Err r) first end = Unit {0}

-- An accepted push tells the log's next event and the end of its own
pub push-told : (g : CausalGraph) (l : Log) → len (view g) ≡ l.next → (ps : List ℕ) (n : ℕ) (a b : EventIndex) → (push_of g ps n).answer ≡ Ok (a, b) →
    (a.0 ≡ l.next) × (b.0 ≡ l.next + n)
unfolding push_of push_held_of pushed push_refused tells
push-told g l same ps n a b e = subst (λ (x : (OrRefusal (EventIndex × EventIndex))). tells x l.next (l.next + n)) e (go (broken g) (push_outcome (view g) ps n))
  where
    out : Bool → Outcome → Pushed
    out b o = elim b as (λ _. Pushed) [
      | true ↦ push_refused g Broken
      | false ↦ elim o as (λ _. Pushed) [ Ok _ ↦ pushed (view g) ps n | Err r ↦ push_refused g r ]
    ]

    go : (b : Bool) (o : Outcome) → tells (out b o).answer l.next (l.next + n)
    go true o = tt
    go false (Err r) = tt
    go false (Ok _) = (same, ap (λ k. k + n) same)
