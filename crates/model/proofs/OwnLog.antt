-- A well-formed graph's own events make a plain log that it is tied to. So what is shown of tied graphs holds of every well-formed one, by
-- its own events. Assumes nothing.
use Rattle.std.proofs.Common.{◌≡◌, refl, sym, ap, ◌∙◌, subst, ◌⊎◌, inl, inr, Bool, true, false, List, [], ◌∷◌, ◌++◌, map, ℕ, suc, ◌-◌, ◌≤◌, ◌<◌, arith, length, get_or, take, length-take, take_all}
use Rattle.std.proofs.Common.{take-suc, leb, le-leb, eq-eqb, ne_eqb}
use Rattle.lists.specs.Lists.{mem}
use Rattle.lists.proofs.Truth.{eq_or-not, false_true}
use Rattle.lists.proofs.Members.{mem_one, get_d_mem, get_d_snoc, map-mem, map_same, filter_agree}
use Rattle.lists.proofs.Counts.{filter_true}
use Rattle.lists.proofs.Rising.{Up, rising-ends}
use Rattle.model.specs.EventGraph.{EventGraph, Lower}
use Rattle.model.specs.Graph.{Graph, runs, start, first_held, len, containing, in_run, side, is_held}
use Rattle.model.specs.Broken.{WellFormed}
use Rattle.model.specs.History.{at}
use Rattle.model.specs.HeldEvents.{last_event, event_parents, held_events}
use Rattle.model.specs.Log.{Log, run_start, held_of, event_graph}
use Rattle.model.proofs.FormedReads.{start_mono, start-less, start-len, first-start, containing_in, containing-start}
use Rattle.model.proofs.Siding.{side-run, held-between}
use Rattle.model.proofs.Histories.{Below, fit_below}
use Rattle.model.proofs.Tied.{last_of, Tied}
use Rattle.model.proofs.Seen.{ParentsLower, lower_tied}
use Rattle.model.proofs.Telling.{parents_inside, parents-out, events_are}

-- The log of a graph's own events
unfoldable pub own_log : Graph → Log
own_log g = record { first_held = first_held g; next = len g; parents = event_parents g; edges = take (runs g) g.starts }

module _ (g : Graph) (formed : WellFormed g) where
  starts-split : g.starts ≡ take (runs g) g.starts ++ len g ∷ []
  unfolding len start
  starts-split = sym (take_all (suc (runs g)) g.starts (omega (arith, formed.starts_count))) ∙ take-suc g.starts (runs g) 0 (omega (arith, formed.starts_count))

  edges-count : length (take (runs g) g.starts) ≡ runs g
  edges-count = omega (arith, length-take (runs g) g.starts, formed.starts_count)

  -- Its runs start where the graph's do
  own-start : (r : ℕ) → r ≤ runs g → run_start (own_log g) r ≡ start g r
  unfolding run_start own_log start
  own-start r le = sym (ap (λ (l : List ℕ). get_or l r 0) starts-split ∙ get_d_snoc (take (runs g) g.starts) (len g) 0 r (omega (arith, edges-count)))

  own_up : Up (first_held g) (take (runs g) g.starts) (len g)
  unfolding first_held start
  own_up = rising-ends (first_held g) (take (runs g) g.starts) (len g) (rw starts-split at formed.starts)
      (omega (arith, ap (λ (l : List ℕ). get_or l 0 0) starts-split))

  below : Below g.parents
  below = fit_below g.parents formed.parents

  -- The parents of a run's first event
  pub first-parents : (r : ℕ) → r < runs g → event_parents g (start g r) ≡ map (last_event g) (at g.parents r)
  first-parents r lt =
      parents_inside g (start g r) r (side-run g (start g r) (first-start g formed r (omega arith))
      (omega (arith, start-less g formed r (suc r) (omega arith) lt, start-len g formed (suc r) lt)) ∙ ap in_run (containing-start g formed r lt)) ∙
      rw (eq-eqb (start g r) (start g r) refl)

  -- and of any other
  pub later-parents : (e : ℕ) → first_held g ≤ e → e < len g → ¬ (e ≡ start g (containing g e)) → event_parents g e ≡ (e - 1) ∷ []
  later-parents e p q ne = parents_inside g e (containing g e) (side-run g e p q) ∙ rw (ne_eqb e (start g (containing g e)) ne)

  last-held : (r j : ℕ) → r < runs g → mem j (at g.parents r) ≡ true → leb (first_held g) (last_event g j) ≡ true
  unfolding last_event
  last-held r j lt m =
      let b : j < r = below r j m in
      le-leb (first_held g) (start g (suc j) - 1) (omega (arith, first-start g formed j (omega arith), start-less g formed j (suc j) (omega arith) (omega arith)))

  own-parents : (r : ℕ) → r < runs g → held_of (own_log g) (event_parents g (run_start (own_log g) r)) ≡ map (last_of (own_log g)) (at g.parents r)
  unfolding held_of own_log last_event
  own-parents r lt =
      rw (own-start r (omega arith), first-parents r lt)
      (filter_agree (λ p. leb (first_held g) p) (λ p. true) (map (last_event g) (at g.parents r)) passes ∙
      filter_true (λ p. true) (map (last_event g) (at g.parents r)) (λ p. refl) ∙
      map_same (last_event g) (last_of (own_log g)) (at g.parents r)
      (λ j m. ap (λ (k : ℕ). k - 1) (sym (own-start (suc j) (omega (arith, below r j m))))))
    where
      passes : (x : ℕ) → mem x (map (last_event g) (at g.parents r)) ≡ true → leb (first_held g) x ≡ true
      passes x m = let t : (j : ℕ) × (mem j (at g.parents r) ≡ true) × (x ≡ last_event g j) = map-mem (last_event g) x (at g.parents r) m in rw t.2 (last-held r t.0 lt t.1)

  own-inside : (e : ℕ) → first_held g ≤ e → e < len g → mem e (take (runs g) g.starts) ≡ false → event_parents g e ≡ (e - 1) ∷ []
  own-inside e p q ne = later-parents e p q (λ z. false_true (sym ne ∙ edge z))
    where
      edge : e ≡ start g (containing g e) → mem e (take (runs g) g.starts) ≡ true
      edge z =
          let c : containing g e < runs g = (containing_in g formed e p q).0 in
          let w : e ≡ get_or (take (runs g) g.starts) (containing g e) (len g) = z ∙ unfold run_start own_log in sym (own-start (containing g e) (omega arith)) in
          rw w (get_d_mem (take (runs g) g.starts) (containing g e) (len g) (omega (arith, edges-count)))

  -- A well-formed graph is tied to it
  pub own_tied : Tied g (own_log g)
  unfolding own_log runs
  own_tied = record {
    edged = record { up = own_up; first = own-start 0 (omega arith) ∙ (unfold first_held in refl) };
    starts = starts-split;
    rows = sym edges-count;
    below = below;
    parents = λ r lt. own-parents r (omega (arith, edges-count));
    inside = own-inside;
  }

  -- Its parents are lower numbers
  parents-lower : ParentsLower (own_log g)
  unfolding own_log mem
  parents-lower e p m = go (is_held (side g e)) refl
    where
      held : first_held g ≤ e → e < len g → (e ≡ start g (containing g e)) ⊎ (e ≡ start g (containing g e) → ⊥) → (p < e) × (e < len g)
      held a b (inr c) =
          let r = containing_in g formed e a b in
          let z : p ≡ e - 1 = mem_one p (e - 1) (rw (later-parents e a b c) at m) in
          (omega (arith, z, r.1), b)
      held a b (inl c) =
          let r = containing_in g formed e a b in
          let t : (j : ℕ) × (mem j (at g.parents (containing g e)) ≡ true) × (p ≡ last_event g j) =
          map-mem (last_event g) p (at g.parents (containing g e)) (rw (first-parents (containing g e) r.0) at (rw c at m)) in
          let j : t.0 < containing g e = below (containing g e) t.0 t.1 in
          let z : p ≡ start g (suc t.0) - 1 = t.2 ∙ unfold last_event in refl in
          (omega (arith, z, start-less g formed t.0 (suc t.0) (omega arith) (omega (arith, r.0)), start_mono g formed (suc t.0) (containing g e) j (omega (arith, r.0))), b)

      go : (b : Bool) → is_held (side g e) ≡ b → (p < e) × (e < len g)
      go false h = false_true (rw (parents-out g e h) at m)
      go true h = let i = held-between g e h in held i.0 i.1 (eq_or-not e (start g (containing g e)))

  -- Its event graph is the graph's
  pub own-events : held_events g ≡ event_graph (own_log g)
  own-events = events_are g (own_log g) own_tied parents-lower

  pub own-lower : Lower (event_graph (own_log g))
  own-lower = lower_tied (own_log g) parents-lower

  pub held-lower : Lower (held_events g)
  held-lower = subst (λ (G : EventGraph). Lower G) (sym own-events) own-lower
