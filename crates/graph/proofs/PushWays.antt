-- The ways out of a push, each as one law from the tests on the way to the record that the call gives; and what a new run needs, from
-- the tests that it passed. Assumes nothing.
use Rattle.std.proofs.Common.{◌≡◌, sym, ap, ◌∙◌, Bool, true, false, not, cond, List, [], ◌∷◌, ℕ, ◌+◌, ◌-◌, ◌<◌, ◌≤◌, ◌^◌, arith, length, ltb, eqb, lt-ltb, le-ltb, ltb-false, ne_eqb, eq-eqb}
use Rattle.lists.specs.Lists.{filter, mem, rising}
use Rattle.model.specs.declared.record.CausalGraph.{CausalGraph}
use Rattle.model.specs.declared.answers.Refusal.{Refusal}
use Rattle.model.specs.declared.answers.Refusal.TheVariants.{Broken, NoEvents, NotRising, UnknownEvent, TooManyEvents, TooManyRuns, TooManyEntries, FrontierTooLong}
use Rattle.model.specs.Refusals.{first_of, Outcome}
use Rattle.model.specs.Graph.{Graph, runs, len, entries, Side, side, is_known, held, all_known, extends}
use Rattle.model.specs.Record.{view, store}
use Rattle.model.specs.Broken.{broken, Held}
use Rattle.model.specs.Split.{splits, split_after}
use Rattle.model.specs.Push.{staying, grown, joined, lowered, push, push_outcome, pushed, push_refused, push_held_of, push_of}
use Rattle.lists.proofs.Counts.{count_same, all_none}
use Rattle.model.proofs.Stored.{view-store, held-store}
use Rattle.model.proofs.FormedReads.{first-len}
use Rattle.model.proofs.Siding.{known-below}
use Rattle.model.proofs.FormedSplitAll.{SplitAll, splits-frontier}
use Rattle.model.proofs.FormedPush.{Accepted, push-formed, push-limits, push_grows, push_joins, extends-runs, extends-parents, pushed-splits, held_same}
use Rattle.graph.specs.declared.pushing.ParentCounts.{ParentCounts}
use Rattle.graph.specs.Loops.{side_in, count_parents, Room, Joins}
use Rattle.graph.proofs.SplitParts.{splits_in}
use Rattle.graph.proofs.Owning.{held-counted}
use Rattle.graph.proofs.Placing.{side-view}
use Rattle.graph.proofs.Views.{runs-view, entries-view}
use Rattle.std.specs.Prelude.{Ok, Err}
use Rattle.model.specs.Answers.{Pushed}

-- The test for the last event number
pub far_passed : (s n : ℕ) → ltb 4294967295 (s + n) ≡ false → s + n < 2 ^ 32
far_passed s n e = omega (arith, ltb-false 4294967295 (s + n) e)

-- A refused push, and one that is taken
abbrev pub refused_by : CausalGraph → Refusal → Pushed
refused_by g r = record { graph = g; answer = Err r }

abbrev pub taken_by : CausalGraph → ℕ → ℕ → Pushed
taken_by h start n = record { graph = h; answer = Ok ((record { 0 = start }), (record { 0 = start + n })) }

module _ (g : CausalGraph) (ps : List ℕ) (n : ℕ) where
  -- A push by its outcome
  refused_way : (r : Refusal) → push_outcome (view g) ps n ≡ Err r → refused_by g r ≡ push_held_of g ps n
  unfolding push_held_of push_refused
  refused_way r e =
      ap (λ (o : Outcome). elim o as (λ _. Pushed) [ Ok _ ↦ pushed (view g) ps n | Err s ↦ refused_by g s ]) (sym e)

  done_way : push_outcome (view g) ps n ≡ Ok tt → pushed (view g) ps n ≡ push_held_of g ps n
  unfolding push_held_of push_refused
  done_way e =
      ap (λ (o : Outcome). elim o as (λ _. Pushed) [ Ok _ ↦ pushed (view g) ps n | Err s ↦ refused_by g s ]) (sym e)

  -- A broken graph is refused, and one that is not is pushed to
  pub broken-out : broken g ≡ true → refused_by g Broken ≡ push_of g ps n
  unfolding push_of push_refused
  broken-out e = ap (λ (t : Bool). elim t as (λ _. Pushed) [ true ↦ refused_by g Broken | false ↦ push_held_of g ps n ]) (sym e)

  pub unbroken-out : broken g ≡ false → push_held_of g ps n ≡ push_of g ps n
  unfolding push_of push_refused
  unbroken-out e = ap (λ (t : Bool). elim t as (λ _. Pushed) [ true ↦ refused_by g Broken | false ↦ push_held_of g ps n ]) (sym e)

  -- Refusals 2 to 5
  pub no_events_lem : n ≡ 0 → refused_by g NoEvents ≡ push_held_of g ps n
  no_events_lem z = refused_way NoEvents (unfold push_outcome first_of in rw (eq-eqb n 0 z))

  pub not-rising : (n ≡ 0 → ⊥) → rising ps ≡ false → refused_by g NotRising ≡ push_held_of g ps n
  not-rising z r = refused_way NotRising (unfold push_outcome first_of in rw (ne_eqb n 0 z, r))

  pub unknown-event : (n ≡ 0 → ⊥) → rising ps ≡ true → all_known (view g) ps ≡ false → refused_by g UnknownEvent ≡ push_held_of g ps n
  unknown-event z r b = refused_way UnknownEvent (unfold push_outcome first_of in rw (ne_eqb n 0 z, r, b))

  module _ (start : ℕ) (at_end : start ≡ len (view g)) where
    pub too_many_events : (n ≡ 0 → ⊥) → rising ps ≡ true → all_known (view g) ps ≡ true → ltb 4294967295 (start + n) ≡ true →
        refused_by g TooManyEvents ≡ push_held_of g ps n
    too_many_events z r b f = refused_way TooManyEvents (unfold push_outcome first_of in rw (ne_eqb n 0 z, r, b, ← at_end, f))

    -- A push that is taken
    taken_out_lem : (h : CausalGraph) → h ≡ store (push (view g) ps n) → push_outcome (view g) ps n ≡ Ok tt → taken_by h start n ≡ push_held_of g ps n
    unfolding pushed
    taken_out_lem h q e = (λ i. taken_by (q i) (at_end i) n) ∙ done_way e

-- The parents counted that are not yet known
module _ (g : CausalGraph) (good : Held g) (ps : List ℕ) {c : ParentCounts} (e : c ≡ count_parents g.starts g.run_count ps) where
  known-counted : all_known (view g) ps ≡ eqb c.unknown 0
  unfolding all_known count_parents
  known-counted =
      all_none (λ p. is_known (side (view g) p)) ps ∙
      ap (λ (k : ℕ). eqb k 0) (
      count_same (λ p. not (is_known (side (view g) p))) (λ p. not (is_known (side_in g.starts g.run_count p))) ps
      (λ p m. ap (λ (s : Side). not (is_known s)) (sym (side-view g good p))) ∙ sym (ap (λ (x : ParentCounts). x.unknown) e))

  pub all_known_lem : c.unknown ≤ 0 → all_known (view g) ps ≡ true
  all_known_lem h = known-counted ∙ eq-eqb c.unknown 0 (omega arith)

  pub one_unknown : 0 < c.unknown → all_known (view g) ps ≡ false
  one_unknown h = known-counted ∙ ne_eqb c.unknown 0 (λ z. omega arith)

-- What a push has that passed the tests for refusals 2 to 5
pub record Known (g : CausalGraph) (ps : List ℕ) (n start : ℕ) (c : ParentCounts) : Type 0 where
  pub holds : Held g
  pub at_end : start ≡ len (view g)
  pub rises : rising ps ≡ true
  pub known : all_known (view g) ps ≡ true
  pub some : 0 < n
  pub events : start + n < 2 ^ 32
  pub counted : c ≡ count_parents g.starts g.run_count ps

pub known_of : (g : CausalGraph) → Held g → (ps : List ℕ) (n : ℕ) (c : ParentCounts) → {start : ℕ} → start ≡ len (view g) →
    record {
      rising : rising ps ≡ true;
      known : all_known (view g) ps ≡ true;
      some_events : 0 < n;
      events_fit : len (view g) + n < 2 ^ 32;
      counted : c ≡ count_parents g.starts g.run_count ps;
    } →
    Known g ps n start c
known_of g good ps n c e p = record {
  holds = good;
  at_end = e;
  rises = p.rising;
  known = p.known;
  some = p.some_events;
  events = rw e p.events_fit;
  counted = p.counted;
}

module _ {g : CausalGraph} {ps : List ℕ} {n start : ℕ} {c : ParentCounts} (k : Known g ps n start c) where
  some-not : n ≡ 0 → ⊥
  some-not z = omega (arith, k.some)

  events-len : ltb 4294967295 (len (view g) + n) ≡ false
  events-len = le-ltb 4294967295 (len (view g) + n) (omega (arith, k.at_end, k.events))

  -- The counts of the code are the graph's
  pub splits_are : c.splits ≡ splits (view g) ps
  unfolding count_parents
  splits_are = ap (λ (x : ParentCounts). x.splits) k.counted ∙ splits_in g k.holds ps

  held_are : c.held ≡ length (held (view g) ps)
  unfolding count_parents
  held_are = ap (λ (x : ParentCounts). x.held) k.counted ∙ held-counted g k.holds ps

  -- The last run grows
  pub some_runs : {e : Bool} → e ≡ extends (view g) ps → e ≡ true → 0 < g.run_count
  some_runs e t = omega (arith, extends-runs (view g) ps (sym e ∙ t), runs-view g k.holds)

  grown_outcome : extends (view g) ps ≡ true → push_outcome (view g) ps n ≡ Ok tt
  unfolding push_outcome first_of
  grown_outcome x = rw (ne_eqb n 0 some-not, k.rises, k.known, events-len, x)

  grown_push : {e : Bool} (h : CausalGraph) → e ≡ extends (view g) ps → e ≡ true → h ≡ store (grown (view g) ((len (view g) - 1) ∷ []) n) →
      (h ≡ store (push (view g) ps n)) × (push_outcome (view g) ps n ≡ Ok tt)
  grown_push h e t f =
      let x : extends (view g) ps ≡ true = sym e ∙ t in (
        f ∙ ap (λ (qs : List ℕ). store (grown (view g) qs n)) (sym (extends-parents (view g) ps x)) ∙ ap store (sym (push_grows (view g) ps n x)),
        grown_outcome x,
      )

  pub grown-out : {e : Bool} (h : CausalGraph) → e ≡ extends (view g) ps → e ≡ true → h ≡ store (grown (view g) ((len (view g) - 1) ∷ []) n) →
      taken_by h start n ≡ push_held_of g ps n
  grown-out h e t f = let w = grown_push h e t f in taken_out_lem g ps n start k.at_end h w.0 w.1

  -- A push that is taken leaves a held graph
  pushed-held : (h : CausalGraph) → h ≡ store (push (view g) ps n) → push_outcome (view g) ps n ≡ Ok tt → Held h
  pushed-held h q e =
      rw q (held-store (push (view g) ps n) (push-formed (view g) k.holds.formed ps n e) (push-limits (view g) k.holds.formed k.holds.limits ps n e))

  pub grown-held : {e : Bool} (h : CausalGraph) → e ≡ extends (view g) ps → e ≡ true → h ≡ store (grown (view g) ((len (view g) - 1) ∷ []) n) → Held h
  grown-held h e t f = let w = grown_push h e t f in pushed-held h w.0 w.1

  -- The tests of the code for refusals 6 to 8, as the definition has them
  runs_test : {b : Bool} → b ≡ ltb 512 (g.run_count + 1 + c.splits) → ltb 512 (runs (view g) + splits (view g) ps + 1) ≡ b
  runs_test e =
      let q : runs (view g) + splits (view g) ps + 1 ≡ g.run_count + 1 + c.splits = omega (arith, runs-view g k.holds, splits_are) in
      ap (ltb 512) q ∙ sym e

  entries_test : {d : Bool} → d ≡ ltb 2048 (g.entry_count + c.splits + c.held) →
      ltb 2048 (entries (view g) + splits (view g) ps + length (held (view g) ps)) ≡ d
  entries_test e =
      let q : entries (view g) + splits (view g) ps + length (held (view g) ps) ≡ g.entry_count + c.splits + c.held =
      omega (arith, entries-view g k.holds, splits_are, held_are) in
      ap (ltb 2048) q ∙ sym e

  left-count : {left : List ℕ} → left ≡ filter (λ e. not (mem e ps)) (view g).frontier →
      length left ≡ length (staying (view g) ps)
  unfolding staying
  left-count e = ap length e

  -- Refusals 6 to 8
  pub too_many_runs : {e b : Bool} → e ≡ extends (view g) ps → e ≡ false → b ≡ ltb 512 (g.run_count + 1 + c.splits) → b ≡ true →
      refused_by g TooManyRuns ≡ push_held_of g ps n
  too_many_runs e t b u =
      refused_way g ps n TooManyRuns
      (unfold push_outcome first_of in
      rw (ne_eqb n 0 some-not, k.rises, k.known, events-len, sym e ∙ t, runs_test b ∙ u))

  pub too_many_entries : {e b d : Bool} → e ≡ extends (view g) ps → e ≡ false → b ≡ ltb 512 (g.run_count + 1 + c.splits) → b ≡ false →
      d ≡ ltb 2048 (g.entry_count + c.splits + c.held) → d ≡ true →
      refused_by g TooManyEntries ≡ push_held_of g ps n
  too_many_entries e t b u d v =
      refused_way g ps n TooManyEntries
      (unfold push_outcome first_of in
      rw (ne_eqb n 0 some-not, k.rises, k.known, events-len, sym e ∙ t, runs_test b ∙ u, entries_test d ∙ v))

  last_outcome : extends (view g) ps ≡ false → ltb 512 (runs (view g) + splits (view g) ps + 1) ≡ false →
      ltb 2048 (entries (view g) + splits (view g) ps + length (held (view g) ps)) ≡ false →
      push_outcome (view g) ps n ≡ cond (ltb 512 (length (staying (view g) ps) + 1)) (Err FrontierTooLong) (Ok tt)
  unfolding push_outcome first_of
  last_outcome x y z = rw (ne_eqb n 0 some-not, k.rises, k.known, events-len, x, y, z)

  pub frontier_too_long : {e b d : Bool} {left : List ℕ} → e ≡ extends (view g) ps → e ≡ false → b ≡ ltb 512 (g.run_count + 1 + c.splits) → b ≡ false →
      d ≡ ltb 2048 (g.entry_count + c.splits + c.held) → d ≡ false →
      left ≡ filter (λ e. not (mem e ps)) (view g).frontier → 512 < length left + 1 →
      refused_by g FrontierTooLong ≡ push_held_of g ps n
  frontier_too_long e t b u d v f w =
      let long : 512 < length (staying (view g) ps) + 1 = omega (arith, left-count f) in
      refused_way g ps n FrontierTooLong (last_outcome (sym e ∙ t) (runs_test b ∙ u) (entries_test d ∙ v) ∙ rw (lt-ltb 512 _ long))

-- What a push has besides that makes a new run
pub record NewRun (g : CausalGraph) (ps : List ℕ) (n start : ℕ) (c : ParentCounts) : Type 0 where
  pub known : Known g ps n start c
  pub new : extends (view g) ps ≡ false
  pub for_runs : runs (view g) + splits (view g) ps + 1 ≤ 512
  pub for_entries : entries (view g) + splits (view g) ps + length (held (view g) ps) ≤ 2048
  pub for_frontier : length (staying (view g) ps) + 1 ≤ 512

-- It passed the tests for refusals 6 to 8
pub new-run : {g : CausalGraph} {ps : List ℕ} {n start : ℕ} {c : ParentCounts} → Known g ps n start c → {e b d : Bool} {left : List ℕ} →
    e ≡ extends (view g) ps → e ≡ false → b ≡ ltb 512 (g.run_count + 1 + c.splits) → b ≡ false →
    d ≡ ltb 2048 (g.entry_count + c.splits + c.held) → d ≡ false →
    left ≡ filter (λ e. not (mem e ps)) (view g).frontier → length left + 1 ≤ 512 →
    NewRun g ps n start c
new-run {g} {ps} k e t b u d v f w = record {
  known = k;
  new = sym e ∙ t;
  for_runs = ltb-false 512 (runs (view g) + splits (view g) ps + 1) (runs_test k b ∙ u);
  for_entries = ltb-false 2048 (entries (view g) + splits (view g) ps + length (held (view g) ps)) (entries_test k d ∙ v);
  for_frontier = omega (arith, left-count k f, w);
}

module _ {g : CausalGraph} {ps : List ℕ} {n start : ℕ} {c : ParentCounts} (r : NewRun g ps n start c) where
  accepted : Accepted (view g) ps n
  accepted = record {
    some = r.known.some;
    rises = r.known.rises;
    known = sym (known-below (view g) (first-len (view g) r.known.holds.formed) ps) ∙ r.known.known;
    events = omega (arith, r.known.at_end, r.known.events);
    runs_fit = λ _. r.for_runs;
    entries_fit = λ _. r.for_entries;
    frontier_fits_lem = λ _. r.for_frontier;
  }

  pub room : Room (view g) ps
  room = record { rises = r.known.rises; for_runs = r.for_runs; for_entries = omega (arith, r.for_entries) }

  after : SplitAll (view g) (held (view g) ps)
  after = pushed-splits (view g) r.known.holds.formed ps n accepted

  after_joins : Joins (split_after (view g) (held (view g) ps)) ps n
  unfolding splits staying
  after_joins = record {
    for_runs = omega (arith, after.more_runs, r.for_runs);
    for_entries = omega (arith, after.more_entries, r.for_entries, ap length (held_same (view g) r.known.holds.formed ps n accepted));
    for_frontier = rw (splits-frontier (view g) (held (view g) ps)) (omega (arith, r.for_frontier));
    some_events = r.known.some;
  }

  new_outcome : push_outcome (view g) ps n ≡ Ok tt
  new_outcome =
      last_outcome r.known r.new
      (le-ltb 512 (runs (view g) + splits (view g) ps + 1) r.for_runs)
      (le-ltb 2048 (entries (view g) + splits (view g) ps + length (held (view g) ps)) r.for_entries)
      ∙ rw (le-ltb 512 (length (staying (view g) ps) + 1) r.for_frontier)

  -- The record after the splits holds what a new run needs
  module _ (h : CausalGraph) (parted : h ≡ store (split_after (view g) (held (view g) ps))) where
    parted_view : view h ≡ split_after (view g) (held (view g) ps)
    parted_view = ap view parted ∙ view-store (split_after (view g) (held (view g) ps)) after.formed

    pub parted_len : start ≡ len (view h)
    parted_len = r.known.at_end ∙ sym after.same_len ∙ ap len (sym parted_view)

    pub parted_joins : Joins (view h) ps n
    parted_joins = rw parted_view after_joins

    -- A new run
    joined_push : (j : CausalGraph) → j ≡ store (lowered (view h) (joined (view h) ps n)) → j ≡ store (push (view g) ps n)
    joined_push j e = e ∙ ap (λ (a : Graph). store (lowered a (joined a ps n))) parted_view ∙ ap store (sym (push_joins (view g) ps n r.new))

    pub joined-out : (j : CausalGraph) → j ≡ store (lowered (view h) (joined (view h) ps n)) → taken_by j start n ≡ push_held_of g ps n
    joined-out j e = taken_out_lem g ps n start r.known.at_end j (joined_push j e) new_outcome

    pub joined-held : (j : CausalGraph) → j ≡ store (lowered (view h) (joined (view h) ps n)) → Held j
    joined-held j e = pushed-held r.known j (joined_push j e) new_outcome
