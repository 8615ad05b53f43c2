-- The ways out of a run start and of a take, each as one law in the words of the code's tests. Assumes nothing.
use Rattle.std.proofs.Common.{◌≡◌, refl, sym, ap, ◌∙◌, Bool, true, false, not, ℕ, suc, ◌+◌, ◌<◌, ◌≤◌, arith, take, get_or, lt-ltb, le-ltb, eq-eqb, ne_eqb}
use Rattle.lists.specs.Lists.{mem}
use Rattle.lists.proofs.Truth.{false_true}
use Rattle.model.specs.declared.record.CausalGraph.{CausalGraph}
use Rattle.model.specs.declared.answers.Refusal.TheVariants.{Broken, TooManyRuns, TooManyEntries}
use Rattle.model.specs.declared.answers.Refusal.{Refusal}
use Rattle.model.specs.Refusals.{first_of, Outcome}
use Rattle.model.specs.Graph.{Graph, runs, start, entries, containing, marked, marks, in_run, side, is_held}
use Rattle.model.specs.Record.{view, store}
use Rattle.model.specs.Broken.{broken, Held}
use Rattle.model.specs.Split.{split}
use Rattle.model.specs.Start.{Starting, answers, splitting, alone, starting_in, starting, split_outcome, told, start_refused, start_held_of, start_run_at_of, taken, take_held_of, take_changed_from_of}
use Rattle.model.proofs.Siding.{run-told}
use Rattle.model.proofs.Stored.{held-store}
use Rattle.model.proofs.FormedCalls.{start-formed, start-limits, starting-out, starting_in_lem, in_there, in_alone, in_splits}
use Rattle.model.proofs.Sides.{sides}
use Rattle.model.proofs.Lasting.{marks_list as marks-mem}
use Rattle.graph.proofs.Views.{runs-view, entries-view, tips_view, marks-view, start-view, marks_list, starts-pad, heads-pad, parents-pad, frontier-pad, seen-pad, marks-pad}
use Rattle.std.specs.Prelude.{Ok, Err}
use Rattle.model.specs.Answers.{Started, Taken}

-- A choice by a test that is known
if_true : {A : Type 0} (a b : A) (t : Bool) → t ≡ true → (elim t as (λ _. A) [ true ↦ a | false ↦ b ]) ≡ a
if_true a b true e = refl
if_true a b false e = false_true e

if_false : {A : Type 0} (a b : A) (t : Bool) → t ≡ false → (elim t as (λ _. A) [ true ↦ a | false ↦ b ]) ≡ b
if_false a b true e = false_true (sym e)
if_false a b false e = refl

-- What a split comes to
split_runs : (g : Graph) → 512 ≤ runs g → split_outcome g ≡ Err TooManyRuns
unfolding split_outcome first_of
split_runs g h = rw (lt-ltb 512 (runs g + 1) (omega arith))

split-entries : (g : Graph) → runs g < 512 → 2048 ≤ entries g → split_outcome g ≡ Err TooManyEntries
unfolding split_outcome first_of
split-entries g h k = rw (le-ltb 512 (runs g + 1) (omega arith), lt-ltb 2048 (entries g + 1) (omega arith))

split_done : (g : Graph) → runs g < 512 → entries g < 2048 → split_outcome g ≡ Ok tt
unfolding split_outcome first_of
split_done g h k = rw (le-ltb 512 (runs g + 1) (omega arith), le-ltb 2048 (entries g + 1) (omega arith))

-- From what it comes to, to the answer
module _ (g : CausalGraph) (at : ℕ) where
  tells : (b : Bool) → starting (view g) at ≡ answers b → told g b ≡ start_held_of g at
  unfolding start_held_of
  tells b e = sym (go (starting (view g) at) e)
    where
      go : (s : Starting) → s ≡ answers b →
          (elim s as (λ _. Started) [
            | answers d ↦ told g d
            | splitting ↦
                elim (split_outcome (view g)) as (λ _. Started) [
                  | Ok _ ↦ told (store (split (view g) (containing (view g) at) at)) true
                  | Err r ↦ start_refused g r
                ]
          ]) ≡
          told g b
      go s q = rw q

  refuses : (r : Refusal) → starting (view g) at ≡ splitting → split_outcome (view g) ≡ Err r → start_refused g r ≡ start_held_of g at
  unfolding start_held_of
  refuses r e f = sym (go (starting (view g) at) (split_outcome (view g)) e f)
    where
      go : (s : Starting) (o : Outcome) → s ≡ splitting → o ≡ Err r →
          (elim s as (λ _. Started) [
            | answers d ↦ told g d
            | splitting ↦
                elim o as (λ _. Started) [
                  | Ok _ ↦ told (store (split (view g) (containing (view g) at) at)) true
                  | Err q ↦ start_refused g q
                ]
          ]) ≡
          start_refused g r
      go s o p q = rw (p, q)

  splits : starting (view g) at ≡ splitting → split_outcome (view g) ≡ Ok tt → told (store (split (view g) (containing (view g) at) at)) true ≡ start_held_of g at
  unfolding start_held_of
  splits e f = sym (go (starting (view g) at) (split_outcome (view g)) e f)
    where
      go : (s : Starting) (o : Outcome) → s ≡ splitting → o ≡ Ok tt →
          (elim s as (λ _. Started) [
            | answers d ↦ told g d
            | splitting ↦
                elim o as (λ _. Started) [
                  | Ok _ ↦ told (store (split (view g) (containing (view g) at) at)) true
                  | Err q ↦ start_refused g q
                ]
          ]) ≡
          told (store (split (view g) (containing (view g) at) at)) true
      go s o p q = rw (p, q)

-- In no run
pub start_outside : (g : CausalGraph) (at : ℕ) → is_held (side (view g) at) ≡ false → told g false ≡ start_held_of g at
start_outside g at h = tells g at false (starting-out (view g) at h)

-- In run r
module _ (g : CausalGraph) (held : Held g) (at run : ℕ) (there : side (view g) at ≡ in_run run) where
  pub in_runs_lem : run < g.run_count
  in_runs_lem = omega (arith, (((sides (view g) held.formed).run at run).0 there).0, runs-view g held)

  lies : starting (view g) at ≡ starting_in (view g) at run
  lies = starting_in_lem (view g) at run there

  is-run : containing (view g) at ≡ run
  is-run = (run-told (view g) at run there).2

  here : start (view g) run ≡ get_or g.starts run 0
  here = start-view g held run (omega (arith, in_runs_lem))

  -- at its start: told whether it is unmarked
  pub start_there : get_or g.starts run 0 ≡ at → told g (not (marked (view g) run)) ≡ start_held_of g at
  start_there e = tells g at (not (marked (view g) run)) (lies ∙ in_there (view g) at run (here ∙ e))

  -- after its start
  module _ (off : get_or g.starts run 0 ≡ at → ⊥) where
    not_here : start (view g) run ≡ at → ⊥
    not_here e = off (sym here ∙ e)

    pub start-alone : alone (view g) run ≡ true → told g false ≡ start_held_of g at
    start-alone a = tells g at false (lies ∙ in_alone (view g) at run not_here a)

    module _ (a : alone (view g) run ≡ false) where
      parts : starting (view g) at ≡ splitting
      parts = lies ∙ in_splits (view g) at run not_here a

      pub start_full : 512 ≤ g.run_count → start_refused g TooManyRuns ≡ start_held_of g at
      start_full h = refuses g at TooManyRuns parts (split_runs (view g) (omega (arith, runs-view g held)))

      pub start_crowded : g.run_count < 512 → 2048 ≤ g.entry_count → start_refused g TooManyEntries ≡ start_held_of g at
      start_crowded h k = refuses g at TooManyEntries parts (split-entries (view g) (omega (arith, runs-view g held)) (omega (arith, entries-view g held)))

      pub start-splits : g.run_count < 512 → g.entry_count < 2048 → told (store (split (view g) run at)) true ≡ start_held_of g at
      start-splits h k =
          ap (λ (r : ℕ). told (store (split (view g) r at)) true) (sym is-run) ∙
          splits g at parts (split_done (view g) (omega (arith, runs-view g held)) (omega (arith, entries-view g held)))

      -- and the graph is held again
      pub split-held : g.run_count < 512 → g.entry_count < 2048 → (h : CausalGraph) → h ≡ store (split (view g) run at) → Held h
      split-held m n h e =
          let done = split_done (view g) (omega (arith, runs-view g held)) (omega (arith, entries-view g held)) in
          rw (e, ← is-run) (held-store (split (view g) (containing (view g) at) at) (start-formed (view g) held.formed at parts)
          (start-limits (view g) held.formed held.limits at parts done))

-- A run is marked exactly if it is among the marks
pub marked-mem : (g : CausalGraph) → Held g → (run : ℕ) → run < g.run_count →
    mem run (take g.mark_count g.critical_versions) ≡ marked (view g) run
marked-mem g held run h = ap (mem run) (sym (marks_list g held)) ∙ marks-mem (view g) run (omega (arith, runs-view g held))

-- A run alone: marked, and the last or before a marked one
module _ (g : Graph) (r : ℕ) where
  pub alone-unmarked : marked g r ≡ false → false ≡ alone g r
  unfolding alone
  alone-unmarked e = rw e

  pub alone-last : marked g r ≡ true → suc r ≡ runs g → true ≡ alone g r
  unfolding alone
  alone-last e h = rw (e, eq-eqb (suc r) (runs g) h)

  pub alone-next : marked g r ≡ true → (suc r ≡ runs g → ⊥) → marked g (suc r) ≡ alone g r
  unfolding alone
  alone-next e h = rw (e, ne_eqb (suc r) (runs g) h)

-- On every graph
pub start-broken : (g : CausalGraph) (at : ℕ) → broken g ≡ true → start_refused g Broken ≡ start_run_at_of g at
unfolding start_run_at_of
start-broken g at e = sym (if_true _ _ (broken g) e)

pub start-unbroken : (g : CausalGraph) (at : ℕ) → broken g ≡ false → start_held_of g at ≡ start_run_at_of g at
unfolding start_run_at_of
start-unbroken g at e = sym (if_false _ _ (broken g) e)

-- Takes

-- The record with nothing changed since
pub take-taken :
    (g : CausalGraph) →
    Held g →
    ◌≡◌ {A = Taken}
    (record {
      graph =
          record {
            starts = g.starts;
            parent_starts = g.parent_starts;
            parents = g.parents;
            frontier = g.frontier;
            seen_prefix_len = g.seen_prefix_len;
            critical_versions = g.critical_versions;
            run_count = g.run_count;
            entry_count = g.entry_count;
            frontier_count = g.frontier_count;
            mark_count = g.mark_count;
            changed_from = record { 0 = g.run_count };
          };
      answer = Ok g.changed_from;
    })
    (take_held_of g)
unfolding take_held_of store taken runs entries marks marked start
take-taken g held =
    λ i.
    record {
      graph =
          record {
            starts = starts-pad g held i;
            parent_starts = heads-pad g held i;
            parents = parents-pad g held i;
            frontier = frontier-pad g held i;
            seen_prefix_len = seen-pad g held i;
            critical_versions = marks-pad g held i;
            run_count = sym (runs-view g held) i;
            entry_count = sym (entries-view g held) i;
            frontier_count = sym (tips_view g held) i;
            mark_count = sym (marks-view g held) i;
            changed_from = record { 0 = sym (runs-view g held) i };
          };
      answer = Ok g.changed_from;
    }

pub take-broken : (g : CausalGraph) → broken g ≡ true → ◌≡◌ {A = Taken} (record { graph = g; answer = Err Broken }) (take_changed_from_of g)
unfolding take_changed_from_of
take-broken g e = sym (if_true _ _ (broken g) e)

pub take-unbroken : (g : CausalGraph) → broken g ≡ false → take_held_of g ≡ take_changed_from_of g
unfolding take_changed_from_of
take-unbroken g e = sym (if_false _ _ (broken g) e)
