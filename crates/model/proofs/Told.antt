-- What walks and full replays tell is what they wrote: the steps, and the events in the moves. Assumes nothing.
use Rattle.std.proofs.Common.{◌≡◌, refl, sym, ◌∙◌, Bool, true, false, List, [], ◌∷◌, ◌++◌, ℕ, ◌+◌, ◌-◌, ◌*◌, ◌/◌, ◌≤◌, arith, length, take, length-append, length-take, ltb, eqb, ltb-false}
use Rattle.lists.specs.Lists.{bit, sum, concat, from, upto, largest}
use Rattle.lists.proofs.Between.{within, count-between}
use Rattle.lists.proofs.Counts.{count-sum, sum-zero, sum-add}
use Rattle.lists.proofs.Bounds.{largest_get}
use Rattle.lists.proofs.Pads.{length_over, take-over, drop-over}
use Rattle.model.specs.declared.record.CausalGraph.{CausalGraph}
use Rattle.model.specs.declared.answers.Refusal.{Refusal}
use Rattle.model.specs.declared.answers.Refusal.TheVariants.{Broken, RowsTooLong, ListTooShort}
use Rattle.model.specs.Graph.{Graph, start}
use Rattle.model.specs.Record.{view}
use Rattle.model.specs.Broken.{broken}
use Rattle.model.specs.Cut.{HistoryRange, cut_from}
use Rattle.model.specs.Choice.{range_of}
use Rattle.model.specs.Steps.{Step, retreat, advance, opened, apply, steps_of, words, moved_in}
use Rattle.model.specs.Walk.{WalkResult, wrote, unwalked, rows_into, rows_too_long, list_outcome, range_outcome, walk_range, walk_of}
use Rattle.model.specs.Replay.{Replayed, replay_range, replay_ranges, replay_of}
use Rattle.model.specs.Meaning.{in_span, times_moved, Told}
use Rattle.model.proofs.Reading.{words-length}
use Rattle.std.specs.Prelude.{Ok, Err}
use Rattle.model.specs.Refusals.{Outcome}

module _ (g : Graph) where
  -- All events up to the last run's end
  abbrev events : List ℕ
  events = upto (largest 0 g.starts)

  -- The events of a move
  span_size : (a b : ℕ) → start g b - start g a ≡ sum (λ e. bit (in_span g a b e)) events
  unfolding in_span upto start
  span_size a b =
      omega (arith, count-between (start g a) (start g b) 0 (largest 0 g.starts), largest_get g.starts b) ∙
      count-sum (λ e. within (start g a, start g b) e) (from 0 (largest 0 g.starts))

  -- One move more
  one_more : (a b : ℕ) (ss : List Step) → moved_in g ss ≡ sum (times_moved g ss) events →
      (start g b - start g a) + moved_in g ss ≡ sum (λ e. bit (in_span g a b e) + times_moved g ss e) events
  one_more a b ss ih = omega (arith, span_size a b, ih, sum-add (λ e. bit (in_span g a b e)) (times_moved g ss) events)

  -- `movedIn` counts events
  pub moved-counts : (ss : List Step) → moved_in g ss ≡ sum (times_moved g ss) events
  unfolding moved_in times_moved
  moved-counts [] = sym (sum-zero events)
  moved-counts (retreat a b ∷ ss) = one_more a b ss (moved-counts ss)
  moved-counts (advance a b ∷ ss) = one_more a b ss (moved-counts ss)
  moved-counts (apply r ∷ ss) = moved-counts ss
  moved-counts (opened a b ∷ ss) = moved-counts ss

  -- Steps written into a lent list that has room for them
  wrote-told : (o : Outcome) (ss : List Step) (rows steps : List ℕ) → length ss ≤ length steps / 3 → Told g steps (wrote g o ss rows steps)
  unfolding wrote
  wrote-told o ss rows steps room = record {
    steps = ss;
    counted = refl;
    written = take-over (words ss) steps (3 * length ss) (words-length ss);
    rest = drop-over (words ss) steps (3 * length ss) (words-length ss);
    long = length_over (words ss) steps (omega (arith, words-length ss));
    moved = moved-counts ss;
  }

  -- None written
  unwalked-told : (r : Refusal) (rows steps : List ℕ) → Told g steps (unwalked r rows steps)
  unfolding unwalked words concat moved_in
  unwalked-told r rows steps = record { steps = []; counted = refl; written = refl; rest = refl; long = refl; moved = moved-counts [] }

  -- The steps of a full replay have room
  ranges_fit : (cs : List HistoryRange) (room : ℕ) (rows : List ℕ) → length (replay_ranges g cs room rows).1 ≤ room
  unfolding replay_ranges
  ranges_fit [] room rows = omega arith
  ranges_fit (c ∷ cs) room rows =
      go (eqb room 0) (ltb room (length this.1)) refl this.0 (ranges_fit cs (room - length this.1) this.2)
    where
      this : Replayed
      this = replay_range g c rows

      later : Replayed
      later = replay_ranges g cs (room - length this.1) this.2

      go : (z t : Bool) → ltb room (length this.1) ≡ t → (o : Outcome) → length later.1 ≤ room - length this.1 →
          length {A = Step} (elim z as (λ _. Replayed) [
            | true ↦ (Err ListTooShort, [], rows)
            | false ↦ elim t as (λ _. Replayed) [
              | true ↦ (Err ListTooShort, take room this.1, this.2)
              | false ↦ elim o as (λ _. Replayed) [ Ok _ ↦ (later.0, this.1 ++ later.1, later.2) | Err r ↦ this ]
            ]
          ]).1 ≤ room
      go true t e o ih = omega arith
      go false true e o ih = omega (arith, length-take room this.1)
      go false false e (Ok _) ih = omega (arith, length-append this.1 later.1, ltb-false room (length this.1) e)
      go false false e (Err r) ih = ltb-false room (length this.1) e

  -- A walk of a range inside the graph
  range_told : (a b known first : ℕ) (rows steps : List ℕ) → Told g steps (walk_range g a b known first rows steps)
  unfolding walk_range
  range_told a b known first rows steps = go (rows_too_long (range_of g a b) rows)
    where
      ss : List Step
      ss = steps_of (range_of g a b) a known first

      go : (t : Bool) → Told g steps (elim t as (λ _. WalkResult) [
        | true ↦ unwalked RowsTooLong (rows_into (range_of g a b) rows) steps
        | false ↦ wrote g (list_outcome (length steps / 3) ss) (take (length steps / 3) ss) (rows_into (range_of g a b) rows) steps
      ])
      go true = unwalked-told RowsTooLong (rows_into (range_of g a b) rows) steps
      go false = wrote-told (list_outcome (length steps / 3) ss) (take (length steps / 3) ss) (rows_into (range_of g a b) rows) steps
          (omega (arith, length-take (length steps / 3) ss))

-- Walks
pub walk_told : (g : CausalGraph) (a b known first : ℕ) (rows steps : List ℕ) → Told (view g) steps (walk_of g a b known first rows steps)
unfolding walk_of
walk_told g a b known first rows steps = go (range_outcome g a b known)
  where
    go : (o : Outcome) → Told (view g) steps (elim o as (λ _. WalkResult) [
      | Ok _ ↦ walk_range (view g) a b known first rows steps
      | Err r ↦ unwalked r rows steps
    ])
    go (Ok _) = range_told (view g) a b known first rows steps
    go (Err r) = unwalked-told (view g) r rows steps

-- Full replays
pub replay_told : (g : CausalGraph) (rows steps : List ℕ) → Told (view g) steps (replay_of g rows steps)
unfolding replay_of
replay_told g rows steps = go (broken g)
  where
    all : Replayed
    all = replay_ranges (view g) (cut_from (view g) 0) (length steps / 3) rows

    go : (t : Bool) → Told (view g) steps (elim t as (λ _. WalkResult) [ true ↦ unwalked Broken rows steps | false ↦ wrote (view g) all.0 all.1 all.2 steps ])
    go true = unwalked-told (view g) Broken rows steps
    go false = wrote-told (view g) all.0 all.1 all.2 steps (ranges_fit (view g) (cut_from (view g) 0) (length steps / 3) rows)
