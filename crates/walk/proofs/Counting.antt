-- How many steps a walk and a full replay write at most, and so how many events these move. Assumes nothing.
use Rattle.std.proofs.Common.{Bool, true, false, List, [], ◌∷◌, ◌++◌, ℕ, ◌+◌, ◌-◌, ◌*◌, ◌/◌, ◌≤◌, ◌<◌, arith, length, take, length-take, length-append, ltb, eqb, get_or, get_or-take, ◌^◌, ◌⊎◌}
use Rattle.std.proofs.Common.{inl, inr}
use Rattle.std.specs.Prelude.{Ok, Err}
use Rattle.std.proofs.lemmas.List.{get_or_past}
use lib.ListN.{length-map}
use Rattle.lists.specs.Lists.{from}
use Rattle.lists.proofs.Counts.{from-length}
use Rattle.lists.proofs.Truth.{lt_or_le}
use Rattle.model.specs.declared.record.CausalGraph.{CausalGraph}
use Rattle.model.specs.declared.answers.Refusal.TheVariants.{RowsTooLong, ListTooShort}
use Rattle.model.specs.Refusals.{Outcome}
use Rattle.model.specs.Graph.{Graph, runs, start}
use Rattle.model.specs.Record.{view}
use Rattle.model.specs.Broken.{Held}
use Rattle.model.specs.Choice.{Range, range_of}
use Rattle.model.specs.Cut.{HistoryRange, linear, concurrent, cut_from}
use Rattle.model.specs.Steps.{Step, retreat, advance, opened, apply, steps_of, moved_in}
use Rattle.moves.specs.Stretches.{Below}
use Rattle.model.specs.Walk.{WalkResult, wrote, unwalked, rows_into, rows_too_long, list_outcome, walk_range}
use Rattle.model.specs.Replay.{Replayed, replay_range, replay_ranges, replay_of}
use Rattle.model.proofs.Rooms.{range_span, steps_span, steps_fit}
use Rattle.model.proofs.RoomsReplay.{Laid, cut_laid}
use Rattle.model.proofs.Results.{replay_is}
use Rattle.model.proofs.Stored.{not-broken}
use Rattle.graph.proofs.Views.{facts, runs-view}
use Rattle.walk.proofs.CutRead.{laid_le}

-- Steps move fewer than 2^32 events each
moved_le : (g : Graph) → Below (2 ^ 32) g.starts → (ss : List Step) → moved_in g ss ≤ length ss * 2 ^ 32
unfolding moved_in start
moved_le g small [] = omega arith
moved_le g small (retreat a b ∷ ss) = omega (arith, small b, moved_le g small ss)
moved_le g small (advance a b ∷ ss) = omega (arith, small b, moved_le g small ss)
moved_le g small (apply r ∷ ss) = omega (arith, moved_le g small ss)
moved_le g small (opened a b ∷ ss) = omega (arith, moved_le g small ss)

-- A walk
walk_moves : (g : Graph) → runs g ≤ 512 → Below (2 ^ 32) g.starts → (a b known first : ℕ) (rows steps : List ℕ) → (walk_range g a b known first rows steps).0.moved < 2 ^ 64
unfolding walk_range wrote unwalked
walk_moves g limit small a b known first rows steps = go (rows_too_long (range_of g a b) rows)
  where
    w : Range
    w = range_of g a b

    ss : List Step
    ss = steps_of w a known first

    go : (t : Bool) → (elim t as (λ _. WalkResult) [
      | true ↦ unwalked RowsTooLong (rows_into w rows) steps
      | false ↦ wrote g (list_outcome (length steps / 3) ss) (take (length steps / 3) ss) (rows_into w rows) steps
    ]).0.moved < 2 ^ 64
    go true = omega arith
    go false = omega (arith, moved_le g small (take (length steps / 3) ss), length-take (length steps / 3) ss, steps_fit g a b known first limit)

module _ (g : Graph) (limit : runs g ≤ 512) where
  -- A range that has a run
  linear_count : (a b : ℕ) (rows : List ℕ) → a < b → length (replay_range g (linear a b) rows).1 ≤ (b - a) * 1026
  unfolding replay_range
  linear_count a b rows h = omega (arith, length-map (from a (b - a)) apply, from-length a (b - a))

  concurrent_count : (a b : ℕ) (rows : List ℕ) → a < b → length (replay_range g (concurrent a b) rows).1 ≤ (b - a) * 1026
  unfolding replay_range
  concurrent_count a b rows h = go (rows_too_long w rows)
    where
      w : Range
      w = range_of g a b

      go : (t : Bool) → length (elim t as (λ _. Replayed) [
        | true ↦ (Err RowsTooLong, opened a b ∷ [], rows_into w rows)
        | false ↦ (Ok tt, opened a b ∷ steps_of w a 0 0, rows_into w rows)
      ]).1 ≤ (b - a) * 1026
      go true = omega arith
      go false = omega (arith, steps_span g a b 0 0 limit, range_span g a b)

  -- A range and those after it
  both : (this later : Replayed) (room : ℕ) (rows : List ℕ) (n m : ℕ) → length this.1 ≤ n → length later.1 ≤ m → (t u : Bool) (o : Outcome) →
      length (elim t as (λ _. Replayed) [
        | true ↦ (Err ListTooShort, [], rows)
        | false ↦ elim u as (λ _. Replayed) [
          | true ↦ (Err ListTooShort, take room this.1, this.2)
          | false ↦ elim o as (λ _. Replayed) [ Ok _ ↦ (later.0, this.1 ++ later.1, later.2) | Err r ↦ this ]
        ]
      ]).1 ≤ n + m
  both this later room rows n m p q true u o = omega arith
  both this later room rows n m p q false true o = omega (arith, length-take room this.1)
  both this later room rows n m p q false false (Ok x) = omega (arith, length-append this.1 later.1)
  both this later room rows n m p q false false (Err r) = omega arith

  ranges_count : (lo : ℕ) (cs : List HistoryRange) (end room : ℕ) (rows : List ℕ) → Laid lo cs end → length (replay_ranges g cs room rows).1 ≤ (end - lo) * 1026
  unfolding replay_ranges
  ranges_count lo [] end room rows h = omega arith
  ranges_count lo (linear a b ∷ cs) end room rows h =
      let this : Replayed = replay_range g (linear a b) rows in
      let later : Replayed = replay_ranges g cs (room - length this.1) this.2 in
      omega (
        arith,
        h.0,
        h.1,
        laid_le b cs end h.2,
        both this later room rows ((b - a) * 1026) ((end - b) * 1026) (linear_count a b rows h.1)
            (ranges_count b cs end (room - length this.1) this.2 h.2) (eqb room 0) (ltb room (length this.1)) this.0,
      )
  ranges_count lo (concurrent a b ∷ cs) end room rows h =
      let this : Replayed = replay_range g (concurrent a b) rows in
      let later : Replayed = replay_ranges g cs (room - length this.1) this.2 in
      omega (
        arith,
        h.0,
        h.1,
        laid_le b cs end h.2,
        both this later room rows ((b - a) * 1026) ((end - b) * 1026) (concurrent_count a b rows h.1)
            (ranges_count b cs end (room - length this.1) this.2 h.2) (eqb room 0) (ltb room (length this.1)) this.0,
      )

-- of a held record, whose numbers fit 32 bits
module _ (g : CausalGraph) (held : Held g) (small : Below (2 ^ 32) g.starts) where
  few : runs (view g) ≤ 512
  few = omega (arith, (facts g held).runs, runs-view g held)

  starts_small : Below (2 ^ 32) (view g).starts
  unfolding view
  starts_small i = go (lt_or_le i (g.run_count + 1))
    where
      xs : List ℕ
      xs = take (g.run_count + 1) g.starts

      go : (i < g.run_count + 1) ⊎ (g.run_count + 1 ≤ i) → get_or xs i 0 < 2 ^ 32
      go (inl l) = omega (arith, small i, get_or-take (g.run_count + 1) g.starts i 0 l)
      go (inr l) = omega (arith, get_or_past xs i 0 (omega (arith, l, length-take (g.run_count + 1) g.starts)))

  pub walk_few : (a b known first : ℕ) (rows steps : List ℕ) → (walk_range (view g) a b known first rows steps).0.moved < 2 ^ 64
  walk_few = walk_moves (view g) few starts_small

  pub replay_few : (rows steps : List ℕ) → (replay_of g rows steps).0.moved < 2 ^ 64
  replay_few rows steps = rw (replay_is g rows steps (not-broken g held))
      (unfold wrote in omega (
        arith,
        few,
        moved_le (view g) starts_small (replay_ranges (view g) (cut_from (view g) 0) (length steps / 3) rows).1,
        ranges_count (view g) few 0 (cut_from (view g) 0) (runs (view g)) (length steps / 3) rows (cut_laid (view g) 0),
      ))
