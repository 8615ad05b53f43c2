-- 01, "Full replay and the plain set": full replay, what it answers and what it leaves in the lent lists, on every input. Assumes nothing.
use Rattle.std.specs.Prelude.{true, false, List, [], ◌∷◌, ◌++◌, map, ℕ, ◌-◌, ◌/◌, length, take, ltb, eqb, Ok, Err}
use Rattle.lists.specs.Lists.{from}
use Rattle.model.specs.declared.record.CausalGraph.{CausalGraph}
use Rattle.model.specs.Refusals.{refusal, Outcome}
use Rattle.model.specs.Graph.{Graph}
use Rattle.model.specs.Record.{view}
use Rattle.model.specs.Broken.{broken}
use Rattle.model.specs.Cut.{HistoryRange, linear, concurrent, cut_from}
use Rattle.model.specs.Choice.{range_of}
use Rattle.model.specs.Steps.{Step, opened, apply, steps_of}
use Rattle.model.specs.Walk.{WalkResult, wrote, unwalked, rows_into, rows_too_long}

-- What became of a range or of several: the outcome, the steps, the row area afterwards
abbrev pub Replayed : Type 0
Replayed = Outcome × List Step × List ℕ

-- "Each cut range from run 0 gives Open; then Linear applies its runs in order, Concurrent gives its walk with `known` and `first` 0.
-- The row area is used anew from its start". Where the rows are too long, Open alone stands
unfoldable pub replay_range : Graph → HistoryRange → List ℕ → Replayed
replay_range g (linear a b) rows = (Ok tt, opened a b ∷ map apply (from a (b - a)), rows)
replay_range g (concurrent a b) rows =
    let w = range_of g a b in
    elim (rows_too_long w rows) [
      | true ↦ (Err (refusal 13), opened a b ∷ [], rows_into w rows)
      | false ↦ (Ok tt, opened a b ∷ steps_of w a 0 0, rows_into w rows)
    ]

-- The ranges one after another, in a list of `room` steps: "replay stops at the first met going forward (Open, rows, steps)"
unfoldable pub replay_ranges : Graph → List HistoryRange → ℕ → List ℕ → Replayed
replay_ranges g [] room rows = (Ok tt, [], rows)
replay_ranges g (c ∷ cs) room rows = elim (eqb room 0) [
  | true ↦ (Err (refusal 11), [], rows)
  | false ↦
      let this = replay_range g c rows in
      elim (ltb room (length this.1)) [
        | true ↦ (Err (refusal 11), take room this.1, this.2)
        | false ↦ elim this.0 [
          | Ok _ ↦
              let later = replay_ranges g cs (room - length this.1) this.2 in
              (later.0, this.1 ++ later.1, later.2)
          | Err r ↦ this
        ]
      ]
]

-- Full replay with a row area and a step list; count and `moved` "tell what was written"
unfoldable pub replay_of : CausalGraph → List ℕ → List ℕ → WalkResult
replay_of g rows steps = elim (broken g) [
  | true ↦ unwalked (refusal 1) rows steps
  | false ↦
      let all = replay_ranges (view g) (cut_from (view g) 0) (length steps / 3) rows in
      wrote (view g) all.0 all.1 all.2 steps
]
