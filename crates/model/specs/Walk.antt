-- 01, "walk.rs" and "What a refused call gives": `walk`, what it answers and what it leaves in the lent lists, on every input. Assumes
-- nothing.
use Rattle.std.specs.Prelude.{Bool, true, false, cond, ◌||◌, List, [], ◌∷◌, ℕ, ◌-◌, ◌/◌, length, take, ltb, Ok, Err}
use Rattle.lists.specs.Lists.{concat}
use Rattle.lists.specs.Areas.{over, fitting}
use Rattle.model.specs.declared.record.CausalGraph.{CausalGraph}
use Rattle.model.specs.declared.answers.Walked.{Walked}
use Rattle.model.specs.declared.answers.Refusal.{Refusal}
use Rattle.model.specs.Refusals.{refusal, first_of, Outcome}
use Rattle.model.specs.Graph.{Graph, runs}
use Rattle.model.specs.Record.{view}
use Rattle.model.specs.Broken.{broken}
use Rattle.model.specs.Choice.{Range, range_of}
use Rattle.model.specs.Steps.{Step, steps_of, words, moved_in}

-- The answer, the row area afterwards, the step list afterwards
abbrev pub WalkResult : Type 0
WalkResult = Walked × List ℕ × List ℕ

-- Steps written from the start of the list: "the answer carries the step count and moved"
unfoldable pub wrote : Graph → Outcome → List Step → List ℕ → List ℕ → WalkResult
wrote g o ss rows steps = (record { count = length ss; moved = moved_in g ss; outcome = o }, rows, over (words ss) steps)

-- Refused with no step written: "Count and `moved` are 0"
unfoldable pub unwalked : Refusal → List ℕ → List ℕ → WalkResult
unwalked r rows steps = (record { count = 0; moved = 0; outcome = Err r }, rows, steps)

-- "Rows lie in run order from the area's start without gaps"; those that fit, where they do not all
unfoldable pub rows_into : Range → List ℕ → List ℕ
rows_into w rows = over (concat (fitting (length rows) w.rows)) rows

-- 13: "rows together longer than the row area"
unfoldable pub rows_too_long : Range → List ℕ → Bool
rows_too_long w rows = ltb (length rows) (length (concat w.rows))

-- 11: a list of `room` steps holds fewer than there are
unfoldable pub list_outcome : ℕ → List Step → Outcome
list_outcome room ss = cond (ltb room (length ss)) (Err (refusal 11)) (Ok tt)

-- Refusals 1, 9, 12, before anything is written
unfoldable pub range_outcome : CausalGraph → ℕ → ℕ → ℕ → Outcome
range_outcome g a b known =
    first_of ((broken g, 1) ∷ (ltb b a || ltb (runs (view g)) b, 9) ∷ (ltb (b - a) known, 12) ∷ [])

-- The range a..b, refused under 13 and 11 alone: rows first, "all are written before the first step"
unfoldable pub walk_range : Graph → ℕ → ℕ → ℕ → ℕ → List ℕ → List ℕ → WalkResult
walk_range g a b known first rows steps =
    let w = range_of g a b in
    elim (rows_too_long w rows) [
      | true ↦ unwalked (refusal 13) (rows_into w rows) steps
      | false ↦
          let ss : List Step = steps_of w a known first in
          let room = length steps / 3 in
          wrote g (list_outcome room ss) (take room ss) (rows_into w rows) steps
    ]

-- `walk(range, known, first)` with a row area and a step list
unfoldable pub walk_of : CausalGraph → ℕ → ℕ → ℕ → ℕ → List ℕ → List ℕ → WalkResult
walk_of g a b known first rows steps = elim (range_outcome g a b known) [
  | Ok _ ↦ walk_range (view g) a b known first rows steps
  | Err r ↦ unwalked r rows steps
]
