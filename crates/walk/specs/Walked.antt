-- What a range, or several, came to: what is written in the step list, and the row area. Assumes nothing.
use Rattle.std.specs.Prelude.{true, false, List, [], ◌∷◌, ℕ, ◌-◌, Ok, Err}
use Rattle.model.specs.declared.answers.Refusal.TheVariants.{RowsTooLong}
use Rattle.model.specs.Cut.{HistoryRange, linear, concurrent}
use Rattle.model.specs.Choice.{Range}
use Rattle.model.specs.Steps.{steps_of}
use Rattle.model.specs.Walk.{WalkResult, rows_into, rows_too_long}
use Rattle.model.specs.Refusals.{Outcome}
use Rattle.moves.specs.declared.writing.Kind.TheVariants.{Open}
use Rattle.moves.specs.Emit.{Writing, going, step_of, emit_one, emit, applies}
use Rattle.moves.specs.Moves.{recs}

-- What is written in the step list, and the row area
abbrev pub State : Type 0
State = Writing × List ℕ

-- Nothing is written in a list
abbrev pub unwritten : List ℕ → Writing
unwritten steps = (going 0 0, steps)

-- What is written, where a range's rows are too long
abbrev pub rows_refused : Writing → Writing
rows_refused x = (record { count = x.0.count; moved = x.0.moved; outcome = Err RowsTooLong }, x.1)

-- A range's rows, and its steps after those written before; runs start at st
unfoldable pub walked_in : List ℕ → Range → ℕ → ℕ → ℕ → Writing → List ℕ → State
walked_in st w a known first x rows = elim (rows_too_long w rows) [
  | true ↦ (rows_refused x, rows_into w rows)
  | false ↦ (emit x (recs st (steps_of w a known first)), rows_into w rows)
]

-- The answer, the row area, the step list
abbrev pub result_of : State → WalkResult
result_of s = (s.0.0, s.1, s.0.1)

-- A cut's range after Open
unfoldable pub opening : List ℕ → (ℕ → ℕ → Range) → Writing → List ℕ → HistoryRange → State
opening st range x rows (linear a b) = (emit x (applies a (b - a)), rows)
opening st range x rows (concurrent a b) = walked_in st (range a b) a 0 0 x rows

-- Its Open
unfoldable pub open_of : Writing → HistoryRange → Writing
open_of x (linear a b) = emit_one x (step_of Open a b 0)
open_of x (concurrent a b) = emit_one x (step_of Open a b 0)

-- Where something was refused no more is done
abbrev pub if_done : Outcome → State → State → State
if_done (Ok _) next s = next
if_done (Err _) next s = s

-- A range of the cut replayed: nothing where something was refused before; Open; and the rest where Open found room
unfoldable pub replay_on : List ℕ → (ℕ → ℕ → Range) → State → HistoryRange → State
replay_on st range s c =
    let x : Writing = open_of s.0 c in
    if_done s.0.0.outcome (if_done x.0.outcome (opening st range x s.1 c) (x, s.1)) s

-- so all of them
unfoldable pub replay_all : List ℕ → (ℕ → ℕ → Range) → State → List HistoryRange → State
replay_all st range s [] = s
replay_all st range s (c ∷ cs) = replay_all st range (replay_on st range s c) cs
