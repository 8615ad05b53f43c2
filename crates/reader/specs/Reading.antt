-- 01, "Beside it": "A step reader is made over a written list and hands out its steps in turn; under three words left is the end". What
-- stands at a place is `next_of` of the model. Assumes nothing.
use Rattle.std.specs.Prelude.{List, [], ◌∷◌, ℕ, zero, suc, length, Ok, Err, Some, None}
use Rattle.model.specs.Answers.{NextStep}
use Rattle.std.specs.Borrow.{Bor}
use Rattle.model.specs.declared.steps.WalkStep.{WalkStep}
use Rattle.model.specs.declared.steps.WalkStep.TheVariants.{Retreat, Advance, Apply, Open}
use Rattle.model.specs.Steps.{Step, retreat, advance, opened, apply}
use Rattle.model.specs.Reader.{next_of}
use Rattle.reader.specs.declared.StepAt.{StepAt}
use Rattle.reader.specs.declared.StepReader.{StepReader}

-- A step that was read, as the model has it
abbrev pub step_read : WalkStep → Step
step_read (Retreat a b) = retreat a.0 b.0
step_read (Advance a b) = advance a.0 b.0
step_read (Apply r) = apply r.0
step_read (Open a b) = opened a.0 b.0

-- An answer, and the place where the reader then stands
abbrev pub step_at : NextStep → ℕ → StepAt
step_at step at = record { step = step; at = at }

-- A reader over a written list that stands at `at`
abbrev pub reader_at : Bor (List ℕ) → ℕ → StepReader
reader_at words at = record { words = words; at = at }

-- An answer, and the reader moved to the place beside it
abbrev pub handed : StepReader → NextStep × ℕ → NextStep × StepReader
handed r n = (n.0, reader_at r.words n.1)

-- `next`: the answer, and the reader afterwards
abbrev pub next_from : StepReader → NextStep × StepReader
next_from r = handed r (next_of r.words.now r.at)

-- The steps handed out in turn; then the answer that is no step, and the place where it is given
abbrev pub HandedOut : Type 0
HandedOut = List WalkStep × (NextStep × ℕ)

-- An answer, and what is handed out from the place beside it: the end and a refusal stop
unfoldable pub before : NextStep × ℕ → (ℕ → HandedOut) → HandedOut
before n later = elim n.0 [
  | Ok (Some s) ↦
      let out = later n.1 in
      (s ∷ out.0, out.1)
  | Ok None ↦ ([], n)
  | Err r ↦ ([], n)
]

-- `next` again and again from `at` on, for at most `fuel` steps
unfoldable pub reads : ℕ → List ℕ → ℕ → HandedOut
reads zero words at = ([], next_of words at)
reads (suc fuel) words at = before (next_of words at) (λ n. reads fuel words n)

-- All that a reader at `at` hands out till it stops; there are no more steps than words
unfoldable pub read_all : List ℕ → ℕ → HandedOut
read_all words at = reads (length words) words at
