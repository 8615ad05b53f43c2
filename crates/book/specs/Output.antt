-- Lines written into a lent buffer: the whole lines that fit. Assumes nothing.
use Rattle.std.specs.Prelude.{true, false, not, cond, ◌&&◌, List, [], ◌∷◌, ◌++◌, map, ℕ, ◌+◌, length, take, drop, leb, ltb, Ok, Err}
use Rattle.std.proofs.Math.Option.{Option, none, some}
use Rattle.lists.specs.Lists.{concat}
use Rattle.lists.specs.Areas.{over, fitting}
use Rattle.model.specs.Steps.{Step}
use Rattle.model.specs.Reader.{decoded}
use Rattle.model.specs.declared.answers.BookRead.{BookRead}
use Rattle.model.specs.Print.{Line as PrintLine, step_line, refusal_line, ascii, line_text, text, replay_lines}
use Rattle.book.specs.declared.printing.Printed.{Printed}

-- how many bytes a line has room for
abbrev pub max_line : ℕ
max_line = 64

-- how many bytes the lines of any book take at most
abbrev pub max_text : ℕ
max_text = 131072

-- a line of 01's, and its end
unfoldable pub ended : PrintLine → List ℕ
ended l = line_text l ++ ascii "\n"

-- a step's line; nothing where there is no step
unfoldable pub step_bytes : Option Step → List ℕ
step_bytes none = []
step_bytes (some s) = ended (step_line s)

-- the lines of a list of words, three to a step
unfoldable pub word_lines : List ℕ → List (List ℕ)
word_lines [] = []
word_lines (k ∷ []) = []
word_lines (k ∷ a ∷ []) = []
word_lines (k ∷ a ∷ b ∷ ws) = step_bytes (decoded k a b) ∷ word_lines ws

-- One line after the others, or none where it does not fit or one before it did not
unfoldable pub put_line : Printed × List ℕ → List ℕ → Printed × List ℕ
put_line w xs =
    cond
    (not w.0.short && leb (w.0.used + length xs) (length w.1))
    (record { used = w.0.used + length xs; short = false }, take w.0.used w.1 ++ xs ++ drop (w.0.used + length xs) w.1)
    (record { used = w.0.used; short = true }, w.1)

-- Lines in turn
unfoldable pub put_lines : Printed × List ℕ → List (List ℕ) → Printed × List ℕ
put_lines w [] = w
put_lines w (x ∷ xs) = put_lines (put_line w x) xs

-- What lines leave in a lent buffer: the whole ones that fit, from its start; the rest keeps its value. Short where not all fit
unfoldable pub printing : List PrintLine → List ℕ → Printed × List ℕ
printing ls out =
    let fit = concat (fitting (length out) (map ended ls)) in
    (record { used = length fit; short = ltb (length out) (length (text ls)) }, over fit out)

-- The lines of a book that was read
unfoldable pub lines_of : BookRead → List PrintLine
lines_of b = elim b.answer [
  | Ok _ ↦ replay_lines b.graph
  | Err r ↦ refusal_line r ∷ []
]
