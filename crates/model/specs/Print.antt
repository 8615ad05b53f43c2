-- 01, "The book and its program": what `replay` prints, as lines and as text. Assumes nothing.
use Rattle.std.specs.Prelude.{true, false, List, [], ◌∷◌, ◌++◌, map, ℕ, zero, suc, ◌+◌, ◌*◌, ◌/◌, ◌%◌, take, replicate, ltb, Ok, Err}
use Rattle.std.proofs.Math.Option.{none, some}
use Prim.Native.Char.{code}
use Prim.Native.String.{String, [] as end, ◌∷◌ as ◌then◌}
use Rattle.lists.specs.Lists.{concat}
use Rattle.model.specs.declared.record.CausalGraph.{CausalGraph}
use Rattle.model.specs.Limits.{lent_rows, lent_steps}
use Rattle.model.specs.Refusals.{number, Outcome}
use Rattle.model.specs.Steps.{Step, retreat, advance, opened, apply}
use Rattle.model.specs.Reader.{said}
use Rattle.model.specs.Replay.{replay_of}
use Rattle.model.specs.Book.{book_of}
use Rattle.model.specs.declared.answers.BookRefusal.{BookRefusal}
use Rattle.model.specs.declared.answers.BookRefusal.TheVariants.{Refused, PushRefused}

-- A line of output
pub data Line : Type 0 where
  step_line : Step → Line
  moved_line : ℕ → Line
  refused_line : ℕ → Line
  push_refused_line : ℕ → ℕ → Line

-- The steps that were written, of words that walks and replays write
unfoldable pub said_steps : List ℕ → List Step
said_steps ws = elim (said ws) [ none ↦ [] | some ss ↦ ss ]

-- "then `moved n`"; "A refused replay prints the steps written, then `refused n`"
unfoldable pub last_line : Outcome → ℕ → Line
last_line (Ok _) moved = moved_line moved
last_line (Err r) moved = refused_line (number r)

-- `replay` "lends 4,096 steps and 8,192 row words" and "prints a line per step"
unfoldable pub replay_lines : CausalGraph → List Line
replay_lines g =
    let r = replay_of g (replicate lent_rows 0) (replicate (3 * lent_steps) 0) in
    map step_line (said_steps (take (3 * r.0.count) r.2)) ++ last_line r.0.outcome r.0.moved ∷ []

-- "`refused n` is printed, with ` push k`, k from 0, where a push gave 2 to 8"
abbrev pub refusal_line : BookRefusal → Line
refusal_line (Refused r) = refused_line (number r)
refusal_line (PushRefused r k) = push_refused_line (number r) k

-- What is printed of a book
unfoldable pub printed : List ℕ → List Line
printed bytes =
    let b = book_of bytes in
    elim b.answer [
      | Ok _ ↦ replay_lines b.graph
      | Err r ↦ refusal_line r ∷ []
    ]

-- The codes of a text's characters: its bytes, where they are ASCII
unfoldable pub ascii : String → List ℕ
ascii end = []
ascii (c then s) = code c ∷ ascii s

-- "written in decimal": the digits of n before those of `done`; no number here has more than 20
unfoldable pub digits : ℕ → ℕ → List ℕ → List ℕ
digits zero n done = done
digits (suc k) n done = elim (ltb n 10) [ true ↦ (48 + n) ∷ done | false ↦ digits k (n / 10) ((48 + n % 10) ∷ done) ]

unfoldable pub decimal : ℕ → List ℕ
decimal n = digits 20 n []

-- a word and one or two numbers
unfoldable pub say : String → ℕ → List ℕ
say s a = ascii s ++ decimal a

unfoldable pub say_range : String → ℕ → ℕ → List ℕ
say_range s a b = say s a ++ ascii " " ++ decimal b

-- "`open a b`, `retreat a b`, `advance a b`, end exclusive; `apply r`"
unfoldable pub step_text : Step → List ℕ
step_text (retreat a b) = say_range "retreat " a b
step_text (advance a b) = say_range "advance " a b
step_text (apply r) = say "apply " r
step_text (opened a b) = say_range "open " a b

unfoldable pub line_text : Line → List ℕ
line_text (step_line s) = step_text s
line_text (moved_line n) = say "moved " n
line_text (refused_line n) = say "refused " n
line_text (push_refused_line n k) = say "refused " n ++ say " push " k

-- Lines as bytes, each ended
unfoldable pub text : List Line → List ℕ
text ls = concat (map (λ l. line_text l ++ ascii "\n") ls)

-- `replay`: the bytes of standard input to those of standard output
unfoldable pub replay_text : List ℕ → List ℕ
replay_text bytes = text (printed bytes)
