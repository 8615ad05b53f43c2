-- Records written one after another into a lent list, as long as they fit. Assumes nothing.
use Rattle.std.specs.Prelude.{◌≡◌, Bool, true, false, List, [], ◌∷◌, ℕ, zero, suc, ◌+◌, ◌*◌, ◌/◌, ◌≤◌, ◌^◌, length, set, ltb, Ok, Err}
use Rattle.model.specs.declared.answers.Walked.{Walked}
use Rattle.model.specs.declared.answers.Refusal.TheVariants.{ListTooShort}
use Rattle.model.specs.Refusals.{Outcome}
use Rattle.moves.specs.declared.writing.Kind.{Kind}
use Rattle.moves.specs.declared.writing.Kind.TheVariants.{Retreat, Advance, Apply, Open, Other}
use Rattle.moves.specs.declared.writing.Steps.{Steps}

-- The word that stands for a kind of steps
abbrev pub kind_word : Kind → ℕ
kind_word Retreat = 0
kind_word Advance = 1
kind_word Apply = 2
kind_word Open = 3
kind_word (Other k) = k

-- A record: a step's kind and its two other words, and the events that it moves
pub record Rec : Type 0 where
  pub kind : Kind
  pub first : ℕ
  pub past : ℕ
  pub events : ℕ

abbrev pub step_of : Kind → ℕ → ℕ → ℕ → Rec
step_of k a b e = record { kind = k; first = a; past = b; events = e }

-- What stands in a list and what came of it, as a call answers it, and the list
abbrev pub Writing : Type 0
Writing = Walked × List ℕ

-- What stands there moves at most 2 ^ 64 events for each step. It is so where nothing stands, and each record of no more events keeps it (`one_by_count`,
-- proofs/Bounds.antt), so it is of a writer that begins with nothing
abbrev pub ByCount : Writing → Type 0
ByCount w = w.0.moved ≤ w.0.count * 2 ^ 64

-- k records stand there, which moved m, and all found room; or one found none
abbrev pub going : ℕ → ℕ → Walked
going k m = record { count = k; moved = m; outcome = Ok tt }

abbrev pub stopped : ℕ → ℕ → Walked
stopped k m = record { count = k; moved = m; outcome = Err ListTooShort }

-- Where something was refused no more is done
abbrev pub if_going : Outcome → Writing → Writing → Writing
if_going (Ok _) next w = next
if_going (Err _) next w = w

abbrev pub pick : Bool → Writing → Writing → Writing
pick true a b = a
pick false a b = b

-- Three words from a place on
abbrev pub put3 : List ℕ → ℕ → ℕ → ℕ → ℕ → List ℕ
put3 ws at k a b = set (set (set ws at k) (at + 1) a) (at + 2) b

-- Three words after the others, which move so many events: they are written if all before them found room and they fit whole; the first
-- that do not fit leave the list as it is
abbrev pub put_words : Writing → ℕ → ℕ → ℕ → ℕ → Writing
put_words w k a b events =
    if_going w.0.outcome
    (pick (ltb w.0.count (length w.1 / 3))
    (going (w.0.count + 1) (w.0.moved + events), put3 w.1 (3 * w.0.count) k a b)
    (stopped w.0.count w.0.moved, w.1))
    w

-- One record
abbrev pub emit_one : Writing → Rec → Writing
emit_one w s = put_words w (kind_word s.kind) s.first s.past s.events

-- All of them, in turn
unfoldable pub emit : Writing → List Rec → Writing
emit w [] = w
emit w (s ∷ ss) = emit (emit_one w s) ss

-- Apply of n runs from a on
unfoldable pub applies : ℕ → ℕ → List Rec
applies a zero = []
applies a (suc n) = step_of Apply a (a + 1) 0 ∷ applies (a + 1) n

-- What a writer has written, with what it answered; and so far, where nothing was refused
abbrev pub written : Outcome → Steps → Writing
written r w = (record { count = w.count; moved = w.moved; outcome = r }, w.list.now)

abbrev pub so_far : Steps → Writing
so_far w = written (Ok tt) w

-- Two are over one list
abbrev pub same_list : Steps → Steps → Type 0
same_list v w = v.list.ghost_name ≡ w.list.ghost_name
