-- What the writers into lent lists compute, record by record. Assumes nothing.
use Rattle.std.specs.Prelude.{◌≡◌, cond, List, [], ◌∷◌, ◌++◌, ℕ, ◌+◌, ◌*◌, ◌/◌, length, take, drop, ltb, Ok, Err}
use Rattle.model.specs.declared.answers.Written.{Written}
use Rattle.model.specs.declared.answers.Refusal.TheVariants.{ListTooShort}
use Rattle.model.specs.Refusals.{Outcome}
use Rattle.graph.specs.declared.records.Records.{Records}

-- One record of `size` words after the others, or refusal 11 where it does not fit; none after one that did not
unfoldable pub put : ℕ → Written × List ℕ → List ℕ → Written × List ℕ
put size w ws = elim w.0.outcome [
  | Ok _ ↦
      cond
      (ltb w.0.count (length w.1 / size))
      (record { count = w.0.count + 1; outcome = Ok tt }, take (w.0.count * size) w.1 ++ ws ++ drop (w.0.count * size + size) w.1)
      (record { count = w.0.count; outcome = Err ListTooShort }, w.1)
  | Err _ ↦ w
]

-- Records in turn
unfoldable pub put_all : ℕ → Written × List ℕ → List (List ℕ) → Written × List ℕ
put_all size w [] = w
put_all size w (r ∷ rs) = put_all size (put size w r) rs

-- Nothing written yet
abbrev pub blank : Written
blank = record { count = 0; outcome = Ok tt }

-- How many records are written, what a writer answered then, and the list
abbrev pub after : Outcome → Records → Written × List ℕ
after o w = (record { count = w.count; outcome = o }, w.list.now)

-- The same where nothing is refused so far
abbrev pub state : Records → Written × List ℕ
state w = after (Ok tt) w

-- Two are over one list
abbrev pub same_list : Records → Records → Type 0
same_list v w = v.list.ghost_name ≡ w.list.ghost_name
