-- 01, "The book and its program", with 02, F-1: a book as a start and a list of calls, so that demand 3 is about books and what `replay`
-- prints of them. Assumes nothing.
use Rattle.std.specs.Prelude.{◌≡◌, Bool, true, false, List, [], ◌∷◌, ◌++◌, map, ℕ, zero, suc, ◌<◌, length, get_or, take, ltb, Ok, Err}
use Rattle.std.proofs.Math.Option.{Option, none, some}
use Rattle.model.specs.declared.record.CausalGraph.{CausalGraph}
use Rattle.model.specs.Limits.{max_book}
use Rattle.model.specs.Refusals.{refusal}
use Rattle.model.specs.Fresh.{new_of, after_of}
use Rattle.model.specs.Walk.{WalkResult}
use Rattle.model.specs.Book.{take_words, take_counted, book_read, book_of}
use Rattle.model.specs.Print.{Line, step_line, moved_line, printed}
use Rattle.model.specs.Log.{Fresh, new, after, Call, push, start_run_at, take_changed_from, Answer, answer, Log, made_by}
use Rattle.model.specs.PlainSet.{ReplayFollows}
use Rattle.model.specs.Claim.{Claimed}
use Rattle.model.specs.declared.answers.BookRefusal.TheVariants.{Refused}

-- "each push: length, parent count, parents": the pushes that bytes hold whole, n at most
unfoldable pub pushes_in : ℕ → List ℕ → List Call
pushes_in zero bs = []
pushes_in (suc n) bs = elim (take_words 1 bs) [
  | none ↦ []
  | some l ↦ elim (take_counted l.1) [ none ↦ [] | some ps ↦ push ps.0 (get_or l.0 0 0) ∷ pushes_in n ps.1 ]
]

-- a call that is refused
unfoldable pub is_refused : (c : Call) → Answer c → Bool
is_refused (push ps n) (Ok (a, b)) = false
is_refused (push ps n) (Err r) = true
is_refused (start_run_at at) (Ok b) = false
is_refused (start_run_at at) (Err r) = true
is_refused take_changed_from (Ok r) = false
is_refused take_changed_from (Err r) = true

-- "The first refusal ends it": the calls up to the first that is refused, it included
unfoldable pub tried : CausalGraph → List Call → List Call
tried g [] = []
tried g (c ∷ cs) = let r = answer g c in c ∷ elim (is_refused c r.0) [ true ↦ [] | false ↦ tried r.1 cs ]

-- "first held; frontier count, events; push count", and the bytes after them; none where the header is cut short
unfoldable pub header : List ℕ → Option (ℕ × List ℕ × ℕ × List ℕ)
header bs = elim (take_words 1 bs) [
  | none ↦ none
  | some f ↦ elim (take_counted f.1) [
    | none ↦ none
    | some es ↦ elim (take_words 1 es.1) [ none ↦ none | some n ↦ some (get_or f.0 0 0, es.0, get_or n.0 0 0, n.1) ]
  ]
]

-- the header of a book; none of one "over 65,536 bytes"
unfoldable pub book_header : List ℕ → Option (ℕ × List ℕ × ℕ × List ℕ)
book_header bs = elim (ltb max_book (length bs)) [ true ↦ none | false ↦ header bs ]

-- The start that a book makes: the header's `after`, refused or not; "`new` before the header is in", so of a book of no bytes too
unfoldable pub book_start : List ℕ → Fresh
book_start bs = elim (book_header bs) [ none ↦ new | some h ↦ after h.0 h.1 ]

-- The calls that a book makes: the pushes read, a refused one the last; none where the header is refused, cut short or not there at all
unfoldable pub book_calls : List ℕ → List Call
book_calls bs = elim (book_header bs) [
  | none ↦ []
  | some h ↦ let r = after_of h.0 h.1 in elim r.answer [ Ok _ ↦ tried r.graph (pushes_in h.2 h.3) | Err x ↦ [] ]
]

-- The plain log of a book's calls
abbrev pub book_log : List ℕ → Log
book_log bs = (made_by (book_start bs) (book_calls bs)).1

-- Lines and a `moved` that are those of a full replay which follows on the plain log
pub record LinesFollow (l : Log) (lines : List Line) (n : ℕ) : Type 0 where
  pub result : WalkResult
  pub follows : ReplayFollows l result
  pub steps : lines ≡ map step_line follows.steps
  pub moved : n ≡ result.0.moved

-- What holds of every list of bytes
pub record Books : Type 0 where
  -- 02, F-1: "demand 3 takes in the empty file too, as a list of no calls": it is whole, and `new` with no calls after it
  pub empty : ((book_of []).answer ≡ Ok tt) × (book_start [] ≡ new) × (book_calls [] ≡ [])
  -- "the program then prints `moved 0` alone"
  pub empty_prints : printed [] ≡ moved_line 0 ∷ []
  -- "Books of one to eleven bytes keep refusal 14"
  pub short : (bs : List ℕ) → 0 < length bs → length bs < 12 → book_of bs ≡ book_read new_of (Err (Refused (refusal 14)))
  -- the graph of a book, of a refused one too, is the one that its calls make
  pub made : (bs : List ℕ) → (book_of bs).graph ≡ (made_by (book_start bs) (book_calls bs)).0
  -- so demand 3 holds of what `replay` replays
  pub claimed : (bs : List ℕ) → Claimed (book_of bs).graph (book_log bs)
  -- and of what it prints: where the last line is `moved n`, the others are the steps of a full replay that follows
  pub prints : (bs : List ℕ) (lines : List Line) (n : ℕ) → printed bs ≡ lines ++ moved_line n ∷ [] → LinesFollow (book_log bs) lines n
  -- a program that reads no more than 65,537 bytes prints what one that reads on prints
  pub enough : (bs : List ℕ) → printed (take 65537 bs) ≡ printed bs
