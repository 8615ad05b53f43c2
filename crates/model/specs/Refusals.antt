-- 01, "What a refused call gives": the numbers of the table. Assumes nothing.
use Rattle.std.specs.Prelude.{ℕ, zero, suc, ◌-◌, Bool, cond, List, [], ◌∷◌, Result, Ok, Err}
use Rattle.model.specs.declared.answers.Refusal.{Refusal}
use Rattle.model.specs.declared.answers.Refusal.TheVariants.{Broken, NoEvents, NotRising, UnknownEvent, TooManyEvents, TooManyRuns, TooManyEntries, FrontierTooLong, Outside, Unmarked, ListTooShort, KnownTooLong, RowsTooLong, BookTooShort, BookTooLong, UnknownKind, NoSuchParents}

-- what a call answers: a value, or why it was refused
abbrev pub OrRefusal : Type 0 → Type 0
OrRefusal A = Result A Refusal

-- done, or refused
abbrev pub Outcome : Type 0
Outcome = OrRefusal (Unit {0})

-- 01's number of each case
unfoldable pub number : Refusal → ℕ
number Broken = 1
number NoEvents = 2
number NotRising = 3
number UnknownEvent = 4
number TooManyEvents = 5
number TooManyRuns = 6
number TooManyEntries = 7
number FrontierTooLong = 8
number Outside = 9
number Unmarked = 10
number ListTooShort = 11
number KnownTooLong = 12
number RowsTooLong = 13
number BookTooShort = 14
number BookTooLong = 15
number UnknownKind = 16
number NoSuchParents = 17

-- the cases in the order of their numbers, 1 first
abbrev pub table : List Refusal
table =
    Broken ∷
    NoEvents ∷
    NotRising ∷
    UnknownEvent ∷
    TooManyEvents ∷
    TooManyRuns ∷
    TooManyEntries ∷
    FrontierTooLong ∷
    Outside ∷
    Unmarked ∷
    ListTooShort ∷
    KnownTooLong ∷
    RowsTooLong ∷
    BookTooShort ∷
    BookTooLong ∷
    UnknownKind ∷
    NoSuchParents ∷ []

-- the k-th of some cases, from 0
abbrev pub case_at : List Refusal → ℕ → Refusal
case_at [] k = Broken
case_at (r ∷ rs) zero = r
case_at (r ∷ rs) (suc k) = case_at rs k

-- the case of a number, the inverse of `number`: `Numbered` of specs/Numbered.antt. No other number is used
abbrev pub refusal : ℕ → Refusal
refusal n = case_at table (n - 1)

-- Checked in the order shown: the first case that applies, by its number
unfoldable pub first_of : List (Bool × ℕ) → Outcome
first_of [] = Ok tt
first_of (t ∷ ts) = cond t.0 (Err (refusal t.1)) (first_of ts)
