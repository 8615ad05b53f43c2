-- 01's numbers tell all refusals and answers apart: from its numbers each can be made again. Assumes nothing.
use Rattle.std.proofs.Common.{◌≡◌, refl, sym, ap, ◌∙◌, Bool, true, false, List, [], ◌∷◌, ℕ, zero, suc, ◌+◌, ◌-◌, ◌≤◌, ◌<◌, arith, length, get_or, drop, eqb}
use mathlib.Core.Option.{none, some}
use Rattle.model.specs.declared.answers.Refusal.{Refusal}
use Rattle.model.specs.declared.answers.Refusal.TheVariants.{Broken, NoEvents, NotRising, UnknownEvent, TooManyEvents, TooManyRuns, TooManyEntries, FrontierTooLong, Outside, Unmarked, ListTooShort, KnownTooLong, RowsTooLong, BookTooShort, BookTooLong, UnknownKind, NoSuchParents}
use Rattle.model.specs.declared.steps.WalkStep.{WalkStep}
use Rattle.model.specs.declared.steps.WalkStep.TheVariants.{Retreat, Advance, Apply, Open}
use Rattle.model.specs.Refusals.{number, table, case_at, refusal, OrRefusal, Outcome}
use Rattle.model.specs.Answers.{NextStep, answer_or, event_or, events_or, run_or, containing_at, outcome_number, event_numbers, events_numbers, run_numbers, containing_numbers, bool_numbers, book_numbers, step_numbers, next_numbers}
use Rattle.model.specs.Graph.{Side, in_run, before, unknown}
use Rattle.model.specs.Steps.{Step, retreat, advance, opened, apply, step_words}
use Rattle.model.specs.Reader.{decoded, as_step}
use Rattle.model.specs.Numbered.{ToldApart, Numbered}
use Rattle.std.specs.Prelude.{Ok, Err, Result, Some, None}
use Rattle.model.specs.declared.record.EventIndex.{EventIndex}
use Rattle.model.specs.declared.record.EventRunIndex.{EventRunIndex}
use Rattle.model.specs.declared.answers.Containing.{Containing}
use Rattle.model.specs.declared.answers.Containing.TheVariants.{Run, Before, Unknown}
use Rattle.model.specs.declared.answers.BookRefusal.{BookRefusal}
use Rattle.model.specs.declared.answers.BookRefusal.TheVariants.{Refused, PushRefused}

refusal-number : (r : Refusal) → refusal (number r) ≡ r
unfolding number
refusal-number Broken = refl
refusal-number NoEvents = refl
refusal-number NotRising = refl
refusal-number UnknownEvent = refl
refusal-number TooManyEvents = refl
refusal-number TooManyRuns = refl
refusal-number TooManyEntries = refl
refusal-number FrontierTooLong = refl
refusal-number Outside = refl
refusal-number Unmarked = refl
refusal-number ListTooShort = refl
refusal-number KnownTooLong = refl
refusal-number RowsTooLong = refl
refusal-number BookTooShort = refl
refusal-number BookTooLong = refl
refusal-number UnknownKind = refl
refusal-number NoSuchParents = refl

-- the numbers from 1 on of the cases rs, the first of which has number `first`
Ordered : ℕ → List Refusal → Type 0
Ordered first [] = Unit {0}
Ordered first (r ∷ rs) = (number r ≡ first) × Ordered (suc first) rs

case_number : (rs : List Refusal) (first k : ℕ) → Ordered first rs → k < length rs → number (case_at rs k) ≡ first + k
unfolding Ordered
case_number [] first k o lt = absurd (omega arith)
case_number (r ∷ rs) first zero o lt = o.0 ∙ omega arith
case_number (r ∷ rs) first (suc k) o lt = case_number rs (suc first) k o.1 (omega arith) ∙ omega arith

table_ordered : Ordered 1 table
unfolding Ordered number
table_ordered =
    (refl, (refl, (refl, (refl, (refl, (refl, (refl, (refl, (refl, (refl, (refl, (refl, (refl, (refl, (refl, (refl, (refl, tt)))))))))))))))))

number-refusal : (n : ℕ) → 1 ≤ n → n ≤ length table → number (refusal n) ≡ n
number-refusal n p q = case_number table 1 (n - 1) table_ordered (omega arith) ∙ omega arith

first-number : number Broken ≡ 1
unfolding number
first-number = refl

-- No case has number 0: 0 would be the number of the first case of the table too
number-some : (r : Refusal) → 1 ≤ number r
number-some r = go (number r) refl
  where
    go : (n : ℕ) → number r ≡ n → 1 ≤ n
    go zero e = absurd (omega (arith, sym e ∙ (ap number (sym (refusal-number r) ∙ ap refusal e) ∙ first-number)))
    go (suc n) e = omega arith

-- An outcome made again from its number
outcome_of : ℕ → Outcome
outcome_of zero = Ok tt
outcome_of (suc n) = Err (refusal (suc n))

refused_again : (r : Refusal) → outcome_of (number r) ≡ Err r
unfolding outcome_of
refused_again r = go (number r) (number-some r) ∙ ap Err (refusal-number r)
  where
    go : (n : ℕ) → 1 ≤ n → outcome_of n ≡ Err (refusal n)
    go zero h = absurd (omega arith)
    go (suc n) h = refl

outcome_again : (o : Outcome) → outcome_of (outcome_number o) ≡ o
unfolding outcome_of outcome_number
outcome_again (Ok tt) = refl
outcome_again (Err r) = refused_again r

-- What can be made again from its numbers is told apart by them
apart : {A : Type 0} (numbers : A → List ℕ) (again : List ℕ → A) → ((a : A) → again (numbers a) ≡ a) → ToldApart numbers
apart numbers again h a b e = sym (h a) ∙ (ap again e ∙ h b)

event_again : List ℕ → OrRefusal EventIndex
event_again ns = event_or (outcome_of (get_or ns 0 0)) (get_or ns 1 0)

event-again : (a : (OrRefusal EventIndex)) → event_again (event_numbers a) ≡ a
unfolding event_again event_numbers outcome_of
event-again (Ok e) = refl
event-again (Err r) = ap (λ (o : Outcome). event_or o 0) (refused_again r)

events_again : List ℕ → OrRefusal (EventIndex × EventIndex)
events_again ns = events_or (outcome_of (get_or ns 0 0)) (get_or ns 1 0) (get_or ns 2 0)

events-again : (a : (OrRefusal (EventIndex × EventIndex))) → events_again (events_numbers a) ≡ a
unfolding events_again events_numbers outcome_of
events-again (Ok (a, b)) = refl
events-again (Err r) = ap (λ (o : Outcome). events_or o 0 0) (refused_again r)

run_again : List ℕ → OrRefusal EventRunIndex
run_again ns = run_or (outcome_of (get_or ns 0 0)) (get_or ns 1 0)

run-again : (a : (OrRefusal EventRunIndex)) → run_again (run_numbers a) ≡ a
unfolding run_again run_numbers outcome_of
run-again (Ok n) = refl
run-again (Err r) = ap (λ (o : Outcome). run_or o 0) (refused_again r)

-- The side of a number, with the run
side_again : ℕ → ℕ → Side
side_again zero r = in_run r
side_again (suc zero) r = before
side_again (suc (suc n)) r = unknown

containing_again : List ℕ → OrRefusal Containing
containing_again ns = answer_or (outcome_of (get_or ns 0 0)) (containing_at (side_again (get_or ns 1 0) (get_or ns 2 0)))

containing-again : (a : (OrRefusal Containing)) → containing_again (containing_numbers a) ≡ a
unfolding containing_again side_again containing_numbers outcome_of
containing-again (Ok (Run n)) = refl
containing-again (Ok Before) = refl
containing-again (Ok Unknown) = refl
containing-again (Err r) = ap (λ (o : Outcome). answer_or o (containing_at (in_run 0))) (refused_again r)

bool_again : List ℕ → OrRefusal Bool
bool_again ns = answer_or (outcome_of (get_or ns 0 0)) (eqb (get_or ns 1 0) 1)

bool-again : (a : (OrRefusal Bool)) → bool_again (bool_numbers a) ≡ a
unfolding bool_again bool_numbers outcome_of
bool-again (Ok true) = refl
bool-again (Ok false) = refl
bool-again (Err r) = ap (λ (o : Outcome). answer_or o false) (refused_again r)

book_again : List ℕ → Result (Unit {0}) BookRefusal
book_again ns = elim (outcome_of (get_or ns 0 0)) [
  | Ok _ ↦ Ok tt
  | Err r ↦ elim (eqb (get_or ns 1 0) 1) [ true ↦ Err (PushRefused r (get_or ns 2 0)) | false ↦ Err (Refused r) ]
]

book-again : (a : (Result (Unit {0}) BookRefusal)) → book_again (book_numbers a) ≡ a
unfolding book_again book_numbers outcome_of
book-again (Ok _) = refl
book-again (Err (Refused r)) = ap (λ (o : Outcome). elim o as (λ _. (Result (Unit {0}) BookRefusal)) [ Ok _ ↦ Ok tt | Err x ↦ Err (Refused x) ]) (refused_again r)
book-again (Err (PushRefused r k)) = ap (λ (o : Outcome). elim o as (λ _. (Result (Unit {0}) BookRefusal)) [ Ok _ ↦ Ok tt | Err x ↦ Err (PushRefused x k) ]) (refused_again r)

step_again : List ℕ → WalkStep
step_again ns = elim (decoded (get_or ns 0 0) (get_or ns 1 0) (get_or ns 2 0)) [ none ↦ as_step (apply 0) | some s ↦ as_step s ]

step-again : (s : WalkStep) → step_again (step_numbers s) ≡ s
unfolding step_again step_numbers decoded as_step
step-again (Retreat a b) = refl
step-again (Advance a b) = refl
step-again (Apply r) = refl
step-again (Open a b) = refl

-- The step of numbers that follow a 0; with none there it is the end
given_again : List ℕ → NextStep
given_again [] = Ok None
given_again (n ∷ ns) = Ok (Some (step_again (n ∷ ns)))

given-again : (s : WalkStep) → given_again (step_numbers s) ≡ Ok (Some s)
unfolding given_again step_numbers
given-again (Retreat a b) = ap (λ (s : WalkStep). Ok (Some s)) (step-again (Retreat a b))
given-again (Advance a b) = ap (λ (s : WalkStep). Ok (Some s)) (step-again (Advance a b))
given-again (Apply r) = ap (λ (s : WalkStep). Ok (Some s)) (step-again (Apply r))
given-again (Open a b) = ap (λ (s : WalkStep). Ok (Some s)) (step-again (Open a b))

next_again : List ℕ → NextStep
next_again ns = elim (outcome_of (get_or ns 0 0)) [ Ok _ ↦ given_again (drop 1 ns) | Err r ↦ Err r ]

next-again : (a : NextStep) → next_again (next_numbers a) ≡ a
unfolding next_again next_numbers outcome_of given_again
next-again (Ok (Some s)) = given-again s
next-again (Ok None) = refl
next-again (Err r) = ap (λ (o : Outcome). elim o as (λ _. NextStep) [ Ok _ ↦ Ok None | Err x ↦ Err x ]) (refused_again r)

step_words_lem : (s : Step) → step_numbers (as_step s) ≡ step_words s
unfolding step_numbers as_step step_words
step_words_lem (retreat a b) = refl
step_words_lem (advance a b) = refl
step_words_lem (opened a b) = refl
step_words_lem (apply r) = refl

pub numbered : Numbered
numbered = record {
  refusals = refusal-number;
  numbers = number-refusal;
  outcomes = apart (λ o. outcome_number o ∷ []) (λ ns. outcome_of (get_or ns 0 0)) outcome_again;
  event = apart event_numbers event_again event-again;
  events = apart events_numbers events_again events-again;
  run = apart run_numbers run_again run-again;
  containing = apart containing_numbers containing_again containing-again;
  bool = apart bool_numbers bool_again bool-again;
  book = apart book_numbers book_again book-again;
  step = apart step_numbers step_again step-again;
  next = apart next_numbers next_again next-again;
  step_words = step_words_lem;
}
