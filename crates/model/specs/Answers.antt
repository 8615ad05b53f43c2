-- 01, "Our forms for each place": "Where an answer is an enum, a definition gives this paper's number and values for each of its cases,
-- and the promises use that definition". What a call answers where nothing is refused, and where something is (`.._or`, of an outcome and
-- the values); and each answer as numbers (`.._numbers`): 0 or the refusal's number, then the values, 0 where a refusal gives none. That
-- nothing is lost so is `Numbered` of specs/Numbered.antt. Assumes nothing.
use Rattle.std.specs.Prelude.{Bool, List, [], ◌∷◌, ℕ, suc, length, Ok, Err, Result, Some, None, Option}
use Rattle.lists.specs.Lists.{bit}
use Rattle.lists.specs.Areas.{pad}
use Rattle.model.specs.declared.answers.Changed.{Changed}
use Rattle.model.specs.declared.answers.ParentRuns.{ParentRuns}
use Rattle.model.specs.declared.answers.FrontierEvents.{FrontierEvents}
use Rattle.model.specs.declared.steps.WalkStep.{WalkStep}
use Rattle.model.specs.declared.steps.WalkStep.TheVariants.{Retreat, Advance, Apply, Open}
use Rattle.model.specs.Limits.{max_runs, max_frontier}
use Rattle.model.specs.Refusals.{number, OrRefusal, Outcome}
use Rattle.model.specs.Graph.{Side, in_run, before, unknown}
use Rattle.model.specs.declared.record.EventIndex.{EventIndex}
use Rattle.model.specs.declared.record.EventRunIndex.{EventRunIndex}
use Rattle.model.specs.declared.answers.Containing.{Containing}
use Rattle.model.specs.declared.answers.Containing.TheVariants.{Run, Before, Unknown}
use Rattle.model.specs.declared.answers.BookRefusal.{BookRefusal}
use Rattle.model.specs.declared.answers.BookRefusal.TheVariants.{Refused, PushRefused}

-- the graph after `new` or `after`, a push, a run start, a take, with what was answered: nothing, the first event and the end, a truth, a run
abbrev pub Made : Type 0
Made = Changed (Unit {0})

abbrev pub Pushed : Type 0
Pushed = Changed (EventIndex × EventIndex)

abbrev pub Started : Type 0
Started = Changed Bool

abbrev pub Taken : Type 0
Taken = Changed EventRunIndex

-- what a step reader hands out: a step, or none at the end
abbrev pub NextStep : Type 0
NextStep = OrRefusal (Option WalkStep)

-- the value, or the refusal
abbrev pub answer_or : {A : Type 0} → Outcome → A → OrRefusal A
answer_or (Ok _) a = Ok a
answer_or (Err r) a = Err r

-- an event
abbrev pub event_or : Outcome → ℕ → OrRefusal EventIndex
event_or o e = answer_or o (record { 0 = e })

-- first event and end
abbrev pub events_or : Outcome → ℕ → ℕ → OrRefusal (EventIndex × EventIndex)
events_or o a b = answer_or o (record { 0 = a }, record { 0 = b })

-- a run
abbrev pub run_or : Outcome → ℕ → OrRefusal EventRunIndex
run_or o n = answer_or o (record { 0 = n })

-- where an event lies
abbrev pub containing_at : Side → Containing
containing_at (in_run n) = Run (record { 0 = n })
containing_at before = Before
containing_at unknown = Unknown

-- a run's parents, which are runs
unfoldable pub runs_listed : List ℕ → ParentRuns
runs_listed l = record { runs = pad max_runs l; count = length l }

-- the frontier, which is events
unfoldable pub events_listed : List ℕ → FrontierEvents
events_listed l = record { events = pad max_frontier l; count = length l }

-- done, or refused
unfoldable pub outcome_number : Outcome → ℕ
outcome_number (Ok _) = 0
outcome_number (Err r) = number r

-- the event
unfoldable pub event_numbers : OrRefusal EventIndex → List ℕ
event_numbers (Ok e) = 0 ∷ e.0 ∷ []
event_numbers (Err r) = number r ∷ 0 ∷ []

-- first event and end
unfoldable pub events_numbers : OrRefusal (EventIndex × EventIndex) → List ℕ
events_numbers (Ok (a, b)) = 0 ∷ a.0 ∷ b.0 ∷ []
events_numbers (Err r) = number r ∷ 0 ∷ 0 ∷ []

-- the run
unfoldable pub run_numbers : OrRefusal EventRunIndex → List ℕ
run_numbers (Ok n) = 0 ∷ n.0 ∷ []
run_numbers (Err r) = number r ∷ 0 ∷ []

-- the side, 0 the run, 1 before the graph, 2 not yet known; and the run
unfoldable pub containing_numbers : OrRefusal Containing → List ℕ
containing_numbers (Ok (Run n)) = 0 ∷ 0 ∷ n.0 ∷ []
containing_numbers (Ok Before) = 0 ∷ 1 ∷ 0 ∷ []
containing_numbers (Ok Unknown) = 0 ∷ 2 ∷ 0 ∷ []
containing_numbers (Err r) = number r ∷ 0 ∷ 0 ∷ []

-- 1 where told true
unfoldable pub bool_numbers : OrRefusal Bool → List ℕ
bool_numbers (Ok b) = 0 ∷ bit b ∷ []
bool_numbers (Err r) = number r ∷ 0 ∷ []

-- 1 and the push's number where a push was refused
unfoldable pub book_numbers : Result (Unit {0}) BookRefusal → List ℕ
book_numbers (Ok _) = 0 ∷ 0 ∷ 0 ∷ []
book_numbers (Err (Refused r)) = number r ∷ 0 ∷ 0 ∷ []
book_numbers (Err (PushRefused r k)) = number r ∷ 1 ∷ k ∷ []

-- the step's three words
unfoldable pub step_numbers : WalkStep → List ℕ
step_numbers (Retreat a b) = 0 ∷ a.0 ∷ b.0 ∷ []
step_numbers (Advance a b) = 1 ∷ a.0 ∷ b.0 ∷ []
step_numbers (Apply r) = 2 ∷ r.0 ∷ suc r.0 ∷ []
step_numbers (Open a b) = 3 ∷ a.0 ∷ b.0 ∷ []

-- the step's words, or none at the end
unfoldable pub next_numbers : NextStep → List ℕ
next_numbers (Ok (Some s)) = 0 ∷ step_numbers s
next_numbers (Ok None) = 0 ∷ []
next_numbers (Err r) = number r ∷ []
