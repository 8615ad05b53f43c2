-- 01's numbers tell everything: no two refusals, and no two answers, have the same. Assumes nothing.
use Rattle.std.specs.Prelude.{◌≡◌, List, [], ◌∷◌, ℕ, ◌≤◌, length}
use Rattle.model.specs.declared.answers.Refusal.{Refusal}
use Rattle.model.specs.Refusals.{number, table, refusal}
use Rattle.model.specs.Answers.{outcome_number, event_numbers, events_numbers, run_numbers, containing_numbers, bool_numbers, book_numbers, step_numbers, next_numbers}
use Rattle.model.specs.Steps.{Step, step_words}
use Rattle.model.specs.Reader.{as_step}

-- Two answers with the same numbers are the same
abbrev pub ToldApart : {A : Type 0} → (A → List ℕ) → Type 0
ToldApart {A} numbers = (a b : A) → numbers a ≡ numbers b → a ≡ b

-- Nothing is lost in the numbers
pub record Numbered : Type 0 where
  -- `refusal` and `number` are each other's inverse
  pub refusals : (r : Refusal) → refusal (number r) ≡ r
  pub numbers : (n : ℕ) → 1 ≤ n → n ≤ length table → number (refusal n) ≡ n
  -- the answers
  pub outcomes : ToldApart (λ o. outcome_number o ∷ [])
  pub event : ToldApart event_numbers
  pub events : ToldApart events_numbers
  pub run : ToldApart run_numbers
  pub containing : ToldApart containing_numbers
  pub bool : ToldApart bool_numbers
  pub book : ToldApart book_numbers
  pub step : ToldApart step_numbers
  pub next : ToldApart next_numbers
  -- a step's numbers are the words that say it
  pub step_words : (s : Step) → step_numbers (as_step s) ≡ step_words s
