-- 01, "Beside it" and refusal 16: the step reader, and what a list of words says. Assumes nothing.
use Rattle.std.specs.Prelude.{List, [], ◌∷◌, ℕ, zero, suc, ◌+◌, drop, Ok, Err, Some, None}
use Rattle.model.specs.Answers.{NextStep}
use Rattle.std.proofs.Math.Option.{Option, none, some}
use Rattle.model.specs.Refusals.{refusal}
use Rattle.model.specs.declared.steps.WalkStep.{WalkStep}
use Rattle.model.specs.declared.steps.WalkStep.TheVariants.{Retreat, Advance, Apply, Open}
use Rattle.model.specs.Steps.{Step, retreat, advance, opened, apply}

-- A step by its kind, first run and end run; none with a kind above 3
unfoldable pub decoded : ℕ → ℕ → ℕ → Option Step
decoded zero a b = some (retreat a b)
decoded (suc zero) a b = some (advance a b)
decoded (suc (suc zero)) a b = some (apply a)
decoded (suc (suc (suc zero))) a b = some (opened a b)
decoded (suc (suc (suc (suc k)))) a b = none

-- The steps that words say, "under three words left is the end"; none where a kind is above 3
unfoldable pub said : List ℕ → Option (List Step)
said [] = some []
said (k ∷ []) = some []
said (k ∷ a ∷ []) = some []
said (k ∷ a ∷ b ∷ ws) = elim (decoded k a b) [ none ↦ none | some s ↦ elim (said ws) [ none ↦ none | some ss ↦ some (s ∷ ss) ] ]

-- A step as the reader hands it out
unfoldable pub as_step : Step → WalkStep
as_step (retreat a b) = Retreat (record { 0 = a }) (record { 0 = b })
as_step (advance a b) = Advance (record { 0 = a }) (record { 0 = b })
as_step (apply r) = Apply (record { 0 = r })
as_step (opened a b) = Open (record { 0 = a }) (record { 0 = b })

-- What the words from `at` on give: a step and the place after it, or the end; 16 leaves the "reader unmoved"
unfoldable pub next_in : List ℕ → ℕ → NextStep × ℕ
next_in [] at = ((Ok None), at)
next_in (k ∷ []) at = ((Ok None), at)
next_in (k ∷ a ∷ []) at = ((Ok None), at)
next_in (k ∷ a ∷ b ∷ ws) at = elim (decoded k a b) [ none ↦ (Err (refusal 16), at) | some s ↦ (Ok (Some (as_step s)), at + 3) ]

-- `next` of a step reader over `words` that stands at `at`: what it hands out, and where it then stands
unfoldable pub next_of : List ℕ → ℕ → NextStep × ℕ
next_of words at = next_in (drop at words) at
