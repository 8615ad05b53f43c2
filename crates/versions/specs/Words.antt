-- What a call writes of the words that it found. Assumes nothing.
use Rattle.std.specs.Prelude.{not, cond, List, [], ◌∷◌, ℕ, length, take, ltb, Ok, Err}
use Rattle.lists.specs.Areas.{over}
use Rattle.model.specs.declared.record.CausalGraph.{CausalGraph}
use Rattle.model.specs.declared.answers.Written.{Written}
use Rattle.model.specs.declared.answers.Refusal.TheVariants.{ListTooShort}
use Rattle.model.specs.EventGraph.{closed}
use Rattle.model.specs.Refusals.{first_of, OrRefusal, Outcome}
use Rattle.model.specs.Graph.{all_held}
use Rattle.model.specs.Record.{view}
use Rattle.model.specs.Broken.{broken}
use Rattle.model.specs.Cut.{unwritten}
use Rattle.model.specs.HeldEvents.{held_events}
use Rattle.model.specs.Wanted.{events_in, ranges}

-- The refusals of the wanted parents, but for that of a list that is too short: 1, 3, 4, 17
unfoldable pub wanted_tests : CausalGraph → List ℕ → Outcome
wanted_tests g ws =
    first_of (
    (broken g, 1) ∷
    (not (ranges ws), 3) ∷
    (not (all_held (view g) (events_in ws)), 4) ∷
    (not (closed (held_events (view g)) (events_in ws)), 17) ∷ [])

-- how many words were written, or why none
unfoldable pub counted : OrRefusal ℕ → Written
counted (Ok n) = record { count = n; outcome = Ok tt }
counted (Err r) = record { count = 0; outcome = Err r }

-- all words, or none where they do not fit
unfoldable pub all_put : OrRefusal (List ℕ) → List ℕ → Written × List ℕ
all_put (Ok ws) lent = cond (ltb (length lent) (length ws)) (unwritten ListTooShort lent) (record { count = length ws; outcome = Ok tt }, over ws lent)
all_put (Err r) lent = unwritten r lent

-- as many words as fit, and whether they are all
unfoldable pub some_put : List ℕ → List ℕ → Written × List ℕ
some_put ws lent =
    let fit : List ℕ = take (length lent) ws in (
      record { count = length fit; outcome = cond (ltb (length lent) (length ws)) (Err ListTooShort) (Ok tt) },
      over fit lent,
    )

unfoldable pub fitting_put : OrRefusal (List ℕ) → List ℕ → Written × List ℕ
fitting_put (Ok ws) lent = some_put ws lent
fitting_put (Err r) lent = unwritten r lent
