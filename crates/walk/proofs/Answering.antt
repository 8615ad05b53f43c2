-- What a range's steps come to is what the definitions answer of a walk. Assumes nothing.
use Rattle.std.proofs.Common.{◌≡◌, refl, ap, ◌∙◌, Bool, true, false, List, ℕ, ◌/◌, length, take, ltb}
use Rattle.lists.specs.Areas.{over}
use Rattle.model.specs.declared.answers.Refusal.TheVariants.{RowsTooLong}
use Rattle.model.specs.Graph.{Graph}
use Rattle.model.specs.Choice.{Range, range_of}
use Rattle.model.specs.Steps.{Step, steps_of, words, moved_in}
use Rattle.model.specs.Walk.{WalkResult, wrote, unwalked, rows_into, rows_too_long, list_outcome, walk_range}
use Rattle.moves.specs.Emit.{Writing, going, emit}
use Rattle.moves.specs.Moves.{recs}
use Rattle.moves.proofs.Closing.{told}
use Rattle.moves.proofs.Written.{written_is}
use Rattle.walk.specs.Walked.{State, unwritten, rows_refused, walked_in, result_of}
use Rattle.model.specs.Refusals.{Outcome}

-- What is written of some steps: the list, how many, the events moved, whether all
pub written-parts : (g : Graph) (ss : List Step) (area : List ℕ) → let room : ℕ = length area / 3 in
    ((emit (going 0 0, area) (recs g.starts ss)).1 ≡ over (words (take room ss)) area) ×
    ((emit (going 0 0, area) (recs g.starts ss)).0.count ≡ length (take room ss)) ×
    ((emit (going 0 0, area) (recs g.starts ss)).0.moved ≡ moved_in g (take room ss)) ×
    ((emit (going 0 0, area) (recs g.starts ss)).0.outcome ≡ told (ltb room (length ss)))
written-parts g ss area =
    let q = written_is g ss area in
    (ap (λ (y : Writing). y.1) q, ap (λ (y : Writing). y.0.count) q, ap (λ (y : Writing). y.0.moved) q, ap (λ (y : Writing). y.0.outcome) q)

-- Rows were too long, or not
module _ (st : List ℕ) (w : Range) (a known first : ℕ) (x : Writing) (rows : List ℕ) where
  form : Bool → State
  form t = elim t [ true ↦ (rows_refused x, rows_into w rows) | false ↦ (emit x (recs st (steps_of w a known first)), rows_into w rows) ]

  by_form : (t : Bool) → rows_too_long w rows ≡ t → walked_in st w a known first x rows ≡ form t
  by_form t e = is ∙ ap form e
    where
      is : walked_in st w a known first x rows ≡ form (rows_too_long w rows)
      is = unfold walked_in form in refl

  pub walked-rows : rows_too_long w rows ≡ true → walked_in st w a known first x rows ≡ (rows_refused x, rows_into w rows)
  walked-rows e = by_form true e ∙ (unfold form in refl)

  pub walked-steps : rows_too_long w rows ≡ false → walked_in st w a known first x rows ≡ (emit x (recs st (steps_of w a known first)), rows_into w rows)
  walked-steps e = by_form false e ∙ (unfold form in refl)

pub result_eq : {c c' m m' : ℕ} {o o' : Outcome} {r r' l l' : List ℕ} → c ≡ c' → m ≡ m' → o ≡ o' → r ≡ r' → l ≡ l' →
    ◌≡◌ {A = WalkResult} (record { count = c; moved = m; outcome = o }, r, l) (record { count = c'; moved = m'; outcome = o' }, r', l')
result_eq p q s t e = λ i. (record { count = p i; moved = q i; outcome = s i }, t i, e i)

-- A whole walk
pub walk_result : (g : Graph) (a b known first : ℕ) (rows steps : List ℕ) →
    result_of (walked_in g.starts (range_of g a b) a known first (unwritten steps) rows) ≡ walk_range g a b known first rows steps
unfolding walk_range
walk_result g a b known first rows steps = go (rows_too_long w rows) refl
  where
    w : Range
    w = range_of g a b

    ss : List Step
    ss = steps_of w a known first

    room : ℕ
    room = length steps / 3

    go : (t : Bool) → rows_too_long w rows ≡ t →
        result_of (walked_in g.starts w a known first (unwritten steps) rows) ≡
        elim t as (λ _. WalkResult) [ true ↦ unwalked RowsTooLong (rows_into w rows) steps | false ↦ wrote g (list_outcome room ss) (take room ss) (rows_into w rows) steps ]
    go true e = ap result_of (walked-rows g.starts w a known first (unwritten steps) rows e) ∙ (unfold unwalked in refl)
    go false e =
        let q = written-parts g ss steps in
        ap result_of (walked-steps g.starts w a known first (unwritten steps) rows e) ∙ (unfold wrote list_outcome in (result_eq q.1 q.2 q.3 refl q.0))
