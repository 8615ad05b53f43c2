-- A walk by a held record's arrays is the definitions' walk; each way out of `walk`. Assumes nothing.
use Rattle.std.proofs.Common.{◌≡◌, refl, sym, ap, ◌∙◌, true, false, ◌||◌, List, [], ◌∷◌, ℕ, ◌-◌, ◌≤◌, arith, get_or, ltb, ltb-false}
use Rattle.lists.proofs.Truth.{or-first, or-last}
use Rattle.model.specs.declared.record.CausalGraph.{CausalGraph}
use Rattle.model.specs.declared.answers.Refusal.{Refusal}
use Rattle.model.specs.Graph.{runs}
use Rattle.model.specs.Record.{view, Sized}
use Rattle.model.specs.Broken.{broken, Held}
use Rattle.model.specs.Choice.{Range, range_of}
use Rattle.model.specs.Steps.{steps_of}
use Rattle.model.specs.Walk.{WalkResult, unwalked, rows_into, rows_too_long, range_outcome, walk_range, walk_of}
use Rattle.model.proofs.Stored.{held_of}
use Rattle.model.proofs.Tests.{passed}
use Rattle.model.proofs.Results.{walk_done-is}
use Rattle.graph.proofs.Views.{runs-view}
use Rattle.moves.specs.Emit.{Rec, Writing, emit}
use Rattle.moves.proofs.Written.{recs-same}
use Rattle.walk.specs.Ranges.{range_at}
use Rattle.walk.specs.Walked.{State, unwritten, rows_refused, walked_in, result_of}
use Rattle.walk.proofs.Arrays.{starts-same, range_view}
use Rattle.walk.proofs.Answering.{walk_result}
use Rattle.std.specs.Prelude.{Ok, Err}
use Rattle.model.specs.Refusals.{Outcome}

-- Runs that start alike are walked alike
pub walked_same : (st st' : List ℕ) → ((i : ℕ) → get_or st i 0 ≡ get_or st' i 0) → (w : Range) (a known first : ℕ) (x : Writing) (rows : List ℕ) →
    walked_in st w a known first x rows ≡ walked_in st' w a known first x rows
unfolding walked_in
walked_same st st' h w a known first x rows =
    ap (λ (l : List Rec). elim (rows_too_long w rows) as (λ _. State) [
      | true ↦ (rows_refused x, rows_into w rows)
      | false ↦ (emit x l, rows_into w rows)
    ]) (recs-same st st' h (steps_of w a known first))

module _ (g : CausalGraph) (a b known first : ℕ) (rows steps : List ℕ) where
  pub walk_whole : Held g → a ≤ b → b ≤ g.run_count → (s : State) → s ≡ walked_in g.starts (range_at g a b) a known first (unwritten steps) rows →
      result_of s ≡ walk_range (view g) a b known first rows steps
  unfolding range_at
  walk_whole held le few s e =
      ap result_of
      (e ∙ (ap (λ (x : Range). walked_in g.starts x a known first (unwritten steps) rows) (range_view g held a b le few (b - a) refl) ∙
      walked_same g.starts (view g).starts (starts-same g held) (range_of (view g) a b) a known first (unwritten steps) rows)) ∙
      walk_result (view g) a b known first rows steps

  -- Refused before anything is written
  pub walk_refused : (o : Outcome) → o ≡ range_outcome g a b known → (r : Refusal) → o ≡ Err r →
      (record { count = 0; moved = 0; outcome = Err r }, rows, steps) ≡ walk_of g a b known first rows steps
  unfolding walk_of unwalked
  walk_refused o q r e = ap
      (λ (o : Outcome). elim o as (λ _. WalkResult) [ Ok _ ↦ walk_range (view g) a b known first rows steps | Err r ↦ unwalked r rows steps ]) (sym e ∙ q)

  -- Not refused: the graph is held, and the range lies inside it
  pub walk_inside : Sized g → (o : Outcome) → o ≡ range_outcome g a b known → o ≡ Ok tt → Held g × (a ≤ b) × (b ≤ g.run_count) × (known ≤ b - a)
  unfolding range_outcome
  walk_inside sized o q e =
      let f₁ = passed (broken g, 1) ((ltb b a || ltb (runs (view g)) b, 9) ∷ (ltb (b - a) known, 12) ∷ []) (sym q ∙ e) in
      let f₂ = passed (ltb b a || ltb (runs (view g)) b, 9) ((ltb (b - a) known, 12) ∷ []) f₁.1 in
      let f₃ = passed (ltb (b - a) known, 12) [] f₂.1 in
      let held : Held g = held_of g sized f₁.0 in (
        held,
        omega (arith, ltb-false b a (or-first (ltb b a) (ltb (runs (view g)) b) f₂.0)),
        omega (arith, ltb-false (runs (view g)) b (or-last (ltb b a) (ltb (runs (view g)) b) f₂.0), runs-view g held),
        omega (arith, ltb-false (b - a) known f₃.0),
      )

  pub walk_done : (o : Outcome) → o ≡ range_outcome g a b known → o ≡ Ok tt → walk_range (view g) a b known first rows steps ≡ walk_of g a b known first rows steps
  walk_done o q e = sym (walk_done-is g a b known first rows steps (sym q ∙ e))
