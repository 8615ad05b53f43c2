-- What a range's walk comes to is what the definitions say: rows too long, or steps. Assumes nothing.
use Rattle.std.proofs.Common.{◌≡◌, sym, ap, ap₂, ◌∙◌, true, false, List, [], ℕ, ◌+◌, ◌-◌, ◌≤◌, min, max, arith, length, lt-ltb, le-ltb}
use mathlib.Core.Option.{none}
use Rattle.lists.specs.Lists.{upto}
use Rattle.model.specs.Choice.{Range, newly_ready}
use Rattle.model.specs.Steps.{Step, visits, steps_of}
use Rattle.model.specs.Walk.{rows_into, rows_too_long}
use Rattle.std.specs.Prelude.{Option, Some, None}
use Rattle.std.proofs.lemmas.Option.{MatchOption-at_none, MatchOption-at_some}
use Rattle.tables.specs.declared.groups.Groups.{Groups}
use Rattle.tables.specs.declared.rows.Area.{Area}
use Rattle.tables.specs.declared.rows.ChainTables.{ChainTables}
use Rattle.tables.specs.Jagged.{rows_in}
use Rattle.tables.specs.Laid.{shares, shares_of, RangeLaid}
use Rattle.tables.proofs.JaggedRows.{rows-number}
use Rattle.tables.proofs.Gathering.{shares-length}
use Rattle.moves.specs.Emit.{Writing, emit}
use Rattle.moves.specs.Moves.{recs}
use Rattle.walk.specs.Ranges.{range_by, range_in, Arrays}
use Rattle.walk.specs.Walked.{State, rows_refused, walked_in}
use Rattle.walk.proofs.Clamping.{clamp_steps}
use Rattle.walk.proofs.Answering.{walked-rows, walked-steps}

-- The graph's arrays up to the range's end
pub arrays_end : (starts heads parents : List ℕ) (a b n : ℕ) → a ≤ b → n ≡ b - a → Arrays starts heads parents b → Arrays starts heads parents (a + n)
arrays_end starts heads parents a b n le e A = let q : b ≡ a + n = omega arith in rw q at A

-- Rows laid by all runs' parents are laid by the graph's arrays
pub laid_by_arrays : (heads parents : List ℕ) (a b : ℕ) → a ≤ b → (all : List (List ℕ)) → all ≡ rows_in heads parents b → (area₀ area : List ℕ) (groups : Groups) (tables : ChainTables) (r : Option Area) →
    RangeLaid (shares_of all a (length all - a)) (length all - a) area₀ r area groups tables → RangeLaid (shares heads parents a (b - a)) (b - a) area₀ r area groups tables
unfolding shares
laid_by_arrays heads parents a b le all made area₀ area groups tables r R =
    let k : length all ≡ b = ap length made ∙ rows-number heads parents b in
    let e : a + (b - a) ≡ b = omega arith in
    rw (e, ← made) (rw k at R)

module _ (starts heads parents : List ℕ) (a n : ℕ) (area₀ area : List ℕ) (groups : Groups) (tables : ChainTables) (r : Option Area) (R : RangeLaid (shares heads parents a n) n area₀ r area groups tables) where
  abbrev w : Range
  w = range_in starts heads parents a n

  rows_are : rows_into w area₀ ≡ area
  unfolding rows_into range_in range_by
  rows_are = sym R.out.area_is

  too_long : r ≡ None → rows_too_long w area₀ ≡ true
  unfolding rows_too_long range_in range_by
  too_long e = lt-ltb (length area₀) _ (MatchOption-at_none _ _ e R.out.told)

  all_fit : (x : Area) → r ≡ Some x → rows_too_long w area₀ ≡ false
  unfolding rows_too_long range_in range_by
  all_fit x e = le-ltb (length area₀) _ (MatchOption-at_some _ _ x e R.out.told).0

  -- Rows were too long
  pub range_short : (d known first : ℕ) (x : Writing) → n ≡ d → r ≡ None →
      (rows_refused x, area) ≡ walked_in starts (range_in starts heads parents a d) a known first x area₀
  range_short d known first x e h =
      ap (λ (l : List ℕ). (rows_refused x, l)) (sym rows_are) ∙
      (sym (walked-rows starts w a known first x area₀ (too_long h)) ∙ ap (λ (k : ℕ). walked_in starts (range_in starts heads parents a k) a known first x area₀) e)

  size : length w.parents ≡ n
  unfolding range_in range_by
  size = shares-length heads parents a n

  -- `first` as far as the range goes gives the same steps
  steps-same : (known first f : ℕ) → known ≤ n → f ≡ max known (min first n) → steps_of w a known f ≡ steps_of w a known first
  steps-same known first f le e =
      let same : max known (min f (length w.parents)) ≡ max known (min first (length w.parents)) = omega (arith, size, e) in
      clamp_steps w known f (omega (arith, size)) a ∙
      (ap (λ (k : ℕ). visits (length w.parents) w a known k (upto known) none [] (newly_ready w known k [] [])) same ∙
      sym (clamp_steps w known first (omega (arith, size)) a))

  -- All are there
  pub range_walked : (d known first f : ℕ) (v : Range) (x y : Writing) → n ≡ d → (z : Area) → r ≡ Some z → known ≤ n → f ≡ max known (min first n) → v ≡ w →
      y ≡ emit x (recs starts (steps_of v a known f)) → (y, area) ≡ walked_in starts (range_in starts heads parents a d) a known first x area₀
  range_walked d known first f v x y e z done le fe ve written =
      let same : y ≡ emit x (recs starts (steps_of w a known first)) =
      written ∙ ap (λ (l : List Step). emit x (recs starts l)) (ap (λ (u : Range). steps_of u a known f) ve ∙ steps-same known first f le fe) in
      ap₂ {C = State} (λ (y : Writing) (l : List ℕ). (y, l)) same (sym rows_are) ∙
      (sym (walked-steps starts w a known first x area₀ (all_fit z done)) ∙ ap (λ (k : ℕ). walked_in starts (range_in starts heads parents a k) a known first x area₀) e)
