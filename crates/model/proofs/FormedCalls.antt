-- `start_run_at` and `take_changed_from` keep a graph well-formed and within the limits. Assumes nothing.
use Rattle.std.proofs.Common.{◌≡◌, refl, sym, ap, ◌∙◌, ◌⊎◌, inl, inr, Bool, true, false, not, ℕ, suc, ◌+◌, ◌≤◌, ◌<◌, arith, eqb, ltb-false, eqb-true, eq-eqb, ne_eqb}
use borrow.Author.Tests.{eqb-false, not-true}
use Rattle.lists.proofs.Truth.{lt_or_le, lt_of_ne, false_true}
use Rattle.model.specs.Graph.{Graph, runs, start, first_held, len, entries, containing, marked, Side, in_run, before, unknown, side, is_held}
use Rattle.model.specs.Broken.{WellFormed, WithinLimits}
use Rattle.model.specs.Split.{split}
use Rattle.model.specs.Start.{Starting, answers, splitting, alone, starting_in, starting, split_outcome, taken}
use Rattle.model.proofs.Tests.{passed}
use Rattle.model.proofs.FormedReads.{first-start, containing_in, marked-first}
use Rattle.model.proofs.Siding.{side-run, held-between}
use Rattle.model.proofs.FormedSplits.{split_runs, split-entries, split-formed}
use Rattle.std.specs.Prelude.{Ok}

-- What a run start comes to, by where its event lies
module _ (g : Graph) (at : ℕ) where
  abbrev started_at : Side → Starting
  started_at s = elim s as (λ _. Starting) [ in_run r ↦ starting_in g at r | before ↦ answers false | unknown ↦ answers false ]

  pub starting-out : is_held (side g at) ≡ false → starting g at ≡ answers false
  unfolding starting is_held
  starting-out h = go (side g at) h
    where
      go : (s : Side) → is_held s ≡ false → started_at s ≡ answers false
      go (in_run r) q = false_true (sym q)
      go before q = refl
      go unknown q = refl

  pub starting_in_lem : (r : ℕ) → side g at ≡ in_run r → starting g at ≡ starting_in g at r
  unfolding starting
  starting_in_lem r e = ap started_at e

  -- One that is not told false lies in a run
  starting-held : (s : Starting) → starting g at ≡ s → (answers false ≡ s → ⊥) →
      (first_held g ≤ at) × (at < len g) × (starting_in g at (containing g at) ≡ s)
  starting-held s e other = go (is_held (side g at)) refl
    where
      go : (t : Bool) → is_held (side g at) ≡ t → (first_held g ≤ at) × (at < len g) × (starting_in g at (containing g at) ≡ s)
      go false h = absurd (other (sym (starting-out h) ∙ e))
      go true h =
          let b = held-between g at h in
          (b.0, b.1, sym (starting_in_lem (containing g at) (side-run g at b.0 b.1)) ∙ e)

-- In a run: the tests of its start and of one that stands alone; and the answer at its start
abbrev started : (begins lone unmarked : Bool) → Starting
started begins lone unmarked = elim begins as (λ _. Starting) [
  | true ↦ answers unmarked
  | false ↦ elim lone as (λ _. Starting) [ true ↦ answers false | false ↦ splitting ]
]

module _ (g : Graph) (at r : ℕ) where
  pub in_there : start g r ≡ at → starting_in g at r ≡ answers (not (marked g r))
  unfolding starting_in
  in_there e = ap (λ (b : Bool). started b (alone g r) (not (marked g r))) (eq-eqb (start g r) at e)

  pub in_alone : (start g r ≡ at → ⊥) → alone g r ≡ true → starting_in g at r ≡ answers false
  unfolding starting_in
  in_alone n a = λ i. started (ne_eqb (start g r) at n i) (a i) (not (marked g r))

  pub in_splits : (start g r ≡ at → ⊥) → alone g r ≡ false → starting_in g at r ≡ splitting
  unfolding starting_in
  in_splits n a = λ i. started (ne_eqb (start g r) at n i) (a i) (not (marked g r))

abbrev splits-run : Starting → Bool
splits-run (answers b) = false
splits-run splitting = true

abbrev tells_true : Starting → Bool
tells_true (answers b) = b
tells_true splitting = false

-- A run start that splits lies past the first held event, before `len` and at no run's start
pub starting-inside : (g : Graph) → WellFormed g → (at : ℕ) → starting g at ≡ splitting →
    (first_held g < at) × (at < len g) × (start g (containing g at) ≡ at → ⊥) × (alone g (containing g at) ≡ false)
unfolding starting_in
starting-inside g formed at e =
    let r = containing g at in
    let h = starting-held g at splitting e (λ q. false_true (ap splits-run q)) in
    let w = go (eqb (start g r) at) (alone g r) (not (marked g r)) h.2 in
    let off = eqb-false (start g r) at w.0 in
    let c = containing_in g formed at h.0 h.1 in
    (omega (arith, first-start g formed r (omega (arith, c.0)), lt_of_ne (start g r) at c.1 off), h.1, off, w.1)
  where
    go : (a b c : Bool) → started a b c ≡ splitting → (a ≡ false) × (b ≡ false)
    go true b c q = false_true (ap splits-run q)
    go false true c q = false_true (ap splits-run q)
    go false false c q = (refl, refl)

-- One told true lies past the first held event, before `len` and at the start of an unmarked run: a run that starts at the first held
-- event is marked
pub starting-told : (g : Graph) → WellFormed g → (at : ℕ) → starting g at ≡ answers true →
    (first_held g < at) × (at < len g) × (start g (containing g at) ≡ at) × (marked g (containing g at) ≡ false)
unfolding starting_in
starting-told g formed at e =
    let r = containing g at in
    let h = starting-held g at (answers true) e (λ q. false_true (ap tells_true q)) in
    let w = go (eqb (start g r) at) (alone g r) (not (marked g r)) h.2 in
    let begins = eqb-true (start g r) at w.0 in
    let unmarked = not-true (marked g r) w.1 in
    (past begins unmarked (lt_or_le (first_held g) at), h.1, begins, unmarked)
  where
    go : (a b c : Bool) → started a b c ≡ answers true → (a ≡ true) × (c ≡ true)
    go true b c q = (refl, ap tells_true q)
    go false true c q = false_true (ap tells_true q)
    go false false c q = false_true (ap tells_true q)

    past : start g (containing g at) ≡ at → marked g (containing g at) ≡ false → (first_held g < at) ⊎ (at ≤ first_held g) → first_held g < at
    past begins unmarked (inl h) = h
    past begins unmarked (inr h) = false_true (sym unmarked ∙ marked-first g formed (containing g at) (omega (arith, begins)))

-- and one there is told true
pub starting_tells : (g : Graph) (at : ℕ) → first_held g ≤ at → at < len g → start g (containing g at) ≡ at → marked g (containing g at) ≡ false →
    starting g at ≡ answers true
starting_tells g at from inside begins unmarked =
    let r = containing g at in
    starting_in_lem g at r (side-run g at from inside) ∙ in_there g at r begins ∙ ap (λ (b : Bool). answers (not b)) unmarked

-- One that splits lies inside a run, after the run's first event
pub start-inside : (g : Graph) → WellFormed g → (at : ℕ) → starting g at ≡ splitting →
    (containing g at < runs g) × (start g (containing g at) < at) × (at < start g (suc (containing g at)))
start-inside g formed at e =
    let w = starting-inside g formed at e in
    let c = containing_in g formed at (omega (arith, w.0)) w.1 in
    (c.0, lt_of_ne (start g (containing g at)) at c.1 w.2, c.2)

-- A run start keeps the graph well-formed
pub start-formed : (g : Graph) → WellFormed g → (at : ℕ) → starting g at ≡ splitting → WellFormed (split g (containing g at) at)
start-formed g formed at e =
    let c = start-inside g formed at e in
    split-formed g formed (containing g at) at c.0 c.1 c.2

-- and within the limits
pub start-limits : (g : Graph) → WellFormed g → WithinLimits g → (at : ℕ) → starting g at ≡ splitting → split_outcome g ≡ Ok tt →
    WithinLimits (split g (containing g at) at)
unfolding split_outcome
start-limits g formed l at e d =
    let t₁ = passed _ _ d in
    let t₂ = passed _ _ t₁.1 in
    let r = containing g at in
    record {
      runs = omega (arith, split_runs g r at, ltb-false 512 (runs g + 1) t₁.0);
      entries = omega (arith, split-entries g r at, ltb-false 2048 (entries g + 1) t₂.0);
      frontier = unfold split in l.frontier;
    }

-- Taking `changed_from` keeps all the rest
pub taken-formed : (g : Graph) → WellFormed g → WellFormed (taken g)
unfolding taken runs len start first_held
taken-formed g f = record {
  starts_count = f.starts_count;
  seen_count = f.seen_count;
  starts = f.starts;
  parents = f.parents;
  frontier = f.frontier;
  seen = f.seen;
  changed = omega arith;
}

pub taken-limits : (g : Graph) → WithinLimits g → WithinLimits (taken g)
unfolding taken runs entries
taken-limits g l = record { runs = l.runs; entries = l.entries; frontier = l.frontier }
