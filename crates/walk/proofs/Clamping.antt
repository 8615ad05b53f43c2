-- `first` above a range's length is as its length: no run is held back. Assumes nothing.
use Rattle.std.proofs.Common.{◌≡◌, refl, sym, ap, ◌∙◌, ◌⊎◌, inl, inr, Bool, true, false, not, ◌&&◌, List, [], ◌∷◌, ◌++◌, ℕ, zero, suc, ◌-◌, ◌≤◌, ◌<◌, min, max, arith, length, ltb, eqb, lt-ltb}
use mathlib.Core.Option.{Option, none, some}
use Rattle.lists.specs.Lists.{all, filter, from, upto, mem}
use Rattle.lists.proofs.Truth.{lt_or_le}
use Rattle.lists.proofs.Counts.{filter_same}
use Rattle.model.specs.EventGraph.{available}
use Rattle.model.specs.History.{at}
use Rattle.model.specs.Choice.{Range, passed, is_ready, newly_ready, choice}
use Rattle.model.specs.Steps.{Step, visit, visits, steps_of}
use Rattle.model.proofs.Choosing.{ready_after}

module _ (w : Range) (known f g : ℕ) (hf : length w.parents ≤ f) (hg : length w.parents ≤ g) where
  -- A run of the range stands before both
  ready-same : (visited : List ℕ) (x : ℕ) → x < length w.parents → is_ready w known f visited x ≡ is_ready w known g visited x
  unfolding is_ready
  ready-same visited x l =
      ap (λ t. available (passed known visited) (at w.parents x) x && t)
      (held f (ltb x f) (lt-ltb x f (omega arith)) ∙ sym (held g (ltb x g) (lt-ltb x g (omega arith))))
    where
      held : (k : ℕ) (t : Bool) → t ≡ true → elim t as (λ _. Bool) [ true ↦ true | false ↦ all (λ k. mem k visited) (from known (k - known)) ] ≡ true
      held k true e = refl
      held k false e = absurd (let z : ◌≡◌ {A = ℕ} 0 1 = cc in omega arith)

  newly-same : (visited ready : List ℕ) → newly_ready w known f visited ready ≡ newly_ready w known g visited ready
  unfolding newly_ready upto
  newly-same visited ready =
      let n : ℕ = length w.parents in
      filter_same (λ r. is_ready w known f visited r && not (mem r ready)) (λ r. is_ready w known g visited r && not (mem r ready)) 0 n n (omega arith)
      (λ r l. ap (λ t. t && not (mem r ready)) (ready-same visited r l))

  visits-same : (k a : ℕ) (now : List ℕ) (last : Option ℕ) (visited ready : List ℕ) →
      visits k w a known f now last visited ready ≡ visits k w a known g now last visited ready
  unfolding visits
  visits-same zero a now last visited ready = refl
  visits-same (suc k) a now last visited ready = go (choice w now last ready)
      (λ r. visits-same k a (at w.history r ++ r ∷ []) (some r) (r ∷ visited) (ready_after w known f visited ready r) ∙
      ap (λ (l : List ℕ). visits k w a known g (at w.history r ++ r ∷ []) (some r) (r ∷ visited) (filter (λ x. not (eqb x r)) ready ++ l))
      (newly-same (r ∷ visited) (filter (λ x. not (eqb x r)) ready)))
    where
      later : ℕ → ℕ → List Step
      later h r = visits k w a known h (at w.history r ++ r ∷ []) (some r) (r ∷ visited) (ready_after w known h visited ready r)

      go : (o : Option ℕ) → ((r : ℕ) → later f r ≡ later g r) →
          ◌≡◌ {A = List Step} (elim o as (λ _. List Step) [ none ↦ [] | some r ↦ visit w a now r ++ later f r ])
          (elim o as (λ _. List Step) [ none ↦ [] | some r ↦ visit w a now r ++ later g r ])
      go none h = refl
      go (some r) h = ap (λ (l : List Step). visit w a now r ++ l) (h r)

module _ (w : Range) (known first : ℕ) (le : known ≤ length w.parents) where
  abbrev f : ℕ
  f = max known first

  abbrev clamped : ℕ
  clamped = max known (min first (length w.parents))

  -- either the same number, or both past the range
  either : (f ≡ clamped) ⊎ ((length w.parents ≤ f) × (length w.parents ≤ clamped))
  either = go (lt_or_le first (length w.parents))
    where
      go : (first < length w.parents) ⊎ (length w.parents ≤ first) → (f ≡ clamped) ⊎ ((length w.parents ≤ f) × (length w.parents ≤ clamped))
      go (inl l) = inl (omega arith)
      go (inr l) = inr (omega arith, omega arith)

  pub clamp_newly : (visited ready : List ℕ) → newly_ready w known f visited ready ≡ newly_ready w known clamped visited ready
  clamp_newly visited ready = go either
    where
      go : (f ≡ clamped) ⊎ ((length w.parents ≤ f) × (length w.parents ≤ clamped)) → newly_ready w known f visited ready ≡ newly_ready w known clamped visited ready
      go (inl e) = ap (λ (k : ℕ). newly_ready w known k visited ready) e
      go (inr h) = newly-same w known f clamped h.0 h.1 visited ready

  pub clamp_visits : (k a : ℕ) (now : List ℕ) (last : Option ℕ) (visited ready : List ℕ) →
      visits k w a known f now last visited ready ≡ visits k w a known clamped now last visited ready
  clamp_visits k a now last visited ready = go either
    where
      go : (f ≡ clamped) ⊎ ((length w.parents ≤ f) × (length w.parents ≤ clamped)) →
          visits k w a known f now last visited ready ≡ visits k w a known clamped now last visited ready
      go (inl e) = ap (λ (j : ℕ). visits k w a known j now last visited ready) e
      go (inr h) = visits-same w known f clamped h.0 h.1 k a now last visited ready

  -- The steps of a walk, with `first` at most the range's length
  pub clamp_steps : (a : ℕ) → steps_of w a known first ≡ visits (length w.parents) w a known clamped (upto known) none [] (newly_ready w known clamped [] [])
  unfolding steps_of
  clamp_steps a =
      clamp_visits (length w.parents) a (upto known) none [] (newly_ready w known f [] []) ∙
      ap (visits (length w.parents) w a known clamped (upto known) none []) (clamp_newly [] [])
