-- The walk's loop, turn by turn: with what is written so far, what is left to write gives the whole. How steps are written is a parameter.
-- Assumes nothing.
use Rattle.std.proofs.Common.{◌≡◌, refl, sym, ap, ◌∙◌, subst, true, List, [], ◌∷◌, ◌++◌, ℕ, zero, suc, ◌+◌, ◌-◌, ◌≤◌, ◌<◌, min, max, arith, length}
use mathlib.Core.Option.{Option, none, some}
use Rattle.lists.specs.Lists.{mem, upto}
use Rattle.lists.proofs.Each.{members}
use Rattle.model.specs.History.{at}
use Rattle.model.specs.Choice.{Range, is_ready, newly_ready, choice}
use Rattle.model.specs.Steps.{Step, visit, visits, steps_of}
use Rattle.model.proofs.Choosing.{ready_after, FineRun, choice_fine}
use Rattle.model.proofs.Kahn.{left, left_le, left-next, ready_due}
use Rattle.walk.proofs.Distinct.{Once}
use Rattle.walk.proofs.Waiting.{Going, going_start}
use Rattle.walk.proofs.Newly.{going_next}
use Rattle.walk.proofs.Clamping.{clamp_steps}

-- The run chosen is in the ready list
pub chosen_in : (w : Range) (now : List ℕ) (last : Option ℕ) (ready : List ℕ) (r : ℕ) → choice w now last ready ≡ some r → mem r ready ≡ true
chosen_in w now last ready r e = subst (FineRun (λ x. mem x ready ≡ true)) e (choice_fine (λ x. mem x ready ≡ true) w now last ready (members ready))

-- A visit, then the visits that are left
pub visits-some : (k : ℕ) (w : Range) (a known f : ℕ) (now : List ℕ) (last : Option ℕ) (visited ready : List ℕ) (r : ℕ) → choice w now last ready ≡ some r →
    visits (suc k) w a known f now last visited ready ≡
    visit w a now r ++ visits k w a known f (at w.history r ++ r ∷ []) (some r) (r ∷ visited) (ready_after w known f visited ready r)
unfolding visits
visits-some k w a known f now last visited ready r e = go (choice w now last ready) e
  where
    later : ℕ → List Step
    later r = visit w a now r ++ visits k w a known f (at w.history r ++ r ∷ []) (some r) (r ∷ visited) (ready_after w known f visited ready r)

    go : (o : Option ℕ) → o ≡ some r → ◌≡◌ {A = List Step} (elim o as (λ _. List Step) [ none ↦ [] | some r ↦ later r ]) (later r)
    go none q = let z : ◌≡◌ {A = ℕ} 0 1 = cc in absurd (omega arith)
    go (some x) q = let d : x ≡ r = cc in ap later d

-- Nothing chosen: nothing is left
pub visits-none : (k : ℕ) (w : Range) (a known f : ℕ) (now : List ℕ) (last : Option ℕ) (visited ready : List ℕ) → choice w now last ready ≡ none →
    visits k w a known f now last visited ready ≡ []
unfolding visits
visits-none zero w a known f now last visited ready e = refl
visits-none (suc k) w a known f now last visited ready e = stop (choice w now last ready) e
  where
    later : ℕ → List Step
    later r = visit w a now r ++ visits k w a known f (at w.history r ++ r ∷ []) (some r) (r ∷ visited) (ready_after w known f visited ready r)

    stop : (o : Option ℕ) → o ≡ none → ◌≡◌ {A = List Step} (elim o as (λ _. List Step) [ none ↦ [] | some r ↦ later r ]) []
    stop none q = refl
    stop (some r) q = let z : ◌≡◌ {A = ℕ} 0 1 = cc in absurd (omega arith)

module _ (Writing : Type 0) (emit : Writing → List Step → Writing) (emit-nil : (v : Writing) → emit v [] ≡ v)
    (emit-append : (v : Writing) (ss ts : List Step) → emit v (ss ++ ts) ≡ emit (emit v ss) ts) (w : Range) (a known f : ℕ) (whole : Writing) where
  -- How far a walk is: with `v` written, what is left gives the whole
  pub record Walking (now : List ℕ) (last : Option ℕ) (visited ready : List ℕ) (fuel : ℕ) (v : Writing) : Type 0 where
    pub going : Going w known f visited ready
    pub enough : left w known f (length w.parents) visited ≤ fuel
    pub writes : emit v (visits fuel w a known f now last visited ready) ≡ whole

  module _ (now : List ℕ) (last : Option ℕ) (visited ready : List ℕ) (fuel : ℕ) (v : Writing) (W : Walking now last visited ready fuel v) where
    -- Nothing chosen: all is written
    pub walk_end : choice w now last ready ≡ none → v ≡ whole
    walk_end e = sym (ap (emit v) (visits-none fuel w a known f now last visited ready e) ∙ emit-nil v) ∙ W.writes

    -- A run chosen: it is ready, and after its visit the walk goes on
    module _ (r : ℕ) (e : choice w now last ready ≡ some r) where
      pub chosen-ready : r < length w.parents
      chosen-ready = W.going.under r (chosen_in w now last ready r e)

      pub is-ready : is_ready w known f visited r ≡ true
      is-ready = sym (W.going.listed r chosen-ready) ∙ chosen_in w now last ready r e

      -- One run less is due
      pub fewer_due : left w known f (length w.parents) (r ∷ visited) + 1 ≡ left w known f (length w.parents) visited
      fewer_due =
          left-next w known f (length w.parents) visited r chosen-ready (ready_due w known f (length w.parents) visited r is-ready)

      pub walk_next : (u : Writing) → u ≡ emit v (visit w a now r) →
          Walking (at w.history r ++ r ∷ []) (some r) (r ∷ visited) (ready_after w known f visited ready r) (fuel - 1) u
      walk_next u q = record {
        going = going_next w known f visited ready r W.going is-ready;
        enough = omega (arith, fewer_due, W.enough);
        writes = ap (λ (x : Writing). emit x later) q ∙ (sym (emit-append v (visit w a now r) later) ∙ (ap (emit v) (sym parts) ∙ W.writes));
      }
        where
          later : List Step
          later = visits (fuel - 1) w a known f (at w.history r ++ r ∷ []) (some r) (r ∷ visited) (ready_after w known f visited ready r)

          one : fuel ≡ suc (fuel - 1)
          one = omega (arith, fewer_due, W.enough)

          parts : visits fuel w a known f now last visited ready ≡ visit w a now r ++ later
          parts =
              ap (λ (k : ℕ). visits k w a known f now last visited ready) one ∙
              visits-some (fuel - 1) w a known f now last visited ready r e

-- How a walk starts, with `first` at most the range's length
pub walk_start : (Writing : Type 0) (emit : Writing → List Step → Writing) (emit-nil : (v : Writing) → emit v [] ≡ v)
    (emit-append : (v : Writing) (ss ts : List Step) → emit v (ss ++ ts) ≡ emit (emit v ss) ts) (w : Range) (a known first : ℕ) (v : Writing) →
    ((x : ℕ) → Once (at w.parents x)) → ((x p : ℕ) → mem p (at w.parents x) ≡ true → p < x) → known ≤ length w.parents →
    let f : ℕ = max known (min first (length w.parents)) in
    Walking Writing emit emit-nil emit-append w a known f (emit v (steps_of w a known first)) (upto known) none [] (newly_ready w known f [] []) (length w.parents) v
walk_start Writing emit emit-nil emit-append w a known first v once below le =
    let f : ℕ = max known (min first (length w.parents)) in
    record {
      going = going_start w known f once below (omega arith);
      enough = left_le w known f (length w.parents) [];
      writes = ap (emit v) (sym (clamp_steps w known first le a));
    }
