-- Tests for refusals, one after another: a call that is done has failed each. Assumes nothing.
use Rattle.std.proofs.Common.{◌≡◌, refl, ap, Bool, true, false, cond, List, ◌∷◌, ℕ}
use mathlib.Core.Bool.{false≢true}
use Rattle.model.specs.declared.answers.Refusal.{Refusal}
use Rattle.model.specs.Refusals.{refusal, first_of, Outcome}
use Rattle.std.specs.Prelude.{Ok, Err}

abbrev ends_well : Outcome → Bool
ends_well (Ok _) = true
ends_well (Err r) = false

-- A refused call is not done
pub refused_done : (r : Refusal) → ◌≡◌ {A = Outcome} (Err r) (Ok tt) → ⊥
refused_done r e = false≢true (ap ends_well e)

-- Where no refusal applies, the first does not, and none of the later
pub passed : (t : Bool × ℕ) (ts : List (Bool × ℕ)) → first_of (t ∷ ts) ≡ Ok tt → (t.0 ≡ false) × (first_of ts ≡ Ok tt)
unfolding first_of
passed t ts e = go t.0 e
  where
    go : (b : Bool) → cond b (Err (refusal t.1)) (first_of ts) ≡ Ok tt → (b ≡ false) × (first_of ts ≡ Ok tt)
    go true q = absurd (refused_done (refusal t.1) q)
    go false q = (refl, q)
