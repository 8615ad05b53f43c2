-- The invariant of the walk's loop, as the code's loop carries it. Assumes nothing.
use Rattle.std.proofs.Common.{◌≡◌, sym, ap, ◌∙◌, subst, ◌⊎◌, inl, inr, List, ℕ, ◌+◌, ◌-◌, ◌*◌, ◌^◌, ◌≤◌, ◌<◌, min, arith}
use Rattle.std.specs.Prelude.{Option, Some, None, Err}
use Rattle.model.specs.declared.answers.Refusal.{Refusal}
use Rattle.lists.proofs.Truth.{lt_or_le}
use Rattle.model.specs.Steps.{steps_of}
use Rattle.moves.specs.Emit.{Writing, emit}
use Rattle.moves.specs.Moves.{recs}
use Rattle.moves.specs.Stretches.{Below}
use Rattle.walk.specs.declared.choice.Best.{Best}
use Rattle.walk.specs.declared.visiting.Progress.{Progress}
use Rattle.walk.specs.Given.{Given, range_for, Prepared}
use Rattle.walk.specs.Choose.{only_c, cost_c, weight_c, scan_c}
use Rattle.walk.specs.Turns.{best_in, visited, Turned, Ready, Fit, Begun}
use Rattle.walk.proofs.Chosen.{Found, found_some, found_none}
use Rattle.walk.proofs.Looping.{Walks, WalksWithin, is_ready_list, fit, next, next-within, next-moved, next-refused, fuel_some, ended, begun, begun-within}

-- What a walk that begins with v written writes
abbrev pub whole_of : Given → Writing → Writing
whole_of g v = emit v (recs g.starts (steps_of (range_for g) g.base g.known g.first))

-- It stands at t with v written, with `fuel` visits at most left; it began with v₀
pub record Looped (g : Given) (v₀ : Writing) (fuel : ℕ) (t : Progress) (v : Writing) : Type 0 where
  pub prepared : Prepared g
  pub walks : Walks g prepared (whole_of g v₀) fuel t v

pub looped_start : (g : Given) (t : Progress) (v : Writing) → Prepared g → Begun g t → Looped g v g.runs t v
looped_start g t v P B = record { prepared = P; walks = begun g P t v B }

module _ (g : Given) (v₀ : Writing) (fuel : ℕ) (t : Progress) (v : Writing) (L : Looped g v₀ fuel t v) where
  pub looped_ready : Ready g t
  looped_ready = is_ready_list g L.prepared (whole_of g v₀) fuel t v L.walks

  pub looped_fit : 0 < t.waits.0 → Fit g t
  looped_fit some = fit g L.prepared (whole_of g v₀) fuel t v L.walks some

  pub looped_some : 0 < t.waits.0 → 1 ≤ fuel
  looped_some some = fuel_some g L.prepared (whole_of g v₀) fuel t v L.walks some

  -- Where no visit is left, no run is ready
  pub looped_none : fuel ≤ 0 → t.waits.0 ≤ 0
  looped_none over = none (lt_or_le 0 t.waits.0)
    where
      none : (0 < t.waits.0) ⊎ (t.waits.0 ≤ 0) → t.waits.0 ≤ 0
      none (inl some) = omega (arith, looped_some some)
      none (inr le) = le

  pub looped_next : 0 < t.waits.0 → (u : Progress) (v₂ : Writing) → Turned g t u → v₂ ≡ emit v (visited g t) → Looped g v₀ (fuel - 1) u v₂
  looped_next some u v₂ T e = record { prepared = L.prepared; walks = next g L.prepared (whole_of g v₀) fuel t v L.walks some u v₂ T e }

  pub looped_refused : 0 < t.waits.0 → {f : Refusal} {k m : ℕ} {ws : List ℕ} → let v₂ : Writing = (record { count = k; moved = m; outcome = Err f }, ws) in
      v₂ ≡ emit v (visited g t) → v₂ ≡ whole_of g v₀
  looped_refused some e = next-refused g L.prepared (whole_of g v₀) fuel t v L.walks some e

  pub looped_end : t.waits.0 ≤ 0 → v ≡ whole_of g v₀
  looped_end none = ended g L.prepared (whole_of g v₀) fuel t v L.walks none

-- It moves at most 2 ^ 52 events more for each run
abbrev pub most_of : Given → Writing → ℕ
most_of g v₀ = v₀.0.moved + g.runs * 2 ^ 52

-- It stands so, and moves no more than that in all
pub record LoopedWithin (g : Given) (v₀ : Writing) (fuel : ℕ) (t : Progress) (v : Writing) : Type 0 where
  pub prepared : Prepared g
  pub walks : WalksWithin g prepared (whole_of g v₀) (most_of g v₀) fuel t v

pub within_start : (g : Given) (t : Progress) (v : Writing) → Prepared g → Begun g t → LoopedWithin g v g.runs t v
within_start g t v P B = record { prepared = P; walks = begun-within g P t v B }

module _ (g : Given) (v₀ : Writing) (fuel : ℕ) (t : Progress) (v : Writing) (L : LoopedWithin g v₀ fuel t v) where
  pub within_looped : Looped g v₀ fuel t v
  within_looped = record { prepared = L.prepared; walks = L.walks.walks }

  pub within_next : 0 < t.waits.0 → (u : Progress) (v₂ : Writing) → Turned g t u → v₂ ≡ emit v (visited g t) → LoopedWithin g v₀ (fuel - 1) u v₂
  within_next some u v₂ T e = record { prepared = L.prepared; walks = next-within g L.prepared (whole_of g v₀) (most_of g v₀) fuel t v L.walks some u v₂ T e }

  -- What it moves
  pub looped_moved : Below (2 ^ 32) g.starts → v.0.moved ≤ most_of g v₀
  looped_moved small = omega (arith, L.walks.moved small)

  pub looped_refused_moved : 0 < t.waits.0 → Below (2 ^ 32) g.starts → (v₂ : Writing) → v₂ ≡ emit v (visited g t) → v₂.0.moved ≤ most_of g v₀
  looped_refused_moved some small v₂ e = omega (arith, next-moved g L.prepared (whole_of g v₀) (most_of g v₀) fuel t v L.walks some small v₂ e)

-- No run is ready where none is best, and some is where one is
module _ (g : Given) (t : Progress) where
  pub none_ready : best_in g t ≡ None → t.waits.0 ≤ 0
  unfolding best_in
  none_ready e = go (lt_or_le 0 t.waits.0)
    where
      go : (0 < t.waits.0) ⊎ (t.waits.0 ≤ 0) → t.waits.0 ≤ 0
      go (inl l) = absurd (subst (Found t.waits.0) e (found_some (only_c g t.last) (cost_c g t.version) (weight_c g) t.waits.2 t.waits.0 l))
      go (inr le) = le

  pub some_ready : (b : Best) → best_in g t ≡ Some b → 0 < t.waits.0
  unfolding best_in
  some_ready b e = go (lt_or_le 0 t.waits.0)
    where
      scan : ℕ → Option Best
      scan n = scan_c (only_c g t.last) (cost_c g t.version) (weight_c g) t.waits.2 n 0 (min 64 n) None

      go : (0 < t.waits.0) ⊎ (t.waits.0 ≤ 0) → 0 < t.waits.0
      go (inl l) = l
      go (inr le) =
          let z : t.waits.0 ≡ 0 = omega arith in
          let none : None ≡ Some b = sym (found_none (only_c g t.last) (cost_c g t.version) (weight_c g) t.waits.2) ∙ (ap scan (sym z) ∙ e) in cc
