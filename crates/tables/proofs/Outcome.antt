-- A whole range laid, run by run. Assumes nothing.
use Rattle.std.proofs.Common.{◌≡◌, refl, sym, ap, ◌∙◌, subst, Bool, true, false, List, ℕ, suc, ◌+◌, ◌≤◌, ◌<◌, arith, length, ltb, ltb-true, ltb-false}
use Rattle.std.specs.Prelude.{Option, Some, None, MatchOption}
use Rattle.lists.specs.Areas.{over}
use Rattle.model.specs.History.{at, histories}
use Rattle.model.proofs.Histories.{Below, history-length}
use Rattle.tables.specs.declared.rows.Area.{Area}
use Rattle.tables.specs.declared.rows.ChainTables.{ChainTables}
use Rattle.tables.specs.Lay.{Safe, Laying, width_of, lay_of}
use Rattle.tables.specs.Laid.{Chains, flat, chains_of, Laid, LaidOut}
use Rattle.tables.proofs.Making.{flat_up}
use Rattle.tables.proofs.Placing.{safe, end_is, area_length, laid_next}
use Rattle.tables.proofs.Fitted.{rows_whole, rows_all, rows_stop}
use Rattle.tables.proofs.Turns.{lay_true, lay_false}

module _ (pss : List (List ℕ)) (below : Below pss) (few : length pss ≤ 512) (area₀ : List ℕ) where
  size : length (histories pss) ≡ length pss
  size = history-length pss

  -- the next run does not fit
  laid_stop : (r : ℕ) (st : Chains) (area : List ℕ) (tables : ChainTables) → r < length pss → Laid pss r st area area₀ → length area₀ < length (flat (histories pss) (suc r)) →
      LaidOut pss (length pss) area₀ None area tables
  laid_stop r st area tables lt L gt = record {
    area_is = L.written ∙ ap (λ (l : List ℕ). over l area₀) (sym (rows_stop (histories pss) (length area₀) r (omega (arith, size)) L.room gt));
    told = omega (arith, ap length (rows_whole (histories pss)), flat_up (histories pss) (suc r) (length (histories pss)) (omega (arith, size)));
  }

  -- all fit
  pub laid_end : (r : ℕ) (a : Area) (area : List ℕ) (tables : ChainTables) → r ≡ length pss → Laid pss r (chains_of a (length pss + 1) tables) area area₀ →
      LaidOut pss (length pss) area₀ (Some a) area tables
  laid_end r a area tables e L =
      let q : r ≡ length (histories pss) = omega (arith, size) in
      let f : flat (histories pss) r ≡ flat (histories pss) (length (histories pss)) = ap (flat (histories pss)) q in
      let le : length (flat (histories pss) (length (histories pss))) ≤ length area₀ = omega (arith, L.room, ap length f) in
      record {
        area_is = L.written ∙ ap (λ (l : List ℕ). over l area₀) (f ∙ sym (rows_all (histories pss) (length area₀) le));
        told = (omega (arith, ap length (rows_whole (histories pss))), subst (λ (k : ℕ). Laid pss k (chains_of a (length pss + 1) tables) area area₀) e L);
      }

  -- a run's turn
  module _ (r : ℕ) (lt : r < length pss) (st : Chains) (area : List ℕ) (L : Laid pss r st area area₀) where
    -- what it needs holds
    pub turn_safe : Safe (length pss + 1) area st r (at pss r)
    turn_safe = safe pss below few r lt st area area₀ L

    end : st.used + width_of (st, area) (at pss r) ≡ length (flat (histories pss) (suc r))
    end = end_is pss below few r lt st area area₀ L

    same : length area ≡ length area₀
    same = area_length pss below few r lt st area area₀ L

    -- either it does not fit
    pub turn_stops : (tables : ChainTables) → lay_of (st, area) r (at pss r) ≡ None → LaidOut pss (length pss) area₀ None area tables
    turn_stops tables e = go (ltb (length area) (st.used + width_of (st, area) (at pss r))) refl
      where
        go : (t : Bool) → ltb (length area) (st.used + width_of (st, area) (at pss r)) ≡ t → LaidOut pss (length pss) area₀ None area tables
        go true q = laid_stop r st area tables lt L (omega (arith, ltb-true (length area) (st.used + width_of (st, area) (at pss r)) q, end, same))
        go false q = let d = sym (lay_false (st, area) r (at pss r) q) ∙ e in cc

    -- or the runs so far are one more
    pub turn_goes : (v : Laying) → lay_of (st, area) r (at pss r) ≡ Some v → Laid pss (r + 1) v.0 v.1 area₀
    turn_goes v e = go (ltb (length area) (st.used + width_of (st, area) (at pss r))) refl
      where
        go : (t : Bool) → ltb (length area) (st.used + width_of (st, area) (at pss r)) ≡ t → Laid pss (r + 1) v.0 v.1 area₀
        go true q = let d = sym (lay_true (st, area) r (at pss r) q) ∙ e in cc
        go false q =
            let d = sym (lay_false (st, area) r (at pss r) q) ∙ e in
            let P : Option Laying → Type 0 = λ o. MatchOption o (Unit {0}) (λ w. Laid pss (r + 1) w.0 w.1 area₀) in
            subst P d
            (laid_next pss below few r lt st area area₀ L (omega (arith, ltb-false (length area) (st.used + width_of (st, area) (at pss r)) q, end, same)))
