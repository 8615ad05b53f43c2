-- A run's row is a part of the row area, and says how far the run's history reaches. Assumes nothing.
use Rattle.std.proofs.Common.{◌≡◌, ap, ◌∙◌, List, ◌++◌, ℕ, suc, ◌+◌, ◌≤◌, ◌<◌, add-one, arith, length, get_or, drop, length-append}
use Rattle.lists.specs.Areas.{over, part}
use Rattle.model.specs.History.{at, histories}
use Rattle.model.proofs.Histories.{Below}
use Rattle.tables.specs.Laid.{chs, row_at, flat, Chains, Laid}
use Rattle.tables.specs.Tables.{Reaches}
use Rattle.tables.proofs.Holding.{row-later}
use Rattle.tables.proofs.Making.{flat_up, flat-part}

module _ (pss : List (List ℕ)) (n : ℕ) (st : Chains) (area area₀ : List ℕ) (L : Laid pss n st area area₀) (r : ℕ) (lt : r < n) where
  abbrev hs : List (List ℕ)
  hs = histories pss

  area_is : area ≡ flat hs n ++ drop (length (flat hs n)) area₀
  unfolding over
  area_is = L.written

  here : get_or st.starts r 0 ≡ length (flat hs r)
  here = L.starts r (omega arith)

  next : get_or st.starts (r + 1) 0 ≡ length (flat hs (suc r))
  next = L.starts (r + 1) (omega arith) ∙ ap (λ (k : ℕ). length (flat hs k)) (add-one r)

  -- Where a run's row lies
  pub row_lies : (get_or st.starts r 0 ≤ get_or st.starts (r + 1) 0) × (get_or st.starts (r + 1) 0 ≤ length area)
  row_lies = (
    omega (arith, here, next, flat_up hs r (suc r) (omega arith)),
    omega (arith, next, flat_up hs (suc r) n (omega arith), ap length area_is, length-append (flat hs n) (drop (length (flat hs n)) area₀)),
  )

  -- there it is
  pub row_found : part (get_or st.starts r 0) (get_or st.starts (r + 1) 0) area ≡ row_at (histories pss) r
  row_found = rw (here, next, area_is) (flat-part hs r n (drop (length (flat hs n)) area₀) lt)

-- A run's row says how far its history reaches along all chains, those begun later too
pub row-reaches : (pss : List (List ℕ)) → Below pss → (r : ℕ) → r < length pss → Reaches (chs (histories pss) (length pss)) (at (histories pss) r) (row_at (histories pss) r)
unfolding Reaches
row-reaches pss b r lt = λ c q. row-later pss b r (length pss) c lt lt
