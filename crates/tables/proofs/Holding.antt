-- What runs and their histories count along the chains. Assumes nothing.
use Rattle.std.proofs.Common.{◌≡◌, refl, sym, ap, ◌∙◌, subst, ◌⊎◌, inl, inr, Bool, true, false, ◌||◌, List, [], ◌∷◌, ℕ, zero, suc, ◌≤◌, ◌<◌, max, arith, length, get_or, ltb, eqb, lt-ltb, le-ltb}
use Rattle.std.proofs.Common.{eq-eqb, ne_eqb, eqb-true}
use Rattle.lists.specs.Lists.{any, mem, count}
use Rattle.lists.proofs.Truth.{lt_or_le, eq_or-not, false_true, bool_iff, or_cases, or_left, or_right}
use Rattle.lists.proofs.Members.{mem_index, any_intro, any_elim}
use Rattle.lists.proofs.Counts.{count_same}
use Rattle.model.specs.EventGraph.{HappenedBefore, parent, further}
use Rattle.model.specs.History.{at, reached, histories, run_graph}
use Rattle.model.specs.Range.{row}
use Rattle.model.proofs.Ancestry.{before_trans}
use Rattle.model.proofs.Histories.{Below, history-below, history_iff}
use Rattle.tables.specs.Laid.{chs, chain_of, place_of, row_at}
use Rattle.tables.proofs.Prefixes.{Falls, falls_union, count-is, count_snoc_out}
use Rattle.tables.proofs.Chaining.{grow, cnt, chain_under, chain_chained, place_at, member-chain, row_get_d}

-- The runs that p and its history hold
abbrev pub own : List (List ℕ) → ℕ → ℕ → Bool
own hs p m = eqb m p || mem m (at hs p)

module _ (pss : List (List ℕ)) (b : Below pss) where
  abbrev H : List (List ℕ)
  H = histories pss

  -- Histories are closed
  pub closed : (i m k : ℕ) → i < length pss → mem m (at H i) ≡ true → mem k (at H m) ≡ true → mem k (at H i) ≡ true
  closed i m k lt h q =
      (history_iff pss b k i lt).1
      (before_trans (run_graph pss) ((history_iff pss b k m (omega (arith, history-below pss b m i lt h))).0 q) ((history_iff pss b m i lt).0 h))

  -- A run is in no history of a run at or before it
  pub not_in : (i m : ℕ) → i < length pss → i ≤ m → mem m (at H i) ≡ false
  not_in i m lt le = go (mem m (at H i)) refl
    where
      go : (t : Bool) → mem m (at H i) ≡ t → mem m (at H i) ≡ false
      go true e = absurd (omega (arith, history-below pss b m i lt e))
      go false e = e

  -- A history is what its parents reach
  pub history-reached : (i m : ℕ) → i < length pss → mem m (at H i) ≡ reached H (at pss i) m
  unfolding reached
  history-reached i m lt = bool_iff (mem m (at H i)) (any (λ p. own H p m) (at pss i)) (λ h. there ((history_iff pss b m i lt).0 h)) (λ h. back (any_elim (λ p. own H p m) (at pss i) h))
    where
      there : HappenedBefore (run_graph pss) m i → any (λ p. own H p m) (at pss i) ≡ true
      there (parent q) = any_intro (λ p. own H p m) (at pss i) m q (or_left (mem m (at H m)) (eq-eqb m m refl))
      there (further {q = j} q k) =
          any_intro (λ p. own H p m) (at pss i) j q (or_right (eqb m j) ((history_iff pss b m j (omega (arith, b i j q))).1 k))

      back : (p : ℕ) × (mem p (at pss i) ≡ true) × (own H p m ≡ true) → mem m (at H i) ≡ true
      back t = cases (or_cases (eqb m t.0) (mem m (at H t.0)) t.2)
        where
          cases : (eqb m t.0 ≡ true) ⊎ (mem m (at H t.0) ≡ true) → mem m (at H i) ≡ true
          cases (inl e) = (history_iff pss b m i lt).1 (parent (subst (λ (k : ℕ). mem k (at pss i) ≡ true) (sym (eqb-true m t.0 e)) t.1))
          cases (inr e) = (history_iff pss b m i lt).1 (further t.1 ((history_iff pss b m t.0 (omega (arith, b i t.0 t.1))).0 e))

  -- What a run's chain holds of a history does not change any more
  pub cnt_stays : (p r k : ℕ) → p < length pss → p ≤ r → cnt (at H p) (at (chs H (suc r)) k) ≡ cnt (at H p) (at (chs H r) k)
  cnt_stays p r k lt le = grow (λ c. cnt (at H p) c ≡ cnt (at H p) (at (chs H r) k)) H r k refl (λ e. count_snoc_out (λ m. mem m (at H p)) (at (chs H r) k) r (not_in p r lt le))

  -- A row, read past its end as 0, is the count along each later chain
  pub row-later : (p r k : ℕ) → p < length pss → p < r → get_or (row_at H p) k 0 ≡ cnt (at H p) (at (chs H r) k)
  unfolding row_at
  row-later p zero k lt le = absurd (omega arith)
  row-later p (suc r) k lt le = go (eq_or-not p r) (λ q. row-later p r k lt q)
    where
      go : (p ≡ r) ⊎ (p ≡ r → ⊥) → (p < r → get_or (row (at H p) (chs H (suc p))) k 0 ≡ cnt (at H p) (at (chs H r) k)) → get_or (row (at H p) (chs H (suc p))) k 0 ≡ cnt (at H p) (at (chs H (suc r)) k)
      go (inl e) rec = row_get_d (at H p) (chs H (suc p)) k ∙ ap (λ (j : ℕ). cnt (at H p) (at (chs H (suc j)) k)) e
      go (inr n) rec = rec (omega arith) ∙ sym (cnt_stays p r k lt (omega arith))

  -- Sets that hold a run with its history meet a chain in a prefix
  pub own_falls : (p r k : ℕ) → p < length pss → Falls (own H p) (at (chs H r) k)
  own_falls p r k lt i j a c q = go (or_cases (eqb (get_or (at (chs H r) k) j 0) p) (mem (get_or (at (chs H r) k) j 0) (at H p)) q)
    where
      before : mem (get_or (at (chs H r) k) i 0) (at H (get_or (at (chs H r) k) j 0)) ≡ true
      before = chain_chained H r k i j a c

      go : (eqb (get_or (at (chs H r) k) j 0) p ≡ true) ⊎ (mem (get_or (at (chs H r) k) j 0) (at H p) ≡ true) → own H p (get_or (at (chs H r) k) i 0) ≡ true
      go (inl e) = or_right (eqb (get_or (at (chs H r) k) i 0) p) (subst (λ (x : ℕ). mem (get_or (at (chs H r) k) i 0) (at H x) ≡ true) (eqb-true (get_or (at (chs H r) k) j 0) p e) before)
      go (inr e) = or_right (eqb (get_or (at (chs H r) k) i 0) p) (closed p (get_or (at (chs H r) k) j 0) (get_or (at (chs H r) k) i 0) lt e before)

  -- so does what some runs reach
  pub reached_falls : (ps : List ℕ) (r k : ℕ) → ((p : ℕ) → mem p ps ≡ true → p < length pss) → Falls (reached H ps) (at (chs H r) k)
  unfolding reached any mem
  reached_falls [] r k h = λ i j a c q. false_true q
  reached_falls (p ∷ ps) r k h = falls_union (own H p) (reached H ps) (at (chs H r) k) (own_falls p r k (h p (or_left (mem p ps) (eq-eqb p p refl)))) (reached_falls ps r k (λ q m. h q (or_right (eqb q p) m)))

  -- What a run with its history counts along its own chain, and along another
  pub own_here : (p r : ℕ) → p < r → r ≤ length pss → count (own H p) (at (chs H r) (chain_of H p)) ≡ max (cnt (at H p) (at (chs H r) (chain_of H p))) (suc (place_of H p))
  own_here p r le fits =
      let pl = place_at H p r le in
      omega (
        arith,
        count-is (own H p) c (suc (place_of H p)) pl.0 (λ i l. with_own i l (lt_or_le i (place_of H p)) (eq_or-not i (place_of H p))),
        count-is (λ m. mem m (at H p)) c (place_of H p) (omega (arith, pl.0)) (λ i l. without i l (lt_or_le i (place_of H p)) (eq_or-not i (place_of H p))),
      )
    where
      c : List ℕ
      c = at (chs H r) (chain_of H p)

      before : (i : ℕ) → i < place_of H p → mem (get_or c i 0) (at H p) ≡ true
      before i l = subst (λ (x : ℕ). mem (get_or c i 0) (at H x) ≡ true) (place_at H p r le).1 (chain_chained H r (chain_of H p) i (place_of H p) l (place_at H p r le).0)

      after : (i : ℕ) → i < length c → place_of H p < i → p < get_or c i 0
      after i l q = history-below pss b p (get_or c i 0) (omega (arith, chain_under H r (chain_of H p) i l))
          (subst (λ (x : ℕ). mem x (at H (get_or c i 0)) ≡ true) (place_at H p r le).1 (chain_chained H r (chain_of H p) (place_of H p) i q l))

      itself : (i : ℕ) → i ≡ place_of H p → get_or c i 0 ≡ p
      itself i e = ap (λ (j : ℕ). get_or c j 0) e ∙ (place_at H p r le).1

      without : (i : ℕ) → i < length c → (i < place_of H p) ⊎ (place_of H p ≤ i) → (i ≡ place_of H p) ⊎ (i ≡ place_of H p → ⊥) → mem (get_or c i 0) (at H p) ≡ ltb i (place_of H p)
      without i l (inl q) e = before i q ∙ sym (lt-ltb i (place_of H p) q)
      without i l (inr q) (inl e) = not_in p (get_or c i 0) (omega arith) (omega (arith, itself i e)) ∙ sym (le-ltb i (place_of H p) q)
      without i l (inr q) (inr n) = not_in p (get_or c i 0) (omega arith) (omega (arith, after i l (omega arith))) ∙ sym (le-ltb i (place_of H p) q)

      with_own : (i : ℕ) → i < length c → (i < place_of H p) ⊎ (place_of H p ≤ i) → (i ≡ place_of H p) ⊎ (i ≡ place_of H p → ⊥) → own H p (get_or c i 0) ≡ ltb i (suc (place_of H p))
      with_own i l (inl q) e = or_right (eqb (get_or c i 0) p) (before i q) ∙ sym (lt-ltb i (suc (place_of H p)) (omega arith))
      with_own i l (inr q) (inl e) = or_left (mem (get_or c i 0) (at H p)) (eq-eqb (get_or c i 0) p (itself i e)) ∙ sym (lt-ltb i (suc (place_of H p)) (omega arith))
      with_own i l (inr q) (inr n) =
          rw (ne_eqb (get_or c i 0) p (λ e. omega (arith, after i l (omega arith)))) (not_in p (get_or c i 0) (omega arith) (omega (arith, after i l (omega arith))) ∙ sym (le-ltb i (suc (place_of H p)) (omega arith)))

  -- along another chain it counts its history
  pub own_there : (p r k : ℕ) → (k ≡ chain_of H p → ⊥) → count (own H p) (at (chs H r) k) ≡ cnt (at H p) (at (chs H r) k)
  own_there p r k n = count_same (own H p) (λ m. mem m (at H p)) (at (chs H r) k) (λ x q. other x (mem_index x 0 (at (chs H r) k) q))
    where
      other : (x : ℕ) → (i : ℕ) × (i < length (at (chs H r) k)) × (get_or (at (chs H r) k) i 0 ≡ x) → own H p x ≡ mem x (at H p)
      other x t = rw (ne_eqb x p (λ e. n (sym (ap (chain_of H) (sym (t.2 ∙ e)) ∙ member-chain H r k t.0 t.1))))
