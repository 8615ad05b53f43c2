-- Where runs stand on their chains, and how far the first runs reach along them. Assumes nothing.
use Rattle.std.proofs.Common.{◌≡◌, refl, sym, ap, ◌∙◌, ◌⊎◌, inl, inr, Bool, true, false, List, [], ◌∷◌, ◌++◌, ℕ, zero, suc, ◌≤◌, ◌<◌, arith, length, get_or, length-append, ltb, lt-ltb, le-ltb}
use lib.ListN.{get_or-append, get_or-eq_default}
use lib.Seq.{get_or-append_seam}
use Rattle.lists.specs.Lists.{mem, from, upto}
use Rattle.lists.proofs.Truth.{lt_or_le, eq_or-not}
use Rattle.lists.proofs.Members.{mem_index}
use Rattle.lists.proofs.Counts.{mem-from, upto-mem, count_same, count_le}
use Rattle.model.specs.History.{at, histories}
use Rattle.model.proofs.Histories.{Below, history-below}
use Rattle.tables.specs.Laid.{chs, chain_of, place_of}
use Rattle.tables.proofs.Prefixes.{count-is}
use Rattle.tables.proofs.Chaining.{grow, cnt, chain_under, chain_chained, place_at, member-chain}
use Rattle.tables.proofs.Holding.{cnt_stays}

-- A member of a chain has its place
pub member-place : (hs : List (List ℕ)) (r k i : ℕ) → i < length (at (chs hs r) k) → place_of hs (get_or (at (chs hs r) k) i 0) ≡ i
unfolding chs at
member-place hs zero k i lt = absurd (omega arith)
member-place hs (suc r) k i lt = grow (λ c. (i : ℕ) → i < length c → place_of hs (get_or c i 0) ≡ i) hs r k (member-place hs r k) (new (member-place hs r k)) i lt
  where
    new : ((i : ℕ) → i < length (at (chs hs r) k) → place_of hs (get_or (at (chs hs r) k) i 0) ≡ i) → k ≡ chain_of hs r → (i : ℕ) → i < length (at (chs hs r) k ++ r ∷ []) → place_of hs (get_or (at (chs hs r) k ++ r ∷ []) i 0) ≡ i
    new ih e i lt = go (eq_or-not i (length (at (chs hs r) k)))
      where
        last : place_of hs r ≡ length (at (chs hs r) k)
        last = unfold place_of in (ap (λ (j : ℕ). length (at (chs hs r) j)) (sym e))

        go : (i ≡ length (at (chs hs r) k)) ⊎ (i ≡ length (at (chs hs r) k) → ⊥) → place_of hs (get_or (at (chs hs r) k ++ r ∷ []) i 0) ≡ i
        go (inl q) = ap (λ (j : ℕ). place_of hs (get_or (at (chs hs r) k ++ r ∷ []) j 0)) q ∙ (ap (place_of hs) (get_or-append_seam (at (chs hs r) k) r [] 0) ∙ (last ∙ sym q))
        go (inr n) = let l : i < length (at (chs hs r) k) = omega (arith, length-append (at (chs hs r) k) (r ∷ [])) in
            ap (place_of hs) (get_or-append (at (chs hs r) k) (r ∷ []) 0 i l) ∙ ih i l

-- Past the last chain there is none
pub at-past : (cs : List (List ℕ)) (k : ℕ) → length cs ≤ k → at cs k ≡ []
unfolding at
at-past cs k le = get_or-eq_default cs [] le

-- A run's chain is one of those so far
pub chain_in : (hs : List (List ℕ)) (m r : ℕ) → m < r → chain_of hs m < length (chs hs r)
chain_in hs m r lt = go (lt_or_le (chain_of hs m) (length (chs hs r)))
  where
    go : (chain_of hs m < length (chs hs r)) ⊎ (length (chs hs r) ≤ chain_of hs m) → chain_of hs m < length (chs hs r)
    go (inl l) = l
    go (inr g) = absurd (omega (arith, (place_at hs m r lt).0, ap length (at-past (chs hs r) (chain_of hs m) g)))

-- A run is among the first n exactly if it is below n
pub upto_test : (x n : ℕ) → mem x (upto n) ≡ ltb x n
unfolding upto
upto_test x n = go (mem x (from 0 n)) refl (lt_or_le x n)
  where
    go : (t : Bool) → mem x (from 0 n) ≡ t → (x < n) ⊎ (n ≤ x) → mem x (from 0 n) ≡ ltb x n
    go t e (inl l) = unfold upto in (upto-mem x n l) ∙ sym (lt-ltb x n l)
    go true e (inr g) = absurd (omega (arith, mem-from x 0 n e))
    go false e (inr g) = e ∙ sym (le-ltb x n g)

-- The first runs, counted along a chain: one more run moves its own chain to its place
module _ (pss : List (List ℕ)) (b : Below pss) where
  abbrev H : List (List ℕ)
  H = histories pss

  rises : (r k i j : ℕ) → r ≤ length pss → i < j → j < length (at (chs H r) k) → get_or (at (chs H r) k) i 0 < get_or (at (chs H r) k) j 0
  rises r k i j fits a l = history-below pss b (get_or (at (chs H r) k) i 0) (get_or (at (chs H r) k) j 0) (omega (arith, chain_under H r k j l)) (chain_chained H r k i j a l)

  pub first-own : (m r : ℕ) → m < r → r ≤ length pss → cnt (upto (suc m)) (at (chs H r) (chain_of H m)) ≡ suc (place_of H m)
  first-own m r lt fits = count-is (λ x. mem x (upto (suc m))) c (suc (place_of H m)) (place_at H m r lt).0 (λ i l. upto_test (get_or c i 0) (suc m) ∙ test i l (lt_or_le i (place_of H m)) (eq_or-not i (place_of H m)))
    where
      c : List ℕ
      c = at (chs H r) (chain_of H m)

      own_at : get_or c (place_of H m) 0 ≡ m
      own_at = (place_at H m r lt).1

      test : (i : ℕ) → i < length c → (i < place_of H m) ⊎ (place_of H m ≤ i) → (i ≡ place_of H m) ⊎ (i ≡ place_of H m → ⊥) → ltb (get_or c i 0) (suc m) ≡ ltb i (suc (place_of H m))
      test i l (inl q) e = lt-ltb (get_or c i 0) (suc m) (omega (arith, rises r (chain_of H m) i (place_of H m) fits q (place_at H m r lt).0, own_at)) ∙ sym (lt-ltb i (suc (place_of H m)) (omega arith))
      test i l (inr q) (inl e) = lt-ltb (get_or c i 0) (suc m) (omega (arith, ap (λ (k : ℕ). get_or c k 0) e, own_at)) ∙ sym (lt-ltb i (suc (place_of H m)) (omega arith))
      test i l (inr q) (inr n) = le-ltb (get_or c i 0) (suc m) (omega (arith, rises r (chain_of H m) (place_of H m) i fits (omega arith) l, own_at)) ∙ sym (le-ltb i (suc (place_of H m)) (omega arith))

  -- the other chains stay
  pub first-other : (m r k : ℕ) → (k ≡ chain_of H m → ⊥) → cnt (upto (suc m)) (at (chs H r) k) ≡ cnt (upto m) (at (chs H r) k)
  first-other m r k ne = count_same (λ x. mem x (upto (suc m))) (λ x. mem x (upto m)) (at (chs H r) k)
      (λ x q. upto_test x (suc m) ∙ (test x (mem_index x 0 (at (chs H r) k) q) (lt_or_le x m) (eq_or-not x m) ∙ sym (upto_test x m)))
    where
      test : (x : ℕ) → (i : ℕ) × (i < length (at (chs H r) k)) × (get_or (at (chs H r) k) i 0 ≡ x) → (x < m) ⊎ (m ≤ x) → (x ≡ m) ⊎ (x ≡ m → ⊥) → ltb x (suc m) ≡ ltb x m
      test x t (inl q) e = lt-ltb x (suc m) (omega arith) ∙ sym (lt-ltb x m q)
      test x t (inr q) (inl e) = absurd (ne (sym (member-chain H r k t.0 t.1) ∙ ap (chain_of H) (t.2 ∙ e)))
      test x t (inr q) (inr n) = le-ltb x (suc m) (omega arith) ∙ sym (le-ltb x m q)

  -- What a history counts along a chain is settled once its run is next
  cnt_from : (p r k : ℕ) → p < length pss → p ≤ r → cnt (at H p) (at (chs H r) k) ≡ cnt (at H p) (at (chs H p) k)
  cnt_from p zero k lt le = let e : 0 ≡ p = omega arith in ap (λ (j : ℕ). cnt (at H p) (at (chs H j) k)) e
  cnt_from p (suc r) k lt le = go (eq_or-not (suc r) p) (λ q. cnt_from p r k lt q)
    where
      go : (suc r ≡ p) ⊎ (suc r ≡ p → ⊥) → (p ≤ r → cnt (at H p) (at (chs H r) k) ≡ cnt (at H p) (at (chs H p) k)) → cnt (at H p) (at (chs H (suc r)) k) ≡ cnt (at H p) (at (chs H p) k)
      go (inl e) rec = ap (λ (j : ℕ). cnt (at H p) (at (chs H j) k)) e
      go (inr n) rec = cnt_stays pss b p r k lt (omega arith) ∙ rec (omega arith)

  -- along its own chain it is at most the run's place
  pub history-own : (p r : ℕ) → p < length pss → p ≤ r → cnt (at H p) (at (chs H r) (chain_of H p)) ≤ place_of H p
  unfolding place_of
  history-own p r lt le = omega (arith, cnt_from p r (chain_of H p) lt le, count_le (λ m. mem m (at H p)) (at (chs H p) (chain_of H p)))
