-- A run's row, made by joining its parents' rows. Assumes nothing.
use Rattle.std.proofs.Common.{◌≡◌, refl, sym, ap, ◌∙◌, subst, ◌⊎◌, inl, inr, Bool, true, false, cond, List, [], ◌∷◌, ◌++◌, append_assoc, ℕ, zero, suc, ◌+◌, ◌-◌, ◌≤◌, ◌<◌, max, arith, length}
use Rattle.std.proofs.Common.{get_or, take, set, length-append, length-set, get_or-set_same, get_or-set_other, ext_get_or, get_or-take, take_at, length-take-le, eqb, eq-eqb}
use lib.Seq.{drop-append_seam}
use Rattle.lists.specs.Lists.{any, all, mem, count}
use Rattle.lists.specs.Areas.{part}
use Rattle.lists.proofs.Truth.{eq_or-not, or_left, or_right}
use Rattle.lists.proofs.Counts.{count_same, count_none}
use Rattle.model.specs.History.{at, reached, histories}
use Rattle.model.specs.Range.{row}
use Rattle.model.proofs.Histories.{Below}
use Rattle.tables.specs.Lay.{join_of, raised, join_parent, join_all, spot_from}
use Rattle.tables.specs.Laid.{spot, chs, chain_of, place_of, row_at, flat}
use Rattle.tables.proofs.Prefixes.{count_union, all-count}
use Rattle.tables.proofs.Chaining.{cnt, row_get_d, row-length}
use Rattle.tables.proofs.Holding.{own, row-later, own_here, own_there, own_falls, reached_falls, history-reached, cnt_stays}
use Rattle.tables.proofs.Turns.{join_of-length, join_of_get_d}

-- The chain that the code finds by counts is the one of the definitions
pub spot_code : (row lens h : List ℕ) (c : ℕ) (cs : List (List ℕ)) →
    ((i : ℕ) → i < length cs → (get_or row (c + i) 0 ≡ cnt h (at cs i)) × (get_or lens (c + i) 0 ≡ length (at cs i))) → spot_from row lens c (length cs) ≡ c + spot h cs
unfolding spot_from spot at
spot_code row lens h c [] f = omega arith
spot_code row lens h c (x ∷ xs) f =
    let e : c + 0 ≡ c = omega arith in
    let p : get_or row c 0 ≡ cnt h x = ap (λ (j : ℕ). get_or row j 0) (sym e) ∙ (f 0 (omega arith)).0 in
    let q : get_or lens c 0 ≡ length x = ap (λ (j : ℕ). get_or lens j 0) (sym e) ∙ (f 0 (omega arith)).1 in
    rw (p, q, ← all-count (λ m. mem m h) x) (go (all (λ m. mem m h) x) (spot_code row lens h (c + 1) xs (λ i l.
    let s : c + 1 + i ≡ c + suc i = omega arith in rw s (f (suc i) (omega arith)))))
  where
    go : (t : Bool) → spot_from row lens (c + 1) (length xs) ≡ c + 1 + spot h xs → cond t c (spot_from row lens (c + 1) (length xs)) ≡ c + cond t 0 (suc (spot h xs))
    go true ih = omega arith
    go false ih = omega arith

-- The rows so far lie one after another: a row is a part of the area
pub flat_grows : (hs : List (List ℕ)) (p : ℕ) → length (flat hs (suc p)) ≡ length (flat hs p) + length (chs hs (suc p))
unfolding flat row_at
flat_grows hs p = length-append (flat hs p) (row (at hs p) (chs hs (suc p))) ∙ ap (λ (n : ℕ). length (flat hs p) + n) (row-length (at hs p) (chs hs (suc p)))

-- later rows lie after earlier ones
pub flat_up : (hs : List (List ℕ)) (p r : ℕ) → p ≤ r → length (flat hs p) ≤ length (flat hs r)
flat_up hs zero zero le = omega arith
flat_up hs (suc p) zero le = absurd (omega arith)
flat_up hs p (suc r) le = go (eq_or-not p (suc r)) (λ q. flat_up hs p r q)
  where
    go : (p ≡ suc r) ⊎ (p ≡ suc r → ⊥) → (p ≤ r → length (flat hs p) ≤ length (flat hs r)) → length (flat hs p) ≤ length (flat hs (suc r))
    go (inl e) rec = rw e (omega arith)
    go (inr n) rec = omega (arith, rec (omega arith), flat_grows hs r)

-- a run's row is its part of the area
pub flat-part : (hs : List (List ℕ)) (p r : ℕ) (rest : List ℕ) → p < r → part (length (flat hs p)) (length (flat hs (suc p))) (flat hs r ++ rest) ≡ row_at hs p
unfolding flat part
flat-part hs p zero rest lt = absurd (omega arith)
flat-part hs p (suc r) rest lt = rw (append_assoc (flat hs r) (row_at hs r) rest) (go (eq_or-not p r) (λ q. flat-part hs p r (row_at hs r ++ rest) q))
  where
    go : (p ≡ r) ⊎ (p ≡ r → ⊥) → (p < r → part (length (flat hs p)) (length (flat hs p ++ row_at hs p)) (flat hs r ++ (row_at hs r ++ rest)) ≡ row_at hs p) →
        part (length (flat hs p)) (length (flat hs p ++ row_at hs p)) (flat hs r ++ (row_at hs r ++ rest)) ≡ row_at hs p
    go (inl e) rec = subst (λ (j : ℕ). part (length (flat hs p)) (length (flat hs p ++ row_at hs p)) (flat hs j ++ (row_at hs j ++ rest)) ≡ row_at hs p) e
        (rw (drop-append_seam (flat hs p) (row_at hs p ++ rest)) (take_at (row_at hs p) rest (length (flat hs p ++ row_at hs p) - length (flat hs p)) (omega (arith, length-append (flat hs p) (row_at hs p)))))
    go (inr n) rec = rec (omega arith)

module _ (pss : List (List ℕ)) (b : Below pss) (area starts chain place : List ℕ) (r : ℕ) (fits : r ≤ length pss)
    (rows : (p : ℕ) → p < r → part (get_or starts p 0) (get_or starts (p + 1) 0) area ≡ row_at (histories pss) p)
    (chains : (p : ℕ) → p < r → get_or chain p 0 ≡ chain_of (histories pss) p)
    (places : (p : ℕ) → p < r → get_or place p 0 ≡ place_of (histories pss) p) where
  abbrev hs : List (List ℕ)
  hs = histories pss

  parent-length : (l : List ℕ) (p : ℕ) → length (join_parent area starts chain place l p) ≡ length l
  unfolding join_parent raised
  parent-length l p = simp length-set (join_of-length l (part (get_or starts p 0) (get_or starts (p + 1) 0) area))

  -- A parent joined in: the longer prefix of each chain
  parent_get_d : (l : List ℕ) (p k : ℕ) → p < r → k < length l → get_or (join_parent area starts chain place l p) k 0 ≡ max (get_or l k 0) (count (own hs p) (at (chs hs r) k))
  unfolding join_parent raised
  parent_get_d l p k lt kl = rw (rows p lt, chains p lt, places p lt) (go (eq_or-not k (chain_of hs p)))
    where
      j : List ℕ
      j = join_of l (row_at hs p)

      j_at : (i : ℕ) → i < length l → get_or j i 0 ≡ max (get_or l i 0) (cnt (at hs p) (at (chs hs r) i))
      j_at i q = join_of_get_d l (row_at hs p) i q ∙ ap (λ (n : ℕ). max (get_or l i 0) n) (row-later pss b p r i (omega arith) lt)

      go : (k ≡ chain_of hs p) ⊎ (k ≡ chain_of hs p → ⊥) →
          get_or (set j (chain_of hs p) (max (get_or j (chain_of hs p) 0) (place_of hs p + 1))) k 0 ≡ max (get_or l k 0) (count (own hs p) (at (chs hs r) k))
      go (inl e) = rw e (get_or-set_same j (chain_of hs p) (max (get_or j (chain_of hs p) 0) (place_of hs p + 1)) 0 (omega (arith, join_of-length l (row_at hs p))) ∙
          omega (arith, j_at (chain_of hs p) (omega arith), own_here pss b p r lt fits))
      go (inr n) = get_or-set_other j (chain_of hs p) k (max (get_or j (chain_of hs p) 0) (place_of hs p + 1)) 0 n ∙
          omega (arith, j_at k kl, own_there pss b p r k n)

  -- All parents joined in: what they reach, counted along each chain
  all_get_d : (l ps : List ℕ) → ((p : ℕ) → mem p ps ≡ true → p < r) → (k : ℕ) → k < length l →
      get_or (join_all area starts chain place l ps) k 0 ≡ max (get_or l k 0) (count (reached hs ps) (at (chs hs r) k))
  unfolding join_all reached any mem
  all_get_d l [] h k kl = omega (arith, count_none (λ m. false) (at (chs hs r) k) (λ m. refl))
  all_get_d l (p ∷ ps) h k kl =
      let pr : p < r = h p (or_left (mem p ps) (eq-eqb p p refl)) in
      let later : (q : ℕ) → mem q ps ≡ true → q < r = λ q m. h q (or_right (eqb q p) m) in
      omega (
        arith,
        all_get_d (join_parent area starts chain place l p) ps later k (omega (arith, parent-length l p)),
        parent_get_d l p k pr kl,
        count_union (own hs p) (reached hs ps) (at (chs hs r) k) (own_falls pss b p r k (omega arith)) (reached_falls pss b ps r k (λ q m. omega (arith, later q m))),
      )

  -- the row keeps its length
  all-length : (l ps : List ℕ) → length (join_all area starts chain place l ps) ≡ length l
  unfolding join_all
  all-length l [] = refl
  all-length l (p ∷ ps) = all-length (join_parent area starts chain place l p) ps ∙ parent-length l p

  -- A run's row, made of its parents'
  module _ (z : List ℕ) (zero-at : (k : ℕ) → get_or z k 0 ≡ 0) (lt : r < length pss) where
    pub made_get_d : (k : ℕ) → k < length z → get_or (join_all area starts chain place z (at pss r)) k 0 ≡ cnt (at hs r) (at (chs hs r) k)
    made_get_d k kl =
        omega (
          arith,
          all_get_d z (at pss r) (λ p m. b r p m) k kl,
          zero-at k,
          count_same (λ m. mem m (at hs r)) (reached hs (at pss r)) (at (chs hs r) k) (λ m q. history-reached pss b r m lt),
        )

    -- its places as a whole
    pub made_row : length (chs hs (suc r)) ≤ length z → take (length (chs hs (suc r))) (join_all area starts chain place z (at pss r)) ≡ row_at hs r
    unfolding row_at
    made_row le = ext_get_or 0 (take (length (chs hs (suc r))) (join_all area starts chain place z (at pss r))) (row (at hs r) (chs hs (suc r)))
        (len ∙ sym (row-length (at hs r) (chs hs (suc r))))
        (λ i l. get_or-take (length (chs hs (suc r))) (join_all area starts chain place z (at pss r)) i 0 (omega (arith, len)) ∙
        (made_get_d i (omega (arith, len)) ∙ (sym (cnt_stays pss b r r i lt (omega arith)) ∙ sym (row_get_d (at hs r) (chs hs (suc r)) i))))
      where
        len : length (take (length (chs hs (suc r))) (join_all area starts chain place z (at pss r))) ≡ length (chs hs (suc r))
        len = length-take-le (length (chs hs (suc r))) (join_all area starts chain place z (at pss r)) (omega (arith, all-length z (at pss r)))
