-- One run more in the tables and the row area. Assumes nothing.
use Rattle.std.proofs.Common.{◌≡◌, refl, sym, ap, ◌∙◌, subst, ◌⊎◌, inl, inr, List, [], ◌∷◌, ◌++◌, ℕ, zero, suc, ◌+◌, ◌*◌, ◌≤◌, ◌<◌, add-one, arith, length, get_or, take, drop, set, replicate}
use Rattle.std.proofs.Common.{length-append, length-set, length-drop, get_or-set_same, get_or-set_other, drop-drop}
use lib.ListN.{length-replicate}
use lib.Seq.{paste, take-append_seam, drop-append-add}
use Rattle.lists.specs.Areas.{over, part}
use Rattle.lists.proofs.Truth.{eq_or-not}
use Rattle.lists.proofs.Members.{get_d_mem}
use Rattle.lists.proofs.Pads.{zeros_get}
use Rattle.model.specs.History.{at, histories}
use Rattle.model.proofs.Histories.{Below}
use Rattle.tables.specs.Laid.{Chains}
use Rattle.tables.specs.Lay.{spot_from, FineAll, Safe, placed_of, Laying, row_of, spot_of, width_of}
use Rattle.tables.specs.Laid.{chs, chain_of, place_of, row_at, flat, Laid}
use Rattle.tables.proofs.Chaining.{cnt, chs-own, chs-other, chs-count, chain_of_le, chs-few, chain-short, place_at}
use Rattle.tables.proofs.Making.{spot_code, flat_grows, flat_up, flat-part, made_get_d, made_row}

-- A row has no more places than there are runs
pub flat-few : (hs : List (List ℕ)) (r : ℕ) → r ≤ 512 → length (flat hs r) ≤ 512 * r
flat-few hs zero le = unfold flat in (omega arith)
flat-few hs (suc r) le = omega (arith, flat-few hs r (omega arith), flat_grows hs r, chs-few hs (suc r))

-- Before the first run all tables are 0
pub laid_fresh : (pss : List (List ℕ)) (st : Chains) (area : List ℕ) →
    (length st.starts ≡ length pss + 1) × (length st.chain ≡ length pss + 1) × (length st.place ≡ length pss + 1) × (length st.lens ≡ length pss + 1) →
    get_or st.starts 0 0 ≡ 0 → ((c : ℕ) → get_or st.lens c 0 ≡ 0) → st.count ≡ 0 → st.used ≡ 0 → Laid pss 0 st area area
unfolding flat chs over at
laid_fresh pss st area sizes starts lens count used = record {
  sizes = sizes;
  starts = λ p le. subst (λ (k : ℕ). get_or st.starts k 0 ≡ length (flat (histories pss) k)) (z p le) starts;
  chain = λ m lt. absurd (omega arith);
  place = λ m lt. absurd (omega arith);
  lens = lens;
  number = count;
  used = used;
  room = omega arith;
  written = refl;
}
  where
    z : (p : ℕ) → p ≤ 0 → 0 ≡ p
    z p le = omega arith

-- One row more
pub flat-suc : (hs : List (List ℕ)) (r : ℕ) → flat hs (suc r) ≡ flat hs r ++ row_at hs r
unfolding flat
flat-suc hs r = refl

-- One place more of a table
set-upto : (l : List ℕ) (r v : ℕ) (f : ℕ → ℕ) → r < length l → ((m : ℕ) → m < r → get_or l m 0 ≡ f m) → v ≡ f r → (m : ℕ) → m < suc r → get_or (set l r v) m 0 ≡ f m
set-upto l r v f lt old new m le = go (eq_or-not m r)
  where
    go : (m ≡ r) ⊎ (m ≡ r → ⊥) → get_or (set l r v) m 0 ≡ f m
    go (inl e) = rw e (get_or-set_same l r v 0 lt ∙ new)
    go (inr n) = get_or-set_other l r m v 0 n ∙ old m (omega arith)

module _ (pss : List (List ℕ)) (b : Below pss) (few : length pss ≤ 512) (r : ℕ) (lt : r < length pss) (st : Chains) (area area₀ : List ℕ) (L : Laid pss r st area area₀) where
  abbrev hs : List (List ℕ)
  hs = histories pss

  area_is : area ≡ flat hs r ++ drop (length (flat hs r)) area₀
  unfolding over
  area_is = L.written

  rows : (p : ℕ) → p < r → part (get_or st.starts p 0) (get_or st.starts (p + 1) 0) area ≡ row_at hs p
  rows p l =
      let e : p + 1 ≡ suc p = omega arith in
      rw (L.starts p (omega arith), L.starts (p + 1) (omega arith), area_is, e) (flat-part hs p r (drop (length (flat hs r)) area₀) l)

  -- The area keeps its length
  pub area_length : length area ≡ length area₀
  area_length = omega (arith, ap length area_is, length-append (flat hs r) (drop (length (flat hs r)) area₀), length-drop (length (flat hs r)) area₀, L.room)

  -- What the next run needs
  pub safe : Safe (length pss + 1) area st r (at pss r)
  safe = (
    omega arith,
    omega arith,
    omega (arith, L.number, chs-few hs r),
    omega (arith, L.used, L.room, area_length),
    omega (arith, L.used, flat-few hs r (omega arith)),
    (λ c. omega (arith, L.lens c, chain-short hs r c)),
    fine,
  )
    where
      fine : FineAll (length pss + 1) area st.starts st.chain st.place (at pss r)
      fine i l =
          let p : ℕ = get_or (at pss r) i 0 in
          let q : p < r = b r p (get_d_mem (at pss r) i 0 l) in
          let e : get_or st.starts p 0 ≡ length (flat hs p) = L.starts p (omega arith) in
          let f : get_or st.starts (p + 1) 0 ≡ length (flat hs (suc p)) = L.starts (p + 1) (omega arith) ∙ ap (λ (k : ℕ). length (flat hs k)) (add-one p) in
          let g : length (flat hs (suc p)) ≡ length (flat hs p) + length (chs hs (suc p)) = flat_grows hs p in
          let up : length (flat hs (suc p)) ≤ length (flat hs r) = flat_up hs (suc p) r (omega arith) in (
            omega arith,
            omega (arith, area_length, L.room),
            omega (arith, chs-few hs (suc p)),
            omega (arith, L.chain p q, chain_of_le hs p, chs-few hs p),
            omega (arith, L.place p q, (place_at hs p r q).0, chain-short hs r (chain_of hs p)),
            omega arith,
          )

  abbrev zeroes : List ℕ
  zeroes = replicate (length st.starts) 0

  zeroes_long : length zeroes ≡ length pss + 1
  zeroes_long = length-replicate (length st.starts) 0 ∙ L.sizes.0

  row_is : (k : ℕ) → k < length pss + 1 → get_or (row_of (st, area) (at pss r)) k 0 ≡ cnt (at hs r) (at (chs hs r) k)
  unfolding row_of
  row_is k l = made_get_d pss b area st.starts st.chain st.place r (omega arith) rows L.chain L.place zeroes (zeros_get (length st.starts)) lt k (omega (arith, zeroes_long))

  -- Its chain
  spot_is : spot_of (st, area) (at pss r) ≡ chain_of hs r
  unfolding spot_of chain_of
  spot_is = ap (λ (n : ℕ). spot_from (row_of (st, area) (at pss r)) st.lens 0 n) L.number ∙
      (spot_code (row_of (st, area) (at pss r)) st.lens (at hs r) 0 (chs hs r)
      (λ i l. let e : 0 + i ≡ i = omega arith in rw e (row_is i (omega (arith, chs-few hs r)), L.lens i)) ∙ omega arith)

  -- how many chains there then are
  width_is : width_of (st, area) (at pss r) ≡ length (chs hs (suc r))
  unfolding width_of
  width_is = omega (arith, spot_is, L.number, chs-count hs r)

  -- where its row ends
  pub end_is : st.used + width_of (st, area) (at pss r) ≡ length (flat hs (suc r))
  end_is = omega (arith, width_is, L.used, flat_grows hs r)

  row-part : take (length (chs hs (suc r))) (row_of (st, area) (at pss r)) ≡ row_at hs r
  unfolding row_of
  row-part = made_row pss b area st.starts st.chain st.place r (omega arith) rows L.chain L.place zeroes (zeros_get (length st.starts)) lt (omega (arith, zeroes_long, chs-few hs (suc r)))

  -- A run that fits
  abbrev pub next : Laying
  next = (placed_of st r (spot_of (st, area) (at pss r)) (st.used + width_of (st, area) (at pss r)) (width_of (st, area) (at pss r)), paste area st.used (row_of (st, area) (at pss r)) (width_of (st, area) (at pss r)))

  lens-next : (c : ℕ) → get_or (set st.lens (chain_of hs r) (get_or st.lens (chain_of hs r) 0 + 1)) c 0 ≡ length (at (chs hs (suc r)) c)
  lens-next c = go (eq_or-not c (chain_of hs r))
    where
      k : ℕ
      k = chain_of hs r

      go : (c ≡ chain_of hs r) ⊎ (c ≡ chain_of hs r → ⊥) → get_or (set st.lens (chain_of hs r) (get_or st.lens (chain_of hs r) 0 + 1)) c 0 ≡ length (at (chs hs (suc r)) c)
      go (inl e) = rw e (get_or-set_same st.lens (chain_of hs r) (get_or st.lens (chain_of hs r) 0 + 1) 0 (omega (arith, L.sizes.3, chain_of_le hs r, chs-few hs r)) ∙
          omega (arith, L.lens (chain_of hs r), ap length (chs-own hs r), length-append (at (chs hs r) (chain_of hs r)) (r ∷ [])))
      go (inr n) = get_or-set_other st.lens (chain_of hs r) c (get_or st.lens (chain_of hs r) 0 + 1) 0 n ∙ (L.lens c ∙ ap length (sym (chs-other hs r c n)))

  written_next : take (length (flat hs r)) area ++ take (length (chs hs (suc r))) (row_of (st, area) (at pss r)) ++ drop (length (flat hs (suc r))) area ≡ over (flat hs (suc r)) area₀
  unfolding over
  written_next =
      let n : ℕ = length (chs hs (suc r)) in
      let p : take (length (flat hs r)) area ≡ flat hs r = rw area_is (take-append_seam (flat hs r) (drop (length (flat hs r)) area₀)) in
      let q : drop (length (flat hs (suc r))) area ≡ drop (length (flat hs (suc r))) area₀ =
      ap (λ (k : ℕ). drop k area) (flat_grows hs r) ∙ rw area_is (drop-append-add (flat hs r) (drop (length (flat hs r)) area₀) n ∙ (drop-drop n (length (flat hs r)) area₀ ∙ ap (λ (k : ℕ). drop k area₀) (sym (flat_grows hs r)))) in
      rw (p, row-part, q) (ap (λ (l : List ℕ). l ++ drop (length (flat hs (suc r))) area₀) (sym (flat-suc hs r)))

  -- The tables and the area after it
  pub laid_next : length (flat hs (suc r)) ≤ length area₀ → Laid pss (r + 1) next.0 next.1 area₀
  laid_next le = rw (spot_is, end_is, width_is, add-one r) record {
    sizes = (simp length-set L.sizes.0, simp length-set L.sizes.1, simp length-set L.sizes.2, simp length-set L.sizes.3);
    starts = λ p l. set-upto st.starts (suc r) (length (flat hs (suc r))) (λ (k : ℕ). length (flat hs k)) (omega (arith, L.sizes.0)) (λ m q. L.starts m (omega arith)) refl p (omega arith);
    chain = set-upto st.chain r (chain_of hs r) (chain_of hs) (omega (arith, L.sizes.1)) L.chain refl;
    place = set-upto st.place r (get_or st.lens (chain_of hs r) 0) (place_of hs) (omega (arith, L.sizes.2)) L.place (unfold place_of in (L.lens (chain_of hs r)));
    lens = lens-next;
    number = refl;
    used = refl;
    room = le;
    written = ap (λ (k : ℕ). take k area ++ take (length (chs hs (suc r))) (row_of (st, area) (at pss r)) ++ drop (length (flat hs (suc r))) area) L.used ∙ written_next;
  }
