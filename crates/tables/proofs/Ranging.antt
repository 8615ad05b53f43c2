-- The parents gathered are those of the range, and every one is below its run. Assumes nothing.
use Rattle.std.proofs.Common.{◌≡◌, refl, sym, ap, ap₂, ◌∙◌, subst, ◌⊎◌, inl, inr, true, false, List, [], ◌∷◌, ◌++◌, ℕ, zero, suc, ◌+◌, ◌-◌, ◌≤◌, ◌<◌, add-one, arith, length}
use Rattle.std.proofs.Common.{get_or, drop, length-append, take_at, leb, leb-true}
use lib.ListN.{get_or-append, get_or-eq_default}
use lib.Seq.{get_or-append_seam, take-append_seam}
use Rattle.lists.specs.Lists.{mem, filter, concat}
use Rattle.lists.specs.Areas.{over, part, group_starts, groups, climbs}
use Rattle.lists.proofs.Truth.{lt_or_le, eq_or-not, and_right, false_true}
use Rattle.lists.proofs.Members.{mem-filter, map-mem}
use Rattle.lists.proofs.Groups.{length_group_starts, part-take, climbs-low, climbs-whole, groups-concat, climbs-at}
use Rattle.model.specs.History.{at}
use Rattle.model.proofs.Histories.{Below}
use Rattle.tables.specs.Gather.{Gathered}
use Rattle.tables.specs.Laid.{grouped, shares, shares_of, Sound}
use Rattle.tables.specs.Jagged.{rows_in}
use Rattle.tables.proofs.JaggedRows.{row_part}
use Rattle.tables.proofs.Gathering.{inside, shares-count, Gathers}

-- A run's share, and that there are no more
share-is : (all : List (List ℕ)) (a n r : ℕ) → r < n → at (shares_of all a n) r ≡ inside a (at all (a + r))
unfolding shares_of at
share-is all a zero r lt = absurd (omega arith)
share-is all a (suc n) r lt = go (eq_or-not r n) (λ q. share-is all a n r q)
  where
    share : ℕ → List ℕ
    share k = inside a (get_or all (a + k) [])

    size : length (shares_of all a n) ≡ n
    size = shares-count all a n

    go : (r ≡ n) ⊎ (r ≡ n → ⊥) → (r < n → get_or (shares_of all a n) r [] ≡ share r) → get_or (shares_of all a n ++ share n ∷ []) r [] ≡ share r
    go (inl e) rec = ap (λ (k : ℕ). get_or (shares_of all a n ++ share n ∷ []) k []) (e ∙ sym size) ∙ (get_or-append_seam (shares_of all a n) (share n) [] [] ∙ ap share (sym e))
    go (inr ne) rec = get_or-append (shares_of all a n) (share n ∷ []) [] r (omega (arith, size)) ∙ rec (omega arith)

-- by the graph's starts and items
pub shares_at : (starts items : List ℕ) (a n r : ℕ) → r < n → at (shares starts items a n) r ≡ inside a (part (get_or starts (a + r) 0) (get_or starts (a + r + 1) 0) items)
unfolding shares
shares_at starts items a n r lt = share-is (rows_in starts items (a + n)) a n r lt ∙ ap (inside a) (row_part starts items (a + n) (a + r) (omega arith))

past : (all : List (List ℕ)) (a n r : ℕ) → n ≤ r → at (shares_of all a n) r ≡ []
unfolding at
past all a n r le = get_or-eq_default (shares_of all a n) [] (omega (arith, shares-count all a n))

nothing_in : (p : ℕ) (l : List ℕ) → l ≡ [] → mem p l ≡ false
unfolding mem
nothing_in p l e = ap (mem p) e

-- Every parent of a share is below its run
shares-below : (all : List (List ℕ)) (a n : ℕ) → Below all → Below (shares_of all a n)
shares-below all a n below r p m = go (lt_or_le r n)
  where
    run : List ℕ
    run = at all (a + r)

    low : r < n → (x : ℕ) × (mem x (filter (λ q. leb a q) run) ≡ true) × (p ≡ x - a) → p < r
    low lt t =
        let f = mem-filter (λ q. leb a q) t.0 run t.1 in
        omega (arith, below (a + r) t.0 f.0, t.2, leb-true a t.0 f.1)

    go : (r < n) ⊎ (n ≤ r) → p < r
    go (inl lt) = low lt (map-mem (λ q. q - a) p (filter (λ q. leb a q) run) (sym (ap (mem p) (share-is all a n r lt)) ∙ m))
    go (inr le) = false_true (sym (none le) ∙ m)
      where
        none : n ≤ r → mem p (at (shares_of all a n) r) ≡ false
        none le = nothing_in p (at (shares_of all a n) r) (past all a n r le)

-- Groups come back from their areas
groups-same : (ss items rest : List ℕ) → climbs (length items) ss ≡ true → groups ss (items ++ rest) ≡ groups ss items
unfolding groups climbs
groups-same [] items rest h = refl
groups-same (s ∷ []) items rest h = refl
groups-same (s ∷ t ∷ ts) items rest h =
    let q = and_right (leb s t) (climbs (length items) (t ∷ ts)) h in
    ap₂ (λ (x : List ℕ) (xs : List (List ℕ)). x ∷ xs) (part_same q) (groups-same (t ∷ ts) items rest q)
  where
    part_same : climbs (length items) (t ∷ ts) ≡ true → part s t (items ++ rest) ≡ part s t items
    part_same q = sym (part-take s t (length items) (items ++ rest) (climbs-low (length items) t ts q)) ∙ ap (part s t) (take-append_seam items rest)

-- What n groups leave in their areas
module _ (n : ℕ) (pss : List (List ℕ)) (s₀ i₀ : List ℕ) (size : length pss ≡ n) where
  abbrev ss : List ℕ
  ss = over (group_starts 0 pss) s₀

  abbrev is : List ℕ
  is = over (concat pss) i₀

  starts_long : length (group_starts 0 pss) ≡ n + 1
  starts_long = omega (arith, length_group_starts 0 pss)

  -- the groups come back
  grouped_back : grouped ss is n ≡ pss
  unfolding grouped over
  grouped_back =
      let rest : List ℕ = drop (length (concat pss)) i₀ in
      ap (λ (x : List ℕ). groups x (concat pss ++ rest)) (take_at (group_starts 0 pss) (drop (length (group_starts 0 pss)) s₀) (n + 1) starts_long) ∙
      (groups-same (group_starts 0 pss) (concat pss) rest (climbs-whole pss) ∙ groups-concat pss)

  here : (r : ℕ) → r ≤ n → get_or ss r 0 ≡ get_or (group_starts 0 pss) r 0
  unfolding over
  here r le = get_or-append (group_starts 0 pss) (drop (length (group_starts 0 pss)) s₀) 0 r (omega (arith, starts_long))

  places : (r : ℕ) → r < n → (get_or ss r 0 ≤ get_or ss (r + 1) 0) × (get_or ss (r + 1) 0 ≤ length is)
  unfolding over
  places r lt =
      let t = climbs-at (length (concat pss)) (group_starts 0 pss) (climbs-whole pss) r (omega (arith, starts_long)) in
      let y : get_or ss (r + 1) 0 ≡ get_or (group_starts 0 pss) (suc r) 0 = here (r + 1) (omega arith) ∙ ap (λ (k : ℕ). get_or (group_starts 0 pss) k 0) (add-one r) in
      (omega (arith, t.0, here r (omega arith), y), omega (arith, t.1, y, length-append (concat pss) (drop (length (concat pss)) i₀)))

  -- and are sound
  groups-sound : n ≤ 512 → Below pss → Sound ss is n
  groups-sound few low = record {
    few = few;
    long = unfold over in (omega (arith, starts_long, length-append (group_starts 0 pss) (drop (length (group_starts 0 pss)) s₀)));
    inside = places;
    below = subst Below (sym grouped_back) low;
  }

-- What is gathered for a range
pub gathered : (all : List (List ℕ)) (a n j : ℕ) → j ≡ n → n ≤ 512 → Below all → (s₀ i₀ : List ℕ) (next : ℕ) (starts items : List ℕ) → Gathers all a j s₀ i₀ next starts items →
    (grouped starts items n ≡ shares_of all a n) × Sound starts items n
gathered all a n j end few below s₀ i₀ next starts items G =
    let pss : List (List ℕ) = shares_of all a n in
    let size : length pss ≡ n = shares-count all a n in
    let x : starts ≡ over (group_starts 0 pss) s₀ = G.starts ∙ ap (λ (k : ℕ). over (group_starts 0 (shares_of all a k)) s₀) end in
    let y : items ≡ over (concat pss) i₀ = ap (λ (g : Gathered). g.1) G.items ∙ ap (λ (k : ℕ). over (concat (shares_of all a k)) i₀) end in
    rw (x, y) (grouped_back n pss s₀ i₀ size, groups-sound n pss s₀ i₀ size few (shares-below all a n below))
