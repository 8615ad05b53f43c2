-- The chains of the runs so far, and each run's place on them. Assumes nothing.
use Rattle.std.proofs.Common.{◌≡◌, refl, sym, ap, ◌∙◌, subst, ◌⊎◌, inl, inr, Bool, true, false, cond, List, [], ◌∷◌, ◌++◌, ℕ, zero, suc, ◌≤◌, ◌<◌, max, arith, length, get_or, length-append}
use lib.ListN.{length-map, get_or-append, get_or-map}
use lib.Seq.{get_or-append_seam}
use Rattle.lists.specs.Lists.{all, mem, count}
use Rattle.lists.proofs.Truth.{eq_or-not}
use Rattle.model.specs.History.{at}
use Rattle.model.specs.Range.{join, row}
use Rattle.tables.specs.Laid.{spot, chs, chain_of, place_of}
use Rattle.tables.proofs.Prefixes.{Chained, chained_snoc}

-- That chain is one of them, or a new one
spot_le : (h : List ℕ) (cs : List (List ℕ)) → spot h cs ≤ length cs
unfolding spot
spot_le h [] = omega arith
spot_le h (c ∷ cs) = go (all (λ m. mem m h) c) (spot_le h cs)
  where
    go : (t : Bool) → spot h cs ≤ length cs → cond t 0 (suc (spot h cs)) ≤ suc (length cs)
    go true k = omega arith
    go false k = omega arith

-- A run joins it: the chains are as many, or one more
join-length : (r : ℕ) (h : List ℕ) (cs : List (List ℕ)) → length (join r h cs) ≡ max (length cs) (suc (spot h cs))
unfolding join spot
join-length r h [] = refl
join-length r h (c ∷ cs) = go (all (λ m. mem m h) c) (join-length r h cs)
  where
    go : (t : Bool) → length (join r h cs) ≡ max (length cs) (suc (spot h cs)) →
        length {A = List ℕ} (elim t as (λ _. List (List ℕ)) [ true ↦ (c ++ r ∷ []) ∷ cs | false ↦ c ∷ join r h cs ]) ≡ max (suc (length cs)) (suc (cond t 0 (suc (spot h cs))))
    go true ih = omega arith
    go false ih = omega arith

-- it has the run at its end
join-at : (r : ℕ) (h : List ℕ) (cs : List (List ℕ)) → at (join r h cs) (spot h cs) ≡ at cs (spot h cs) ++ r ∷ []
unfolding join spot at
join-at r h [] = refl
join-at r h (c ∷ cs) = go (all (λ m. mem m h) c) (join-at r h cs)
  where
    go : (t : Bool) → get_or (join r h cs) (spot h cs) [] ≡ get_or cs (spot h cs) [] ++ r ∷ [] →
        get_or (elim t as (λ _. List (List ℕ)) [ true ↦ (c ++ r ∷ []) ∷ cs | false ↦ c ∷ join r h cs ]) (cond t 0 (suc (spot h cs))) [] ≡ get_or (c ∷ cs) (cond t 0 (suc (spot h cs))) [] ++ r ∷ []
    go true ih = refl
    go false ih = ih

-- and the others stay
join-other : (r : ℕ) (h : List ℕ) (cs : List (List ℕ)) (k : ℕ) → (k ≡ spot h cs → ⊥) → at (join r h cs) k ≡ at cs k
unfolding join spot at
join-other r h [] zero n = absurd (n refl)
join-other r h [] (suc k) n = refl
join-other r h (c ∷ cs) k n = go (all (λ m. mem m h) c) k n (λ j q. join-other r h cs j q)
  where
    go : (t : Bool) (k : ℕ) → (k ≡ cond t 0 (suc (spot h cs)) → ⊥) → ((j : ℕ) → (j ≡ spot h cs → ⊥) → get_or (join r h cs) j [] ≡ get_or cs j []) →
        get_or (elim t as (λ _. List (List ℕ)) [ true ↦ (c ++ r ∷ []) ∷ cs | false ↦ c ∷ join r h cs ]) k [] ≡ get_or (c ∷ cs) k []
    go true zero q ih = absurd (q refl)
    go true (suc k) q ih = refl
    go false zero q ih = refl
    go false (suc k) q ih = ih k (λ e. q (ap suc e))

-- The next run stands at the end of its chain
pub chs-own : (hs : List (List ℕ)) (r : ℕ) → at (chs hs (suc r)) (chain_of hs r) ≡ at (chs hs r) (chain_of hs r) ++ r ∷ []
unfolding chs chain_of
chs-own hs r = join-at r (at hs r) (chs hs r)

-- the other chains stay
pub chs-other : (hs : List (List ℕ)) (r k : ℕ) → (k ≡ chain_of hs r → ⊥) → at (chs hs (suc r)) k ≡ at (chs hs r) k
unfolding chs chain_of
chs-other hs r k n = join-other r (at hs r) (chs hs r) k n

-- the chains are as many, or one more
pub chs-count : (hs : List (List ℕ)) (r : ℕ) → length (chs hs (suc r)) ≡ max (length (chs hs r)) (suc (chain_of hs r))
unfolding chs chain_of
chs-count hs r = join-length r (at hs r) (chs hs r)

-- its chain is one of them, or a new one
pub chain_of_le : (hs : List (List ℕ)) (r : ℕ) → chain_of hs r ≤ length (chs hs r)
unfolding chain_of
chain_of_le hs r = spot_le (at hs r) (chs hs r)

-- There are no more chains than runs
pub chs-few : (hs : List (List ℕ)) (r : ℕ) → length (chs hs r) ≤ r
chs-few hs zero = unfold chs in (omega arith)
chs-few hs (suc r) = omega (arith, chs-count hs r, chain_of_le hs r, chs-few hs r)

-- What holds of each chain when a run joins: by whether it is the run's own
pub grow : (P : List ℕ → Type 0) (hs : List (List ℕ)) (r k : ℕ) → P (at (chs hs r) k) → (k ≡ chain_of hs r → P (at (chs hs r) k ++ r ∷ [])) → P (at (chs hs (suc r)) k)
grow P hs r k old new = go (eq_or-not k (chain_of hs r))
  where
    go : (k ≡ chain_of hs r) ⊎ (k ≡ chain_of hs r → ⊥) → P (at (chs hs (suc r)) k)
    go (inl e) = subst P (sym (ap (λ (j : ℕ). at (chs hs (suc r)) j) e ∙ (chs-own hs r ∙ ap (λ (j : ℕ). at (chs hs r) j ++ r ∷ []) (sym e)))) (new e)
    go (inr n) = subst P (sym (chs-other hs r k n)) old

-- A chain's length
pub chain-short : (hs : List (List ℕ)) (r k : ℕ) → length (at (chs hs r) k) ≤ r
unfolding chs at
chain-short hs zero k = omega arith
chain-short hs (suc r) k =
    grow (λ c. length c ≤ suc r) hs r k (omega (arith, chain-short hs r k)) (λ e. omega (arith, chain-short hs r k, length-append (at (chs hs r) k) (r ∷ [])))

-- Members are runs so far
abbrev Under : ℕ → List ℕ → Type 0
Under r c = (i : ℕ) → i < length c → get_or c i 0 < r

under_snoc : (r : ℕ) (c : List ℕ) → Under r c → Under (suc r) (c ++ r ∷ [])
under_snoc r c h i lt = go (eq_or-not i (length c))
  where
    go : (i ≡ length c) ⊎ (i ≡ length c → ⊥) → get_or (c ++ r ∷ []) i 0 < suc r
    go (inl e) = rw (e, get_or-append_seam c r [] 0) (omega arith)
    go (inr n) = let l : i < length c = omega (arith, length-append c (r ∷ [])) in rw (get_or-append c (r ∷ []) 0 i l) (omega (arith, h i l))

-- A chain's members are runs so far
pub chain_under : (hs : List (List ℕ)) (r k : ℕ) → Under r (at (chs hs r) k)
unfolding chs at
chain_under hs zero k = λ i lt. absurd (omega arith)
chain_under hs (suc r) k = grow (Under (suc r)) hs r k (λ i lt. omega (arith, chain_under hs r k i lt)) (λ e. under_snoc r (at (chs hs r) k) (chain_under hs r k))

-- A run is at its place on its chain
pub place_at : (hs : List (List ℕ)) (m r : ℕ) → m < r → (place_of hs m < length (at (chs hs r) (chain_of hs m))) × (get_or (at (chs hs r) (chain_of hs m)) (place_of hs m) 0 ≡ m)
unfolding place_of
place_at hs m zero lt = absurd (omega arith)
place_at hs m (suc r) lt = go (eq_or-not m r) (λ q. place_at hs m r q)
  where
    c : List ℕ
    c = at (chs hs r) (chain_of hs m)

    goal : List ℕ → Type 0
    goal l = (length (at (chs hs m) (chain_of hs m)) < length l) × (get_or l (length (at (chs hs m) (chain_of hs m))) 0 ≡ m)

    go : (m ≡ r) ⊎ (m ≡ r → ⊥) → (m < r → goal c) → goal (at (chs hs (suc r)) (chain_of hs m))
    go (inl e) rec = subst (λ (j : ℕ). goal (at (chs hs (suc j)) (chain_of hs m))) e
        (rw (chs-own hs m) (omega (arith, length-append (at (chs hs m) (chain_of hs m)) (m ∷ [])), get_or-append_seam (at (chs hs m) (chain_of hs m)) m [] 0))
    go (inr n) rec = let ih : goal c = rec (omega arith) in
        grow goal hs r (chain_of hs m) ih (λ e. (omega (arith, ih.0, length-append c (r ∷ [])), get_or-append c (r ∷ []) 0 (length (at (chs hs m) (chain_of hs m))) ih.0 ∙ ih.1))

-- A member of a chain has that chain
pub member-chain : (hs : List (List ℕ)) (r k i : ℕ) → i < length (at (chs hs r) k) → chain_of hs (get_or (at (chs hs r) k) i 0) ≡ k
unfolding chs at
member-chain hs zero k i lt = absurd (omega arith)
member-chain hs (suc r) k i lt = grow (λ c. (i : ℕ) → i < length c → chain_of hs (get_or c i 0) ≡ k) hs r k (member-chain hs r k) (new (member-chain hs r k)) i lt
  where
    new : ((i : ℕ) → i < length (at (chs hs r) k) → chain_of hs (get_or (at (chs hs r) k) i 0) ≡ k) → k ≡ chain_of hs r → (i : ℕ) → i < length (at (chs hs r) k ++ r ∷ []) → chain_of hs (get_or (at (chs hs r) k ++ r ∷ []) i 0) ≡ k
    new ih e i lt = go (eq_or-not i (length (at (chs hs r) k)))
      where
        go : (i ≡ length (at (chs hs r) k)) ⊎ (i ≡ length (at (chs hs r) k) → ⊥) → chain_of hs (get_or (at (chs hs r) k ++ r ∷ []) i 0) ≡ k
        go (inl q) = ap (λ (j : ℕ). chain_of hs (get_or (at (chs hs r) k ++ r ∷ []) j 0)) q ∙ (ap (chain_of hs) (get_or-append_seam (at (chs hs r) k) r [] 0) ∙ sym e)
        go (inr n) = let l : i < length (at (chs hs r) k) = omega (arith, length-append (at (chs hs r) k) (r ∷ [])) in
            ap (chain_of hs) (get_or-append (at (chs hs r) k) (r ∷ []) 0 i l) ∙ ih i l

-- All of that chain is in the history
spot-all : (h : List ℕ) (cs : List (List ℕ)) → all (λ m. mem m h) (at cs (spot h cs)) ≡ true
unfolding spot at
spot-all h [] = unfold all in refl
spot-all h (c ∷ cs) = go (all (λ m. mem m h) c) refl (spot-all h cs)
  where
    go : (t : Bool) → all (λ m. mem m h) c ≡ t → all (λ m. mem m h) (get_or cs (spot h cs) []) ≡ true → all (λ m. mem m h) (get_or (c ∷ cs) (cond t 0 (suc (spot h cs))) []) ≡ true
    go true e ih = e
    go false e ih = ih

-- Each run has those before it on its chain in its history
pub chain_chained : (hs : List (List ℕ)) (r k : ℕ) → Chained (at hs) (at (chs hs r) k)
unfolding chs at chain_of
chain_chained hs zero k = λ i j a b. absurd (omega arith)
chain_chained hs (suc r) k = grow (Chained (at hs)) hs r k (chain_chained hs r k)
    (λ e. chained_snoc (at hs) (at (chs hs r) k) r (chain_chained hs r k) (rw e (spot-all (at hs r) (chs hs r))))

-- How many of a chain are in a history
abbrev pub cnt : List ℕ → List ℕ → ℕ
cnt h c = count (λ m. mem m h) c

-- A row has the count along each chain
pub row_get_d : (h : List ℕ) (cs : List (List ℕ)) (k : ℕ) → get_or (row h cs) k 0 ≡ cnt h (at cs k)
unfolding row at count
row_get_d h cs k = get_or-map (λ c. count (λ m. mem m h) c) cs k []

-- as many as there are chains
pub row-length : (h : List ℕ) (cs : List (List ℕ)) → length (row h cs) ≡ length cs
unfolding row
row-length h cs = length-map cs (λ c. count (λ m. mem m h) c)
