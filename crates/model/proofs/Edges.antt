-- The edges of a plain log: where an edge goes, and what is an edge afterwards. Assumes nothing.
use Rattle.std.proofs.Common.{◌≡◌, refl, sym, ap, ◌∙◌, subst, ◌⊎◌, inl, inr, Bool, true, false, ◌||◌, List, [], ◌∷◌, ◌++◌, map, ℕ, suc, ◌+◌, ◌≤◌, ◌<◌, arith, length, get_or, leb, ltb, eqb}
use Rattle.std.proofs.Common.{eqb-true, lt-ltb, le-ltb, le-leb, eq-eqb, ne_eqb}
use borrow.Author.Tests.{eqb-false, lt-leb}
use Rattle.lists.specs.Lists.{bit, mem, count, insert_at}
use Rattle.lists.proofs.Truth.{lt_or_le, false_true, or_cases, or_right, or-first, or-last}
use Rattle.lists.proofs.Members.{mem_index}
use Rattle.lists.proofs.Rising.{Up, up_le, up_low, none_below}
use Rattle.model.specs.Log.{edge, edges_at}

-- An edge goes behind those at or before it
pub edge-is : (lo : ℕ) (xs : List ℕ) (n at : ℕ) → Up lo xs n → mem at xs ≡ false → edge at xs ≡ insert_at (count (λ s. leb s at) xs) at xs
unfolding edge insert_at count mem
edge-is lo [] n at h m = refl
edge-is lo (x ∷ xs) n at h m = go (eqb at x) refl (lt_or_le at x) (λ k. edge-is (suc x) xs n at h.1 k)
  where
    go : (t : Bool) → eqb at x ≡ t → (at < x) ⊎ (x ≤ at) → (mem at xs ≡ false → edge at xs ≡ insert_at (count (λ s. leb s at) xs) at xs) →
        elim t as (λ _. List ℕ) [ true ↦ x ∷ xs | false ↦ elim (ltb at x) as (λ _. List ℕ) [ true ↦ at ∷ x ∷ xs | false ↦ x ∷ edge at xs ] ] ≡
        insert_at (bit (leb x at) + count (λ s. leb s at) xs) at (x ∷ xs)
    go true e c ih = false_true (sym m ∙ rw e)
    go false e (inl c) ih = rw (lt-ltb at x c, lt-leb x at c, none_below (suc x) xs n h.1 at (omega arith))
    go false e (inr c) ih =
        let k : 1 + count (λ s. leb s at) xs ≡ suc (count (λ s. leb s at) xs) = omega arith in
        rw (le-ltb at x c, le-leb x at c, k) (ap (λ (r : List ℕ). x ∷ r) (ih (rw e at m)))

-- The edges stay rising
pub edge_up : (lo : ℕ) (xs : List ℕ) (n at : ℕ) → Up lo xs n → lo ≤ at → at < n → Up lo (edge at xs) n
unfolding edge
edge_up lo [] n at h p q = (p, q)
edge_up lo (x ∷ xs) n at h p q = go (eqb at x) refl (lt_or_le at x) (λ k. edge_up (suc x) xs n at h.1 k q)
  where
    go : (t : Bool) → eqb at x ≡ t → (at < x) ⊎ (x ≤ at) → (suc x ≤ at → Up (suc x) (edge at xs) n) →
        Up lo (elim t as (λ _. List ℕ) [ true ↦ x ∷ xs | false ↦ elim (ltb at x) as (λ _. List ℕ) [ true ↦ at ∷ x ∷ xs | false ↦ x ∷ edge at xs ] ]) n
    go true e c ih = h
    go false e (inl c) ih = rw (lt-ltb at x c) (p, (c, h.1))
    go false e (inr c) ih = rw (le-ltb at x c) (h.0, ih (later c (eqb-false at x e)))
      where
        later : x ≤ at → (at ≡ x → ⊥) → suc x ≤ at
        later c q = omega arith

-- What is no edge afterwards was none before
pub mem-edge : (x at : ℕ) (xs : List ℕ) → mem x (edge at xs) ≡ false → mem x xs ≡ false
unfolding edge mem
mem-edge x at [] m = refl
mem-edge x at (y ∷ ys) m = go (eqb at y) (ltb at y) (λ k. mem-edge x at ys k) m
  where
    go : (s t : Bool) → (mem x (edge at ys) ≡ false → mem x ys ≡ false) →
        mem x (elim s as (λ _. List ℕ) [ true ↦ y ∷ ys | false ↦ elim t as (λ _. List ℕ) [ true ↦ at ∷ y ∷ ys | false ↦ y ∷ edge at ys ] ]) ≡ false → eqb x y || mem x ys ≡ false
    go true t ih m = m
    go false true ih m = or-last (eqb x at) (eqb x y || mem x ys) m
    go false false ih m = rw (or-first (eqb x y) (mem x (edge at ys)) m, ih (or-last (eqb x y) (mem x (edge at ys)) m))

-- What is an edge already changes nothing
pub edge-member : (lo : ℕ) (xs : List ℕ) (n e : ℕ) → Up lo xs n → mem e xs ≡ true → edge e xs ≡ xs
unfolding edge mem
edge-member lo [] n e h m = false_true m
edge-member lo (x ∷ xs) n e h m = go (eqb e x) refl (lt_or_le e x) (λ k. edge-member (suc x) xs n e h.1 k)
  where
    go : (t : Bool) → eqb e x ≡ t → (e < x) ⊎ (x ≤ e) → (mem e xs ≡ true → edge e xs ≡ xs) →
        elim t as (λ _. List ℕ) [ true ↦ x ∷ xs | false ↦ elim (ltb e x) as (λ _. List ℕ) [ true ↦ e ∷ x ∷ xs | false ↦ x ∷ edge e xs ] ] ≡ x ∷ xs
    go true q c ih = refl
    go false q (inl c) ih =
        let k : (j : ℕ) × (j < length xs) × (get_or xs j n ≡ e) = mem_index e n xs (rw q at m) in
        absurd (omega (arith, k.2, up_low (suc x) xs n h.1 k.0))
    go false q (inr c) ih = rw (le-ltb e x c) (ap (λ (r : List ℕ). x ∷ r) (ih (rw q at m)))

edge-before : (e x : ℕ) (xs : List ℕ) → e < x → edge e (x ∷ xs) ≡ e ∷ x ∷ xs
unfolding edge
edge-before e x xs h = go (eqb e x) (ne_eqb e x (λ q. omega arith)) (ltb e x) (lt-ltb e x h)
  where
    go : (s : Bool) → s ≡ false → (t : Bool) → t ≡ true → elim s as (λ _. List ℕ) [ true ↦ x ∷ xs | false ↦ elim t as (λ _. List ℕ) [ true ↦ e ∷ x ∷ xs | false ↦ x ∷ edge e xs ] ] ≡ e ∷ x ∷ xs
    go true q t r = false_true (sym q)
    go false q true r = refl
    go false q false r = false_true r

edge-past : (e x : ℕ) (xs : List ℕ) → x < e → edge e (x ∷ xs) ≡ x ∷ edge e xs
unfolding edge
edge-past e x xs h = go (eqb e x) (ne_eqb e x (λ q. omega arith)) (ltb e x) (le-ltb e x (omega arith))
  where
    go : (s : Bool) → s ≡ false → (t : Bool) → t ≡ false → elim s as (λ _. List ℕ) [ true ↦ x ∷ xs | false ↦ elim t as (λ _. List ℕ) [ true ↦ e ∷ x ∷ xs | false ↦ x ∷ edge e xs ] ] ≡ x ∷ edge e xs
    go true q t r = false_true (sym q)
    go false q true r = false_true (sym r)
    go false q false r = refl

-- An edge before the next event, with the next event behind the edges
pub edge-append : (xs : List ℕ) (n e : ℕ) → e < n → edge e (xs ++ n ∷ []) ≡ edge e xs ++ n ∷ []
unfolding edge
edge-append [] n e h = edge-before e n [] h
edge-append (x ∷ xs) n e h = go (eqb e x) (ltb e x) (edge-append xs n e h)
  where
    go : (s t : Bool) → edge e (xs ++ n ∷ []) ≡ edge e xs ++ n ∷ [] →
        elim s as (λ _. List ℕ) [ true ↦ x ∷ (xs ++ n ∷ []) | false ↦ elim t as (λ _. List ℕ) [ true ↦ e ∷ x ∷ (xs ++ n ∷ []) | false ↦ x ∷ edge e (xs ++ n ∷ []) ] ] ≡
        elim s as (λ _. List ℕ) [ true ↦ x ∷ xs | false ↦ elim t as (λ _. List ℕ) [ true ↦ e ∷ x ∷ xs | false ↦ x ∷ edge e xs ] ] ++ n ∷ []
    go true t ih = refl
    go false true ih = refl
    go false false ih = ap (λ (r : List ℕ). x ∷ r) ih

-- The next event goes behind all edges
pub edge-last : (lo : ℕ) (xs : List ℕ) (n : ℕ) → Up lo xs n → edge n xs ≡ xs ++ n ∷ []
unfolding edge
edge-last lo [] n h = refl
edge-last lo (x ∷ xs) n h = edge-past n x xs (up_le (suc x) xs n h.1) ∙ ap (λ (r : List ℕ). x ∷ r) (edge-last (suc x) xs n h.1)

edge_in : (e : ℕ) (xs : List ℕ) → mem e (edge e xs) ≡ true
unfolding edge mem
edge_in e [] = rw (eq-eqb e e refl)
edge_in e (x ∷ xs) = go (eqb e x) refl (ltb e x) (edge_in e xs)
  where
    go : (s : Bool) → eqb e x ≡ s → (t : Bool) → mem e (edge e xs) ≡ true → mem e (elim s as (λ _. List ℕ) [ true ↦ x ∷ xs | false ↦ elim t as (λ _. List ℕ) [ true ↦ e ∷ x ∷ xs | false ↦ x ∷ edge e xs ] ]) ≡ true
    go true q t ih = rw q
    go false q true ih = rw (eq-eqb e e refl)
    go false q false ih = rw (q, ih)

edge_keeps : (y e : ℕ) (xs : List ℕ) → mem y xs ≡ true → mem y (edge e xs) ≡ true
unfolding edge mem
edge_keeps y e [] m = false_true m
edge_keeps y e (x ∷ xs) m = go (eqb e x) (ltb e x) (or_cases (eqb y x) (mem y xs) m) (λ k. edge_keeps y e xs k)
  where
    go : (s t : Bool) → (eqb y x ≡ true) ⊎ (mem y xs ≡ true) → (mem y xs ≡ true → mem y (edge e xs) ≡ true) →
        mem y (elim s as (λ _. List ℕ) [ true ↦ x ∷ xs | false ↦ elim t as (λ _. List ℕ) [ true ↦ e ∷ x ∷ xs | false ↦ x ∷ edge e xs ] ]) ≡ true
    go true t c ih = m
    go false true c ih = or_right (eqb y e) m
    go false false (inl q) ih = rw q
    go false false (inr q) ih = or_right (eqb y x) (ih q)

edges_keep : (y : ℕ) (es xs : List ℕ) → mem y xs ≡ true → mem y (edges_at es xs) ≡ true
unfolding edges_at
edges_keep y [] xs m = m
edges_keep y (e ∷ es) xs m = edges_keep y es (edge e xs) (edge_keeps y e xs m)

-- Each event after a parent is an edge
pub edges_in : (p : ℕ) (ps xs : List ℕ) → mem p ps ≡ true → mem (suc p) (edges_at (map suc ps) xs) ≡ true
unfolding edges_at mem
edges_in p [] xs m = false_true m
edges_in p (q ∷ ps) xs m = go (or_cases (eqb p q) (mem p ps) m) (λ k. edges_in p ps (edge (suc q) xs) k)
  where
    go : (eqb p q ≡ true) ⊎ (mem p ps ≡ true) → (mem p ps ≡ true → mem (suc p) (edges_at (map suc ps) (edge (suc q) xs)) ≡ true) →
        mem (suc p) (edges_at (map suc ps) (edge (suc q) xs)) ≡ true
    go (inl e) ih = edges_keep (suc p) (map suc ps) (edge (suc q) xs) (subst (λ (k : ℕ). mem (suc k) (edge (suc q) xs) ≡ true) (sym (eqb-true p q e)) (edge_in (suc q) xs))
    go (inr k) ih = ih k

-- As many edges up to an event that is none as up to the one before it
pub count_skip : (p : ℕ) (xs : List ℕ) → mem (suc p) xs ≡ false → count (λ s. leb s (suc p)) xs ≡ count (λ s. leb s p) xs
unfolding count mem
count_skip p [] m = refl
count_skip p (x ∷ xs) m = go (lt_or_le p x) (count_skip p xs (or-last (eqb (suc p) x) (mem (suc p) xs) m))
  where
    ne : suc p ≡ x → ⊥
    ne e = eqb-false (suc p) x (or-first (eqb (suc p) x) (mem (suc p) xs) m) e

    go : (p < x) ⊎ (x ≤ p) → count (λ s. leb s (suc p)) xs ≡ count (λ s. leb s p) xs →
        bit (leb x (suc p)) + count (λ s. leb s (suc p)) xs ≡ bit (leb x p) + count (λ s. leb s p) xs
    go (inl c) ih = rw (lt-leb x p c, lt-leb x (suc p) (later c ne)) (omega arith)
      where
        later : p < x → (suc p ≡ x → ⊥) → suc p < x
        later c z = omega arith
    go (inr c) ih = rw (le-leb x p c, le-leb x (suc p) (omega arith)) (omega arith)
