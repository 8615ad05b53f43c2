-- Prefix sums and scattered places, written one by one. Assumes nothing.
use Rattle.std.proofs.Common.{◌≡◌, refl, sym, ap, ap₂, ◌∙◌, ◌⊎◌, inl, inr, List, [], ◌∷◌, ℕ, zero, suc, ◌+◌, ◌≤◌, ◌<◌, arith, add-one, length, get_or, take, set, get_or-set_same}
use Rattle.std.proofs.Common.{get_or-set_other, get_or-take, length-take-le, length-set}
use lib.ListN.{get_or-eq_default}
use Rattle.lists.specs.Lists.{sum, from}
use Rattle.lists.proofs.Truth.{eq_or-not, lt_or_le}
use Rattle.model.specs.History.{at}
use Rattle.tables.specs.Indexed.{sum_below, Summed, Bounded}

-- A list of sums, one place longer
pub sums_next : (out : List ℕ) (f : ℕ → ℕ) (c v : ℕ) → c + 1 < length out → ((k : ℕ) → k ≤ c → get_or out k 0 ≡ sum_below f k) → v ≡ get_or out c 0 + f c →
    (k : ℕ) → k ≤ c + 1 → get_or (set out (c + 1) v) k 0 ≡ sum_below f k
unfolding sum_below
sums_next out f c v lt old e k le = go (eq_or-not k (c + 1))
  where
    go : (k ≡ c + 1) ⊎ (k ≡ c + 1 → ⊥) → get_or (set out (c + 1) v) k 0 ≡ sum_below f k
    go (inl q) = rw q (get_or-set_same out (c + 1) v 0 lt ∙ (e ∙ rw (add-one c) (ap (λ n. n + f c) (old c (omega arith)))))
    go (inr n) = get_or-set_other out (c + 1) k v 0 n ∙ old k (omega arith)

-- its first place
pub sums-start : (f : ℕ → ℕ) (out : List ℕ) → get_or out 0 0 ≡ 0 → Summed f 0 out
unfolding sum_below
sums-start f out e zero le = e
sums-start f out e (suc k) le = absurd (omega arith)

-- its first words, one more set
pub bound_more : (out : List ℕ) (c v b : ℕ) → c + 1 < length out → ((k : ℕ) → k ≤ c → get_or out k 0 ≤ b) → v ≤ b → (k : ℕ) → k ≤ c + 1 → get_or (set out (c + 1) v) k 0 ≤ b
bound_more out c v b lt old e k le = go (eq_or-not k (c + 1))
  where
    go : (k ≡ c + 1) ⊎ (k ≡ c + 1 → ⊥) → get_or (set out (c + 1) v) k 0 ≤ b
    go (inl q) = rw (q, get_or-set_same out (c + 1) v 0 lt) e
    go (inr n) = rw (get_or-set_other out (c + 1) k v 0 n) (old k (omega arith))

-- and so are all words, if they were
pub bound_set : (out : List ℕ) (c v b : ℕ) → c < length out → v ≤ b → Bounded b out → Bounded b (set out c v)
bound_set out c v b lt e old k = go (eq_or-not k c)
  where
    go : (k ≡ c) ⊎ (k ≡ c → ⊥) → get_or (set out c v) k 0 ≤ b
    go (inl q) = rw (q, get_or-set_same out c v 0 lt) e
    go (inr n) = rw (get_or-set_other out c k v 0 n) (old k)

-- and at any place
pub bound_next : (out : List ℕ) (c v b : ℕ) → ((k : ℕ) → get_or out k 0 ≤ b) → v ≤ b → (k : ℕ) → get_or (set out c v) k 0 ≤ b
bound_next out c v b old e k = go (eq_or-not k c) (lt_or_le c (length out))
  where
    go : (k ≡ c) ⊎ (k ≡ c → ⊥) → (c < length out) ⊎ (length out ≤ c) → get_or (set out c v) k 0 ≤ b
    go (inl q) (inl l) = rw (q, get_or-set_same out c v 0 l) e
    go (inl q) (inr l) = rw (get_or-eq_default (set out c v) 0 {n = k} (omega (arith, length-set out c v))) (omega arith)
    go (inr n) l = rw (get_or-set_other out c k v 0 n) (old k)

-- Runs scattered, one more
pub scatter_next : (out : List ℕ) (p : ℕ → ℕ) (m : ℕ) → p m < length out → ((k : ℕ) → k < m → p k ≡ p m → ⊥) → ((k : ℕ) → k < m → get_or out (p k) 0 ≡ k) →
    (k : ℕ) → k < m + 1 → get_or (set out (p m) m) (p k) 0 ≡ k
scatter_next out p m lt other old k le = go (eq_or-not k m)
  where
    go : (k ≡ m) ⊎ (k ≡ m → ⊥) → get_or (set out (p m) m) (p k) 0 ≡ k
    go (inl e) = rw e (get_or-set_same out (p m) m 0 lt)
    go (inr n) = get_or-set_other out (p m) (p k) m 0 (other k (omega arith)) ∙ old k (omega arith)

sum_shift : (f : ℕ → ℕ) (n : ℕ) → sum_below f (suc n) ≡ f 0 + sum_below (λ i. f (suc i)) n
unfolding sum_below
sum_shift f zero = omega arith
sum_shift f (suc n) = omega (arith, sum_shift f n)

-- A sum over a list's places is over its items
pub sum_list : (f : List ℕ → ℕ) (cs : List (List ℕ)) → sum_below (λ i. f (at cs i)) (length cs) ≡ sum f cs
unfolding at
sum_list f [] = unfold sum_below sum in refl
sum_list f (c ∷ cs) = sum_shift (λ i. f (get_or (c ∷ cs) i [])) (length cs) ∙ (ap (λ n. f c + n) (sum_list f cs) ∙ (unfold sum in refl))

-- Sums rise by what is added
pub sum_up : (f : ℕ → ℕ) (c d : ℕ) → c < d → sum_below f c + f c ≤ sum_below f d
unfolding sum_below
sum_up f c zero lt = absurd (omega arith)
sum_up f c (suc d) lt = go (eq_or-not c d) (λ q. sum_up f c d q)
  where
    go : (c ≡ d) ⊎ (c ≡ d → ⊥) → (c < d → sum_below f c + f c ≤ sum_below f d) → sum_below f c + f c ≤ sum_below f d + f d
    go (inl e) rec = rw e (omega arith)
    go (inr n) rec = omega (arith, rec (omega arith))

-- Equal terms, equal sums
pub sum_eq : (f g : ℕ → ℕ) (n : ℕ) → ((i : ℕ) → f i ≡ g i) → sum_below f n ≡ sum_below g n
unfolding sum_below
sum_eq f g zero h = refl
sum_eq f g (suc n) h = ap₂ ◌+◌ (sum_eq f g n h) (h n)

pub sum_same : (f g : ℕ → ℕ) (n : ℕ) → ((i : ℕ) → i < n → f i ≡ g i) → sum_below f n ≡ sum_below g n
unfolding sum_below
sum_same f g zero h = refl
sum_same f g (suc n) h = ap₂ ◌+◌ (sum_same f g n (λ i lt. h i (omega arith))) (h n (omega arith))

ones : (c : List ℕ) → sum (λ _. 1) c ≡ length c
unfolding sum
ones [] = refl
ones (x ∷ xs) = omega (arith, ones xs)

-- Lengths are sums of ones
pub ones_from : (a n : ℕ) → sum (λ _. 1) (from a n) ≡ n
unfolding sum from
ones_from a zero = refl
ones_from a (suc n) = omega (arith, ones_from (suc a) n)

pub sum_ones : (cs : List (List ℕ)) → sum length cs ≡ sum (λ c. sum (λ _. 1) c) cs
unfolding sum
sum_ones [] = refl
sum_ones (c ∷ cs) = ap₂ ◌+◌ (sym (ones c)) (sum_ones cs)

-- Sums along a chain's stretch of the members
pub stretch_sum : (b members : List ℕ) (size : ℕ → ℕ) (n s k : ℕ) (c : List ℕ) → Summed (λ i. size (get_or members i 0)) n b →
    ((i : ℕ) → i < length c → get_or members (s + i) 0 ≡ get_or c i 0) → k ≤ length c → s + length c ≤ n →
    get_or b (s + k) 0 ≡ get_or b s 0 + sum size (take k c)
unfolding sum
stretch_sum b members size n s zero c h m le fits = let e : s + 0 ≡ s = omega arith in rw e (omega arith)
stretch_sum b members size n s (suc k) [] h m le fits = absurd (omega arith)
stretch_sum b members size n s (suc k) (x ∷ xs) h m le fits =
    let e : s + suc k ≡ suc s + k = omega arith in
    let z : s + 0 ≡ s = omega arith in
    let at-s : get_or members s 0 ≡ x = ap (λ (j : ℕ). get_or members j 0) (sym z) ∙ m 0 (omega arith) in
    let one : get_or b (suc s) 0 ≡ get_or b s 0 + size x = h (suc s) (omega arith) ∙ (more ∙ ap₂ ◌+◌ (sym (h s (omega arith))) (ap size at-s)) in
    rw e (omega (arith, stretch_sum b members size n (suc s) k xs h (λ i l. ap (λ (j : ℕ). get_or members j 0) (shift i) ∙ m (suc i) (omega arith)) (omega arith) (omega arith)))
  where
    more : sum_below (λ i. size (get_or members i 0)) (suc s) ≡ sum_below (λ i. size (get_or members i 0)) s + size (get_or members s 0)
    more = unfold sum_below in refl

    shift : (i : ℕ) → suc s + i ≡ s + suc i
    shift i = omega arith

-- Sums over a list's first n words are those over its first n + 1
pub summed-cut : (f : ℕ → ℕ) (l : List ℕ) (n : ℕ) (b : List ℕ) → n < length l → Summed (λ i. f (get_or (take n l) i 0)) (length (take n l)) b → Summed (λ i. f (get_or (take (n + 1) l) i 0)) n b
summed-cut f l n b long s k le =
    s k (omega (arith, length-take-le n l (omega arith))) ∙
    sum_same (λ i. f (get_or (take n l) i 0)) (λ i. f (get_or (take (n + 1) l) i 0)) k (λ i lt. ap f (get_or-take n l i 0 (omega arith) ∙ sym (get_or-take (n + 1) l i 0 (omega arith))))
