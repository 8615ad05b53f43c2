-- Children counted run by run. Assumes nothing.
use Rattle.std.proofs.Common.{◌≡◌, refl, sym, ap, ap₂, ◌∙◌, ◌⊎◌, inl, inr, List, [], ◌∷◌, ℕ, zero, suc, ◌+◌, ◌-◌, ◌*◌, ◌≤◌, ◌<◌, ◌^◌, suc-mul, zero-add, add-one, arith, length, get_or, take, set}
use Rattle.std.proofs.Common.{length-set, replicate, take-suc, get_or-set_same, get_or-set_other, eqb, eq-eqb, ne_eqb}
use lib.ListN.{length-replicate, get_or-replicate, get_or-eq_default}
use Rattle.lists.specs.Lists.{bit, count, occurs}
use Rattle.lists.proofs.Truth.{lt_or_le, eq_or-not}
use Rattle.lists.proofs.Counts.{count-append, count_le}
use Rattle.model.specs.History.{at}
use Rattle.tables.specs.Indexed.{sum_below, Summed}
use Rattle.tables.specs.Counted.{tally, Counted}

-- One item more
pub occurs-next : (r : ℕ) (ps : List ℕ) (i : ℕ) → i < length ps → occurs r (take (suc i) ps) ≡ occurs r (take i ps) + bit (eqb (get_or ps i 0) r)
unfolding occurs
occurs-next r ps i lt =
    ap (count (λ y. eqb y r)) (take-suc ps i 0 lt) ∙ (count-append (λ y. eqb y r) (take i ps) (get_or ps i 0 ∷ []) ∙ ap (λ (k : ℕ). count (λ y. eqb y r) (take i ps) + k) one)
  where
    one : count (λ y. eqb y r) (get_or ps i 0 ∷ []) ≡ bit (eqb (get_or ps i 0) r)
    one = unfold count in (omega arith)

pub occurs_most : (r : ℕ) (ps : List ℕ) → occurs r ps ≤ length ps
unfolding occurs
occurs_most r ps = count_le (λ y. eqb y r) ps

pub occurs-none : (r : ℕ) → occurs r [] ≡ 0
unfolding occurs count
occurs-none r = refl

pub counted_none : (ps l : List ℕ) → Counted (take 0 ps) l l
counted_none ps l = record { size = refl; first = refl; each = λ r lt. omega (arith, occurs-none r) }

-- A turn of the loop over a run's parents
pub counted_next : (ps l₀ l : List ℕ) (i p : ℕ) → i < length ps → p ≡ get_or ps i 0 → p + 1 < length l₀ → Counted (take i ps) l₀ l →
    Counted (take (i + 1) ps) l₀ (set l (p + 1) (get_or l (p + 1) 0 + 1))
counted_next ps l₀ l i p lt e fits C = record {
  size = length-set l (p + 1) (get_or l (p + 1) 0 + 1) ∙ C.size;
  first = get_or-set_other l (p + 1) 0 (get_or l (p + 1) 0 + 1) 0 (λ z. omega arith) ∙ C.first;
  each = λ r q. go r q (eq_or-not r p);
}
  where
    more : (r : ℕ) → occurs r (take (i + 1) ps) ≡ occurs r (take i ps) + bit (eqb p r)
    more r = ap (λ (k : ℕ). occurs r (take k ps)) (add-one i) ∙ (occurs-next r ps i lt ∙ ap (λ (x : ℕ). occurs r (take i ps) + bit (eqb x r)) (sym e))

    go : (r : ℕ) → r + 1 < length l₀ → (r ≡ p) ⊎ (r ≡ p → ⊥) → get_or (set l (p + 1) (get_or l (p + 1) 0 + 1)) (r + 1) 0 ≡ get_or l₀ (r + 1) 0 + occurs r (take (i + 1) ps)
    go r q (inl s) =
        let b : bit (eqb p r) ≡ 1 = ap bit (eq-eqb p r (sym s)) in
        let k : r + 1 ≡ p + 1 = omega arith in
        let c : get_or l (r + 1) 0 ≡ get_or l (p + 1) 0 = ap (λ (x : ℕ). get_or l x 0) k in
        ap (λ (x : ℕ). get_or (set l (p + 1) (get_or l (p + 1) 0 + 1)) x 0) k ∙ (get_or-set_same l (p + 1) (get_or l (p + 1) 0 + 1) 0 (omega (arith, C.size)) ∙ omega (arith, C.each r q, more r, b, c))
    go r q (inr n) =
        let b : bit (eqb p r) ≡ 0 = ap bit (ne_eqb p r (λ z. n (sym z))) in
        get_or-set_other l (p + 1) (r + 1) (get_or l (p + 1) 0 + 1) 0 (λ z. n (omega arith)) ∙ omega (arith, C.each r q, more r, b)

-- No number passes the items there are
pub counted-low : (ps l₀ l : List ℕ) (b : ℕ) → Counted ps l₀ l → ((k : ℕ) → get_or l₀ k 0 ≤ b) → (k : ℕ) → get_or l k 0 ≤ b + length ps
counted-low ps l₀ l b C h zero = omega (arith, C.first, h 0)
counted-low ps l₀ l b C h (suc k) = go (lt_or_le (suc k) (length l₀))
  where
    s : k + 1 ≡ suc k
    s = omega arith

    go : (suc k < length l₀) ⊎ (length l₀ ≤ suc k) → get_or l (suc k) 0 ≤ b + length ps
    go (inl lt) =
        let x : get_or l (k + 1) 0 ≡ get_or l (suc k) 0 = ap (λ (j : ℕ). get_or l j 0) s in
        let y : get_or l₀ (k + 1) 0 ≡ get_or l₀ (suc k) 0 = ap (λ (j : ℕ). get_or l₀ j 0) s in
        omega (arith, C.each k (omega arith), x, y, h (suc k), occurs_most k ps)
    go (inr le) = omega (arith, get_or-eq_default l 0 {n = suc k} (omega (arith, C.size)))

-- Nothing is counted yet
pub zeros-at : (n k : ℕ) → get_or {A = ℕ} (replicate n 0) k 0 ≡ 0
zeros-at n k = go (lt_or_le k n)
  where
    go : (k < n) ⊎ (n ≤ k) → get_or {A = ℕ} (replicate n 0) k 0 ≡ 0
    go (inl l) = get_or-replicate n k 0 0 l
    go (inr g) = get_or-eq_default (replicate n 0) 0 (omega (arith, length-replicate {A = ℕ} n 0))

pub tally-none : (pss : List (List ℕ)) (r : ℕ) → tally pss r 0 ≡ 0
unfolding tally sum_below
tally-none pss r = refl

pub tally-next : (pss : List (List ℕ)) (r x : ℕ) → tally pss r (suc x) ≡ tally pss r x + occurs r (at pss x)
unfolding tally sum_below
tally-next pss r x = refl

-- A turn of the loop over the runs
pub tallied_next : (pss : List (List ℕ)) (n x : ℕ) (ps l₀ l : List ℕ) → ps ≡ at pss x → length l₀ ≡ n + 1 → Counted ps l₀ l →
    ((r : ℕ) → r < n → get_or l₀ (r + 1) 0 ≡ tally pss r x) → (r : ℕ) → r < n → get_or l (r + 1) 0 ≡ tally pss r (x + 1)
tallied_next pss n x ps l₀ l e size C h r lt =
    C.each r (omega arith) ∙ (ap₂ (λ (a b : ℕ). a + b) (h r lt) (ap (occurs r) e) ∙ (sym (tally-next pss r x) ∙ ap (tally pss r) (sym (add-one x))))

-- The runs below x are counted, and no number passes `most`
pub record Tallied (pss : List (List ℕ)) (n x most : ℕ) (l : List ℕ) : Type 0 where
  pub size : length l ≡ n + 1
  pub first : get_or l 0 0 ≡ 0
  pub each : (r : ℕ) → r < n → get_or l (r + 1) 0 ≡ tally pss r x
  pub low : (k : ℕ) → get_or l k 0 ≤ most

pub tallied_start : (pss : List (List ℕ)) (n most : ℕ) (l₀ l : List ℕ) → l ≡ replicate (length l₀) 0 → length l₀ ≡ n + 1 → Tallied pss n 0 most l
tallied_start pss n most l₀ l e size = record {
  size = ap length e ∙ (length-replicate (length l₀) 0 ∙ size);
  first = z 0;
  each = λ r lt. z (r + 1) ∙ sym (tally-none pss r);
  low = λ k. omega (arith, z k);
}
  where
    z : (k : ℕ) → get_or l k 0 ≡ 0
    z k = ap (λ (x : List ℕ). get_or x k 0) e ∙ zeros-at (length l₀) k

pub tallied_more : (pss : List (List ℕ)) (n x most more : ℕ) (ps l₀ l : List ℕ) → ps ≡ at pss x → most + length ps ≤ more → Counted ps l₀ l → Tallied pss n x most l₀ → Tallied pss n (x + 1) more l
tallied_more pss n x most more ps l₀ l e fits C T = record {
  size = C.size ∙ T.size;
  first = C.first ∙ T.first;
  each = tallied_next pss n x ps l₀ l e T.size C T.each;
  low = λ k. omega (arith, counted-low ps l₀ l most C T.low k, fits);
}

-- Sums along a list, place by place
pub sum_less : (f : ℕ → ℕ) (b n : ℕ) → ((i : ℕ) → f i ≤ b) → sum_below f n ≤ n * b
unfolding sum_below
sum_less f b zero h = omega arith
sum_less f b (suc n) h = omega (arith, sum_less f b n h, h n, suc-mul n b)

-- The first k places hold the sums up to them, `sum` is that of all k, and the other places are as they were
pub record Summing (l₀ : List ℕ) (k sum : ℕ) (l : List ℕ) : Type 0 where
  pub total : sum ≡ sum_below (λ i. get_or l₀ i 0) k
  pub done : (j : ℕ) → j < k → get_or l j 0 ≡ sum_below (λ i. get_or l₀ i 0) (j + 1)
  pub rest : (j : ℕ) → k ≤ j → get_or l j 0 ≡ get_or l₀ j 0

pub summing_start : (l : List ℕ) → Summing l 0 0 l
unfolding sum_below
summing_start l = record { total = refl; done = λ j lt. absurd (omega arith); rest = λ j le. refl }

pub summing_room : (l₀ : List ℕ) (k sum : ℕ) (l : List ℕ) → Summing l₀ k sum l → k < 513 → ((j : ℕ) → get_or l₀ j 0 ≤ 2 ^ 20) → sum + get_or l k 0 < 2 ^ 32
summing_room l₀ k sum l S lt h =
    let b : sum_below (λ i. get_or l₀ i 0) k ≤ k * 2 ^ 20 = sum_less (λ i. get_or l₀ i 0) (2 ^ 20) k h in
    omega (arith, S.total, S.rest k (omega arith), h k, b)

pub summing_next : (l₀ : List ℕ) (k sum : ℕ) (l : List ℕ) → Summing l₀ k sum l → k < length l → Summing l₀ (k + 1) (sum + get_or l k 0) (set l k (sum + get_or l k 0))
summing_next l₀ k sum l S lt = record {
  total = total;
  done = λ j le. go j le (eq_or-not j k);
  rest = λ j q. get_or-set_other l k j v 0 (λ z. omega arith) ∙ S.rest j (omega arith);
}
  where
    v : ℕ
    v = sum + get_or l k 0

    more : sum_below (λ i. get_or l₀ i 0) (k + 1) ≡ sum_below (λ i. get_or l₀ i 0) k + get_or l₀ k 0
    more = ap (sum_below (λ i. get_or l₀ i 0)) (add-one k) ∙ (unfold sum_below in refl)

    total : v ≡ sum_below (λ i. get_or l₀ i 0) (k + 1)
    total = omega (arith, more, S.total, S.rest k (omega arith))

    go : (j : ℕ) → j < k + 1 → (j ≡ k) ⊎ (j ≡ k → ⊥) → get_or (set l k v) j 0 ≡ sum_below (λ i. get_or l₀ i 0) (j + 1)
    go j le (inl e) = rw e (get_or-set_same l k v 0 lt ∙ total)
    go j le (inr n) = get_or-set_other l k j v 0 n ∙ S.done j (omega (arith, le, n))

-- A first number that is 0 adds nothing
sum_after : (f : ℕ → ℕ) (k : ℕ) → f 0 ≡ 0 → sum_below f (suc k) ≡ sum_below (λ i. f (i + 1)) k
unfolding sum_below
sum_after f zero e = zero-add (f 0) ∙ e
sum_after f (suc k) e = ap₂ (λ (a b : ℕ). a + b) (sum_after f k e) (ap f (sym (add-one k)))

pub summing_end : (l₀ : List ℕ) (n sum : ℕ) (l : List ℕ) → get_or l₀ 0 0 ≡ 0 → n ≡ length l₀ → Summing l₀ n sum l → Summed (λ i. get_or l₀ (i + 1) 0) (length l₀ - 1) l
summing_end l₀ n sum l e all S k le = go (lt_or_le k n)
  where
    go : (k < n) ⊎ (n ≤ k) → get_or l k 0 ≡ sum_below (λ i. get_or l₀ (i + 1) 0) k
    go (inl lt) = S.done k lt ∙ (ap (sum_below (λ i. get_or l₀ i 0)) (add-one k) ∙ sum_after (λ i. get_or l₀ i 0) k e)
    go (inr g) = let z : k ≡ 0 = omega arith in rw z (S.rest 0 (omega arith) ∙ (e ∙ (unfold sum_below in refl)))
