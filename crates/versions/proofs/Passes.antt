-- The loops of the passes that flag runs, turn by turn. Assumes nothing.
use Rattle.std.proofs.Common.{◌≡◌, refl, sym, ap, ◌∙◌, Bool, true, false, not, cond, ◌||◌, List, [], ◌∷◌, ◌++◌, length-append, ℕ, zero, suc, ◌+◌, ◌-◌, ◌<◌, ◌≤◌, add-one, arith, length, get_or, set}
use Rattle.std.proofs.Common.{take, drop, length-take, drop-cons, get_or-take, ltb, ltb-true}
use Rattle.std.proofs.lemmas.List.{drop_all}
use Rattle.std.specs.List.{list_any, All}
use Rattle.lists.specs.Lists.{any, all, filter, from, upto, below}
use Rattle.lists.specs.Areas.{part}
use Rattle.lists.proofs.Bounds.{below_of, below_at}
use Rattle.lists.proofs.Truth.{and_left, and_right}
use Rattle.lists.proofs.Members.{filter_agree}
use Rattle.lists.proofs.Counts.{mem-from, upto_snoc}
use Rattle.lists.proofs.Keeping.{filter_snoc}
use Rattle.graph.specs.Rows.{row, Rows}
use Rattle.versions.specs.Flags.{flag_all, flag_parents, flag_down, flag_child, flag_up, free}

-- A list, item by item
module _ (xs : List ℕ) (i : ℕ) where
  pub left-first : i < length xs → drop i xs ≡ get_or xs i 0 ∷ drop (i + 1) xs
  left-first h = rw (add-one i, drop-cons xs i 0 h)

  pub left_none : length xs ≤ i → drop i xs ≡ []
  left_none h = drop_all i xs h

  pub flag_next : (flags : List Bool) → i < length xs → flag_all (set flags (get_or xs i 0) true) (drop (i + 1) xs) ≡ flag_all flags (drop i xs)
  unfolding flag_all
  flag_next flags h = sym (ap (flag_all flags) (left-first h))

  pub flag_none : (flags : List Bool) → length xs ≤ i → flags ≡ flag_all flags (drop i xs)
  unfolding flag_all
  flag_none flags h = sym (ap (flag_all flags) (left_none h))

-- A part of a list, item by item
module _ (items : List ℕ) (to : ℕ) (fits : to ≤ length items) (i : ℕ) where
  pub part-first : i < to → part i to items ≡ get_or items i 0 ∷ part (i + 1) to items
  unfolding part
  part-first h = let e : to - i ≡ suc (to - suc i) = omega arith in rw (add-one i, e, drop-cons items i 0 (omega arith))

  pub part_none : to ≤ i → part i to items ≡ []
  unfolding part
  part_none h = let e : to - i ≡ 0 = omega arith in rw e

  pub part_here : (n : ℕ) → i < to → below n (part i to items) ≡ true → get_or items i 0 < n
  unfolding below all
  part_here n h e = ltb-true (get_or items i 0) n (and_left (ltb (get_or items i 0) n) (below n (part (i + 1) to items)) (sym (ap (below n) (part-first h)) ∙ e))

  pub part-later : (n : ℕ) → i < to → below n (part i to items) ≡ true → below n (part (i + 1) to items) ≡ true
  unfolding below all
  part-later n h e = and_right (ltb (get_or items i 0) n) (below n (part (i + 1) to items)) (sym (ap (below n) (part-first h)) ∙ e)

  pub any_next : (p : ℕ → Bool) → i < to → any p (part i to items) ≡ p (get_or items i 0) || any p (part (i + 1) to items)
  unfolding any
  any_next p h = ap (any p) (part-first h)

  pub any_none : (p : ℕ → Bool) → to ≤ i → any p (part i to items) ≡ false
  unfolding any
  any_none p h = ap (any p) (part_none h)

-- Whether a test passes somewhere, in std's word
pub any_is : (p : ℕ → Bool) (xs : List ℕ) → any p xs ≡ list_any p xs
unfolding any
any_is p [] = refl
any_is p (x ∷ xs) = ap (λ (t : Bool). p x || t) (any_is p xs)

-- Numbers below a bound, in std's word
each_below : (n m : ℕ) (xs : List ℕ) → below n xs ≡ true → n ≤ m → All (λ x. x < m) xs
unfolding below all
each_below n m [] h le k d lt = absurd (omega arith)
each_below n m (x ∷ xs) h le zero d lt = omega (arith, le, ltb-true x n (and_left (ltb x n) (all (λ y. ltb y n) xs) h))
each_below n m (x ∷ xs) h le (suc k) d lt = each_below n m xs (and_right (ltb x n) (all (λ y. ltb y n) xs) h) le k d (omega arith)

-- A row's numbers are runs
pub row_each : (starts items : List ℕ) (n m r : ℕ) → Rows starts items n → r < n → r ≤ m → All (λ x. x < m) (row starts items r)
row_each starts items n m r rows lt le = each_below r m (row starts items r) (rows.low r lt) le

pub row_below : (starts items : List ℕ) (n m r : ℕ) → Rows starts items n → r < n → n ≤ m →
    below m (part (get_or starts r 0) (get_or starts (r + 1) 0) items) ≡ true
unfolding row
row_below starts items n m r rows h le = below_of m _ (λ x k. omega (arith, below_at r (part (get_or starts r 0) (get_or starts (r + 1) 0) items) (rows.low r h) x k))

module _ (rows : ℕ → List ℕ) where
  -- The way down
  pub down_next : (flags : List Bool) (c : ℕ) → 0 < c → flag_down rows (flag_parents rows flags (c - 1)) (c - 1) ≡ flag_down rows flags c
  unfolding flag_down
  down_next flags zero h = absurd (omega arith)
  down_next flags (suc c) h = let e : suc c - 1 ≡ c = omega arith in rw e

  pub down_none : (flags : List Bool) (c : ℕ) → c ≤ 0 → flag_down rows flags c ≡ flags
  unfolding flag_down
  down_none flags zero h = refl
  down_none flags (suc c) h = absurd (omega arith)

  -- The way up
  pub up_next : (r : ℕ) (flags : List Bool) (q n : ℕ) → q < n → flag_up rows r (flag_child rows r flags q) (q + 1) (n - (q + 1)) ≡ flag_up rows r flags q (n - q)
  unfolding flag_up
  up_next r flags q n h = let e : n - q ≡ suc (n - (q + 1)) = omega arith in rw (e, add-one q)

  pub up_none : (r : ℕ) (flags : List Bool) (q n : ℕ) → n ≤ q → flag_up rows r flags q (n - q) ≡ flags
  unfolding flag_up
  up_none r flags q n h = let e : n - q ≡ 0 = omega arith in rw e

-- Of the numbers below a bound no more pass a test than there are
pub few_pass : (p : ℕ → Bool) (n : ℕ) → length (filter p (upto n)) ≤ n
few_pass p zero = unfold upto from filter in omega arith
few_pass p (suc n) = rw (upto_snoc n, filter_snoc p (upto n) n) (go (p n) (few_pass p n))
  where
    go : (t : Bool) → length (filter p (upto n)) ≤ n → length (cond t (filter p (upto n) ++ n ∷ []) (filter p (upto n))) ≤ suc n
    go true h = simp length-append (omega arith)
    go false h = omega arith

-- The runs with no flag, run by run
module _ (flags : List Bool) where
  free-next : (q : ℕ) → free flags (suc q) ≡ cond (not (get_or flags q false)) (free flags q ++ q ∷ []) (free flags q)
  unfolding free
  free-next q = rw (upto_snoc q) (filter_snoc (λ p. not (get_or flags p false)) (upto q) q)

  pub free_few : (q : ℕ) → length (free flags q) ≤ q
  unfolding free
  free_few q = few_pass (λ p. not (get_or flags p false)) q

  pub free-start : [] ≡ free flags 0
  unfolding free upto from filter
  free-start = refl

  pub free_turn : (q : ℕ) (found : List ℕ) (t : Bool) → t ≡ not (get_or flags q false) → found ≡ free flags q → cond t (found ++ q ∷ []) found ≡ free flags (q + 1)
  free_turn q found t e f = rw (f, e, add-one q, free-next q)

-- of as many flags as there are runs
pub free_part : (flags : List Bool) (n : ℕ) → n ≤ length flags → free (take n flags) (length (take n flags)) ≡ free flags n
unfolding free upto
free_part flags n fits =
    let long : length (take n flags) ≡ n = omega (arith, length-take n flags) in
    rw long (filter_agree (λ q. not (get_or (take n flags) q false)) (λ q. not (get_or flags q false)) (from 0 n) (λ q m.
    ap not (get_or-take n flags q false (omega (arith, (mem-from q 0 n m).1)))))

-- What the loops that flag runs, and that find those without a flag, go by
pub ruleset flagging = (flag_next, flag_none)

pub ruleset rising_up = (any_is, row_each)

pub ruleset freeing = (free_few, free-start, free_turn)
