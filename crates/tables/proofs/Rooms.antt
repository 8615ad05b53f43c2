-- There is room for every run's kids: where they begin climbs, and there are no more of them than parents. Assumes nothing.
use Rattle.std.proofs.Common.{◌≡◌, refl, ap, ◌⊎◌, inl, inr, List, [], ◌∷◌, ◌++◌, ℕ, zero, suc, ◌+◌, ◌≤◌, arith, length, get_or, take, replicate, length-append, eqb, eq-eqb, ne_eqb}
use lib.ListN.{length-replicate}
use Rattle.lists.specs.Lists.{bit, count, occurs, concat}
use Rattle.lists.proofs.Truth.{eq_or-not}
use Rattle.model.specs.History.{at}
use Rattle.tables.specs.Laid.{grouped, Sound}
use Rattle.tables.specs.Indexed.{sum_below}
use Rattle.tables.specs.Counted.{tally, kids, kids_from}
use Rattle.tables.proofs.Counting.{tally-none, tally-next}
use Rattle.tables.proofs.ParentGroups.{groups-size}
use Rattle.tables.proofs.JaggedRows.{rows_more, rows-most, items-most}

-- Sums of no terms above 0, of terms added, and of more terms
sum-none : (n : ℕ) → sum_below (λ i. 0) n ≡ 0
unfolding sum_below
sum-none zero = refl
sum-none (suc n) = omega (arith, sum-none n)

sum-plus : (f g : ℕ → ℕ) (n : ℕ) → sum_below (λ i. f i + g i) n ≡ sum_below f n + sum_below g n
unfolding sum_below
sum-plus f g zero = omega arith
sum-plus f g (suc n) = omega (arith, sum-plus f g n)

sum-climbs : (f : ℕ → ℕ) (r m : ℕ) → r ≤ m → sum_below f r ≤ sum_below f m
unfolding sum_below
sum-climbs f r zero le = let e : r ≡ 0 = omega arith in omega (arith, ap (sum_below f) e)
sum-climbs f r (suc m) le = go (eq_or-not r (suc m)) (λ q. sum-climbs f r m q)
  where
    go : (r ≡ suc m) ⊎ (r ≡ suc m → ⊥) → (r ≤ m → sum_below f r ≤ sum_below f m) → sum_below f r ≤ sum_below f m + f m
    go (inl e) ih = omega (arith, ap (sum_below f) e)
    go (inr q) ih = omega (arith, ih (omega (arith, q)))

-- An item is one number, so all numbers' occurrences are no more than the items
one_number : (y n : ℕ) → (sum_below (λ r. bit (eqb y r)) n ≤ 1) × (n ≤ y → sum_below (λ r. bit (eqb y r)) n ≡ 0)
unfolding sum_below
one_number y zero = (omega arith, λ le. refl)
one_number y (suc n) = go (eq_or-not y n) (one_number y n)
  where
    go : (y ≡ n) ⊎ (y ≡ n → ⊥) → (sum_below (λ r. bit (eqb y r)) n ≤ 1) × (n ≤ y → sum_below (λ r. bit (eqb y r)) n ≡ 0) →
        (sum_below (λ r. bit (eqb y r)) n + bit (eqb y n) ≤ 1) × (suc n ≤ y → sum_below (λ r. bit (eqb y r)) n + bit (eqb y n) ≡ 0)
    go (inl e) ih = (omega (arith, ih.1 (omega arith), ap bit (eq-eqb y n e)), λ le. absurd (omega arith))
    go (inr q) ih = let b : bit (eqb y n) ≡ 0 = ap bit (ne_eqb y n q) in (omega (arith, ih.0, b), λ le. omega (arith, ih.1 (omega arith), b))

pub occurs-cons : (r p : ℕ) (ps : List ℕ) → occurs r (p ∷ ps) ≡ bit (eqb p r) + occurs r ps
unfolding occurs count
occurs-cons r p ps = refl

occurs-all : (ps : List ℕ) (n : ℕ) → sum_below (λ r. occurs r ps) n ≤ length ps
unfolding occurs count
occurs-all [] n = omega (arith, sum-none n)
occurs-all (y ∷ ys) n =
    let s : sum_below (λ r. occurs r (y ∷ ys)) n ≡ sum_below (λ r. bit (eqb y r)) n + sum_below (λ r. occurs r ys) n = sum-plus (λ r. bit (eqb y r)) (λ r. occurs r ys) n in
    omega (arith, s, (one_number y n).0, occurs-all ys n)

-- The kids of runs below x are no more than their parents
tally-all : (pss : List (List ℕ)) (n x : ℕ) → x ≤ length pss → sum_below (λ r. tally pss r x) n ≤ length (concat (take x pss))
unfolding tally sum_below
tally-all pss n zero le = let z : sum_below (λ r. tally pss r 0) n ≡ 0 = sum-none n in omega (arith, z)
tally-all pss n (suc x) le =
    let ps = at pss x in
    let s : sum_below (λ r. tally pss r (suc x)) n ≡ sum_below (λ r. tally pss r x) n + sum_below (λ r. occurs r ps) n = sum-plus (λ r. tally pss r x) (λ r. occurs r ps) n in
    let e : suc x ≡ x + 1 = omega arith in
    omega (arith, s, tally-all pss n x (omega arith), occurs-all ps n, rows_more pss x (omega arith), ap (λ (k : ℕ). length (concat (take k pss))) e)

pub kids-most : (pss : List (List ℕ)) (n : ℕ) → n ≤ length pss → kids_from pss n n ≤ length (concat pss)
unfolding kids_from
kids-most pss n le = omega (arith, tally-all pss n n le, rows-most pss n)

pub kids_fit : (heads items : List ℕ) (n : ℕ) → Sound heads items n → kids_from (grouped heads items n) n n ≤ get_or heads n 0
kids_fit heads items n sound =
    let e : length (grouped heads items n) ≡ n = groups-size heads items n sound.long in
    omega (arith, kids-most (grouped heads items n) n (omega (arith, e)), items-most heads items n sound)

-- Where kids begin
pub begin-is : (pss : List (List ℕ)) (n r : ℕ) → sum_below (λ k. tally pss k n) r ≡ kids_from pss n r
unfolding kids_from
begin-is pss n r = refl

pub begin-next : (pss : List (List ℕ)) (n r : ℕ) → kids_from pss n (suc r) ≡ kids_from pss n r + tally pss r n
unfolding kids_from sum_below
begin-next pss n r = refl

pub begins-climb : (pss : List (List ℕ)) (n r m : ℕ) → r ≤ m → kids_from pss n r ≤ kids_from pss n m
unfolding kids_from
begins-climb pss n r m le = sum-climbs (λ k. tally pss k n) r m le

pub tally-climbs : (pss : List (List ℕ)) (r x n : ℕ) → x ≤ n → tally pss r x ≤ tally pss r n
unfolding tally
tally-climbs pss r x n le = sum-climbs (λ y. occurs r (at pss y)) x n le

-- As many kids as counted
pub kids-none : (pss : List (List ℕ)) (r : ℕ) → kids pss r 0 ≡ []
unfolding kids
kids-none pss r = refl

pub kids-next : (pss : List (List ℕ)) (r x : ℕ) → kids pss r (suc x) ≡ kids pss r x ++ replicate (occurs r (at pss x)) x
unfolding kids
kids-next pss r x = refl

pub kids-length : (pss : List (List ℕ)) (r x : ℕ) → length (kids pss r x) ≡ tally pss r x
kids-length pss r zero = omega (arith, ap length (kids-none pss r), tally-none pss r)
kids-length pss r (suc x) =
    let o = occurs r (at pss x) in
    omega (arith, ap length (kids-next pss r x), length-append (kids pss r x) (replicate o x), length-replicate o x, kids-length pss r x, tally-next pss r x)
