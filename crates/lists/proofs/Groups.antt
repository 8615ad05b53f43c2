-- Groups beside their flat form with starts: from the one to the other and back. Assumes nothing.
use Rattle.std.proofs.Common.{subst, ◌≡◌, refl, sym, ap, ◌∙◌, true, List, [], ◌∷◌, ◌++◌, append_assoc, ℕ, zero, suc, ◌+◌, ◌-◌, ◌≤◌, ◌<◌, arith, length, take, drop, get_or, length-append}
use Rattle.std.proofs.Common.{length-take, length-drop, take-append-drop, drop_at, drop-drop, take-take, leb, leb-true, eqb-true, le-leb, eq-eqb}
use native.Mathlib.Nat.{sub-zero, zero-sub, suc-sub-suc}
use lib.Seq.{take-append_seam, drop-length, take-nil, drop-nil}
use Rattle.lists.specs.Lists.{sum, concat}
use Rattle.lists.specs.Areas.{group_starts, part, groups, climbs}
use Rattle.lists.proofs.Truth.{false_true, and_left, and_right}

-- The flat list of groups after groups, and of groups cut in two
pub concat-append : (xs ys : List (List ℕ)) → concat (xs ++ ys) ≡ concat xs ++ concat ys
unfolding concat
concat-append [] ys = refl
concat-append (x ∷ xs) ys = rw (concat-append xs ys, append_assoc)

pub concat-split : (at : ℕ) (xs : List (List ℕ)) → concat xs ≡ concat (take at xs) ++ concat (drop at xs)
concat-split at xs = ap concat (sym (take-append-drop at xs)) ∙ concat-append (take at xs) (drop at xs)

-- The flat list is as long as the groups together
pub length-concat : (xs : List (List ℕ)) → length (concat xs) ≡ sum (λ x. length x) xs
unfolding concat sum
length-concat [] = refl
length-concat (x ∷ xs) = omega (arith, length-append x (concat xs), length-concat xs)

-- A start more than there are groups
pub length_group_starts : (n : ℕ) (xs : List (List ℕ)) → length (group_starts n xs) ≡ suc (length xs)
unfolding group_starts
length_group_starts n [] = refl
length_group_starts n (x ∷ xs) = ap suc (length_group_starts (n + length x) xs)

-- The first group starts at n
pub first_group_start : (n : ℕ) (xs : List (List ℕ)) → get_or (group_starts n xs) 0 0 ≡ n
unfolding group_starts
first_group_start n [] = refl
first_group_start n (x ∷ xs) = refl

-- A group starts where the groups before it end
pub group_start-at : (n at : ℕ) (xs : List (List ℕ)) → at ≤ length xs → get_or (group_starts n xs) at 0 ≡ n + length (concat (take at xs))
unfolding group_starts concat
group_start-at n zero [] h = omega arith
group_start-at n zero (x ∷ xs) h = omega arith
group_start-at n (suc at) [] h = absurd (omega arith)
group_start-at n (suc at) (x ∷ xs) h = group_start-at (n + length x) at xs (omega arith) ∙ omega (arith, length-append x (concat (take at xs)))

pub group_start-low : (at : ℕ) (xs : List (List ℕ)) → at ≤ length xs → get_or (group_starts 0 xs) at 0 ≤ length (concat xs)
group_start-low at xs h =
    omega (arith, group_start-at 0 at xs h, ap length (concat-split at xs), length-append (concat (take at xs)) (concat (drop at xs)))

pub climbs_group_starts : (n : ℕ) (xs : List (List ℕ)) → climbs (n + length (concat xs)) (group_starts n xs) ≡ true
unfolding climbs group_starts concat
climbs_group_starts n [] = eq-eqb n (n + 0) (omega arith)
climbs_group_starts n (x ∷ xs) =
    let q : n + length (x ++ concat xs) ≡ n + length x + length (concat xs) = simp length-append (omega arith) in
    step n (n + length x) (n + length (x ++ concat xs)) xs (omega arith) (rw q (climbs_group_starts (n + length x) xs))
  where
    step : (a b m : ℕ) (ys : List (List ℕ)) → a ≤ b → climbs m (group_starts b ys) ≡ true → climbs m (a ∷ group_starts b ys) ≡ true
    step a b m [] h e = rw (le-leb a b h) e
    step a b m (y ∷ ys) h e = rw (le-leb a b h) e

-- The starts of all groups climb to the end of the flat list
pub climbs-whole : (xs : List (List ℕ)) → climbs (length (concat xs)) (group_starts 0 xs) ≡ true
climbs-whole xs =
    let z : 0 + length (concat xs) ≡ length (concat xs) = omega arith in
    rw z at (climbs_group_starts 0 xs)

-- Starts that climb never pass the end, and never fall
pub climbs-low : (n s : ℕ) (ts : List ℕ) → climbs n (s ∷ ts) ≡ true → s ≤ n
unfolding climbs
climbs-low n s [] e = omega (arith, eqb-true s n e)
climbs-low n s (t ∷ ts) e =
    omega (arith, leb-true s t (and_left (leb s t) (climbs n (t ∷ ts)) e), climbs-low n t ts (and_right (leb s t) (climbs n (t ∷ ts)) e))

pub climbs-at : (n : ℕ) (ss : List ℕ) → climbs n ss ≡ true → (r : ℕ) → suc r < length ss → (get_or ss r 0 ≤ get_or ss (suc r) 0) × (get_or ss (suc r) 0 ≤ n)
unfolding climbs
climbs-at n [] e r h = absurd (omega arith)
climbs-at n (s ∷ []) e r h = absurd (omega arith)
climbs-at n (s ∷ t ∷ ts) e zero h =
    (leb-true s t (and_left (leb s t) (climbs n (t ∷ ts)) e), climbs-low n t ts (and_right (leb s t) (climbs n (t ∷ ts)) e))
climbs-at n (s ∷ t ∷ ts) e (suc r) h = climbs-at n (t ∷ ts) (and_right (leb s t) (climbs n (t ∷ ts)) e) r (omega arith)

-- A part is as long as it says
pub length_part : (s t : ℕ) (l : List ℕ) → s ≤ t → t ≤ length l → s + length (part s t l) ≡ t
unfolding part
length_part s t l h k = simp (length-take, length-drop) (omega arith)

drop-take : (s e : ℕ) (l : List ℕ) → drop s (take e l) ≡ take (e - s) (drop s l)
drop-take zero e l = rw sub-zero
drop-take (suc s) zero l = rw (zero-sub, drop-nil)
drop-take (suc s) (suc e) [] = rw (take-nil)
drop-take (suc s) (suc e) (x ∷ l) = rw suc-sub-suc (drop-take s e l)

-- A part that ends by place e is a part of the first e items
pub part-take : (s t e : ℕ) (l : List ℕ) → t ≤ e → part s t (take e l) ≡ part s t l
unfolding part
part-take s t e l h = rw (drop-take s e l) (take-take (t - s) (e - s) (drop s l) (omega arith))

part_at : (n : ℕ) (before x rest : List ℕ) → length before ≡ n → part n (n + length x) (before ++ (x ++ rest)) ≡ x
unfolding part
part_at n before x rest e =
    let k : n + length x - n ≡ length x = omega arith in
    rw (k, drop_at before (x ++ rest) n e, take-append_seam)

groups-step : (n m : ℕ) (xs : List (List ℕ)) (items : List ℕ) → groups (n ∷ group_starts m xs) items ≡ part n m items ∷ groups (group_starts m xs) items
unfolding groups group_starts
groups-step n m [] items = refl
groups-step n m (x ∷ xs) items = refl

groups-from : (n : ℕ) (before : List ℕ) (xs : List (List ℕ)) → length before ≡ n → groups (group_starts n xs) (before ++ concat xs) ≡ xs
unfolding groups group_starts concat
groups-from n before [] e = refl
groups-from n before (x ∷ xs) e =
    let m : length (before ++ x) ≡ n + length x = simp length-append (omega arith) in
    let p : part n (n + length x) (before ++ (x ++ concat xs)) ≡ x = part_at n before x (concat xs) e in
    let r : groups (group_starts (n + length x) xs) (before ++ (x ++ concat xs)) ≡ xs = rw append_assoc at (groups-from (n + length x) (before ++ x) xs m) in
    groups-step n (n + length x) xs (before ++ (x ++ concat xs)) ∙ rw (p, r)

-- The groups between the starts of some groups are those groups
pub groups-concat : (xs : List (List ℕ)) → groups (group_starts 0 xs) (concat xs) ≡ xs
groups-concat xs = groups-from 0 [] xs refl

-- There is a group between each start and the next
pub length-groups : (s : ℕ) (ts items : List ℕ) → length (groups (s ∷ ts) items) ≡ length ts
unfolding groups
length-groups s [] items = refl
length-groups s (t ∷ ts) items = ap suc (length-groups t ts items)

-- A group is the part between its start and the next
pub group_at : (ss items : List ℕ) (r : ℕ) → suc r < length ss → get_or (groups ss items) r [] ≡ part (get_or ss r 0) (get_or ss (suc r) 0) items
unfolding groups
group_at [] items r h = absurd (omega arith)
group_at (s ∷ []) items r h = absurd (omega arith)
group_at (s ∷ t ∷ ts) items zero h = refl
group_at (s ∷ t ∷ ts) items (suc r) h = group_at (t ∷ ts) items r (omega arith)

-- Starts that climb are the starts of the groups between them
pub starts-groups : (items : List ℕ) (s : ℕ) (ts : List ℕ) → climbs (length items) (s ∷ ts) ≡ true → group_starts s (groups (s ∷ ts) items) ≡ s ∷ ts
unfolding group_starts groups climbs
starts-groups items s [] e = refl
starts-groups items s (t ∷ ts) e =
    let p = and_right (leb s t) (climbs (length items) (t ∷ ts)) e in
    let q = length_part s t items (leb-true s t (and_left (leb s t) (climbs (length items) (t ∷ ts)) e)) (climbs-low (length items) t ts p) in
    ap (λ (l : List ℕ). s ∷ l) (rw q (starts-groups items t ts p))

-- The groups between starts that climb are together the items from the first start on
pub concat-groups : (items : List ℕ) (s : ℕ) (ts : List ℕ) → climbs (length items) (s ∷ ts) ≡ true → concat (groups (s ∷ ts) items) ≡ drop s items
unfolding concat groups climbs part
concat-groups items s [] e = rw (eqb-true s (length items) e) (sym (drop-length items))
concat-groups items s (t ∷ ts) e =
    let q : s + (t - s) ≡ t = omega (arith, leb-true s t (and_left (leb s t) (climbs (length items) (t ∷ ts)) e)) in
    let d : drop t items ≡ drop (t - s) (drop s items) = sym (drop-drop (t - s) s items ∙ ap (λ (j : ℕ). drop j items) q) in
    rw (concat-groups items t ts (and_right (leb s t) (climbs (length items) (t ∷ ts)) e), d) (take-append-drop (t - s) (drop s items))

-- Starts that begin at 0 and climb to the end of the items: they and the items come back from the groups
pub record Grouped (ss all : List ℕ) : Type 0 where
  pub starts : group_starts 0 (groups ss all) ≡ ss
  pub items : concat (groups ss all) ≡ all
  pub count : suc (length (groups ss all)) ≡ length ss

pub grouped_of : (ss items : List ℕ) → get_or ss 0 0 ≡ 0 → climbs (length items) ss ≡ true → Grouped ss items
unfolding climbs
grouped_of [] items z e = false_true e
grouped_of (s ∷ ts) items z e =
    let e' : climbs (length items) (0 ∷ ts) ≡ true = subst (λ (x : ℕ). climbs (length items) (x ∷ ts) ≡ true) z e in
    rw z (record { starts = starts-groups items 0 ts e'; items = concat-groups items 0 ts e'; count = ap suc (length-groups 0 ts items) })
