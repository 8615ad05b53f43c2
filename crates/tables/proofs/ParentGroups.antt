-- The parents of each run as they stand in their area and are lent from it. Assumes nothing.
use Rattle.std.proofs.Common.{◌≡◌, ap, ◌∙◌, ◌⊎◌, inl, inr, true, List, [], ◌∷◌, ℕ, zero, suc, ◌+◌, ◌≤◌, ◌<◌, add-one, arith, length, get_or, take, length-take, get_or-take}
use Rattle.lists.specs.Lists.{mem}
use Rattle.lists.specs.Areas.{part}
use Rattle.lists.proofs.Truth.{eq_or-not}
use Rattle.lists.proofs.Members.{get_d_mem}
use Rattle.lists.proofs.Groups.{length_part, length-groups, group_at}
use Rattle.model.specs.History.{at}
use Rattle.tables.specs.Laid.{grouped, Sound}
use Rattle.tables.specs.Jagged.{Below}
use Rattle.tables.specs.Counted.{Countable}

-- There is a group for each run
pub groups-size : (heads items : List ℕ) (n : ℕ) → n < length heads → length (grouped heads items n) ≡ n
unfolding grouped
groups-size [] items n lt = absurd (omega arith)
groups-size (s ∷ ts) items n lt = rw (add-one n) (length-groups s (take n ts) items ∙ omega (arith, length-take n ts))

-- a run's group lies between its start and the next
pub group_part : (heads items : List ℕ) (n r : ℕ) → n < length heads → r < n → at (grouped heads items n) r ≡ part (get_or heads r 0) (get_or heads (r + 1) 0) items
unfolding grouped at
group_part heads items n r fits lt =
    let e : r + 1 ≡ suc r = omega arith in
    group_at (take (n + 1) heads) items r (omega (arith, length-take (n + 1) heads)) ∙
    rw (e, get_or-take (n + 1) heads r 0 (omega arith), get_or-take (n + 1) heads (suc r) 0 (omega arith))

-- and as long as they are apart
pub group_long : (heads items : List ℕ) (n r : ℕ) → Sound heads items n → r < n → get_or heads r 0 + length (at (grouped heads items n) r) ≡ get_or heads (r + 1) 0
group_long heads items n r sound lt =
    ap (λ (l : List ℕ). get_or heads r 0 + length l) (group_part heads items n r sound.long lt) ∙
    length_part (get_or heads r 0) (get_or heads (r + 1) 0) items (sound.inside r lt).0 (sound.inside r lt).1

-- The starts climb
pub heads-climb : (heads items : List ℕ) (n : ℕ) → Sound heads items n → (r m : ℕ) → r ≤ m → m ≤ n → get_or heads r 0 ≤ get_or heads m 0
heads-climb heads items n sound r zero le most = let e : r ≡ 0 = omega arith in omega (arith, ap (λ (k : ℕ). get_or heads k 0) e)
heads-climb heads items n sound r (suc m) le most = go (eq_or-not r (suc m)) (λ q. heads-climb heads items n sound r m q (omega arith))
  where
    go : (r ≡ suc m) ⊎ (r ≡ suc m → ⊥) → (r ≤ m → get_or heads r 0 ≤ get_or heads m 0) → get_or heads r 0 ≤ get_or heads (suc m) 0
    go (inl e) ih = omega (arith, ap (λ (k : ℕ). get_or heads k 0) e)
    go (inr q) ih = omega (arith, ih (omega (arith, q)), (sound.inside m (omega arith)).0, ap (λ (k : ℕ). get_or heads k 0) (add-one m))

-- Parents are runs
pub parent_in : (heads items : List ℕ) (n r : ℕ) → Sound heads items n → r < n → (p : ℕ) → mem p (at (grouped heads items n) r) ≡ true → p < n
parent_in heads items n r sound lt p m = omega (arith, sound.below r p m)

-- so each is counted
pub parents-countable : (pss : List (List ℕ)) (r : ℕ) (l : List ℕ) → Below pss → r < length pss → length l ≡ length pss + 1 → Countable (at pss r) l
parents-countable pss r l below lt size = λ i q. let p = below r (get_or (at pss r) i 0) (get_d_mem (at pss r) i 0 q) in omega arith
