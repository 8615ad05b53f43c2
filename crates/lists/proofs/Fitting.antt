-- Turns of scans over groups: a group is the part between two starts. Assumes nothing.
use Rattle.std.proofs.Common.{◌≡◌, refl, true, ◌&&◌, List, [], ◌∷◌, ℕ, zero, suc, ◌+◌, ◌-◌, ◌≤◌, ◌<◌, sub-one, arith, length, drop, get_or, length-drop, drop-cons}
use Rattle.lists.specs.Lists.{rising, below}
use Rattle.lists.specs.Areas.{climbs, groups, part}
use Rattle.lists.specs.Scans.{groups_fit}
use Rattle.lists.proofs.Groups.{climbs-at}

-- Groups by starts that climb to the end of the items
module _ (starts items : List ℕ) (climb : climbs (length items) starts ≡ true) where
  -- the group before the start at r lies among the items
  pub start-at : (r : ℕ) → 0 < r → r < length starts → (get_or starts (r - 1) 0 ≤ get_or starts r 0) × (get_or starts r 0 ≤ length items)
  start-at zero z h = absurd (omega arith)
  start-at (suc r) z h = rw sub-one (climbs-at (length items) starts climb r h)

  -- and is asked first of those from it on
  pub groups-step : (r : ℕ) → 0 < r → r < length starts →
      groups_fit (r - 1) (groups (drop (r - 1) starts) items) ≡
      rising (part (get_or starts (r - 1) 0) (get_or starts r 0) items) && below (r - 1) (part (get_or starts (r - 1) 0) (get_or starts r 0) items) &&
      groups_fit (r + 1 - 1) (groups (drop (r + 1 - 1) starts) items)
  unfolding groups_fit groups
  groups-step zero z h = absurd (omega arith)
  groups-step (suc r) z h =
      let e : suc r + 1 - 1 ≡ suc r = omega arith in
      let l : r < length starts = omega arith in
      rw (e, sub-one, drop-cons starts r 0 l, drop-cons starts (suc r) 0 h)

  -- behind the last start there is none
  pub groups_end : (r : ℕ) → 0 < r → length starts ≤ r → groups_fit (r - 1) (groups (drop (r - 1) starts) items) ≡ true
  unfolding groups_fit groups
  groups_end r z h = go (drop (r - 1) starts) (simp length-drop (omega arith))
    where
      go : (l : List ℕ) → length l ≤ 1 → groups_fit (r - 1) (groups l items) ≡ true
      go [] m = refl
      go (x ∷ []) m = refl
      go (x ∷ y ∷ ys) m = absurd (omega arith)
