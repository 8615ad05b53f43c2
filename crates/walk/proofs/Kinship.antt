-- Children and weights as they are tabled for a range. Assumes nothing.
use Rattle.std.proofs.Common.{◌≡◌, List, ℕ, length}
use Rattle.tables.specs.declared.groups.Groups.{Groups}
use Rattle.tables.specs.Laid.{grouped}
use Rattle.tables.specs.Jagged.{rows_in}
use Rattle.tables.specs.Tables.{Children}
use Rattle.tables.specs.Counted.{KidsTabled}
use Rattle.tables.specs.Covers.{Weighable}
use Rattle.tables.proofs.KidsListed.{children_are}
use Rattle.tables.proofs.ParentGroups.{groups-size}
use Rattle.tables.proofs.JaggedRows.{as_groups}
use Rattle.tables.proofs.Weighted.{weighable_of}
use Rattle.walk.specs.Prepare.{Relatable}

module _ (starts : List ℕ) (n : ℕ) (gs : Groups) (R : Relatable starts n gs) (rows : List (List ℕ)) (made : rows ≡ rows_in gs.starts gs.items n) (begins items : List ℕ)
    (K : KidsTabled rows (length rows) begins items) where
  abbrev P : List (List ℕ)
  P = grouped gs.starts gs.items n

  size : length P ≡ n
  size = groups-size gs.starts gs.items n R.sound.long

  pub kids : Children P begins items
  kids = children_are P n begins items size R.rise (as_groups gs.starts gs.items n R.sound rows made (λ pss k. KidsTabled pss k begins items) K)

  -- What weighing needs
  pub weighable : Weighable starts begins items n
  weighable = weighable_of starts begins items n P R.sound.few R.order kids size R.sound.below
