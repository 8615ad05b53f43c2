-- Where kids begin, and the kids, as the code leaves them. Assumes nothing.
use Rattle.std.proofs.Common.{◌∙◌, List, ℕ, ◌≤◌, arith, length}
use Rattle.lists.specs.Lists.{concat}
use Rattle.tables.specs.Indexed.{Summed}
use Rattle.tables.specs.Counted.{tally, Kids, KidsTabled}
use Rattle.tables.proofs.Rooms.{kids-most, begin-is}

pub kids-tabled : (pss : List (List ℕ)) (begins kids : List ℕ) → length (concat pss) ≤ length kids →
    Summed (λ r. tally pss r (length pss)) (length pss) begins → Kids pss (length pss) kids → KidsTabled pss (length pss) begins kids
kids-tabled pss begins kids fits sums placed = record {
  begins_at = λ k le. sums k le ∙ begin-is pss (length pss) k;
  kids_at = placed;
  room = omega (arith, kids-most pss (length pss) (omega arith), fits);
}
