-- C1 to C11 and the facts beyond them, by computing. Assumes nothing.
use Rattle.std.proofs.Common.{refl}
use Rattle.model.specs.Cases.{Beyond, Cases}
use Rattle.model.proofs.Everything.{everything}

-- The facts beyond them
pub beyond : Beyond
unfolding everything
beyond = record {
  first_0 = refl;
  first_2 = refl;
  ready_65 = refl;
  per_bit_2 = refl;
  per_bit_1 = refl;
}

-- All the cases
pub cases : Cases
unfolding everything
cases = record {
  C1 = refl;
  C2 = refl;
  c2_short = refl;
  c2_list = refl;
  C3 = refl;
  C4 = refl;
  c4_known = refl;
  C5 = refl;
  c5_outside = refl;
  C6 = refl;
  C7 = refl;
  C8 = refl;
  C9 = refl;
  C10 = refl;
  C11 = refl;
  beyond = beyond;
}
