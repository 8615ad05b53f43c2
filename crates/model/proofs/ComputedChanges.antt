-- The cases of document 02, by computing. Assumes nothing.
use Rattle.std.proofs.Common.{refl}
use Rattle.model.specs.Changes.{Changes}
use Rattle.model.proofs.Everything.{everything}

pub changes : Changes
unfolding everything
changes = record {
  F1 = refl;
  f1_graph = refl;
  f1_text = refl;
  f1_one = refl;
  f1_eleven = refl;
  f1_eleven_text = refl;
  f1_twelve = refl;
  F2 = refl;
  f2_both_sides = refl;
  f2_none = refl;
  f2_short = refl;
  f2_outside = refl;
  F3 = refl;
  f3_ranges = refl;
  f3_all = refl;
  f3_nothing = refl;
  f3_partway = refl;
  f3_unmarked = refl;
  f3_inside = refl;
  f3_branch = refl;
  f3_touching = refl;
  f3_falling = refl;
  f3_empty = refl;
  f3_odd = refl;
  f3_unknown = refl;
  f3_earlier = refl;
  f3_later = refl;
  f3_farthest = refl;
  f3_short = refl;
  f3_short_too = refl;
  f3_broken = refl;
  F4 = refl;
  f4_again = refl;
  f4_starts = refl;
  f4_unmarked = refl;
  f4_false = refl;
  f4_marked = refl;
  f4_by_hand = refl;
  f4_by_hand_true = refl;
  f4_by_hand_false = refl;
  F6 = refl;
  f6_marks = refl;
  f6_one = refl;
  f6_both = refl;
  f6_root = refl;
  f6_joined = refl;
  f6_partway = refl;
  f6_started = refl;
  f6_later = refl;
  f6_short = refl;
  f6_none = refl;
  f6_broken = refl;
  f6_by_hand = refl;
  f6_by_hand_marks = refl;
  F11 = refl;
  f11_later = refl;
  f11_none = refl;
  f11_new = refl;
  f11_broken = refl;
}
