-- The front of a list copied into a part of another. Assumes nothing.
use borrow.Rule.Slice.PartMut.{put_mid}
use Rattle.std.proofs.Common.{◌≡◌, ℕ, ◌+◌, ◌≤◌, List, ◌++◌, length, take, drop, sym, ap, ◌∙◌, arith}
use Rattle.std.proofs.Math.Seq.{paste}
use Rattle.std.proofs.lemmas.List.{take-take, length-take-le}
use Rattle.std.proofs.lemmas.Slice.{put_mid-paste}

-- ys is what the part of k places from a on holds now
pub front_pasted : (to list ys : List ℕ) (a k n : ℕ) → ys ≡ take n list → k ≡ n → n ≤ length list → put_mid a k to ys ≡ paste to a list n
front_pasted to list ys a k n p q h =
    put_mid-paste a k to ys (take n list) n p (sym q) (sym (length-take-le n list h)) ∙ ap (λ (l : List ℕ). take a to ++ l ++ drop (a + n) to) (take-take n n list (omega arith))
