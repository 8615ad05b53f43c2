-- Lists of w words in one area: read, lent, stored. Assumes nothing.
use Rattle.std.proofs.Common.{◌≡◌, sym, ap, ◌∙◌, List, ◌++◌, append_assoc, ℕ, suc, ◌+◌, ◌-◌, ◌*◌, ◌≤◌, ◌<◌, arith, suc-mul, mul-le-mul_right, length, get_or, take, drop}
use Rattle.std.proofs.Common.{length-take-le, length-drop, take_at, drop_at, get_or-take}
use lib.Seq.{paste, take-length, get_or-drop}
use Rattle.lists.specs.Areas.{part}
use Rattle.tables.specs.Lanes.{lane}

-- Each list ends before a later one begins
pub lane-before : (j k w : ℕ) → j < k → j * w + w ≤ k * w
lane-before j k w lt = omega (arith, suc-mul j w, mul-le-mul_right w (le lt))
  where
    le : j < k → suc j ≤ k
    le h = h

-- A list in the area has w words
pub lane-length : (k w : ℕ) (area : List ℕ) → k * w + w ≤ length area → length (lane k w area) ≡ w
unfolding lane part
lane-length k w area h =
    let e : k * w + w - k * w ≡ w = omega arith in
    rw e (length-take-le w (drop (k * w) area) (omega (arith, length-drop (k * w) area)))

-- Its words are the area's from k * w on
pub lane_get_d : (k w : ℕ) (area : List ℕ) (i : ℕ) → i < w → get_or (lane k w area) i 0 ≡ get_or area (k * w + i) 0
unfolding lane part
lane_get_d k w area i h = get_or-take (k * w + w - k * w) (drop (k * w) area) i 0 (omega arith) ∙ get_or-drop (k * w) area i 0

-- What is lent from where it begins to where it ends
pub lane_lent : (k w s e : ℕ) (area : List ℕ) → s ≡ k * w → e ≡ k * w + w → take (e - s) (drop s area) ≡ lane k w area
unfolding lane part
lane_lent k w s e area p q = rw (p, q)

-- w words of a list, stored there, stand there
pub lane_pasted : (k w : ℕ) (area l : List ℕ) → k * w + w ≤ length area → w ≤ length l → lane k w (paste area (k * w) l w) ≡ take w l
unfolding lane part
lane_pasted k w area l h le =
    let e : k * w + w - k * w ≡ w = omega arith in
    let rest : List ℕ = drop (k * w + w) area in
    rw (e, append_assoc (take (k * w) area) (take w l) rest, drop_at (take (k * w) area) (take w l ++ rest) (k * w) (length-take-le (k * w) area (omega arith)))
    (take_at (take w l) rest w (length-take-le w l le))

-- a list of w words whole
pub lane-stored : (k w : ℕ) (area l : List ℕ) → k * w + w ≤ length area → length l ≡ w → lane k w (paste area (k * w) l w) ≡ l
lane-stored k w area l h e = lane_pasted k w area l h (omega arith) ∙ (ap (λ (n : ℕ). take n l) (sym e) ∙ take-length l)
