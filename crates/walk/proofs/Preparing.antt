-- A range's tables, once its parents and rows are laid: what they need, and that they are those of the range. Assumes nothing.
use Rattle.std.proofs.Common.{◌≡◌, refl, sym, ap, ap₂, ◌∙◌, ◌⊎◌, inl, inr, true, List, [], ◌∷◌, map, ℕ, zero, suc, ◌+◌, ◌-◌, ◌≤◌, ◌<◌, add-one, arith, length, get_or, take, drop, length-drop}
use Rattle.std.proofs.Common.{get_or-take, get_or-drop, take_all, length-take-le}
use lib.ListN.{length-map, get_or-eq_default}
use Rattle.lists.specs.Lists.{rising, sum}
use Rattle.lists.specs.Areas.{part}
use Rattle.lists.proofs.Truth.{lt_or_le}
use Rattle.model.specs.History.{at}
use Rattle.model.specs.Range.{sizes_of}
use Rattle.tables.specs.Laid.{shares, chs}
use Rattle.tables.specs.Tables.{Sums, size_in}
use Rattle.tables.specs.Covers as Covers
use Rattle.tables.proofs.Chaining.{chain_under}
use Rattle.tables.proofs.Gathering.{shares-length}
use Rattle.tables.proofs.Ranging.{shares_at}
use Rattle.tables.proofs.Distances.{sizes-at}
use Rattle.tables.proofs.Weighing.{offset-is}
use Rattle.walk.specs.Ranges.{offsets, Arrays}
use Rattle.walk.proofs.Inside.{numbered_rise}

-- Sizes that agree on the members sum the same
sum_same : (f g : ℕ → ℕ) (k : ℕ) (c : List ℕ) → ((i : ℕ) → i < length c → f (get_or c i 0) ≡ g (get_or c i 0)) → sum f (take k c) ≡ sum g (take k c)
unfolding sum
sum_same f g zero c h = refl
sum_same f g (suc k) [] h = refl
sum_same f g (suc k) (x ∷ xs) h = ap₂ ◌+◌ (h 0 (omega arith)) (sum_same f g k xs (λ i l. h (suc i) (omega arith)))

pub sums_same : (hs : List (List ℕ)) (n : ℕ) (f g : ℕ → ℕ) (begins before : List ℕ) → ((m : ℕ) → m < n → f m ≡ g m) → Sums (chs hs n) f begins before → Sums (chs hs n) g begins before
sums_same hs n f g begins before h S = record {
  along = λ j k cl kl. S.along j k cl kl ∙
      ap (λ (x : ℕ). get_or before (get_or begins j 0) 0 + x) (sum_same f g k (at (chs hs n) j) (λ i l. h (get_or (at (chs hs n) j) i 0) (chain_under hs n j i l)));
  small = S.small;
}

-- A range of the graph's arrays
module _ (starts heads parents : List ℕ) (a n : ℕ) (A : Arrays starts heads parents (a + n)) where
  -- The starts of its runs
  abbrev pub own : List ℕ
  own = take (n + 1) (drop a starts)

  pub own_lent : (x y : ℕ) → x ≡ a → y ≡ x + n + 1 → take (y - x) (drop x starts) ≡ own
  own_lent x y p q = let k : y - x ≡ n + 1 = omega arith in ap₂ (λ (i j : ℕ). take i (drop j starts)) k p

  own_at : (r : ℕ) → r ≤ n → get_or own r 0 ≡ get_or starts (a + r) 0
  own_at r le = get_or-take (n + 1) (drop a starts) r 0 (omega arith) ∙ get_or-drop a starts r 0

  own-length : length own ≡ n + 1
  own-length = length-take-le (n + 1) (drop a starts) (omega (arith, length-drop a starts, A.long))

  -- they never fall
  pub own-order : (r : ℕ) → r < n → get_or own r 0 ≤ get_or own (r + 1) 0
  own-order r lt =
      let e : a + r + 1 ≡ a + (r + 1) = omega arith in
      omega (arith, own_at r (omega arith), own_at (r + 1) (omega arith), A.order (a + r) (omega arith), ap (λ (k : ℕ). get_or starts k 0) e)

  own_first : (r : ℕ) → r ≤ n → get_or own 0 0 ≤ get_or own r 0
  own_first zero le = omega arith
  own_first (suc r) le = omega (arith, own_first r (omega arith), own-order r (omega arith), ap (λ (k : ℕ). get_or own k 0) (add-one r))

  -- as offsets they are the range's
  pub own-offsets : offsets starts a n ≡ Covers.offsets own n
  unfolding offsets Covers.offsets
  own-offsets =
      let z : get_or starts a 0 ≡ get_or own 0 0 = sym (own_at 0 (omega arith) ∙ ap (λ (k : ℕ). get_or starts k 0) (last a)) in
      let t : take (suc n) (drop a starts) ≡ take (n + 1) own = ap (λ (k : ℕ). take k (drop a starts)) (sym (add-one n)) ∙ sym (take_all (n + 1) own (omega (arith, own-length))) in
      ap₂ (λ (k : ℕ) (l : List ℕ). map (λ s. s - k) l) z t
    where
      last : (a : ℕ) → a + 0 ≡ a
      last a = omega arith

  offsets-length : length (Covers.offsets own n) ≡ n + 1
  unfolding Covers.offsets
  offsets-length = length-map (take (n + 1) own) (λ s. s - get_or own 0 0) ∙ length-take-le (n + 1) own (omega (arith, own-length))

  -- and have its sizes
  pub own-sizes : (m : ℕ) → m < n → size_in own m ≡ get_or (sizes_of (offsets starts a n)) m 0
  own-sizes m lt =
      sym (ap (λ (l : List ℕ). get_or (sizes_of l) m 0) own-offsets ∙ (sizes-at (Covers.offsets own n) m (omega (arith, offsets-length)) ∙ same))
    where
      same : size_in (Covers.offsets own n) m ≡ size_in own m
      same = unfold size_in Covers.offset in
          (omega (arith, offset-is own n m (omega arith), offset-is own n (m + 1) (omega arith), own_first m (omega arith), own_first (m + 1) (omega arith)))

  -- Its parents rise
  pub shares-rise : (x : ℕ) → rising (at (shares heads parents a n) x) ≡ true
  shares-rise x = go (lt_or_le x n)
    where
      go : (x < n) ⊎ (n ≤ x) → rising (at (shares heads parents a n) x) ≡ true
      go (inl lt) = ap rising (shares_at heads parents a n x lt) ∙ numbered_rise a (part (get_or heads (a + x) 0) (get_or heads (a + x + 1) 0) parents) (A.rise (a + x) (omega arith))
      go (inr ge) = unfold at rising in (rw (get_or-eq_default (shares heads parents a n) [] {n = x} (omega (arith, shares-length heads parents a n))))
