-- A run's cover written and weighed, the last run first, gives the weights of the definition. Assumes nothing.
use Rattle.std.proofs.Common.{◌≡◌, sym, ap, ◌∙◌, Bool, List, map, ℕ, zero, suc, ◌+◌, ◌-◌, ◌*◌, ◌/◌, ◌%◌, min, ◌^◌, ◌≤◌, ◌<◌, arith, div-lt_iff_lt-mul, mul-le-mul_right, le_of_eq, le_trans, length}
use Rattle.std.proofs.Common.{get_or, take, drop, length-take, drop-drop, get_or-take}
use native.Mathlib.Nat.{div-eq_of_lt-le}
use lib.ListN.{get_or-map}
use lib.Seq.{paste, length-paste, drop-paste}
use lib.Ieee.Nearest.{div_mono}
use Rattle.std.proofs.lemmas.Grind.{div_ceil_times}
use Rattle.lists.specs.Lists.{mem, ceil}
use Rattle.lists.specs.Areas.{part}
use Rattle.model.specs.Cover.{per_bit}
use Rattle.model.specs.History.{at}
use Rattle.tables.specs.Lanes.{lane}
use Rattle.tables.specs.Jagged.{rows_in}
use Rattle.tables.specs.Covers.{word_bits, cover_room, cover_words, bits_in, cover_at, range_bits, join_of, offset, offsets, run_bits, Inside, Covered, Weighable}
use Rattle.tables.proofs.Laning.{lane-before, lane-stored}
use Rattle.tables.proofs.Bits.{bits_in_length}
use Rattle.tables.proofs.JaggedRows.{row_part}

-- ---- a run's words in the area

pub cover_short : (covers : List ℕ) (r : ℕ) → length (cover_at covers r) ≤ cover_room
unfolding cover_at lane part
cover_short covers r =
    let l : List ℕ = take (r * cover_words + cover_words - r * cover_words) (drop (r * cover_words) covers) in
    let e : length l ≤ cover_words = omega (arith, length-take (r * cover_words + cover_words - r * cover_words) (drop (r * cover_words) covers)) in
    omega (arith, bits_in_length word_bits l)

-- Storing w words keeps those that lie later
later-kept : (w : ℕ) (covers z : List ℕ) (r x : ℕ) → length z ≡ w → r * w + w ≤ length covers → r < x → lane x w (paste covers (r * w) z w) ≡ lane x w covers
unfolding lane part
later-kept w covers z r x l h g =
    let k : ℕ = x * w - (r * w + w) in
    let f : r * w + w + k ≡ x * w = omega (arith, lane-before r x w g) in
    let both : (a : List ℕ) → drop k (drop (r * w + w) a) ≡ drop (x * w) a = λ a. drop-drop k (r * w + w) a ∙ ap (λ (i : ℕ). drop i a) f in
    ap (take (x * w + w - x * w)) (sym (both (paste covers (r * w) z w)) ∙ ap (drop k) (drop-paste covers (r * w) z w (omega arith) (omega arith)) ∙ both covers)

-- The words stored from its place on are run r's cover, and later runs' are kept
pub cover_stored : (covers z : List ℕ) (r : ℕ) (bits : List Bool) (after : List ℕ) → length z ≡ cover_words → r * cover_words + cover_words ≤ length covers → bits_in word_bits z ≡ bits →
    after ≡ paste covers (r * cover_words) z (length z) → Covered r bits after covers
unfolding cover_at
cover_stored covers z r bits after l h e s =
    let w : ℕ = cover_words in
    let t : after ≡ paste covers (r * w) z w = s ∙ ap (paste covers (r * w) z) l in record {
      size = ap (λ (a : List ℕ). length a) t ∙ length-paste covers (r * w) z w h (omega arith);
      own = ap (λ (a : List ℕ). bits_in word_bits (lane r w a)) t ∙ ap (bits_in word_bits) (lane-stored r w covers z h l) ∙ e;
      later = λ x g. ap (λ (a : List ℕ). bits_in word_bits (lane x w a)) t ∙ ap (bits_in word_bits) (later-kept w covers z r x l h g);
    }

-- ---- a run's own bits lie below bit 127

pub per_pos : (events : ℕ) → 0 < per_bit events
unfolding per_bit
per_pos events = omega arith

pub per_small : (events : ℕ) → events < 2 ^ 32 → per_bit events < 2 ^ 32
unfolding per_bit ceil
per_small events h = omega arith

-- The library's quotient rounded up is the definition's
pub ceil_is : (x m : ℕ) → 0 < m → x / m + min 1 (x % m) ≡ ceil x m
unfolding ceil
ceil_is x m some = let t = div_ceil_times x m some in sym (div-eq_of_lt-le m (omega arith) (omega arith))

pub low_high : (per first end : ℕ) → 0 < per → first ≤ end → first / per ≤ ceil end per
unfolding ceil
low_high per first end p h = div_mono first per (end + (per - 1)) per p p (mul-le-mul_right per (omega arith))

pub high_low : (end events : ℕ) → end ≤ events → ceil end (per_bit events) ≤ 127
unfolding ceil
high_low end events h =
    let p : 0 < per_bit events = per_pos events in
    let e : events ≤ 127 * per_bit events = unfold per_bit in unfold ceil in omega arith in
    let g : end + (per_bit events - 1) < 128 * per_bit events = omega arith in
    let k : (end + (per_bit events - 1)) / per_bit events < 128 = (div-lt_iff_lt-mul p).1 g in
    omega (arith, k)

-- Starts that never fall
starts-rise : (starts : List ℕ) (n : ℕ) → ((r : ℕ) → r < n → get_or starts r 0 ≤ get_or starts (r + 1) 0) → (k r m : ℕ) → m ≡ r + k → m ≤ n → get_or starts r 0 ≤ get_or starts m 0
starts-rise starts n rise zero r m e h = let f : r ≡ m = omega arith in le_of_eq (ap (λ (i : ℕ). get_or starts i 0) f)
starts-rise starts n rise (suc k) r m e h = le_trans (rise r (omega arith)) (starts-rise starts n rise k (r + 1) m (omega arith) h)

pub offset-rise : (starts begins children : List ℕ) (n r m : ℕ) → Weighable starts begins children n → r ≤ m → m ≤ n → offset starts r ≤ offset starts m
unfolding offset
offset-rise starts begins children n r m w h g =
    let e : get_or starts r 0 ≤ get_or starts m 0 = starts-rise starts n w.rise (m - r) r m (omega arith) g in omega arith

pub offset-is : (starts : List ℕ) (n r : ℕ) → r ≤ n → get_or (offsets starts n) r 0 ≡ offset starts r
unfolding offsets offset
offset-is starts n r h =
    let f : ℕ → ℕ = λ s. s - get_or starts 0 0 in
    let z : 0 ≡ 0 - get_or starts 0 0 = omega arith in
    ap (λ (d : ℕ). get_or (map f (take (n + 1) starts)) r d) z ∙ get_or-map f (take (n + 1) starts) r 0 ∙ ap f (get_or-take (n + 1) starts r 0 (omega arith))

-- ---- what weighing a run needs, and what it gives

pub record Turn (starts begins children covers ks : List ℕ) (r per low high : ℕ) : Type 0 where
  pub rising : low ≤ high
  pub within : high ≤ 127
  pub few : r < 512
  pub room : r * cover_words + cover_words ≤ length covers
  pub inside : Inside covers ks
  pub bits : join_of (range_bits low high) (cover_at covers) ks ≡ run_bits starts per begins children covers r

-- a and b are how far into the range the run starts and ends, and ks the r-th of all runs' children, kss
pub turn_of : (starts begins children covers ks : List ℕ) (n r : ℕ) (kss : List (List ℕ)) (per a b high : ℕ) → Weighable starts begins children n → r < n → n * cover_words ≤ length covers →
    per ≡ per_bit (offset starts n) → a ≡ offset starts r → b ≡ offset starts (r + 1) → high ≡ b / per + min 1 (b % per) → kss ≡ rows_in begins children n → ks ≡ at kss r →
    Turn starts begins children covers ks r per (a / per) high
unfolding Inside run_bits
turn_of starts begins children covers ks n r kss per a b high w h room p ae be he all row =
    let up : a ≤ b = rw (ae, be) (offset-rise starts begins children n r (r + 1) w (omega arith) (omega arith)) in
    let some : 0 < per = rw p (per_pos (offset starts n)) in
    let top : high ≡ ceil b per = he ∙ ceil_is b per some in
    let ke = row ∙ (ap (λ (l : List (List ℕ)). at l r) all ∙ row_part begins children n r h) in
    record {
      rising = rw top (low_high per a b some up);
      within = rw (top, p, be) (high_low (offset starts (r + 1)) (offset starts n) (offset-rise starts begins children n (r + 1) n w (omega arith) (omega arith)));
      few = omega (arith, w.few);
      room = omega arith;
      inside = λ x m. let k = (w.later r x h (ap (mem x) (sym ke) ∙ m)).1 in omega arith;
      bits = rw (top, ae, be, ke);
    }
