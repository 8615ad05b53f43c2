-- The bits of words of any width: joined, counted, and set one by one. Assumes nothing.
use Rattle.std.proofs.Common.{◌≡◌, refl, sym, ap, ap₂, ◌∙◌, Bool, true, false, ◌||◌, List, [], ◌∷◌, ◌++◌, ℕ, zero, suc, ◌+◌, ◌*◌, ◌/◌, ◌%◌, ◌^◌, ◌<◌, max, arith, pow-suc, zero-add, suc-add}
use Rattle.std.proofs.Common.{zero-mul, suc-mul, length, get_or, set, drop, replicate, length-append, drop-cons, drop_of_length-le, add-one, ◌≤◌, eqb, bit_or}
use lib.ListN.{replicate-append-replicate}
use lib.Seq.{set-append_left}
use lib.Bits.{or_step, or_zero_r}
use lib.Count.{ones, ones_in, ones_step}
use Rattle.std.specs.Prelude.{count_ones}
use Rattle.std.specs.List.{sum_by}
use Rattle.std.proofs.lemmas.List.Sums.{sum_by-cons}
use Rattle.lists.specs.Lists.{count, bit}
use Rattle.model.specs.Cover.{either}
use Rattle.tables.specs.Covers.{bits_of, bits_in, join_words}

odd_max : (a b : ℕ) → a < 2 → b < 2 → eqb (max a b) 1 ≡ eqb a 1 || eqb b 1
odd_max zero zero h g = refl
odd_max zero (suc zero) h g = refl
odd_max (suc zero) zero h g = refl
odd_max (suc zero) (suc zero) h g = refl
odd_max zero (suc (suc b)) h g = absurd (omega arith)
odd_max (suc zero) (suc (suc b)) h g = absurd (omega arith)
odd_max (suc (suc a)) b h g = absurd (omega arith)

-- The joined number's lowest bit, and the rest
or-low : (x y : ℕ) → bit_or x y % 2 ≡ max (x % 2) (y % 2)
or-low x y = let m : max (x % 2) (y % 2) < 2 = omega arith in omega (arith, or_step x y)

or_half : (x y : ℕ) → bit_or x y / 2 ≡ bit_or (x / 2) (y / 2)
or_half x y = let m : max (x % 2) (y % 2) < 2 = omega arith in omega (arith, or_step x y)

pub bits_or : (k x y : ℕ) → bits_of k (bit_or x y) ≡ either (bits_of k x) (bits_of k y)
unfolding bits_of either
bits_or zero x y = refl
bits_or (suc k) x y =
    ap (λ (d : ℕ). eqb d 1 ∷ bits_of k (bit_or x y / 2)) (or-low x y) ∙ ap (λ (b : Bool). b ∷ bits_of k (bit_or x y / 2)) (odd_max (x % 2) (y % 2) (omega arith) (omega arith))
    ∙ ap (λ (l : List Bool). (eqb (x % 2) 1 || eqb (y % 2) 1) ∷ l) (ap (bits_of k) (or_half x y) ∙ bits_or k (x / 2) (y / 2))

pub bits_length : (k x : ℕ) → length (bits_of k x) ≡ k
unfolding bits_of
bits_length zero x = refl
bits_length (suc k) x = ap suc (bits_length k (x / 2))

either-append : (us vs cs ds : List Bool) → length us ≡ length cs → either (us ++ vs) (cs ++ ds) ≡ either us cs ++ either vs ds
unfolding either
either-append [] vs [] ds e = refl
either-append [] vs (c ∷ cs) ds e = absurd (omega (arith, e))
either-append (a ∷ us) vs [] ds e = absurd (omega (arith, e))
either-append (a ∷ us) vs (c ∷ cs) ds e = ap (λ (l : List Bool). (a || c) ∷ l) (either-append us vs cs ds (omega (arith, e)))

-- Words joined are their bits joined
pub bits_join : (k : ℕ) (xs ys : List ℕ) → length xs ≡ length ys → bits_in k (join_words xs ys) ≡ either (bits_in k xs) (bits_in k ys)
unfolding bits_in join_words
bits_join k [] [] e = unfold either in refl
bits_join k [] (y ∷ ys) e = absurd (omega (arith, e))
bits_join k (x ∷ xs) [] e = absurd (omega (arith, e))
bits_join k (x ∷ xs) (y ∷ ys) e =
    ap (λ (l : List Bool). l ++ bits_in k (join_words xs ys)) (bits_or k x y) ∙ ap (λ (l : List Bool). either (bits_of k x) (bits_of k y) ++ l) (bits_join k xs ys (omega (arith, e)))
    ∙ sym (either-append (bits_of k x) (bits_in k xs) (bits_of k y) (bits_in k ys) (bits_length k x ∙ sym (bits_length k y)))

-- k bits a word
pub bits_in_length : (k : ℕ) (xs : List ℕ) → length (bits_in k xs) ≡ length xs * k
unfolding bits_in
bits_in_length k [] = sym (zero-mul k)
bits_in_length k (x ∷ xs) = length-append (bits_of k x) (bits_in k xs) ∙ omega (arith, bits_length k x, bits_in_length k xs, suc-mul (length xs) k)

-- ---- counted

odd_bit : (a : ℕ) → a < 2 → bit (eqb a 1) ≡ a
odd_bit zero h = refl
odd_bit (suc zero) h = refl
odd_bit (suc (suc a)) h = absurd (omega arith)

ones_zero : ones 0 ≡ 0
unfolding ones ones_in
ones_zero = refl

pub bits_ones : (k x : ℕ) → x < 2 ^ k → count (λ b. b) (bits_of k x) ≡ ones x
unfolding bits_of count
bits_ones zero x h = let e : x ≡ 0 = omega arith in sym (ap ones e ∙ ones_zero)
bits_ones (suc k) x h =
    let g : x / 2 < 2 ^ k = omega (arith, pow-suc 2 k) in
    omega (arith, odd_bit (x % 2) (omega arith), bits_ones k (x / 2) g, ones_step x)

count-append : (us vs : List Bool) → count (λ b. b) (us ++ vs) ≡ count (λ b. b) us + count (λ b. b) vs
unfolding count
count-append [] vs = sym (zero-add (count (λ b. b) vs))
count-append (a ∷ us) vs = omega (arith, count-append us vs)

-- Words of k bits, counted one by one
pub bits_counted : (k : ℕ) (y : List ℕ) → ((i : ℕ) → i < length y → get_or y i 0 < 2 ^ k) → sum_by count_ones y ≡ count (λ b. b) (bits_in k y)
unfolding bits_in
bits_counted k [] f = unfold count in refl
bits_counted k (x ∷ xs) f =
    sum_by-cons count_ones x xs
    ∙ ap₂ (λ (a b : ℕ). a + b) (sym (bits_ones k x (f 0 (omega arith)))) (bits_counted k xs (λ i h. f (suc i) (omega arith)))
    ∙ sym (count-append (bits_of k x) (bits_in k xs))

-- The bits counted word by word
pub count_next : (k : ℕ) (y : List ℕ) (i : ℕ) → i < length y → count (λ b. b) (bits_in k (drop i y)) ≡ count (λ b. b) (bits_of k (get_or y i 0)) + count (λ b. b) (bits_in k (drop (i + 1) y))
unfolding bits_in
count_next k y i h = rw (drop-cons y i 0 h, add-one i) (count-append (bits_of k (get_or y i 0)) (bits_in k (drop (suc i) y)))

pub count_none : (k : ℕ) (y : List ℕ) (i : ℕ) → length y ≤ i → count (λ b. b) (bits_in k (drop i y)) ≡ 0
unfolding bits_in count
count_none k y i h = rw (drop_of_length-le y h)

-- ---- a bit set

odd_most : (a : ℕ) → a < 2 → max a 1 ≡ 1
odd_most a h = omega arith

pub bits_set : (k r x : ℕ) → r < k → bits_of k (bit_or x (2 ^ r)) ≡ set (bits_of k x) r true
unfolding bits_of
bits_set zero r x h = absurd (omega arith)
bits_set (suc k) zero x h =
    ap (λ (d : ℕ). eqb d 1 ∷ bits_of k (bit_or x 1 / 2)) (or-low x 1 ∙ odd_most (x % 2) (omega arith)) ∙ ap (λ (n : ℕ). true ∷ bits_of k n) (or_half x 1 ∙ or_zero_r (x / 2))
bits_set (suc k) (suc r) x h =
    let p : 2 ^ suc r / 2 ≡ 2 ^ r = omega (arith, pow-suc 2 r) in
    let q : 2 ^ suc r % 2 ≡ 0 = omega (arith, pow-suc 2 r) in
    let low : bit_or x (2 ^ suc r) % 2 ≡ x % 2 = omega (arith, or-low x (2 ^ suc r), q) in
    let half : bit_or x (2 ^ suc r) / 2 ≡ bit_or (x / 2) (2 ^ r) = or_half x (2 ^ suc r) ∙ ap (bit_or (x / 2)) p in
    ap (λ (d : ℕ). eqb d 1 ∷ bits_of k (bit_or x (2 ^ suc r) / 2)) low ∙ ap (λ (l : List Bool). eqb (x % 2) 1 ∷ l) (ap (bits_of k) half ∙ bits_set k r (x / 2) (omega arith))

set_past : (us vs : List Bool) (i : ℕ) → set (us ++ vs) (length us + i) true ≡ us ++ set vs i true
set_past [] vs i = ap (λ (k : ℕ). set vs k true) (zero-add i)
set_past (a ∷ us) vs i = ap (λ (k : ℕ). set (a ∷ us ++ vs) k true) (suc-add (length us) i) ∙ ap (λ (l : List Bool). a ∷ l) (set_past us vs i)

-- Bit r of word q is bit q * k + r of all
pub bits_in_set : (k : ℕ) (z : List ℕ) (q r : ℕ) → q < length z → r < k → bits_in k (set z q (bit_or (get_or z q 0) (2 ^ r))) ≡ set (bits_in k z) (q * k + r) true
unfolding bits_in
bits_in_set k [] q r h g = absurd (omega arith)
bits_in_set k (x ∷ xs) zero r h g =
    let e : r ≡ 0 * k + r = omega (arith, zero-mul k) in
    ap (λ (l : List Bool). l ++ bits_in k xs) (bits_set k r x g) ∙ sym (set-append_left (bits_of k x) (bits_in k xs) r true (omega (arith, bits_length k x)))
    ∙ ap (λ (i : ℕ). set (bits_of k x ++ bits_in k xs) i true) e
bits_in_set k (x ∷ xs) (suc q) r h g =
    let e : length (bits_of k x) + (q * k + r) ≡ suc q * k + r = omega (arith, bits_length k x, suc-mul q k) in
    ap (λ (l : List Bool). bits_of k x ++ l) (bits_in_set k xs q r (omega arith) g) ∙ sym (set_past (bits_of k x) (bits_in k xs) (q * k + r))
    ∙ ap (λ (i : ℕ). set (bits_of k x ++ bits_in k xs) i true) e

-- ---- no bit set

bits_zero : (k : ℕ) → bits_of k 0 ≡ replicate k false
unfolding bits_of
bits_zero zero = refl
bits_zero (suc k) = ap (λ (l : List Bool). false ∷ l) (bits_zero k)

-- Words of zeros have no bit set
pub bits_in_zeros : (k n : ℕ) → bits_in k (replicate n 0) ≡ replicate (n * k) false
unfolding bits_in
bits_in_zeros k zero = ap (λ (m : ℕ). replicate m false) (sym (zero-mul k))
bits_in_zeros k (suc n) =
    let e : k + n * k ≡ suc n * k = omega (arith, suc-mul n k) in
    ap (λ (l : List Bool). l ++ bits_in k (replicate n 0)) (bits_zero k) ∙ ap (λ (l : List Bool). replicate k false ++ l) (bits_in_zeros k n)
    ∙ replicate-append-replicate k (n * k) false ∙ ap (λ (m : ℕ). replicate m false) e
