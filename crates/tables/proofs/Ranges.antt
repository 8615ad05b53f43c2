-- Words joined in place, and the bits from one place up to another set one by one. Assumes nothing.
use Rattle.std.proofs.Common.{◌≡◌, refl, sym, ap, ◌∙◌, Bool, true, false, ◌⊎◌, inl, inr, List, [], ◌∷◌, ◌++◌, map, ℕ, zero, suc, ◌+◌, ◌*◌, ◌/◌, ◌%◌, ◌^◌, ◌≤◌, ◌<◌, arith, add-one, mod-lt}
use Rattle.std.proofs.Common.{div-add-mod', length, get_or, take, drop, set, replicate, drop_of_length-le, take-append-drop, drop-cons, take-suc-set, drop-set-lt, bit_or}
use lib.Seq.{append_snoc}
use Rattle.lists.specs.Lists.{from, upto}
use Rattle.lists.proofs.Truth.{lt_eq_gt, lt_or_le}
use Rattle.lists.proofs.Between.{within, within_in, within-before, within-after, none_within}
use Rattle.model.specs.Cover.{either}
use Rattle.tables.specs.Covers.{cover_room, bits_in, join_words, range_bits}
use Rattle.tables.proofs.Bits.{bits_join, bits_in_set, bits_in_zeros}
use Rattle.tables.proofs.Joins.{either_comm}

-- Joined up to place i, and the rest still to be joined
unfoldable pub join_rest : ℕ → List ℕ → List ℕ → List ℕ
join_rest i z ys = take i z ++ join_words (drop i z) (drop i ys)

join-nothing : (xs : List ℕ) → join_words xs [] ≡ xs
unfolding join_words
join-nothing [] = refl
join-nothing (x ∷ xs) = refl

pub join-start : (z ys : List ℕ) → join_rest 0 z ys ≡ join_words z ys
unfolding join_rest
join-start z ys = refl

pub join_end : (i : ℕ) (z ys : List ℕ) → length ys ≤ i → join_rest i z ys ≡ z
unfolding join_rest
join_end i z ys h = rw (drop_of_length-le ys h, join-nothing) (take-append-drop i z)

pub join_step : (i : ℕ) (z ys : List ℕ) → i < length z → i < length ys →
    join_rest (i + 1) (set z i (bit_or (get_or z i 0) (get_or ys i 0))) ys ≡ join_rest i z ys
unfolding join_rest join_words
join_step i z ys h k =
    let m : ℕ = bit_or (get_or z i 0) (get_or ys i 0) in
    rw (add-one, take-suc-set z i m h, drop-set-lt (suc i) z i m (omega arith), append_snoc, drop-cons z i 0 h, drop-cons ys i 0 k)

-- When all are joined, so are the bits
pub bits_joined : (k : ℕ) (z z₀ ys : List ℕ) (i : ℕ) → length z₀ ≡ length ys → length ys ≤ i → join_rest i z ys ≡ join_words z₀ ys → bits_in k z ≡ either (bits_in k ys) (bits_in k z₀)
bits_joined k z z₀ ys i l h e = ap (bits_in k) (sym (join_end i z ys h) ∙ e) ∙ bits_join k z₀ ys l ∙ either_comm (bits_in k z₀) (bits_in k ys)

-- ---- ranges of bits

map-from : (f g : ℕ → Bool) (a n : ℕ) → ((k : ℕ) → a ≤ k → f k ≡ g k) → map f (from a n) ≡ map g (from a n)
unfolding from
map-from f g a zero s = refl
map-from f g a (suc n) s = ap (λ (b : Bool). b ∷ map f (from (suc a) n)) (s a (omega arith)) ∙ ap (λ (l : List Bool). g a ∷ l) (map-from f g (suc a) n (λ k h. s k (omega arith)))

map-none : (f : ℕ → Bool) (a n : ℕ) → ((k : ℕ) → f k ≡ false) → map f (from a n) ≡ replicate n false
unfolding from
map-none f a zero s = refl
map-none f a (suc n) s = ap (λ (b : Bool). b ∷ map f (from (suc a) n)) (s a) ∙ ap (λ (l : List Bool). false ∷ l) (map-none f (suc a) n s)

-- A table of bits with one more set
map-set : (f g : ℕ → Bool) (a n j : ℕ) → j < n → g (a + j) ≡ true → ((k : ℕ) → (k ≡ a + j → ⊥) → f k ≡ g k) →
    set (map f (from a n)) j true ≡ map g (from a n)
unfolding from
map-set f g a zero j h t s = absurd (omega arith)
map-set f g a (suc n) zero h t s =
    let e : a + 0 ≡ a = omega arith in
    ap (λ (b : Bool). b ∷ map f (from (suc a) n)) (sym t ∙ ap g e) ∙ ap (λ (l : List Bool). g a ∷ l) (map-from f g (suc a) n (λ k p. s k (λ e. omega arith)))
map-set f g a (suc n) (suc j) h t s =
    let e : a + suc j ≡ suc a + j = omega arith in
    ap (λ (b : Bool). b ∷ set (map f (from (suc a) n)) j true) (s a (λ q. omega arith))
    ∙ ap (λ (l : List Bool). g a ∷ l) (map-set f g (suc a) n j (omega arith) (ap g (sym e) ∙ t) (λ k q. s k (λ p. q (p ∙ e))))

-- Words of zeros, as many as hold a cover
pub range_none : (k n low : ℕ) → n * k ≡ cover_room → bits_in k (replicate n 0) ≡ range_bits low low
unfolding range_bits upto
range_none k n low e = bits_in_zeros k n ∙ ap (λ (m : ℕ). replicate m false) e ∙ sym (map-none (within (low, low)) 0 cover_room (none_within low))

pub range_next : (low i : ℕ) → low ≤ i → i < cover_room → set (range_bits low i) i true ≡ range_bits low (i + 1)
unfolding range_bits upto
range_next low i p h = map-set (within (low, i)) (within (low, i + 1)) 0 cover_room i h (within_in low (i + 1) (0 + i) (omega arith) (omega arith)) same
  where
    go : (k : ℕ) → (k ≡ 0 + i → ⊥) → (k < i) ⊎ ((k ≡ i) ⊎ (i < k)) → (k < low) ⊎ (low ≤ k) → within (low, i) k ≡ within (low, i + 1) k
    go k ne (inl q) (inl u) = rw (within-before low i k u, within-before low (i + 1) k u)
    go k ne (inl q) (inr u) = rw (within_in low i k u q, within_in low (i + 1) k u (omega arith))
    go k ne (inr (inl q)) u = absurd (ne (omega arith))
    go k ne (inr (inr q)) u = rw (within-after low i k (omega arith), within-after low (i + 1) k (omega arith))

    same : (k : ℕ) → (k ≡ 0 + i → ⊥) → within (low, i) k ≡ within (low, i + 1) k
    same k ne = go k ne (lt_eq_gt k i) (lt_or_le k low)

-- A turn: bit i set, by its word and its place there
pub bit-next : (k : ℕ) (z after : List ℕ) (low i m : ℕ) → 0 < k → i / k < length z → low ≤ i → i < cover_room → m ≡ 2 ^ (i % k) →
    after ≡ set z (i / k) (bit_or (get_or z (i / k) 0) m) → bits_in k z ≡ range_bits low i → bits_in k after ≡ range_bits low (i + 1)
bit-next k z after low i m some l p h v s e =
    ap (bits_in k) (s ∙ ap (λ (d : ℕ). set z (i / k) (bit_or (get_or z (i / k) 0) d)) v)
    ∙ bits_in_set k z (i / k) (i % k) l (mod-lt i some) ∙ ap (λ (j : ℕ). set (bits_in k z) j true) (div-add-mod' i k)
    ∙ ap (λ (l : List Bool). set l i true) e ∙ range_next low i p h
