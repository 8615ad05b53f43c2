-- Covers in words, so many to a run, and the weights of a range. Assumes nothing.
use Rattle.std.specs.Prelude.{◌≡◌, Bool, true, ◌&&◌, List, [], ◌∷◌, ◌++◌, map, ℕ, zero, suc, ◌+◌, ◌-◌, ◌*◌, ◌/◌, ◌%◌, ◌≤◌, ◌<◌, length, get_or, take, leb, ltb, eqb}
use Rattle.std.specs.Int.Bits.{bit_or}
use Rattle.lists.specs.Lists.{upto, mem, ceil}
use Rattle.lists.specs.Areas.{part}
use Rattle.model.specs.Limits.{cover_bits, max_runs}
use Rattle.model.specs.History.{at}
use Rattle.model.specs.Cover.{either, weights}
use Rattle.tables.specs.Lanes.{lane}
use Rattle.tables.specs.Tables.{Children}

-- The bits of a word. How wide a word is stands here and at the head of src/covers.rt, and nowhere else
abbrev pub word_bits : ℕ
word_bits = 8

-- The bits of a run's words: the definition's, and one that is never set
abbrev pub cover_room : ℕ
cover_room = cover_bits + 1

-- The words of a run
abbrev pub cover_words : ℕ
cover_words = cover_room / word_bits

-- The lowest k bits of a number, the lowest first
unfoldable pub bits_of : ℕ → ℕ → List Bool
bits_of zero x = []
bits_of (suc k) x = eqb (x % 2) 1 ∷ bits_of k (x / 2)

-- The bits of words of k bits, one word after another
unfoldable pub bits_in : ℕ → List ℕ → List Bool
bits_in k [] = []
bits_in k (x ∷ xs) = bits_of k x ++ bits_in k xs

-- The bits of run r's cover, those of the area's r-th words
unfoldable pub cover_at : List ℕ → ℕ → List Bool
cover_at covers r = bits_in word_bits (lane r cover_words covers)

-- The bits from low up to, not including, high, of a run's words
unfoldable pub range_bits : ℕ → ℕ → List Bool
range_bits low high = map (λ k. leb low k && ltb k high) (upto cover_room)

-- Words joined place by place
unfoldable pub join_words : List ℕ → List ℕ → List ℕ
join_words [] ys = []
join_words (x ∷ xs) [] = x ∷ xs
join_words (x ∷ xs) (y ∷ ys) = bit_or x y ∷ join_words xs ys

-- Bits joined with the covers of runs
unfoldable pub join_of : List Bool → (ℕ → List Bool) → List ℕ → List Bool
join_of bits cover [] = bits
join_of bits cover (x ∷ xs) = either (cover x) (join_of bits cover xs)

-- Each run's cover lies in the area
unfoldable pub Inside : List ℕ → List ℕ → Type 0
Inside covers runs = (x : ℕ) → mem x runs ≡ true → x * cover_words + cover_words ≤ length covers

-- How far into the range run r starts
unfoldable pub offset : List ℕ → ℕ → ℕ
offset starts r = get_or starts r 0 - get_or starts 0 0

-- Run r's own bits and its children's
unfoldable pub run_bits : List ℕ → ℕ → List ℕ → List ℕ → List ℕ → ℕ → List Bool
run_bits starts per begins children covers r =
    join_of (range_bits (offset starts r / per) (ceil (offset starts (r + 1)) per)) (cover_at covers) (part (get_or begins r 0) (get_or begins (r + 1) 0) children)

-- Run r's cover is written, those of later runs are kept, and so is the area's length
pub record Covered (r : ℕ) (bits : List Bool) (covers covers₀ : List ℕ) : Type 0 where
  pub size : length covers ≡ length covers₀
  pub own : cover_at covers r ≡ bits
  pub later : (x : ℕ) → r < x → cover_at covers x ≡ cover_at covers₀ x

-- Starts of n runs that never fall, and children of each that are later runs
pub record Weighable (starts begins children : List ℕ) (n : ℕ) : Type 0 where
  pub few : n ≤ max_runs
  pub rise : (r : ℕ) → r < n → get_or starts r 0 ≤ get_or starts (r + 1) 0
  pub climb : (r : ℕ) → r < n → get_or begins r 0 ≤ get_or begins (r + 1) 0
  pub inside : (r : ℕ) → r < n → get_or begins (r + 1) 0 ≤ length children
  pub later : (r x : ℕ) → r < n → mem x (part (get_or begins r 0) (get_or begins (r + 1) 0) children) ≡ true → (r < x) × (x < n)

-- Where each of n runs starts, as an offset within the range, and where the last ends
unfoldable pub offsets : List ℕ → ℕ → List ℕ
offsets starts n = map (λ s. s - get_or starts 0 0) (take (n + 1) starts)

-- The weights of n runs are those of the definition, for the parents whose children are given
unfoldable pub Weighted : List ℕ → List ℕ → List ℕ → ℕ → List ℕ → Type 0
Weighted starts begins children n ws =
    (pss : List (List ℕ)) → Children pss begins children → length pss ≡ n → ((r p : ℕ) → mem p (at pss r) ≡ true → p < r) →
    (r : ℕ) → r < n → get_or ws r 0 ≡ get_or (weights (offsets starts n) pss) r 0
