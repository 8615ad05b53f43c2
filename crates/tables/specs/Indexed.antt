-- What the code that lists chains' members and sums their events finds and leaves. Assumes nothing.
use Rattle.std.specs.Prelude.{◌≡◌, List, ℕ, zero, suc, ◌+◌, ◌≤◌, ◌<◌, ◌^◌, length, get_or}
use Rattle.model.specs.Limits.{max_runs}
use Rattle.tables.specs.Tables.{size_in}

-- The sum of f below n
unfoldable pub sum_below : (ℕ → ℕ) → ℕ → ℕ
sum_below f zero = 0
sum_below f (suc n) = sum_below f n + f n

-- A list of the sums of f below 0 to n
abbrev pub Summed : (ℕ → ℕ) → ℕ → List ℕ → Type 0
Summed f n t = (k : ℕ) → k ≤ n → get_or t k 0 ≡ sum_below f k

-- No word is above b
abbrev pub Bounded : ℕ → List ℕ → Type 0
Bounded b t = (k : ℕ) → get_or t k 0 ≤ b

-- none of the words 0 to n
abbrev pub BoundedTo : ℕ → ℕ → List ℕ → Type 0
BoundedTo n b t = (k : ℕ) → k ≤ n → get_or t k 0 ≤ b

-- Each of n runs stands at its place
abbrev pub Placed : (ℕ → ℕ) → ℕ → List ℕ → Type 0
Placed p n t = (m : ℕ) → m < n → get_or t (p m) 0 ≡ m

-- A run's place among all chains' members
abbrev pub pos : List ℕ → List ℕ → List ℕ → ℕ → ℕ
pos begins chain place m = get_or begins (get_or chain m 0) 0 + get_or place m 0

-- n runs have n places, and no two the same
pub record Scattered (begins chain place : List ℕ) (n : ℕ) : Type 0 where
  pub inside : (m : ℕ) → m < n → pos begins chain place m < n
  pub apart : (m k : ℕ) → m < k → k < n → pos begins chain place m ≡ pos begins chain place k → ⊥

-- Chains whose members can be listed: lengths, and each run's chain and place
pub record Indexable (n : ℕ) (lens chain place : List ℕ) : Type 0 where
  pub few : n ≤ max_runs
  pub short : Bounded max_runs lens
  pub scattered : (b : List ℕ) → Summed (λ i. get_or lens i 0) n b → Scattered b chain place n

-- The members listed (b where each chain's begin, m), and their events summed (e)
pub record IndexOf (starts : List ℕ) (n : ℕ) (lens chain place b m e : List ℕ) : Type 0 where
  pub begins : Summed (λ i. get_or lens i 0) n b
  pub begins_small : Bounded (2 ^ 18) b
  pub members : Placed (pos b chain place) n m
  pub members_long : n ≤ length m
  pub members_small : Bounded 511 m
  pub before : Summed (λ i. size_in starts (get_or m i 0)) n e
  pub before_small : BoundedTo n (2 ^ 41) e
