-- The events of one version, a distance counted up to a limit, and the sizes of the runs' histories. Assumes nothing.
use Rattle.std.specs.Prelude.{◌≡◌, ◌⊎◌, List, ℕ, zero, suc, ◌+◌, ◌-◌, ◌≤◌, ◌<◌, get_or}
use Rattle.lists.specs.Areas.{part}
use Rattle.model.specs.History.{at}

-- A list of numbers at most b
abbrev pub Bounded : ℕ → List ℕ → Type 0
Bounded b t = (k : ℕ) → get_or t k 0 ≤ b

-- A count that is full, or was broken off past the limit
abbrev pub Within : ℕ → ℕ → ℕ → Type 0
Within limit full r = (r ≡ full) ⊎ ((limit < r) × (r ≤ full))

-- The events of a version along one chain: b the prefix sums, s where each chain's members begin
abbrev pub share_at : List ℕ → List ℕ → List ℕ → ℕ → ℕ
share_at b s row c = get_or b (get_or s c 0 + get_or row c 0) 0 - get_or b (get_or s c 0) 0

-- along k chains, from the c-th on
unfoldable pub events_from : List ℕ → List ℕ → List ℕ → ℕ → ℕ → ℕ
events_from b s row c zero = 0
events_from b s row c (suc k) = share_at b s row c + events_from b s row (c + 1) k

-- A run's row, of rows that start at `starts`
abbrev pub row_in : List ℕ → List ℕ → ℕ → List ℕ
row_in starts rows r = part (get_or starts r 0) (get_or starts (r + 1) 0) rows

-- The events of each of n runs' histories, by their rows
abbrev pub Sized : List ℕ → List ℕ → List (List ℕ) → ℕ → ℕ → List ℕ → Type 0
Sized before begins rows chains n sizes = (r : ℕ) → r < n → get_or sizes r 0 ≡ events_from before begins (at rows r) 0 chains
