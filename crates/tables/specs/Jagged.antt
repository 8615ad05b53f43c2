-- Rows of words that lie one after another in a list. Assumes nothing.
use Rattle.std.specs.Prelude.{◌≡◌, true, List, map, ℕ, ◌+◌, ◌≤◌, ◌<◌, length, get_or}
use Rattle.std.specs.List.{range_with_len}
use Rattle.lists.specs.Lists.{mem}
use Rattle.lists.specs.Areas.{part}
use Rattle.model.specs.Limits.{max_runs}
use Rattle.model.specs.History.{at}

-- The rows: row r from its start up to the next one's
unfoldable pub rows_in : List ℕ → List ℕ → ℕ → List (List ℕ)
rows_in starts items n = map (λ r. part (get_or starts r 0) (get_or starts (r + 1) 0) items) (range_with_len 0 n)

-- Each of n rows lies in the list, and there are no more than a range has runs
pub record Lies (starts items : List ℕ) (n : ℕ) : Type 0 where
  pub few : n ≤ max_runs
  pub rise : (r : ℕ) → r < n → get_or starts r 0 ≤ get_or starts (r + 1) 0
  pub inside : (r : ℕ) → r < n → get_or starts (r + 1) 0 ≤ length items

-- Every item of a row is below the row's number, as a run's parents are
abbrev pub Below : List (List ℕ) → Type 0
Below rows = (r x : ℕ) → mem x (at rows r) ≡ true → x < r
