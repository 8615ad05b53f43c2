-- The parents of runs among the entries, a row for each run. Assumes nothing.
use Rattle.std.specs.Prelude.{◌≡◌, true, List, ℕ, ◌+◌, ◌≤◌, ◌<◌, length, get_or}
use Rattle.lists.specs.Lists.{below}
use Rattle.lists.specs.Areas.{part}
use Rattle.model.specs.Limits.{max_runs}

-- A run's parents, by where they start among the entries
unfoldable pub row : List ℕ → List ℕ → ℕ → List ℕ
row starts items r = part (get_or starts r 0) (get_or starts (r + 1) 0) items

-- Rows for n runs, each run's parents below it
pub record Rows (starts items : List ℕ) (n : ℕ) : Type 0 where
  pub few : n ≤ max_runs
  pub fits : n < length starts
  pub climb : (r : ℕ) → r < n → get_or starts r 0 ≤ get_or starts (r + 1) 0
  pub inside : (r : ℕ) → r < n → get_or starts (r + 1) 0 ≤ length items
  pub low : (r : ℕ) → r < n → below r (row starts items r) ≡ true
