-- What a walk is given: its range's tables, and that they are those of the range. Assumes nothing.
use Rattle.std.specs.Prelude.{◌≡◌, true, List, ℕ, ◌+◌, ◌≤◌, ◌<◌, length, get_or, take}
use Rattle.lists.specs.Lists.{rising}
use Rattle.lists.specs.Areas.{part}
use Rattle.model.specs.Limits.{max_runs}
use Rattle.model.specs.History.{at, histories}
use Rattle.model.specs.Choice.{Range}
use Rattle.tables.specs.Jagged.{rows_in}
use Rattle.tables.specs.Laid.{grouped, Sound, chs, chain_of, place_of, row_at}
use Rattle.tables.specs.Tables.{Listed, Sums, Children}
use Rattle.tables.specs.Sizes.{row_in, Sized}
use Rattle.walk.specs.Ranges.{range_by, offsets}
use Rattle.walk.specs.declared.areas.Areas.{Areas}

-- What a walk is given: where the graph's runs start, the range's rows and tables, its first run, how many runs and chains it has, how
-- many runs are known and how many come first
pub record Given : Type 0 where
  pub starts : List ℕ
  pub rows : List ℕ
  pub areas : Areas
  pub base : ℕ
  pub runs : ℕ
  pub chains : ℕ
  pub known : ℕ
  pub first : ℕ

-- The tables' lists
unfoldable pub row_starts : Given → List ℕ
row_starts g = g.areas.chains.row_starts

unfoldable pub chains_in : Given → List ℕ
chains_in g = g.areas.chains.chains

unfoldable pub places_in : Given → List ℕ
places_in g = g.areas.chains.places

unfoldable pub begins_in : Given → List ℕ
begins_in g = take (g.runs + 1) g.areas.members.starts

unfoldable pub members_in : Given → List ℕ
members_in g = take (g.runs + 1) g.areas.members.runs

unfoldable pub child_starts : Given → List ℕ
child_starts g = g.areas.children.starts

unfoldable pub weights_in : Given → List ℕ
weights_in g = g.areas.weights

unfoldable pub sums_in : Given → List ℕ
sums_in g = take (g.runs + 1) g.areas.members.before

-- A run's row, and its children
unfoldable pub row_for : Given → ℕ → List ℕ
row_for g r = row_in (row_starts g) g.rows r

unfoldable pub children_for : Given → ℕ → List ℕ
children_for g r = part (get_or (child_starts g) r 0) (get_or (child_starts g) (r + 1) 0) g.areas.children.items

-- The range's parents
unfoldable pub parents_for : Given → List (List ℕ)
parents_for g = grouped g.areas.parents.starts g.areas.parents.items g.runs

-- The range, and its chains
unfoldable pub range_for : Given → Range
range_for g = range_by (offsets g.starts g.base g.runs) (parents_for g)

unfoldable pub chains_for : Given → List (List ℕ)
chains_for g = chs (histories (parents_for g)) (length (parents_for g))

-- The tables are those of the range
pub record Prepared (g : Given) : Type 0 where
  pub few : g.base + g.runs ≤ max_runs
  pub known : g.known ≤ g.first
  pub first : g.first ≤ g.runs
  pub sound : Sound g.areas.parents.starts g.areas.parents.items g.runs
  pub rise : (x : ℕ) → rising (at (parents_for g) x) ≡ true
  pub number : g.chains ≡ length (chains_for g)
  pub lies : (r : ℕ) → r < g.runs → (get_or (row_starts g) r 0 ≤ get_or (row_starts g) (r + 1) 0) × (get_or (row_starts g) (r + 1) 0 ≤ length g.rows)
  pub rows : (r : ℕ) → r < g.runs → row_for g r ≡ row_at (histories (parents_for g)) r
  pub chain : (r : ℕ) → r < g.runs → get_or (chains_in g) r 0 ≡ chain_of (histories (parents_for g)) r
  pub place : (r : ℕ) → r < g.runs → get_or (places_in g) r 0 ≡ place_of (histories (parents_for g)) r
  pub listed : Listed (chains_for g) (begins_in g) (members_in g)
  pub sums : Sums (chains_for g) (λ m. get_or (range_for g).sizes m 0) (begins_in g) (sums_in g)
  pub children : Children (parents_for g) (child_starts g) g.areas.children.items
  pub weights : (r : ℕ) → r < g.runs → get_or (weights_in g) r 0 ≡ get_or (range_for g).weight r 0
  pub sizes : Sized (sums_in g) (begins_in g) (rows_in (row_starts g) g.rows g.runs) g.chains g.runs g.areas.sizes
