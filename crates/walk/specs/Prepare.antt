-- What it takes to prepare the tables of a range whose rows are laid, and what then stands in them; starts are the range's own. Assumes nothing.
use Rattle.std.specs.Prelude.{◌≡◌, true, List, ℕ, ◌+◌, ◌≤◌, ◌<◌, get_or, take}
use Rattle.lists.specs.Lists.{rising}
use Rattle.model.specs.History.{at}
use Rattle.tables.specs.declared.groups.Groups.{Groups}
use Rattle.tables.specs.declared.members.Members.{Members}
use Rattle.tables.specs.declared.rows.ChainTables.{ChainTables}
use Rattle.tables.specs.Jagged.{rows_in, Lies}
use Rattle.tables.specs.Laid.{grouped, Sound}
use Rattle.tables.specs.Tables.{Children}
use Rattle.tables.specs.Indexed.{Indexable, IndexOf}
use Rattle.tables.specs.Covers.{Weighted}
use Rattle.tables.specs.Sizes.{Sized}

-- Chains whose members can be listed, and rows that lie in their area
pub record Measurable (n : ℕ) (rs : List ℕ) (t : ChainTables) : Type 0 where
  pub index : Indexable n (take (n + 1) t.lens) (take (n + 1) t.chains) (take (n + 1) t.places)
  pub rows : Lies t.row_starts rs n

-- Members, sums and sizes
pub record Measured (starts : List ℕ) (n chains : ℕ) (rs : List ℕ) (t : ChainTables) (m : Members) (ss : List ℕ) : Type 0 where
  pub index : IndexOf starts n (take (n + 1) t.lens) (take (n + 1) t.chains) (take (n + 1) t.places) (take (n + 1) m.starts) (take (n + 1) m.runs) m.before
  pub sizes : Sized (take (n + 1) m.before) (take (n + 1) m.starts) (rows_in t.row_starts rs n) chains n ss

-- Starts that never fall, and parents that rise
pub record Relatable (starts : List ℕ) (n : ℕ) (gs : Groups) : Type 0 where
  pub sound : Sound gs.starts gs.items n
  pub rise : (x : ℕ) → rising (at (grouped gs.starts gs.items n) x) ≡ true
  pub order : (r : ℕ) → r < n → get_or starts r 0 ≤ get_or starts (r + 1) 0

-- Children and weights
pub record Related (starts : List ℕ) (n : ℕ) (gs cs : Groups) (ws : List ℕ) : Type 0 where
  pub children : Children (grouped gs.starts gs.items n) cs.starts cs.items
  pub weights : Weighted starts cs.starts cs.items n ws
