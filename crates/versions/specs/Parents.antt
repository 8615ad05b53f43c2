-- The parents of runs as the code holds them. Assumes nothing.
use Rattle.std.specs.Prelude.{List, ℕ, ◌-◌, length}
use Rattle.graph.specs.Rows.{row}
use Rattle.versions.specs.declared.rows.ParentRows.{ParentRows}

-- each run's parents
abbrev pub parents_in : ParentRows → ℕ → List ℕ
parents_in p = row p.starts.now p.items.now

-- how many runs there are
abbrev pub runs_in : ParentRows → ℕ
runs_in p = length p.starts.now - 1
