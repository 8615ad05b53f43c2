-- The ranges of a cut as records of three words: kind (0 Linear, else Concurrent), first run, end run (exclusive). Assumes nothing.
use Rattle.std.specs.Prelude.{List, map, ℕ, ◌+◌, ◌≤◌, ◌<◌, length, get_or}
use Rattle.model.specs.History.{at}
use Rattle.model.specs.Cut.{HistoryRange, linear, concurrent}
use Rattle.model.specs.declared.record.CausalGraph.{CausalGraph}
use Rattle.graph.specs.declared.cut.RangeKind.{RangeKind}
use Rattle.graph.specs.declared.cut.RangeKind.TheVariants.{Linear, Concurrent}
use Rattle.graph.specs.Kinds.{kind_of}
use Rattle.walk.specs.Ranges.{ArraysOf}

-- A range by its kind and its runs, and by a record
unfoldable pub range_by : RangeKind → ℕ → ℕ → HistoryRange
range_by Linear a b = linear a b
range_by Concurrent a b = concurrent a b

unfoldable pub range_in : List ℕ → HistoryRange
range_in r = range_by (kind_of (get_or r 0 0)) (get_or r 1 0) (get_or r 2 0)

-- Some records
unfoldable pub ranges_in : List (List ℕ) → List HistoryRange
ranges_in rs = map range_in rs

-- Each is a range of a graph's runs, and lies after the one before it
pub record Tiled (g : CausalGraph) (rs : List (List ℕ)) : Type 0 where
  pub order : (i : ℕ) → i < length rs → get_or (at rs i) 1 0 ≤ get_or (at rs i) 2 0
  pub arrays : (i : ℕ) → i < length rs → ArraysOf g (get_or (at rs i) 2 0)
  pub next : (i : ℕ) → i + 1 < length rs → get_or (at rs i) 2 0 ≤ get_or (at rs (i + 1)) 1 0
