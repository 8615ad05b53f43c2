-- The kinds of a cut's ranges. Assumes nothing.
use Rattle.std.specs.Prelude.{ℕ, true, false, eqb}
use Rattle.graph.specs.declared.cut.RangeKind.{RangeKind}
use Rattle.graph.specs.declared.cut.RangeKind.TheVariants.{Linear, Concurrent}

-- The kind that a word stands for: 0 is Linear, any other Concurrent
unfoldable pub kind_of : ℕ → RangeKind
kind_of word = elim (eqb word 0) [ true ↦ Linear | false ↦ Concurrent ]
