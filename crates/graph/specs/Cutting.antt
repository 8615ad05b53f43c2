-- The cut from left to right. Assumes nothing.
use Rattle.std.specs.Prelude.{true, false, cond, List, [], ◌∷◌, ◌++◌, map, ℕ, ◌+◌, ltb, eqb}
use Rattle.model.specs.declared.record.EventRunIndex.{EventRunIndex}
use Rattle.model.specs.declared.answers.Written.{Written}
use Rattle.model.specs.Cut.{HistoryRange, linear, concurrent, range_words}
use Rattle.graph.specs.declared.records.Records.{Records}
use Rattle.graph.specs.Records.{put_all, state}

-- What was written, and where the Linear begins that is not written yet
pub record Cutting : Type 0 where
  pub written : Written × List ℕ
  pub first : EventRunIndex

-- The Linear from f to a, if it has a run
unfoldable pub pending : ℕ → ℕ → List HistoryRange
pending f a = cond (ltb f a) (linear f a ∷ []) []

-- The ranges joined from left to right: a Linear is pending from run f up to the next range, or up to the end
unfoldable pub join_on : ℕ → List (ℕ × ℕ) → ℕ → List HistoryRange
join_on f [] end = pending f end
join_on f (r ∷ rs) end =
    elim (eqb r.1 (r.0 + 1)) [
      | true ↦ join_on f rs end
      | false ↦ pending f r.0 ++ (concurrent r.0 r.1 ∷ join_on r.1 rs end)
    ]

-- Ranges written
unfoldable pub put_ranges : Written × List ℕ → List HistoryRange → Written × List ℕ
put_ranges w rs = put_all 3 w (map range_words rs)

-- The Linear that is pending, and a Concurrent after it
unfoldable pub closed : Cutting → ℕ → ℕ → Written × List ℕ
closed w a b = put_ranges w.written (pending w.first.0 a ++ (concurrent a b ∷ []))

-- One range more
unfoldable pub cut_on : Cutting → ℕ → ℕ → Cutting
cut_on w a b = cond (eqb b (a + 1)) w (record { written = closed w a b; first = record { 0 = b } })

-- What was written by the records, with the Linear's begin
abbrev pub cutting : EventRunIndex → Records → Cutting
cutting first w = record { written = state w; first = first }
