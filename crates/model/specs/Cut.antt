-- 01, "lib.rs": `split_at_critical_versions_from`, the cut, on every input. Assumes nothing.
use Rattle.std.specs.Prelude.{true, false, not, cond, ◌&&◌, List, [], ◌∷◌, map, ℕ, suc, ◌/◌, length, take, leb, ltb, eqb, Ok, Err}
use Rattle.lists.specs.Lists.{filter, concat, mem}
use Rattle.lists.specs.Areas.{over}
use Rattle.model.specs.declared.record.CausalGraph.{CausalGraph}
use Rattle.model.specs.declared.answers.Written.{Written}
use Rattle.model.specs.declared.answers.Refusal.{Refusal}
use Rattle.model.specs.Refusals.{refusal, first_of, Outcome}
use Rattle.model.specs.Graph.{Graph, runs, marks}
use Rattle.model.specs.Record.{view}
use Rattle.model.specs.Broken.{broken}

-- A range of runs between two critical versions: first run and end run, exclusive
pub data HistoryRange : Type 0 where
  linear concurrent : ℕ → ℕ → HistoryRange

-- "from each mark to the next, or to the run count, lies a range"
unfoldable pub ranges_from : List ℕ → ℕ → List (ℕ × ℕ)
ranges_from [] end = []
ranges_from (a ∷ []) end = (a, end) ∷ []
ranges_from (a ∷ b ∷ ms) end = (a, b) ∷ ranges_from (b ∷ ms) end

-- a single-run range before ranges that are joined already
unfoldable pub join_linear : ℕ → ℕ → List HistoryRange → List HistoryRange
join_linear a b [] = linear a b ∷ []
join_linear a b (linear c d ∷ rs) = linear a d ∷ rs
join_linear a b (concurrent c d ∷ rs) = linear a b ∷ concurrent c d ∷ rs

-- "single-run ranges that follow one another join into one Linear, the rest are Concurrent"
unfoldable pub join_ranges : List (ℕ × ℕ) → List HistoryRange
join_ranges [] = []
join_ranges (r ∷ rs) = elim (eqb r.1 (suc r.0)) [ true ↦ join_linear r.0 r.1 (join_ranges rs) | false ↦ concurrent r.0 r.1 ∷ join_ranges rs ]

-- the ranges from run `from`, which is marked
unfoldable pub cut_from : Graph → ℕ → List HistoryRange
cut_from g f = join_ranges (ranges_from (filter (λ m. leb f m) (marks g)) (runs g))

-- "It writes kind (0 Linear, 1 Concurrent), first run, end run (exclusive)"
unfoldable pub range_words : HistoryRange → List ℕ
range_words (linear a b) = 0 ∷ a ∷ b ∷ []
range_words (concurrent a b) = 1 ∷ a ∷ b ∷ []

-- Records of `size` words into a lent list; with too short a list 11, "the whole records that fit", and the count tells how many
unfoldable pub writing : ℕ → List (List ℕ) → List ℕ → Written × List ℕ
writing size records lent =
    let room = length lent / size in (
      record {
        count = length (take room records);
        outcome = cond (ltb room (length records)) (Err (refusal 11)) (Ok tt);
      },
      over (concat (take room records)) lent,
    )

-- Refused before anything is written: "lists untouched", and the count is 0
unfoldable pub unwritten : Refusal → List ℕ → Written × List ℕ
unwritten r lent = (record { count = 0; outcome = Err r }, lent)

-- Refusals 1, 9, 10. "With no runs, any `from` gives an empty list"
unfoldable pub cut_outcome : CausalGraph → ℕ → Outcome
cut_outcome g f =
    let held = ltb 0 (runs (view g)) in
    first_of ((broken g, 1) ∷ (held && leb (runs (view g)) f, 9) ∷ (held && not (mem f (marks (view g))), 10) ∷ [])

-- `split_at_critical_versions_from(from)` into a lent list, and the list afterwards
unfoldable pub cut_of : CausalGraph → ℕ → List ℕ → Written × List ℕ
cut_of g f lent = elim (cut_outcome g f) [
  | Ok _ ↦ writing 3 (map range_words (cut_from (view g) f)) lent
  | Err r ↦ unwritten r lent
]
