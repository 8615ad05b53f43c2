-- 01, "Beside it": the concurrency list, in the order of 02's F-2, on every input. (Archive points: specs/Archive.) Assumes nothing.
use Rattle.std.specs.Prelude.{Bool, not, ◌&&◌, List, [], ◌∷◌, ℕ, length, leb, ltb, eqb, Ok, Err}
use Rattle.lists.specs.Lists.{filter, mem, upto}
use Rattle.lists.specs.Areas.{over}
use Rattle.model.specs.declared.record.CausalGraph.{CausalGraph}
use Rattle.model.specs.declared.answers.Written.{Written}
use Rattle.model.specs.Refusals.{first_of, Outcome}
use Rattle.model.specs.Graph.{Graph, runs}
use Rattle.model.specs.Record.{view}
use Rattle.model.specs.Broken.{broken}
use Rattle.model.specs.Cut.{unwritten}
use Rattle.model.specs.History.{at, histories}

-- "all runs neither ancestor nor descendant nor itself": q is concurrent with r
unfoldable pub concurrent_run : Graph → ℕ → ℕ → Bool
concurrent_run g r q =
    let hs : List (List ℕ) = histories g.parents in
    ltb q (runs g) && not (mem q (at hs r)) && not (mem r (at hs q)) && not (eqb q r)

-- The concurrency list of run r. 02, F-2: it "shall rise by run number"
unfoldable pub concurrency_list : Graph → ℕ → List ℕ
concurrency_list g r = filter (concurrent_run g r) (upto (runs g))

-- Refusals 1, 9, 11
unfoldable pub concurrency_outcome : CausalGraph → ℕ → List ℕ → Outcome
concurrency_outcome g r lent =
    first_of (
    (broken g, 1) ∷
    (leb (runs (view g)) r, 9) ∷
    (ltb (length lent) (length (concurrency_list (view g) r)), 11) ∷ [])

-- The concurrency list of a run into a lent list, from its start; the rest keeps its value, and under a refusal, 11 too, all of it does
unfoldable pub concurrency_list_of : CausalGraph → ℕ → List ℕ → Written × List ℕ
concurrency_list_of g r lent =
    let qs : List ℕ = concurrency_list (view g) r in
    elim (concurrency_outcome g r lent) [ Ok _ ↦ (record { count = length qs; outcome = Ok tt }, over qs lent) | Err n ↦ unwritten n lent ]
