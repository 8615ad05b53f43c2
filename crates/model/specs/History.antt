-- Ancestors among runs: a run's history. Assumes nothing.
use Rattle.std.specs.Prelude.{Bool, ◌||◌, List, [], ◌∷◌, ◌++◌, ℕ, length, get_or, ltb, eqb}
use Rattle.lists.specs.Lists.{any, filter, upto, mem}
use Rattle.model.specs.EventGraph.{EventGraph}

-- A table has a row of runs for each run; past its end a row is empty
unfoldable pub at : List (List ℕ) → ℕ → List ℕ
at t r = get_or t r []

-- Runs as the paper's graph: each run with its parent runs
abbrev pub run_graph : List (List ℕ) → EventGraph
run_graph parents = record { is_event = λ r. ltb r (length parents); parents = at parents }

-- m is one of the parents, or in the history of one
unfoldable pub reached : List (List ℕ) → List ℕ → ℕ → Bool
reached hs ps m = any (λ p. eqb m p || mem m (at hs p)) ps

-- The history of each run, rising, given those of the runs before: its ancestors in `run_graph`, as `history` of `Meaning` says
unfoldable pub histories_from : List (List ℕ) → List (List ℕ) → List (List ℕ)
histories_from hs [] = hs
histories_from hs (ps ∷ pss) = histories_from (hs ++ filter (reached hs ps) (upto (length hs)) ∷ []) pss

unfoldable pub histories : List (List ℕ) → List (List ℕ)
histories parents = histories_from [] parents
