-- 01, "walk.rs": what a walk knows of its range, which runs are ready, and which one it visits next. Assumes nothing.
use Rattle.std.specs.Prelude.{Bool, true, false, not, cond, ◌&&◌, ◌||◌, List, [], ◌∷◌, ℕ, ◌+◌, ◌-◌, length, get_or, take, ltb, eqb}
use Rattle.std.proofs.Math.Option.{Option, none, some}
use Rattle.lists.specs.Lists.{all, filter, sum, reverse, from, upto, mem, same}
use Rattle.model.specs.Limits.{max_weighed}
use Rattle.model.specs.EventGraph.{available}
use Rattle.model.specs.Graph.{Graph}
use Rattle.model.specs.History.{at, histories}
use Rattle.model.specs.Range.{parents_in, starts_in, sizes_of, chains_from, rows_from}
use Rattle.model.specs.Cover.{weights}

-- A range's runs: parents, events, histories, chains, rows, weights. A set of runs is a list of its members
pub record Range : Type 0 where
  pub parents : List (List ℕ)
  pub sizes : List ℕ
  pub history : List (List ℕ)
  pub chains : List (List ℕ)
  pub rows : List (List ℕ)
  pub weight : List ℕ

unfoldable pub range_of : Graph → ℕ → ℕ → Range
range_of g a b =
    let ps : List (List ℕ) = parents_in g a b in
    let ss : List ℕ = starts_in g a b in
    let hs : List (List ℕ) = histories ps in
    record { parents = ps; sizes = sizes_of ss; history = hs; chains = chains_from 0 [] hs; rows = rows_from 0 [] hs; weight = weights ss ps }

-- visited, or below `known`
unfoldable pub passed : ℕ → List ℕ → ℕ → Bool
passed known visited r = ltb r known || mem r visited

-- "all parents visited or below `known`; and, for runs from `first` on, all of known..first visited"
unfoldable pub is_ready : Range → ℕ → ℕ → List ℕ → ℕ → Bool
is_ready w known first visited r =
    available (passed known visited) (at w.parents r) r &&
    (elim (ltb r first) [ true ↦ true | false ↦ all (λ k. mem k visited) (from known (first - known)) ])

-- "the newly ready follow in run order": those that are ready and not in the list yet
unfoldable pub newly_ready : Range → ℕ → ℕ → List ℕ → List ℕ → List ℕ
newly_ready w known first visited ready = filter (λ r. is_ready w known first visited r && not (mem r ready)) (upto (length w.parents))

-- "the events in just one of" two sets of runs
unfoldable pub apart : Range → List ℕ → List ℕ → ℕ
apart w s t =
    sum (λ m. cond (not (mem m t)) (get_or w.sizes m 0) 0) s +
    sum (λ m. cond (not (mem m s)) (get_or w.sizes m 0) 0) t

-- The best so far: cost, weight, run
abbrev pub Best : Type 0
Best = Option (ℕ × ℕ × ℕ)

-- "the only in-range parent is the last run visited"
unfoldable pub is_last : Option ℕ → List ℕ → Bool
is_last none ps = false
is_last (some l) ps = same ps (l ∷ [])

-- "once the best cost is 0"
unfoldable pub free : Best → Bool
free none = false
free (some b) = eqb b.0 0

-- "Lowest (cost, weight) wins; a tie stays with the newer", which was weighed first
unfoldable pub better : ℕ → ℕ → ℕ → Best → Best
better c w r none = some (c, w, r)
better c w r (some b) = elim (ltb c b.0 || (eqb c b.0 && ltb w b.1)) [ true ↦ some (c, w, r) | false ↦ some b ]

-- "Cost 0 if ..; otherwise, once the best cost is 0, the run is passed over; otherwise the events in just one of the current version
-- and its history"
unfoldable pub weigh : Range → List ℕ → Option ℕ → ℕ → Best → Best
weigh w now last r best = elim (is_last last (at w.parents r)) [
  | true ↦ better 0 (get_or w.weight r 0) r best
  | false ↦ elim (free best) [
    | true ↦ best
    | false ↦ better (apart w now (at w.history r)) (get_or w.weight r 0) r best
  ]
]

unfoldable pub weigh_all : Range → List ℕ → Option ℕ → List ℕ → Best → Best
weigh_all w now last [] best = best
weigh_all w now last (r ∷ rs) best = weigh_all w now last rs (weigh w now last r best)

unfoldable pub chosen : Best → Option ℕ
chosen none = none
chosen (some b) = some b.2

-- "the last 64 ready runs, newest first", given the current version and the last run visited
unfoldable pub choice : Range → List ℕ → Option ℕ → List ℕ → Option ℕ
choice w now last ready = chosen (weigh_all w now last (take max_weighed (reverse [] ready)) none)
