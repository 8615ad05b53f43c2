-- 01, "walk.rs": the steps of a walk, and steps as words. Assumes nothing.
use Rattle.std.specs.Prelude.{true, false, not, ◌&&◌, List, [], ◌∷◌, ◌++◌, map, ℕ, zero, suc, ◌+◌, ◌-◌, max, length, eqb}
use Rattle.std.proofs.Math.Option.{Option, none, some}
use Rattle.lists.specs.Lists.{filter, concat, upto, mem}
use Rattle.model.specs.Graph.{Graph, start}
use Rattle.model.specs.History.{at}
use Rattle.model.specs.Choice.{Range, newly_ready, choice}

-- A step; Retreat, Advance and Open have a first run and an end run, exclusive
pub data Step : Type 0 where
  retreat advance opened : ℕ → ℕ → Step
  apply : ℕ → Step

-- "consecutive run numbers joined": first and end
unfoldable pub add_run : ℕ → List (ℕ × ℕ) → List (ℕ × ℕ)
add_run m [] = (m, suc m) ∷ []
add_run m (s ∷ ss) = elim (eqb s.0 (suc m)) [ true ↦ (m, s.1) ∷ ss | false ↦ (m, suc m) ∷ s ∷ ss ]

unfoldable pub stretches : List ℕ → List (ℕ × ℕ)
stretches [] = []
stretches (m ∷ ms) = add_run m (stretches ms)

-- "chain by chain", the runs that are in one set and not in another; "the written steps name the graph's runs": the range begins at `a`
unfoldable pub moves : (ℕ → ℕ → Step) → ℕ → List (List ℕ) → List ℕ → List ℕ → List Step
moves step a [] s t = []
moves step a (c ∷ cs) s t =
    map (λ b. step (a + b.0) (a + b.1)) (stretches (filter (λ m. mem m s && not (mem m t)) c)) ++ moves step a cs s t

-- "retreats chain by chain, then advances ..; then Apply": a visit of r from the version `now`
unfoldable pub visit : Range → ℕ → List ℕ → ℕ → List Step
visit w a now r =
    let h : List ℕ = at w.history r in
    moves retreat a w.chains now h ++ (moves advance a w.chains h now ++ apply (a + r) ∷ [])

-- The visits that are left, at most `fuel`, given the version, the last run visited, those visited and those ready. "after a visit,
-- that run and its history" is the version
unfoldable pub visits : ℕ → Range → ℕ → ℕ → ℕ → List ℕ → Option ℕ → List ℕ → List ℕ → List Step
visits zero w a known first now last visited ready = []
visits (suc fuel) w a known first now last visited ready = elim (choice w now last ready) [
  | none ↦ []
  | some r ↦
      let seen : List ℕ = r ∷ visited in
      let rest : List ℕ = filter (λ x. not (eqb x r)) ready in
      visit w a now r ++ visits fuel w a known first (at w.history r ++ r ∷ []) (some r) seen (rest ++ newly_ready w known first seen rest)
]

-- All the steps of a walk: the version is first "the known runs"; "`first` below `known` counts as `known`"
unfoldable pub steps_of : Range → ℕ → ℕ → ℕ → List Step
steps_of w a known first =
    let f = max known first in
    visits (length w.parents) w a known f (upto known) none [] (newly_ready w known f [] [])

-- "Three words: kind 0 Retreat, 1 Advance, 2 Apply, 3 Open; first run; end run, exclusive (for Apply first + 1)"
unfoldable pub step_words : Step → List ℕ
step_words (retreat a b) = 0 ∷ a ∷ b ∷ []
step_words (advance a b) = 1 ∷ a ∷ b ∷ []
step_words (apply r) = 2 ∷ r ∷ suc r ∷ []
step_words (opened a b) = 3 ∷ a ∷ b ∷ []

unfoldable pub words : List Step → List ℕ
words ss = concat (map step_words ss)

-- "moved, the events in its retreats and advances"
unfoldable pub moved_in : Graph → List Step → ℕ
moved_in g [] = 0
moved_in g (retreat a b ∷ ss) = (start g b - start g a) + moved_in g ss
moved_in g (advance a b ∷ ss) = (start g b - start g a) + moved_in g ss
moved_in g (apply r ∷ ss) = moved_in g ss
moved_in g (opened a b ∷ ss) = moved_in g ss
