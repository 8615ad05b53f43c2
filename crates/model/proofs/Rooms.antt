-- The room that a walk needs: of at most 512 runs, rows of at most 131,328 words and at most 524,800 steps. Assumes nothing.
use Rattle.std.proofs.Common.{◌≡◌, refl, sym, Bool, true, false, not, ◌&&◌, List, [], ◌∷◌, ◌++◌, map, ℕ, zero, suc, ◌+◌, ◌-◌, ◌*◌, ◌/◌, ◌≤◌, max, arith, length, take, drop, length-append}
use Rattle.std.proofs.Common.{length-take, length-drop, leb, eqb, le-ltb}
use mathlib.Core.Option.{Option, none, some}
use lib.ListN.{length-map}
use Rattle.lists.specs.Lists.{all, filter, count, concat, upto, mem}
use Rattle.lists.proofs.Truth.{false_true}
use Rattle.lists.proofs.Counts.{filter-length}
use Rattle.model.specs.declared.answers.Refusal.TheVariants.{RowsTooLong}
use Rattle.model.specs.Graph.{Graph, runs}
use Rattle.model.specs.History.{at, histories}
use Rattle.model.specs.Range.{parents_in, join, chains_from, row, rows_from}
use Rattle.model.specs.Choice.{Range, range_of, newly_ready, choice}
use Rattle.model.specs.Steps.{Step, retreat, advance, apply, add_run, stretches, moves, visit, visits, steps_of}
use Rattle.model.specs.Walk.{WalkResult, wrote, unwalked, rows_into, rows_too_long, list_outcome, walk_range}
use Rattle.model.proofs.Histories.{history-length}
use Rattle.std.specs.Prelude.{Ok}

-- A range has no more runs than it spans
pub range_span : (g : Graph) (a b : ℕ) → length (parents_in g a b) ≤ b - a
unfolding parents_in
range_span g a b =
    omega (arith, length-map (take (b - a) (drop a g.parents)) (λ ps. map (λ p. p - a) (filter (λ p. leb a p) ps)), length-take (b - a) (drop a g.parents))

-- and no more than the graph has
pub range_runs : (g : Graph) (a b : ℕ) → length (parents_in g a b) ≤ runs g
unfolding parents_in runs
range_runs g a b =
    omega (
      arith,
      length-map (take (b - a) (drop a g.parents)) (λ ps. map (λ p. p - a) (filter (λ p. leb a p) ps)),
      length-take (b - a) (drop a g.parents),
      length-drop a g.parents,
    )

-- A run begins at most one chain
join_width : (r : ℕ) (h : List ℕ) (cs : List (List ℕ)) → length (join r h cs) ≤ suc (length cs)
unfolding join
join_width r h [] = omega arith
join_width r h (c ∷ cs) = go (all (λ m. mem m h) c) (join_width r h cs)
  where
    go : (t : Bool) → length (join r h cs) ≤ suc (length cs) →
        length {A = List ℕ} (elim t as (λ _. List (List ℕ)) [ true ↦ (c ++ r ∷ []) ∷ cs | false ↦ c ∷ join r h cs ]) ≤ suc (suc (length cs))
    go true ih = omega arith
    go false ih = omega arith

-- The most words of n rows after k chains have begun: k + 1, k + 2 and so on
most_words : ℕ → ℕ → ℕ
most_words k zero = 0
most_words k (suc n) = suc k + most_words (suc k) n

most_after_more : (k l n : ℕ) → k ≤ l → most_words k n ≤ most_words l n
unfolding most_words
most_after_more k l zero q = omega arith
most_after_more k l (suc n) q = omega (arith, most_after_more (suc k) (suc l) n (omega arith))

most_of_more : (k n m : ℕ) → n ≤ m → most_words k n ≤ most_words k m
unfolding most_words
most_of_more k zero m q = omega arith
most_of_more k (suc n) zero q = absurd (omega arith)
most_of_more k (suc n) (suc m) q = omega (arith, most_of_more (suc k) n m (omega arith))

-- The row of each run has a place for each chain begun so far
rows_from_fit : (r : ℕ) (cs hs : List (List ℕ)) → length (concat (rows_from r cs hs)) ≤ most_words (length cs) (length hs)
unfolding rows_from most_words row concat
rows_from_fit r cs [] = omega arith
rows_from_fit r cs (h ∷ hs) =
    omega (
      arith,
      length-append (row h (join r h cs)) (concat (rows_from (suc r) (join r h cs) hs)),
      length-map (join r h cs) (λ c. count (λ m. mem m h) c),
      join_width r h cs,
      rows_from_fit (suc r) (join r h cs) hs,
      most_after_more (length (join r h cs)) (suc (length cs)) (length hs) (join_width r h cs),
    )

most_at_limit : most_words 0 512 ≡ 131328
unfolding most_words
most_at_limit = refl

-- The rows of a range of a graph within its limit
pub rows_fit : (g : Graph) (a b : ℕ) → runs g ≤ 512 → length (concat (range_of g a b).rows) ≤ 131328
unfolding range_of
rows_fit g a b limit =
    let hs : List (List ℕ) = histories (parents_in g a b) in
    omega (
      arith,
      rows_from_fit 0 [] hs,
      most_of_more 0 (length hs) 512 (omega (arith, history-length (parents_in g a b), range_runs g a b)),
      most_at_limit,
    )

join-members : (r : ℕ) (h : List ℕ) (cs : List (List ℕ)) → length (concat (join r h cs)) ≡ suc (length (concat cs))
unfolding join concat
join-members r h [] = refl
join-members r h (c ∷ cs) = go (all (λ m. mem m h) c) (join-members r h cs)
  where
    go : (t : Bool) → length (concat (join r h cs)) ≡ suc (length (concat cs)) →
        length {A = ℕ} (concat (elim t as (λ _. List (List ℕ)) [ true ↦ (c ++ r ∷ []) ∷ cs | false ↦ c ∷ join r h cs ])) ≡ suc (length (c ++ concat cs))
    go true ih =
        omega (arith, length-append (c ++ r ∷ []) (concat cs), length-append c (r ∷ []), length-append c (concat cs))
    go false ih = omega (arith, ih, length-append c (concat (join r h cs)), length-append c (concat cs))

-- Every run stands in the chains once: they have as many members as there are runs
chains-members : (r : ℕ) (cs hs : List (List ℕ)) → length (concat (chains_from r cs hs)) ≡ length (concat cs) + length hs
unfolding chains_from
chains-members r cs [] = omega arith
chains-members r cs (h ∷ hs) = omega (arith, chains-members (suc r) (join r h cs) hs, join-members r h cs)

add_run_fit : (m : ℕ) (ss : List (ℕ × ℕ)) → length (add_run m ss) ≤ suc (length ss)
unfolding add_run
add_run_fit m [] = omega arith
add_run_fit m (s ∷ ss) = go (eqb s.0 (suc m))
  where
    go : (t : Bool) → length {A = ℕ × ℕ} (elim t as (λ _. List (ℕ × ℕ)) [ true ↦ (m, s.1) ∷ ss | false ↦ (m, suc m) ∷ s ∷ ss ]) ≤ suc (suc (length ss))
    go true = omega arith
    go false = omega arith

-- Stretches are no more than the runs that they join
stretches_fit : (ms : List ℕ) → length (stretches ms) ≤ length ms
unfolding stretches
stretches_fit [] = omega arith
stretches_fit (m ∷ ms) = omega (arith, add_run_fit m (stretches ms), stretches_fit ms)

-- Moves of one kind are no more than the members of the chains
moves_fit : (step : ℕ → ℕ → Step) (a : ℕ) (cs : List (List ℕ)) (s t : List ℕ) → length (moves step a cs s t) ≤ length (concat cs)
unfolding moves concat
moves_fit step a [] s t = omega arith
moves_fit step a (c ∷ cs) s t =
    let left : List ℕ = filter (λ m. mem m s && not (mem m t)) c in
    let named : List Step = map (λ b. step (a + b.0) (a + b.1)) (stretches left) in
    omega (
      arith,
      length-append named (moves step a cs s t),
      length-map (stretches left) (λ b. step (a + b.0) (a + b.1)),
      stretches_fit left,
      filter-length (λ m. mem m s && not (mem m t)) c,
      moves_fit step a cs s t,
      length-append c (concat cs),
    )

-- A visit of a walk of at most 512 runs: as many retreats, as many advances, one Apply
visit_fit : (w : Range) (a : ℕ) (now : List ℕ) (r : ℕ) → length (concat w.chains) ≤ 512 → length (visit w a now r) ≤ 1025
unfolding visit
visit_fit w a now r limit =
    let h : List ℕ = at w.history r in
    let back : List Step = moves retreat a w.chains now h in
    let forth : List Step = moves advance a w.chains h now in
    omega (
      arith,
      length-append back (forth ++ apply (a + r) ∷ []),
      length-append forth (apply (a + r) ∷ []),
      moves_fit retreat a w.chains now h,
      moves_fit advance a w.chains h now,
    )

-- As many visits as there is fuel, at most
visits_fit : (fuel : ℕ) (w : Range) (a known first : ℕ) (now : List ℕ) (last : Option ℕ) (visited ready : List ℕ) → length (concat w.chains) ≤ 512 →
    length (visits fuel w a known first now last visited ready) ≤ fuel * 1025
unfolding visits
visits_fit zero w a known first now last visited ready limit = omega arith
visits_fit (suc fuel) w a known first now last visited ready limit =
    go (choice w now last ready)
    (λ r. visits_fit fuel w a known first (at w.history r ++ r ∷ []) (some r) (r ∷ visited)
    (filter (λ x. not (eqb x r)) ready ++ newly_ready w known first (r ∷ visited) (filter (λ x. not (eqb x r)) ready)) limit)
  where
    later : ℕ → List Step
    later r = visits fuel w a known first (at w.history r ++ r ∷ []) (some r) (r ∷ visited)
        (filter (λ x. not (eqb x r)) ready ++ newly_ready w known first (r ∷ visited) (filter (λ x. not (eqb x r)) ready))

    go : (o : Option ℕ) → ((r : ℕ) → length (later r) ≤ fuel * 1025) →
        length {A = Step} (elim o as (λ _. List Step) [ none ↦ [] | some r ↦ visit w a now r ++ later r ]) ≤ suc fuel * 1025
    go none ih = omega arith
    go (some r) ih = omega (arith, length-append (visit w a now r) (later r), visit_fit w a now r limit, ih r)

-- The steps of a walk, by the runs of its range
pub steps_span : (g : Graph) (a b known first : ℕ) → runs g ≤ 512 → length (steps_of (range_of g a b) a known first) ≤ length (parents_in g a b) * 1025
unfolding steps_of range_of concat
steps_span g a b known first limit =
    let w : Range = range_of g a b in
    visits_fit (length (parents_in g a b)) w a known (max known first) (upto known) none [] (newly_ready w known (max known first) [] [])
    (omega (arith, chains-members 0 [] (histories (parents_in g a b)), history-length (parents_in g a b), range_runs g a b))

-- The steps of a walk of a graph within its limit
pub steps_fit : (g : Graph) (a b known first : ℕ) → runs g ≤ 512 → length (steps_of (range_of g a b) a known first) ≤ 524800
steps_fit g a b known first limit = omega (arith, steps_span g a b known first limit, range_runs g a b)

-- The rows fit into an area of 131,328 words
pub rows-enough : (g : Graph) (a b : ℕ) (rows : List ℕ) → runs g ≤ 512 → 131328 ≤ length rows → rows_too_long (range_of g a b) rows ≡ false
unfolding rows_too_long
rows-enough g a b rows limit room =
    le-ltb (length rows) (length (concat (range_of g a b).rows)) (omega (arith, rows_fit g a b limit))

list_enough : (room : ℕ) (ss : List Step) → length ss ≤ room → list_outcome room ss ≡ Ok tt
unfolding list_outcome
list_enough room ss q = rw (le-ltb room (length ss) q)

-- With room for 131,328 row words and 525,312 steps no walk is refused
pub walk_done : (g : Graph) → runs g ≤ 512 → (a b known first : ℕ) (rows steps : List ℕ) → 131328 ≤ length rows → 1575936 ≤ length steps →
    (walk_range g a b known first rows steps).0.outcome ≡ Ok tt
unfolding walk_range wrote
walk_done g limit a b known first rows steps wide long = go (rows_too_long (range_of g a b) rows) (rows-enough g a b rows limit wide)
  where
    w : Range
    w = range_of g a b

    ss : List Step
    ss = steps_of w a known first

    go : (t : Bool) → t ≡ false →
        (elim t as (λ _. WalkResult) [
          | true ↦ unwalked RowsTooLong (rows_into w rows) steps
          | false ↦ wrote g (list_outcome (length steps / 3) ss) (take (length steps / 3) ss) (rows_into w rows) steps
        ]).0.outcome ≡ Ok tt
    go true e = false_true (sym e)
    go false e = list_enough (length steps / 3) ss (omega (arith, steps_fit g a b known first limit))
