-- The run numbers in a replay's steps are at most the run count. Assumes nothing.
use Rattle.std.proofs.Common.{Bool, true, false, not, ◌&&◌, List, [], ◌∷◌, ◌++◌, map, ℕ, zero, suc, ◌+◌, ◌-◌, ◌<◌, ◌≤◌, max, arith, length, take, ltb, eqb}
use mathlib.Core.Option.{Option, none, some}
use Rattle.lists.specs.Lists.{all, filter, from, upto, mem}
use Rattle.lists.proofs.Each.{All, all_map, all_append, all_filter, all_from}
use Rattle.model.specs.declared.answers.Refusal.TheVariants.{ListTooShort, RowsTooLong}
use Rattle.model.specs.Graph.{Graph, runs}
use Rattle.model.specs.Cut.{HistoryRange, linear, concurrent, cut_from}
use Rattle.model.specs.History.{at, histories}
use Rattle.model.specs.Range.{parents_in, join, chains_from}
use Rattle.model.specs.Choice.{Range, range_of, is_ready, newly_ready, choice}
use Rattle.model.specs.Steps.{Step, retreat, advance, opened, apply, add_run, stretches, moves, visit, visits, steps_of}
use Rattle.model.specs.Walk.{rows_into, rows_too_long}
use Rattle.model.specs.Replay.{Replayed, replay_range, replay_ranges}
use Rattle.model.proofs.Histories.{history-length}
use Rattle.model.proofs.Choosing.{FineRun, choice_fine}
use Rattle.model.proofs.Rooms.{range_span}
use Rattle.model.proofs.RoomsReplay.{Laid, cut_laid}
use Rattle.std.specs.Prelude.{Ok, Err}
use Rattle.model.specs.Refusals.{Outcome}

-- A step, and steps, whose numbers are at most n
abbrev pub Small : ℕ → Step → Type 0
Small n (retreat a b) = (a ≤ n) × (b ≤ n)
Small n (advance a b) = (a ≤ n) × (b ≤ n)
Small n (opened a b) = (a ≤ n) × (b ≤ n)
Small n (apply r) = r ≤ n

abbrev pub Smalls : ℕ → List Step → Type 0
Smalls n [] = Unit {0}
Smalls n (s ∷ ss) = Small n s × Smalls n ss

smalls_append : (n : ℕ) (xs ys : List Step) → Smalls n xs → Smalls n ys → Smalls n (xs ++ ys)
smalls_append n [] ys h k = k
smalls_append n (x ∷ xs) ys h k = (h.0, smalls_append n xs ys h.1 k)

smalls_take : (n k : ℕ) (xs : List Step) → Smalls n xs → Smalls n (take k xs)
smalls_take n zero xs h = tt
smalls_take n (suc k) [] h = tt
smalls_take n (suc k) (x ∷ xs) h = (h.0, smalls_take n k xs h.1)

-- Chains of runs below n
abbrev Chains : ℕ → List (List ℕ) → Type 0
Chains n [] = Unit {0}
Chains n (c ∷ cs) = All (λ x. x < n) c × Chains n cs

join_in : (n r : ℕ) (h : List ℕ) (cs : List (List ℕ)) → r < n → Chains n cs → Chains n (join r h cs)
unfolding join
join_in n r h [] l C = ((l, tt), tt)
join_in n r h (c ∷ cs) l C = go (all (λ m. mem m h) c) (join_in n r h cs l C.1)
  where
    go : (t : Bool) → Chains n (join r h cs) → Chains n (elim t as (λ _. List (List ℕ)) [ true ↦ (c ++ r ∷ []) ∷ cs | false ↦ c ∷ join r h cs ])
    go true k = (all_append (λ x. x < n) c (r ∷ []) C.0 (l, tt), C.1)
    go false k = (C.0, k)

chains_in_lem : (n r : ℕ) (cs hs : List (List ℕ)) → r + length hs ≤ n → Chains n cs → Chains n (chains_from r cs hs)
unfolding chains_from
chains_in_lem n r cs [] h C = C
chains_in_lem n r cs (x ∷ hs) h C = chains_in_lem n (suc r) (join r x cs) hs (omega arith) (join_in n r x cs (omega arith) C)

-- Stretches of runs below n
abbrev Pairs : ℕ → List (ℕ × ℕ) → Type 0
Pairs n [] = Unit {0}
Pairs n (s ∷ ss) = (s.0 ≤ n) × (s.1 ≤ n) × Pairs n ss

add_in_lem : (n m : ℕ) (ss : List (ℕ × ℕ)) → m < n → Pairs n ss → Pairs n (add_run m ss)
unfolding add_run
add_in_lem n m [] l P = (omega arith, omega arith, tt)
add_in_lem n m (s ∷ ss) l P = go (eqb s.0 (suc m))
  where
    go : (t : Bool) → Pairs n (elim t as (λ _. List (ℕ × ℕ)) [ true ↦ (m, s.1) ∷ ss | false ↦ (m, suc m) ∷ s ∷ ss ])
    go true = (omega arith, P.1, P.2)
    go false = (omega arith, omega arith, P)

stretches_in : (n : ℕ) (ms : List ℕ) → All (λ x. x < n) ms → Pairs n (stretches ms)
unfolding stretches
stretches_in n [] h = tt
stretches_in n (m ∷ ms) h = add_in_lem n m (stretches ms) h.0 (stretches_in n ms h.1)

-- The moves, visits and steps of a walk of a range of n runs from a on
module _ (N a n : ℕ) (i : a + n ≤ N) where
  module _ (step : ℕ → ℕ → Step) (small : (x y : ℕ) → x ≤ N → y ≤ N → Small N (step x y)) where
    pairs_in : (ss : List (ℕ × ℕ)) → Pairs n ss → Smalls N (map (λ b. step (a + b.0) (a + b.1)) ss)
    pairs_in [] P = tt
    pairs_in (s ∷ ss) P = (small (a + s.0) (a + s.1) (omega (arith, P.0)) (omega (arith, P.1)), pairs_in ss P.2)

    moves_in : (cs : List (List ℕ)) (s t : List ℕ) → Chains n cs → Smalls N (moves step a cs s t)
    unfolding moves
    moves_in [] s t C = tt
    moves_in (c ∷ cs) s t C =
        let left : List ℕ = filter (λ m. mem m s && not (mem m t)) c in
        smalls_append N (map (λ b. step (a + b.0) (a + b.1)) (stretches left)) (moves step a cs s t)
        (pairs_in (stretches left) (stretches_in n left (all_filter (λ x. x < n) (λ m. mem m s && not (mem m t)) c C.0))) (moves_in cs s t C.1)

  module _ (w : Range) (C : Chains n w.chains) where
    visit_in : (now : List ℕ) (r : ℕ) → r < n → Smalls N (visit w a now r)
    unfolding visit
    visit_in now r l =
        let h : List ℕ = at w.history r in
        let forth : List Step = moves advance a w.chains h now in
        smalls_append N (moves retreat a w.chains now h) (forth ++ apply (a + r) ∷ []) (moves_in retreat (λ x y p q. (p, q)) w.chains now h C)
        (smalls_append N forth (apply (a + r) ∷ []) (moves_in advance (λ x y p q. (p, q)) w.chains h now C) (omega arith, tt))

    newly_in : length w.parents ≤ n → (known first : ℕ) (visited ready : List ℕ) → All (λ x. x < n) (newly_ready w known first visited ready)
    unfolding newly_ready upto
    newly_in k known first visited ready =
        all_filter (λ x. x < n) (λ r. is_ready w known first visited r && not (mem r ready)) (from 0 (length w.parents))
        (all_map (λ x h. omega arith) (from 0 (length w.parents)) (all_from 0 (length w.parents)))

    visits_in : length w.parents ≤ n → (fuel known first : ℕ) (now : List ℕ) (last : Option ℕ) (visited ready : List ℕ) → All (λ x. x < n) ready →
        Smalls N (visits fuel w a known first now last visited ready)
    unfolding visits
    visits_in k zero known first now last visited ready R = tt
    visits_in k (suc fuel) known first now last visited ready R =
        go (choice w now last ready) (choice_fine (λ x. x < n) w now last ready R)
        (λ r. visits_in k fuel known first (at w.history r ++ r ∷ []) (some r) (r ∷ visited) (rest r ++ newly_ready w known first (r ∷ visited) (rest r))
        (all_append (λ x. x < n) (rest r) (newly_ready w known first (r ∷ visited) (rest r))
        (all_filter (λ x. x < n) (λ x. not (eqb x r)) ready R) (newly_in k known first (r ∷ visited) (rest r))))
      where
        rest : ℕ → List ℕ
        rest r = filter (λ x. not (eqb x r)) ready

        later : ℕ → List Step
        later r = visits fuel w a known first (at w.history r ++ r ∷ []) (some r) (r ∷ visited)
            (filter (λ x. not (eqb x r)) ready ++ newly_ready w known first (r ∷ visited) (filter (λ x. not (eqb x r)) ready))

        go : (o : Option ℕ) → FineRun (λ x. x < n) o → ((r : ℕ) → Smalls N (later r)) →
            Smalls N (elim o as (λ _. List Step) [ none ↦ [] | some r ↦ visit w a now r ++ later r ])
        go none l ih = tt
        go (some r) l ih = smalls_append N (visit w a now r) (later r) (visit_in now r l) (ih r)

steps_in : (g : Graph) (N a b : ℕ) → a + length (parents_in g a b) ≤ N → Smalls N (steps_of (range_of g a b) a 0 0)
unfolding steps_of range_of
steps_in g N a b i =
    let n = length (parents_in g a b) in
    let w : Range = range_of g a b in
    let C : Chains n (chains_from 0 [] (histories (parents_in g a b))) =
    chains_in_lem n 0 [] (histories (parents_in g a b)) (omega (arith, history-length (parents_in g a b))) tt in
    visits_in N a n i w C (omega arith) n 0 (max 0 0) (upto 0) none [] (newly_ready w 0 (max 0 0) [] []) (newly_in N a n i w C (omega arith) 0 (max 0 0) [] [])

-- The steps of a range, and of ranges up to the run count
applies_in : (N a k : ℕ) → a + k ≤ N → Smalls N (map apply (from a k))
unfolding from
applies_in N a zero h = tt
applies_in N a (suc k) h = (omega arith, applies_in N (suc a) k (omega arith))

laid_le : (lo : ℕ) (cs : List HistoryRange) (end : ℕ) → Laid lo cs end → lo ≤ end
laid_le lo [] end h = h
laid_le lo (linear a b ∷ cs) end h = omega (arith, h.0, h.1, laid_le b cs end h.2)
laid_le lo (concurrent a b ∷ cs) end h = omega (arith, h.0, h.1, laid_le b cs end h.2)

-- what lies after the first range
laid_next : (lo : ℕ) (c : HistoryRange) (cs : List HistoryRange) (end : ℕ) → Laid lo (c ∷ cs) end → (b : ℕ) × Laid b cs end
laid_next lo (linear a b) cs end h = (b, h.2)
laid_next lo (concurrent a b) cs end h = (b, h.2)

range_in_lem : (g : Graph) (N : ℕ) (c : HistoryRange) (rows : List ℕ) (lo end : ℕ) (cs : List HistoryRange) → Laid lo (c ∷ cs) end → end ≤ N →
    Smalls N (replay_range g c rows).1
unfolding replay_range
range_in_lem g N (linear a b) rows lo end cs h k =
    let e = laid_le b cs end h.2 in
    ((omega (arith, h.1, e), omega (arith, e)), applies_in N a (b - a) (omega (arith, h.1, e)))
range_in_lem g N (concurrent a b) rows lo end cs h k = go (rows_too_long (range_of g a b) rows)
  where
    e : b ≤ end
    e = laid_le b cs end h.2

    go : (t : Bool) → Smalls N (elim t as (λ _. Replayed) [
      | true ↦ (Err RowsTooLong, opened a b ∷ [], rows_into (range_of g a b) rows)
      | false ↦ ((Ok tt), opened a b ∷ steps_of (range_of g a b) a 0 0, rows_into (range_of g a b) rows)
    ]).1
    go true = ((omega (arith, h.1, e), omega (arith, e)), tt)
    go false = ((omega (arith, h.1, e), omega (arith, e)), steps_in g N a b (omega (arith, h.1, e, range_span g a b)))

turn_in : (N room : ℕ) (this later : Replayed) (rows : List ℕ) (b t : Bool) (o : Outcome) → Smalls N this.1 → Smalls N later.1 →
    Smalls N (elim b as (λ _. Replayed) [
      | true ↦ (Err ListTooShort, [], rows)
      | false ↦ elim t as (λ _. Replayed) [
        | true ↦ (Err ListTooShort, take room this.1, this.2)
        | false ↦ elim o as (λ _. Replayed) [ Ok _ ↦ (later.0, this.1 ++ later.1, later.2) | Err r ↦ this ]
      ]
    ]).1
turn_in N room this later rows true t o h k = tt
turn_in N room this later rows false true o h k = smalls_take N room this.1 h
turn_in N room this later rows false false (Ok _) h k = smalls_append N this.1 later.1 h k
turn_in N room this later rows false false (Err r) h k = h

ranges_in_lem : (g : Graph) (N : ℕ) (cs : List HistoryRange) (lo end room : ℕ) (rows : List ℕ) → Laid lo cs end → end ≤ N →
    Smalls N (replay_ranges g cs room rows).1
unfolding replay_ranges
ranges_in_lem g N [] lo end room rows h k = tt
ranges_in_lem g N (c ∷ cs) lo end room rows h k =
    let this : Replayed = replay_range g c rows in
    turn_in N room this (replay_ranges g cs (room - length this.1) this.2) rows (eqb room 0) (ltb room (length this.1)) this.0
    (range_in_lem g N c rows lo end cs h k)
    (ranges_in_lem g N cs (laid_next lo c cs end h).0 end (room - length this.1) this.2 (laid_next lo c cs end h).1 k)

pub replay_numbers : (g : Graph) (N room : ℕ) (rows : List ℕ) → runs g ≤ N → Smalls N (replay_ranges g (cut_from g 0) room rows).1
replay_numbers g N room rows h = ranges_in_lem g N (cut_from g 0) 0 (runs g) room rows (cut_laid g 0) h
