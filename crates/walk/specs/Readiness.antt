-- What each run of a range waits for, and the ready list, as code keeps them: started, after a visit, and with a run taken out.
-- Assumes nothing.
use Rattle.std.specs.Prelude.{cond, ◌&&◌, ◌||◌, List, [], ◌∷◌, ◌++◌, ℕ, suc, ◌+◌, ◌-◌, length, get_or, take, drop, set, replicate, leb, ltb, eqb}
use Rattle.lists.specs.Lists.{bit, count, from}
use Rattle.model.specs.Limits.{max_runs}
use Rattle.walk.specs.Given.{Given, parents_for}

-- How many are ready, what each run waits for, the ready list
abbrev pub Wakes : Type 0
Wakes = ℕ × List ℕ × List ℕ

-- What run r waits for at the start: its parents that are not known, and one where it is held back until the first are visited
unfoldable pub waits_at : ℕ → ℕ → List ℕ → ℕ → ℕ
waits_at known first parents r = count (λ p. leb known p) parents + bit (ltb known first && leb first r)

-- Run r started: where it waits for nothing and is not known, it is ready
unfoldable pub start_of : ℕ → ℕ → Wakes → ℕ → List ℕ → Wakes
start_of known first s r parents =
    let k : ℕ = waits_at known first parents r in
    cond (eqb k 0 && leb known r) (s.0 + 1, set s.1 r k, set s.2 s.0 r) (s.0, set s.1 r k, s.2)

-- The runs from r on started, given their parents
unfoldable pub start_all : ℕ → ℕ → Wakes → ℕ → List (List ℕ) → Wakes
start_all known first s r [] = s
start_all known first s r (ps ∷ pss) = start_all known first (start_of known first s r ps) (suc r) pss

-- Nothing in the lists of a range of so many runs
abbrev pub none_waits : ℕ → Wakes
none_waits runs = (0, replicate runs 0, replicate max_runs 0)

-- All runs of a range started
unfoldable pub start_waits : Given → Wakes
start_waits g = start_all g.known g.first (none_waits g.runs) 0 (parents_for g)

-- One less to wait for; at none, the run is ready
unfoldable pub wake_of : Wakes → ℕ → Wakes
wake_of s c =
    let k : ℕ = get_or s.1 c 0 in
    let less : List ℕ = set s.1 c (k - 1) in
    cond (leb (length s.1) c || eqb k 0) s
    (cond (ltb 1 k || leb (length s.2) s.0) (s.0, less, s.2) (s.0 + 1, less, set s.2 s.0 c))

-- Runs woken in turn
unfoldable pub wake_all : Wakes → List ℕ → Wakes
wake_all s [] = s
wake_all s (c ∷ cs) = wake_all (wake_of s c) cs

-- After a visit of `run`: its children and, where it is the last of the first, all runs from `first` up to `end`
unfoldable pub woken_of : Wakes → List ℕ → ℕ → ℕ → ℕ → ℕ → ℕ → Wakes
woken_of s children run known first end left =
    let t : Wakes = wake_all s children in
    cond (ltb run known || leb first run || ltb 1 left) t (wake_all t (from first (end - first)))

-- How many of the first are left after it
unfoldable pub left_after : ℕ → ℕ → ℕ → ℕ → ℕ
left_after run known first left = cond (ltb run known || leb first run) left (left - 1)

-- The item at `at` taken out of the first n: those after it stand one place before, and the place at their end keeps its value
unfoldable pub taken_out : List ℕ → ℕ → ℕ → List ℕ
taken_out l n at = take at l ++ (take (n - 1 - at) (drop (at + 1) l) ++ drop (n - 1) l)
