-- What the passes behind the archive points compute: first children, heads, and how far each run has seen. Assumes nothing.
use Rattle.std.specs.Prelude.{◌≡◌, Bool, true, not, cond, List, [], ◌∷◌, ℕ, zero, suc, ◌+◌, ◌-◌, ◌≤◌, ◌<◌, length, get_or, set, replicate, leb, eqb, Option, Some, None}
use Rattle.lists.specs.Lists.{all, filter, count, upto, mem}
use Rattle.model.specs.Limits.{max_runs}
use Rattle.model.specs.History.{at}
use Rattle.model.specs.declared.record.EventRunIndex.{EventRunIndex}

-- run p has no child below run m
unfoldable pub childless : List (List ℕ) → ℕ → ℕ → Bool
childless pss m p = all (λ c. not (mem p (at pss c))) (upto m)

-- the heads below run m: the runs below it that have no child below it
unfoldable pub heads : List (List ℕ) → ℕ → List ℕ
heads pss m = filter (childless pss m) (upto m)

-- a list's last number
unfoldable pub last_in : List ℕ → ℕ
last_in ps = get_or ps (length ps - 1) 0

-- The last run that may start at an archive point for all that a run's parents tell: the one after the last parent if the run has all heads
-- below it for parents, and so has seen every run below it; else the last parent; with no parents run 0
unfoldable pub highest_by : (ℕ → List ℕ → Bool) → List ℕ → ℕ
highest_by whole [] = 0
highest_by whole (p ∷ ps) = let last : ℕ = last_in (p ∷ ps) in cond (whole (suc last) (p ∷ ps)) (suc last) last

-- of run q
unfoldable pub highest : List (List ℕ) → ℕ → ℕ
highest pss q = highest_by (λ m ps. all (λ h. mem h ps) (heads pss m)) (at pss q)

-- a run's first child, if it has one
abbrev pub Child : Type 0
Child = Option EventRunIndex

-- that once c is noted as a child
unfoldable pub noted : Child → ℕ → Child
noted None c = Some (record { 0 = c })
noted (Some f) c = Some f

-- run c is a child of some runs
unfoldable pub note_all : List Child → ℕ → List ℕ → List Child
note_all firsts c [] = firsts
note_all firsts c (p ∷ ps) = note_all (set firsts p (noted (get_or firsts p None) c)) c ps

-- The first child of each run, among the n first runs
unfoldable pub first_children : (ℕ → List ℕ) → ℕ → List Child
first_children rows zero = replicate max_runs None
first_children rows (suc c) = note_all (first_children rows c) c (rows c)

-- a run with this first child has no child below run m
unfoldable pub none_below : ℕ → Child → Bool
none_below m None = true
none_below m (Some c) = leb m c.0

-- run p has none
unfoldable pub is_head : List Child → ℕ → ℕ → Bool
is_head firsts m p = none_below m (get_or firsts p None)

-- How many heads lie below run m: each run is one at first, and its parents are no longer
unfoldable pub head_count : List Child → (ℕ → List ℕ) → ℕ → ℕ
head_count firsts rows zero = 0
head_count firsts rows (suc m) = head_count firsts rows m + 1 - count (is_head firsts m) (rows m)

-- so many of a run's parents are heads below m as there are
unfoldable pub whole_in : List Child → (counts : List ℕ) → ℕ → List ℕ → Bool
whole_in firsts counts m ps = eqb (count (is_head firsts m) ps) (get_or counts m 0)

-- of no run more parents are heads below it than there are
abbrev pub HeadsFit : List Child → (ℕ → List ℕ) → ℕ → Type 0
HeadsFit firsts rows n = (m : ℕ) → m < n → count (is_head firsts m) (rows m) ≤ head_count firsts rows m

-- A table of how many heads lie below each of n runs
abbrev pub HeadCounts : List Child → (ℕ → List ℕ) → ℕ → List ℕ → Type 0
HeadCounts firsts rows n counts = (m : ℕ) → m < n → get_or counts m 0 ≡ head_count firsts rows m

-- A table of how far each of n runs has seen, as far as archive points need it: up to the start of the last run that may be at one
abbrev pub SeenLengths : List Child → (counts events : List ℕ) → (ℕ → List ℕ) → ℕ → List ℕ → Type 0
SeenLengths firsts counts events rows n seen = (q : ℕ) → q < n → get_or seen q 0 ≡ get_or events (highest_by (whole_in firsts counts) (rows q)) 0
