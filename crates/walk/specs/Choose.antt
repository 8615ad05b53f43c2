-- The choice among the last ready runs, as the code makes it. Assumes nothing.
use Rattle.std.specs.Prelude.{Bool, true, false, ◌&&◌, ◌||◌, Option, Some, None, List, [], ◌∷◌, ℕ, zero, suc, ◌+◌, ◌-◌, ◌<◌, ◌^◌, get_or, ltb, leb, eqb}
use Rattle.lists.specs.Lists.{same}
use Rattle.model.specs.History.{at}
use Rattle.tables.specs.Gaps.{gaps_from}
use Rattle.walk.specs.Given.{Given, begins_in, weights_in, sums_in, row_for, parents_for}
use Rattle.walk.specs.declared.choice.Best.{Best}

abbrev pub pick : Bool → Option Best → Option Best → Option Best
pick true a b = a
pick false a b = b

-- Where it stands in the ready list
abbrev pub index_of : Option Best → ℕ
index_of None = 0
index_of (Some b) = b.at

-- Strictly lower, by the cost and then by the weight
abbrev pub is_lower : Best → Best → Bool
is_lower a b = ltb a.cost b.cost || (eqb a.cost b.cost && ltb a.weight b.weight)

-- "Lowest (cost, weight) wins; a tie stays with the newer", which was weighed first
unfoldable pub try_of : Option Best → Best → Option Best
try_of None a = Some a
try_of (Some b) a = pick (is_lower a b) (Some a) (Some b)

-- "once the best cost is 0"
unfoldable pub free_c : Option Best → Bool
free_c None = false
free_c (Some b) = eqb b.cost 0

-- A run that costs c or more, with weight w, cannot take over
unfoldable pub beaten_c : Option Best → ℕ → ℕ → Bool
beaten_c None c w = false
beaten_c (Some b) c w = ltb b.cost c || (eqb b.cost c && leb b.weight w)

-- Past this cost a run cannot take over
unfoldable pub limit_c : Option Best → ℕ
limit_c None = 2 ^ 64 - 1
limit_c (Some b) = b.cost

-- A run at place i: t where its only parent is the last run visited, d its distance, w its weight
unfoldable pub weigh_c : Bool → ℕ → ℕ → ℕ → Option Best → Option Best
weigh_c t d w i b =
    pick t (try_of b (record { cost = 0; weight = w; at = i })) (pick (free_c b) b (try_of b (record { cost = d; weight = w; at = i })))

-- "the only in-range parent is the last run visited", if there is one
unfoldable pub is_only : List ℕ → Option ℕ → Bool
is_only ps None = false
is_only ps (Some l) = same ps (l ∷ [])

-- The same of a run of the range
unfoldable pub only_c : Given → Option ℕ → ℕ → Bool
only_c g last run = is_only (at (parents_for g) run) last

-- "the events in just one of the current version and its history"
unfoldable pub cost_c : Given → List ℕ → ℕ → ℕ
cost_c g current run = gaps_from (sums_in g) (begins_in g) current (row_for g run) 0 g.chains

abbrev pub weight_c : Given → ℕ → ℕ
weight_c g run = get_or (weights_in g) run 0

-- k candidates of the first n ready runs, from the i-th newest on, by tests, distances and weights of runs
unfoldable pub scan_c : (ℕ → Bool) → (ℕ → ℕ) → (ℕ → ℕ) → List ℕ → ℕ → ℕ → ℕ → Option Best → Option Best
scan_c t d w ready n i zero b = b
scan_c t d w ready n i (suc k) b =
    scan_c t d w ready n (i + 1) k
    (weigh_c (t (get_or ready (n - 1 - i) 0)) (d (get_or ready (n - 1 - i) 0)) (w (get_or ready (n - 1 - i) 0)) (n - 1 - i) b)

-- Each of the first m ready runs is one of n
abbrev pub AllIn : List ℕ → ℕ → ℕ → Type 0
AllIn ready m n = (i : ℕ) → i < m → get_or ready i 0 < n
