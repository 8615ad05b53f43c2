-- What the other tables of a range hold: members and sums, children, weights, versions. Assumes nothing.
use Rattle.std.specs.Prelude.{◌≡◌, List, ℕ, ◌+◌, ◌-◌, ◌≤◌, ◌<◌, ◌^◌, length, get_or, take}
use Rattle.lists.specs.Lists.{filter, sum, upto, mem, count}
use Rattle.lists.specs.Areas.{part}
use Rattle.model.specs.Limits.{max_runs}
use Rattle.model.specs.History.{at}

-- The members of chains C, one chain after another: where each chain's begin, and the members
pub record Listed (C : List (List ℕ)) (begins members : List ℕ) : Type 0 where
  pub member : (c i : ℕ) → c < length C → i < length (at C c) → get_or members (get_or begins c 0 + i) 0 ≡ get_or (at C c) i 0
  pub fits : (c : ℕ) → c < length C → get_or begins c 0 + length (at C c) ≤ length members
  pub small : (i : ℕ) → get_or members i 0 < max_runs
  pub low : (c : ℕ) → get_or begins c 0 ≤ 2 ^ 18

-- Prefix sums along the members: the events of run m are size m
pub record Sums (C : List (List ℕ)) (size : ℕ → ℕ) (begins before : List ℕ) : Type 0 where
  pub along : (c k : ℕ) → c < length C → k ≤ length (at C c) → get_or before (get_or begins c 0 + k) 0 ≡ get_or before (get_or begins c 0) 0 + sum size (take k (at C c))
  pub small : (k : ℕ) → get_or before k 0 ≤ 2 ^ 41

-- The events of run m, of runs that start at `starts`
unfoldable pub size_in : List ℕ → ℕ → ℕ
size_in starts m = get_or starts (m + 1) 0 - get_or starts m 0

-- A run's children, in run order
unfoldable pub children_of : List (List ℕ) → ℕ → List ℕ
children_of pss r = filter (λ x. mem r (at pss x)) (upto (length pss))

-- Where each run's children begin, and the children
pub record Children (pss : List (List ℕ)) (begins items : List ℕ) : Type 0 where
  pub climb : (r : ℕ) → r < length pss → get_or begins r 0 ≤ get_or begins (r + 1) 0
  pub inside : (r : ℕ) → r < length pss → get_or begins (r + 1) 0 ≤ length items
  pub each : (r : ℕ) → r < length pss → part (get_or begins r 0) (get_or begins (r + 1) 0) items ≡ children_of pss r

-- How far along each chain a set of runs reaches
unfoldable pub Reaches : List (List ℕ) → List ℕ → List ℕ → Type 0
Reaches C set version = (c : ℕ) → c < length C → get_or version c 0 ≡ count (λ m. mem m set) (at C c)
