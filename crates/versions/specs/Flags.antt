-- What the passes behind the concurrency list compute: a flag for each run. Assumes nothing.
use Rattle.std.specs.Prelude.{◌≡◌, Bool, true, false, not, cond, ◌&&◌, List, [], ◌∷◌, ℕ, zero, suc, ◌<◌, get_or, set, leb}
use Rattle.lists.specs.Lists.{any, filter, upto}
use Rattle.model.specs.Graph.{Graph, runs}
use Rattle.model.specs.Beside.{concurrent_run}

-- Flags for some runs
unfoldable pub flag_all : List Bool → List ℕ → List Bool
flag_all flags [] = flags
flag_all flags (p ∷ ps) = flag_all (set flags p true) ps

-- A run that is flagged flags its parents
unfoldable pub flag_parents : (ℕ → List ℕ) → List Bool → ℕ → List Bool
flag_parents rows flags c = cond (get_or flags c false) (flag_all flags (rows c)) flags

-- so do the n first runs, from the last of them down
unfoldable pub flag_down : (ℕ → List ℕ) → List Bool → ℕ → List Bool
flag_down rows flags zero = flags
flag_down rows flags (suc c) = flag_down rows (flag_parents rows flags c) c

-- p is run r or after it, and flagged
unfoldable pub flagged : List Bool → ℕ → ℕ → Bool
flagged flags r p = leb r p && get_or flags p false

-- A run is flagged where such a parent is
unfoldable pub flag_child : (ℕ → List ℕ) → ℕ → List Bool → ℕ → List Bool
flag_child rows r flags q = set flags q (any (flagged flags r) (rows q))

-- so are the k runs from q on
unfoldable pub flag_up : (ℕ → List ℕ) → ℕ → List Bool → ℕ → ℕ → List Bool
flag_up rows r flags q zero = flags
flag_up rows r flags q (suc k) = flag_up rows r (flag_child rows r flags q) (suc q) k

-- The runs with no flag
unfoldable pub free : List Bool → ℕ → List ℕ
free flags n = filter (λ q. not (get_or flags q false)) (upto n)

-- Those are the runs concurrent with r
pub record Flags (g : Graph) (r : ℕ) (flags : List Bool) : Type 0 where
  pub each : (q : ℕ) → q < runs g → not (get_or flags q false) ≡ concurrent_run g r q
