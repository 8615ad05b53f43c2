-- One visit of a walk, by what it is given. Assumes nothing.
use Rattle.std.specs.Prelude.{◌≡◌, Option, Some, None, List, ℕ, ◌-◌, ◌≤◌, ◌<◌, min, length, get_or}
use Rattle.model.specs.Limits.{max_weighed}
use Rattle.tables.specs.Reached.{started, arrived, Holds}
use Rattle.moves.specs.Emit.{Rec}
use Rattle.moves.specs.Moves.{Inside, visit_of}
use Rattle.walk.specs.declared.choice.Best.{Best}
use Rattle.walk.specs.declared.visiting.Progress.{Progress}
use Rattle.walk.specs.Given.{Given, chains_in, places_in, begins_in, members_in, row_for, children_for}
use Rattle.walk.specs.Choose.{index_of, only_c, cost_c, weight_c, scan_c, AllIn}
use Rattle.walk.specs.Readiness.{start_waits, woken_of, left_after, taken_out}

-- The best of the ready runs
unfoldable pub best_in : Given → Progress → Option Best
best_in g p = scan_c (only_c g p.last) (cost_c g p.version) (weight_c g) p.waits.2 p.waits.0 0 (min max_weighed p.waits.0) None

-- The run that is visited
unfoldable pub run_at : Given → Progress → ℕ
run_at g p = get_or p.waits.2 (index_of (best_in g p)) 0

-- The steps of its visit
unfoldable pub visited : Given → Progress → List Rec
visited g p = visit_of g.starts g.base (members_in g) (begins_in g) p.version (row_for g (run_at g p)) g.chains (run_at g p)

-- A visit takes a walk from t to u
pub record Turned (g : Given) (t u : Progress) : Type 0 where
  pub version : Holds (arrived (row_for g (run_at g t)) (get_or (chains_in g) (run_at g t) 0) (get_or (places_in g) (run_at g t) 0)) g.chains u.version
  pub woken : u.waits ≡ woken_of (t.waits.0 - 1, t.waits.1, taken_out t.waits.2 t.waits.0 (index_of (best_in g t))) (children_for g (run_at g t)) (run_at g t) g.known g.first g.runs t.left
  pub left : u.left ≡ left_after (run_at g t) g.known g.first t.left
  pub last : u.last ≡ Some (run_at g t)

-- The ready list, of which each is a run of the range
pub record Ready (g : Given) (p : Progress) : Type 0 where
  pub room : p.waits.0 ≤ length p.waits.2
  pub low : AllIn p.waits.2 p.waits.0 g.runs

-- What a version has of each of n chains lies in the members
abbrev pub AllInside : List ℕ → List ℕ → List ℕ → ℕ → Type 0
AllInside members begins version n = (c : ℕ) → c < n → Inside members begins version c

-- What a visit needs: the best of them is one, and what the version and that run's row have of the chains lies in the members
pub record Fit (g : Given) (p : Progress) : Type 0 where
  pub ready : Ready g p
  pub below : index_of (best_in g p) < p.waits.0
  pub from : AllInside (members_in g) (begins_in g) p.version g.chains
  pub to : AllInside (members_in g) (begins_in g) (row_for g (run_at g p)) g.chains

-- A walk that begins: the version is "the known runs", those ready are told, no run was visited
pub record Begun (g : Given) (p : Progress) : Type 0 where
  pub version : Holds (started (chains_in g) (places_in g) g.known) g.chains p.version
  pub waits : p.waits ≡ start_waits g
  pub left : p.left ≡ g.first - g.known
  pub last : p.last ≡ None
