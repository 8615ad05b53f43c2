-- 01, "The graph record" and "lib.rs": the graph as plain lists with no padding, and what is read off it. Assumes nothing.
use Rattle.std.specs.Prelude.{Bool, true, false, cond, ◌&&◌, List, [], ◌∷◌, ℕ, ◌-◌, length, get_or, drop, leb, ltb}
use Rattle.lists.specs.Lists.{all, filter, count, upto, sum, same}

-- Run starts (one more than runs; the first is the first held event, the last is `len`), parent runs grouped by run, the frontier,
-- a seen length per run, and `changed_from`. The marks are no field: 01 defines them by the others
pub record Graph : Type 0 where
  pub starts : List ℕ
  pub parents : List (List ℕ)
  pub frontier : List ℕ
  pub seen : List ℕ
  pub changed : ℕ

unfoldable pub runs : Graph → ℕ
runs g = length g.parents

-- a run's first event; at the run count, `len`
unfoldable pub start : Graph → ℕ → ℕ
start g r = get_or g.starts r 0

unfoldable pub first_held : Graph → ℕ
first_held g = start g 0

unfoldable pub len : Graph → ℕ
len g = start g (runs g)

-- the parent entries
unfoldable pub entries : Graph → ℕ
entries g = sum (λ ps. length ps) g.parents

-- the run that holds event e: the last that starts at e or before
unfoldable pub containing : Graph → ℕ → ℕ
containing g e = count (λ s. leb s e) g.starts - 1

-- "Run r is marked exactly when every run from r on has seen at least r's start"
unfoldable pub marked : Graph → ℕ → Bool
marked g r = all (λ s. leb (start g r) s) (drop r g.seen)

unfoldable pub marks : Graph → List ℕ
marks g = filter (marked g) (upto (runs g))

-- Where an event lies. 02, F-11: "the run, before the graph, or not yet known"
pub data Side : Type 0 where
  in_run : ℕ → Side
  before : Side
  unknown : Side

-- event e, where the events from `first` up to `len` are held: below the first held one, not below `len`, or else in run r
unfoldable pub side_by : (first len r e : ℕ) → Side
side_by first len r e = cond (ltb e first) before (cond (ltb e len) (in_run r) unknown)

-- event e of a graph
unfoldable pub side : Graph → ℕ → Side
side g e = side_by (first_held g) (len g) (containing g e) e

-- a held event lies in a run
unfoldable pub is_held : Side → Bool
is_held (in_run r) = true
is_held before = false
is_held unknown = false

-- a known event is held or lies before the graph
unfoldable pub is_known : Side → Bool
is_known (in_run r) = true
is_known before = true
is_known unknown = false

-- of a list of events, those that are held
unfoldable pub held : Graph → List ℕ → List ℕ
held g es = filter (λ e. is_held (side g e)) es

-- each event of a list is known
unfoldable pub all_known : Graph → List ℕ → Bool
all_known g es = all (λ e. is_known (side g e)) es

-- each event of a list is held
unfoldable pub all_held : Graph → List ℕ → Bool
all_held g es = all (λ e. is_held (side g e)) es

-- "With runs held and the parents just the last event"
unfoldable pub extends : Graph → List ℕ → Bool
extends g ps = ltb 0 (runs g) && same ps ((len g - 1) ∷ [])
