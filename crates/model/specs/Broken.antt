-- 01, "The graph record": when a graph is broken, clause by clause of its sentence; and what a graph that is not broken is, as plain
-- lists. Assumes nothing.
use Rattle.std.specs.Prelude.{◌≡◌, Bool, true, not, ◌&&◌, ◌||◌, List, ℕ, suc, ◌+◌, ◌-◌, ◌≤◌, length, take, drop, get_or, ltb, eqb}
use Rattle.lists.specs.Lists.{rising, below, same}
use Rattle.lists.specs.Areas.{zeros, climbs}
use Rattle.lists.specs.Scans.{groups_fit, between}
use Rattle.model.specs.declared.record.CausalGraph.{CausalGraph}
use Rattle.model.specs.Limits.{max_runs, max_entries, max_frontier}
use Rattle.model.specs.Graph.{Graph, runs, entries, first_held, len, marks}
use Rattle.model.specs.Record.{view, store}

-- the frontier is rising and below `len`, and its last is `len` - 1 where there are runs
unfoldable pub frontier_fits : ℕ → ℕ → List ℕ → Bool
frontier_fits runs len f =
    rising f && below len f && (eqb runs 0 || (ltb 0 (length f) && eqb (suc (get_or f (length f - 1) 0)) len))

-- "a count passes its limit"
unfoldable pub over_limit : CausalGraph → Bool
over_limit g = ltb max_runs g.run_count || ltb max_entries g.entry_count || ltb max_frontier g.frontier_count || ltb max_runs g.mark_count

-- "starts are not rising"
unfoldable pub bad_starts : CausalGraph → Bool
bad_starts g = not (rising (view g).starts)

-- "the parent groups do not cover the entries in run order"
unfoldable pub bad_groups : CausalGraph → Bool
bad_groups g = not (eqb (get_or g.parent_starts 0 0) 0 && climbs g.entry_count (take (g.run_count + 1) g.parent_starts))

-- "a run's parents are not strictly rising and below it"
unfoldable pub bad_parents : CausalGraph → Bool
bad_parents g = not (groups_fit 0 (view g).parents)

-- "the frontier is not rising and below `len` (its last is `len`-1 where there are runs)"
unfoldable pub bad_frontier : CausalGraph → Bool
bad_frontier g = not (frontier_fits g.run_count (get_or g.starts g.run_count 0) (view g).frontier)

-- "a seen length is below first held or above its run's start"
unfoldable pub bad_seen : CausalGraph → Bool
bad_seen g = not (between (get_or g.starts 0 0) (view g).starts (view g).seen)

-- "the marks are not the set below"
unfoldable pub bad_marks : CausalGraph → Bool
bad_marks g = not (same (take g.mark_count g.critical_versions) (marks (view g)))

-- "`changed_from` passes the run count"
unfoldable pub bad_changed : CausalGraph → Bool
bad_changed g = ltb g.run_count g.changed_from.0

-- "a place past a count is not 0"
unfoldable pub bad_padding : CausalGraph → Bool
bad_padding g =
    not (
    zeros (drop (g.run_count + 1) g.starts) &&
    zeros (drop (g.run_count + 1) g.parent_starts) &&
    zeros (drop g.entry_count g.parents) &&
    zeros (drop g.frontier_count g.frontier) &&
    zeros (drop g.run_count g.seen_prefix_len) &&
    zeros (drop g.mark_count g.critical_versions)
    )

-- "A graph is broken if .."
unfoldable pub broken : CausalGraph → Bool
broken g =
    over_limit g ||
    bad_starts g ||
    bad_groups g ||
    bad_parents g ||
    bad_frontier g ||
    bad_seen g ||
    bad_marks g ||
    bad_changed g ||
    bad_padding g

-- What the same sentence asks of a graph without padding
pub record WellFormed (g : Graph) : Type 0 where
  pub starts_count : length g.starts ≡ suc (runs g)
  pub seen_count : length g.seen ≡ runs g
  pub starts : rising g.starts ≡ true
  pub parents : groups_fit 0 g.parents ≡ true
  pub frontier : frontier_fits (runs g) (len g) g.frontier ≡ true
  pub seen : between (first_held g) g.starts g.seen ≡ true
  pub changed : g.changed ≤ runs g

-- "At most 512 runs, 2,048 parent entries, 512 frontier events"
pub record WithinLimits (g : Graph) : Type 0 where
  pub runs : runs g ≤ max_runs
  pub entries : entries g ≤ max_entries
  pub frontier : length g.frontier ≤ max_frontier

-- A record that holds a well-formed graph within the limits. Just those are not broken: `unbroken` of `Meaning`
pub record Held (g : CausalGraph) : Type 0 where
  pub stored : g ≡ store (view g)
  pub formed : WellFormed (view g)
  pub limits : WithinLimits (view g)
