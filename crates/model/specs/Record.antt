-- 01, "The graph record": how a `CausalGraph` holds a graph. Assumes nothing.
use Rattle.std.specs.Prelude.{◌≡◌, ◌+◌, length, take}
use Rattle.lists.specs.Lists.{concat}
use Rattle.lists.specs.Areas.{pad, group_starts, groups}
use Rattle.model.specs.declared.record.CausalGraph.{CausalGraph}
use Rattle.model.specs.Limits.{max_starts, max_entries, max_runs, max_frontier}
use Rattle.model.specs.Graph.{Graph, runs, entries, marks}

-- The used parts of the arrays
unfoldable pub view : CausalGraph → Graph
view g = record {
  starts = take (g.run_count + 1) g.starts;
  parents = groups (take (g.run_count + 1) g.parent_starts) (take g.entry_count g.parents);
  frontier = take g.frontier_count g.frontier;
  seen = take g.run_count g.seen_prefix_len;
  changed = g.changed_from.0;
}

-- The arrays of a graph, "every place past a count holds 0"
unfoldable pub store : Graph → CausalGraph
store g = record {
  starts = pad max_starts g.starts;
  parent_starts = pad max_starts (group_starts 0 g.parents);
  parents = pad max_entries (concat g.parents);
  frontier = pad max_frontier g.frontier;
  seen_prefix_len = pad max_runs g.seen;
  critical_versions = pad max_runs (marks g);
  run_count = runs g;
  entry_count = entries g;
  frontier_count = length g.frontier;
  mark_count = length (marks g);
  changed_from = record { 0 = g.changed };
}

-- What every value of the type has: its arrays have their lengths
pub record Sized (g : CausalGraph) : Type 0 where
  pub starts : length g.starts ≡ max_starts
  pub parent_starts : length g.parent_starts ≡ max_starts
  pub parents : length g.parents ≡ max_entries
  pub frontier : length g.frontier ≡ max_frontier
  pub seen_prefix_len : length g.seen_prefix_len ≡ max_runs
  pub critical_versions : length g.critical_versions ≡ max_runs
