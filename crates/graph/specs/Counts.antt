-- A record none of whose counts passes its limit, and its arrays' lengths: what the tests of its arrays need. Assumes nothing.
use Rattle.std.specs.Prelude.{◌≤◌}
use Rattle.model.specs.declared.record.CausalGraph.{CausalGraph}
use Rattle.model.specs.Record.{Sized}
use Rattle.model.specs.Limits.{max_runs, max_entries, max_frontier}

pub record CountsFit (g : CausalGraph) : Type 0 where
  pub runs : g.run_count ≤ max_runs
  pub entries : g.entry_count ≤ max_entries
  pub tips : g.frontier_count ≤ max_frontier
  pub marked : g.mark_count ≤ max_runs
  pub sized : Sized g
