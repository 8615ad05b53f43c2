-- `versions::concurrent::free_runs` meets its contract. The loop's invariant: the runs with no flag so far. Assumes nothing.
use Rattle.std.proofs.Common.{◌≡◌}
use Rattle.versions.specs.Flags.{free}
use Rattle.versions.proofs.concurrent.free_runs.Given as goal

abbrev pub invariant-loop-q : goal.invariant-loop-q
invariant-loop-q l = l.runs ≡ free l.flags l.q
