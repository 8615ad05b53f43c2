-- `versions::wanted::top_events` meets its contract. The loop's invariant: the last marked events of the top runs so far are kept. Assumes nothing.
use Rattle.std.proofs.Common.{◌≡◌}
use Rattle.versions.specs.Ranges.{tops}
use Rattle.versions.proofs.wanted.top_events.Given as goal

abbrev pub invariant-loop-r : goal.invariant-loop-r
invariant-loop-r l = l.tops ≡ tops l.flags l.ends l.r
