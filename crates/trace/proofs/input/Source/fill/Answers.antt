-- Of `trace::input::Source::fill`: what was read lies within the buffer. Assumes nothing.
use Rattle.std.proofs.Common.{rules}
use Rattle.stdio.proofs.Readings.{came_mapped_fits}
use Rattle.trace.proofs.input.Source.fill.Goals as goal

pub invariant_of-self-2-clause-within : goal.invariant_of-self-2-clause-within
invariant_of-self-2-clause-within c =
    let fits = came_mapped_fits _ _ _ _ _ c.gave.ensures c.map_err.ensures.cases c.in_ok-end.was _ c.fill-reading.ensures.full in
    search (rules, fits)
