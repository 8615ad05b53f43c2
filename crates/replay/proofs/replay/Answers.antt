-- Of `replay::replay`: what was read lies within the buffer, and is printed where no read failed. Assumes nothing.
use Rattle.std.proofs.Common.{sym}
use Rattle.std.proofs.lemmas.List.{length-take-le}
use Rattle.stdio.proofs.Readings.{came_mapped, came_mapped_fits}
use Rattle.replay.proofs.replay.Goals as goal

pub slice_bounds-bytes-end : goal.slice_bounds-bytes-end
slice_bounds-bytes-end c = came_mapped_fits _ _ _ _ _ c.gave.ensures c.map_err.ensures.cases c.in_ok-n.was _ c.fill-reading.ensures.full

pub slice_bounds-print-end : goal.slice_bounds-print-end
slice_bounds-print-end c =
    let fits = came_mapped_fits _ _ _ _ _ c.gave.ensures c.map_err.ensures.cases c.in_ok-n.was _ c.fill-reading.ensures.full in
    sym (length-take-le _ _ fits)

pub print-requires : goal.print-requires
print-requires c =
    let fits = came_mapped_fits _ _ _ _ _ c.gave.ensures c.map_err.ensures.cases c.in_ok-n.was _ c.fill-reading.ensures.full in
    rw (length-take-le _ _ fits) (came_mapped _ _ _ _ _ c.gave.ensures c.map_err.ensures.cases c.in_ok-n.was)
