-- `versions::archive::archive_words` meets its contract: refused where the graph is broken; else the starts of the runs that the passes mark.
-- Assumes nothing.
use Rattle.std.proofs.Common.{refl, ◌∙◌, ap, false, Ok}
use Rattle.std.proofs.lemmas.Result.{err_from_is_err_and}
use Rattle.graph.proofs.Looking.{look_broken, look_done}
use Rattle.versions.proofs.ArchiveWays.{points-below, points_are}
use Rattle.versions.proofs.archive.archive_words.Goals as goal

pub returns-in_err-g : goal.returns-in_err-g
returns-in_err-g c =
    let p = err_from_is_err_and c.from_residual.result c.from_residual.ensures.1 in
    let e = c.in_err-g.ensures.err in
    rw (p.1, p.2, e.0, look_broken c.args.g e.1)

pub starts_of-requires : goal.starts_of-requires
starts_of-requires c = let k = c.in_ok-g.g in points-below k.graph k.held _ c.point_runs-runs.ensures

pub returns : goal.returns
returns c =
    let k = c.in_ok-g.g in
    let same = c.in_ok-g.ensures.ok in
    rw (← same.0)
    (rw (look_done k.graph same.1 false refl) (ap Ok (c.starts_of.ensures ∙ points_are k.graph k.held _ c.point_runs-runs.ensures)))
