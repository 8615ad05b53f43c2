-- `graph::lookups::is_empty` meets its contract: the run count is the number of runs. Assumes nothing.
use Rattle.std.proofs.Common.{refl}
use Rattle.model.specs.Lookups.{is_empty_of}
use Rattle.std.proofs.lemmas.Result.{err_from_is_err_and}
use Rattle.graph.proofs.Views.{runs-view}
use Rattle.graph.proofs.Looking.{look_broken, look_done}
use Rattle.graph.proofs.lookups.is_empty.Goals as goal

pub returns-in_err-g : goal.returns-in_err-g
unfolding is_empty_of
returns-in_err-g c =
    let p = err_from_is_err_and c.from_residual.result c.from_residual.ensures.1 in
    let e = c.in_err-g.ensures.err in
    rw (p.1, p.2, e.0, look_broken c.args.g e.1)

pub returns : goal.returns
unfolding is_empty_of
returns c =
    let k = c.in_ok-g.field-0 in
    let g = k.graph in
    let same = c.in_ok-g.ensures.ok in
    rw (← same.0)
    (rw (look_done g same.1 _ refl, runs-view g k.held))
