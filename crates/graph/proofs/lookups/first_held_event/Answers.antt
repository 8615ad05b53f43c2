-- `graph::lookups::first_held_event` meets its contract: its read is one of the graph. Assumes nothing.
use Rattle.std.proofs.Common.{refl}
use Rattle.model.specs.Lookups.{first_held_event_of}
use Rattle.std.proofs.lemmas.Result.{err_from_is_err_and}
use Rattle.graph.proofs.Views.{first-view}
use Rattle.graph.proofs.Looking.{look_broken, look_done}
use Rattle.graph.proofs.lookups.first_held_event.Goals as goal

pub returns-in_err-g : goal.returns-in_err-g
unfolding first_held_event_of
returns-in_err-g c =
    let p = err_from_is_err_and c.from_residual.result c.from_residual.ensures.1 in
    let e = c.in_err-g.ensures.err in
    rw (p.1, p.2, e.0, look_broken c.args.g e.1)

pub returns : goal.returns
unfolding first_held_event_of
returns c =
    let k = c.in_ok-g.field-0 in
    let g = k.graph in
    let same = c.in_ok-g.ensures.ok in
    rw (← same.0)
    (rw (look_done g same.1 _ refl, first-view g k.held))
