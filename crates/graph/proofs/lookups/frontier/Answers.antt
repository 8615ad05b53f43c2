-- `graph::lookups::frontier` meets its contract: the array is the frontier with zeros after it. Assumes nothing.
use Rattle.std.proofs.Common.{refl, sym}
use Rattle.model.specs.Record.{view}
use Rattle.model.specs.declared.answers.FrontierEvents.{FrontierEvents}
use Rattle.model.specs.Answers.{events_listed}
use Rattle.model.specs.Lookups.{frontier_of}
use Rattle.std.proofs.lemmas.Result.{err_from_is_err_and}
use Rattle.graph.proofs.Views.{tips_view, frontier-pad}
use Rattle.graph.proofs.Looking.{look_broken, look_done, listed-done}
use Rattle.graph.proofs.lookups.frontier.Goals as goal
use Rattle.std.specs.Prelude.{Ok}
use Rattle.model.specs.Refusals.{OrRefusal}

pub returns-in_err-g : goal.returns-in_err-g
unfolding frontier_of
returns-in_err-g c =
    let p = err_from_is_err_and c.from_residual.result c.from_residual.ensures.1 in
    let e = c.in_err-g.ensures.err in
    rw (p.1, p.2, e.0, look_broken c.args.g e.1)

pub returns : goal.returns
unfolding frontier_of events_listed
returns c =
    let k = c.in_ok-g.field-0 in
    let g = k.graph in
    let same = c.in_ok-g.ensures.ok in
    rw (← same.0)
    (rw (look_done g same.1 _ refl)
    (listed-done {A = OrRefusal FrontierEvents} (λ es n. Ok (record { events = es; count = n })) g.frontier g.frontier_count (view g).frontier
    (frontier-pad g k.held) (sym (tips_view g k.held))))
