-- `graph::lookups::events` meets its contract: its two tests are those of the definition, and its reads are those of the graph. Assumes nothing.
use Rattle.std.proofs.Common.{suc, arith, add-one, le-leb}
use borrow.Author.Tests.{lt-leb}
use Rattle.model.specs.Graph.{runs}
use Rattle.model.specs.Record.{view}
use Rattle.model.specs.Lookups.{events_of}
use Rattle.std.proofs.lemmas.Result.{err_from_is_err_and}
use Rattle.graph.proofs.Views.{facts, runs-view, start-view}
use Rattle.graph.proofs.Looking.{look_broken, look_outside, look_done}
use Rattle.graph.proofs.lookups.events.Goals as goal

pub returns-in_err-g : goal.returns-in_err-g
unfolding events_of
returns-in_err-g c =
    let p = err_from_is_err_and c.from_residual.result c.from_residual.ensures.1 in
    let e = c.in_err-g.ensures.err in
    rw (p.1, p.2, e.0, look_broken c.args.g e.1)

pub returns-then-g-n : goal.returns-then-g-n
unfolding events_of
returns-then-g-n c =
    let k = c.in_ok-g.field-0 in
    let g = k.graph in
    let same = c.in_ok-g.ensures.ok in
    rw (← same.0)
    (rw (look_outside g same.1 _ (le-leb (runs (view g)) c.args.run.0 (omega (arith, runs-view g k.held, c.if-g-n.true)))))

pub bounds-g-n : goal.bounds-g-n
bounds-g-n c =
    let k = c.in_ok-g.field-0 in
    let g = k.graph in
    omega (arith, (facts g k.held).runs)

pub bounds-g-next : goal.bounds-g-next
bounds-g-next c =
    let k = c.in_ok-g.field-0 in
    let g = k.graph in
    omega (arith, (facts g k.held).runs)

pub returns : goal.returns
unfolding events_of
returns c =
    let k = c.in_ok-g.field-0 in
    let g = k.graph in
    let r = c.args.run.0 in
    let same = c.in_ok-g.ensures.ok in
    let inside = lt-leb (runs (view g)) r (omega (arith, runs-view g k.held, c.if-g-n.false)) in
    let first = start-view g k.held r (omega (arith, c.if-g-n.false)) in
    let end = start-view g k.held (suc r) (omega (arith, c.if-g-n.false)) in
    rw (← same.0)
    (rw (look_done g same.1 _ inside, first, end, add-one r))
