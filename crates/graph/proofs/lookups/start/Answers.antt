-- `graph::lookups::start` meets its contract: its two tests are those of the definition, and its read is one of the graph. Assumes nothing.
use Rattle.std.proofs.Common.{arith, lt-ltb, le-ltb}
use Rattle.std.proofs.lemmas.Result.{err_from_is_err_and}
use Rattle.model.specs.Graph.{runs}
use Rattle.model.specs.Record.{view}
use Rattle.model.specs.Lookups.{start_of}
use Rattle.graph.proofs.Views.{facts, runs-view, start-view}
use Rattle.graph.proofs.Looking.{look_broken, look_outside, look_done}
use Rattle.graph.proofs.lookups.start.Goals as goal

pub returns-in_err-g : goal.returns-in_err-g
unfolding start_of
returns-in_err-g c =
    let p = err_from_is_err_and c.from_residual.result c.from_residual.ensures.1 in
    let e = c.in_err-g.ensures.err in
    rw (p.1, p.2, e.0, look_broken c.args.g e.1)

pub returns-then-g-n : goal.returns-then-g-n
unfolding start_of
returns-then-g-n c =
    let k = c.in_ok-g.field-0 in
    let same = c.in_ok-g.ensures.ok in
    rw (← same.0) (rw (look_outside k.graph same.1 _ (lt-ltb (runs (view k.graph)) c.args.run.0 (omega (arith, runs-view k.graph k.held, c.if-g-n.true)))))

pub bounds-g-n : goal.bounds-g-n
bounds-g-n c = omega (arith, (facts c.in_ok-g.field-0.graph c.in_ok-g.field-0.held).runs)

pub returns : goal.returns
unfolding start_of
returns c =
    let k = c.in_ok-g.field-0 in
    let same = c.in_ok-g.ensures.ok in
    let r = c.args.run.0 in
    let inside = le-ltb (runs (view k.graph)) r (omega (arith, runs-view k.graph k.held, c.if-g-n.false)) in
    rw (← same.0) (rw (look_done k.graph same.1 _ inside, start-view k.graph k.held r c.if-g-n.false))
