-- `graph::lookups::containing` meets its contract: refused where the graph is broken; else the graph is held. Assumes nothing.
use Rattle.std.proofs.Common.{refl, false, ap, Ok}
use Rattle.std.proofs.lemmas.Result.{err_from_is_err_and}
use Rattle.model.specs.Lookups.{containing_of}
use Rattle.graph.proofs.Looking.{look_broken, look_done}
use Rattle.graph.proofs.lookups.containing.Goals as goal

pub returns-in_err-g : goal.returns-in_err-g
unfolding containing_of
returns-in_err-g c =
    let p = err_from_is_err_and c.from_residual.result c.from_residual.ensures.1 in
    let e = c.in_err-g.ensures.err in
    rw (p.1, p.2, e.0, look_broken c.args.g e.1)

pub returns : goal.returns
unfolding containing_of
returns c =
    let k = c.in_ok-g.g in
    let same = c.in_ok-g.ensures.ok in
    rw (← same.0) (rw (look_done k.graph same.1 false refl) (ap Ok c.containing.ensures))
