-- `graph::starting::take_changed_from` meets its contract: refused where the graph is broken; else the graph is held. Assumes nothing.
use Rattle.std.proofs.Common.{◌∙◌}
use Rattle.graph.proofs.StartWays.{take-broken, take-unbroken}
use Rattle.graph.proofs.starting.take_changed_from.Goals as goal

pub returns-in-Ok : goal.returns-in-Ok
returns-in-Ok c =
    let e = c.in-Ok.ensures.ok in
    rw (← e.0) (c.take_held.ensures ∙ take-unbroken c.in-Ok.held.graph e.1)

pub returns-in-Err : goal.returns-in-Err
returns-in-Err c =
    let e = c.in-Err.ensures.err in
    rw (c.refused.ensures, e.0) (take-broken c.args.g e.1)
