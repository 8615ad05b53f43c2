-- `graph::starting::start_run_at` meets its contract: refused where the graph is broken; else the graph is held. Assumes nothing.
use Rattle.std.proofs.Common.{◌∙◌}
use Rattle.model.specs.Start.{start_refused}
use Rattle.graph.proofs.StartWays.{start-broken, start-unbroken}
use Rattle.graph.proofs.starting.start_run_at.Goals as goal

pub returns-in-Ok : goal.returns-in-Ok
returns-in-Ok c =
    let e = c.in-Ok.ensures.ok in
    rw (← e.0) (c.start_held-answer.ensures ∙ start-unbroken c.in-Ok.held.graph c.args.at.0 e.1)

pub returns-in-Err : goal.returns-in-Err
unfolding start_refused
returns-in-Err c =
    let e = c.in-Err.ensures.err in
    rw (c.refused.ensures, e.0) (start-broken c.args.g c.args.at.0 e.1)
