-- `graph::pushing::push` meets its contract: a broken graph is refused, and one that is not broken is held. Assumes nothing.
use Rattle.std.proofs.Common.{◌∙◌}
use Rattle.graph.proofs.PushWays.{broken-out, unbroken-out}
use Rattle.graph.proofs.pushing.push.Goals as goal

pub returns-in-Ok : goal.returns-in-Ok
returns-in-Ok c =
    let e = c.in-Ok.ensures.ok in
    rw (← e.0) (c.push_held-answer.ensures ∙ unbroken-out c.in-Ok.held.graph c.args.parents.now c.args.len e.1)

pub returns-in-Err : goal.returns-in-Err
returns-in-Err c =
    let e = c.in-Err.ensures.err in
    rw (c.refused.ensures, e.0) (broken-out c.args.g c.args.parents.now c.args.len e.1)
