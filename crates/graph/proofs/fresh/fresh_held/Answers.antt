-- `graph::fresh::fresh_held` meets its contract: its places are those of the stored fresh graph. Assumes nothing.
use Rattle.graph.proofs.Beginning.{fresh-stored}
use Rattle.graph.proofs.fresh.fresh_held.Goals as goal

pub returns : goal.returns
returns c =
    let a = c.args in
    fresh-stored a.events.0 a.frontier.now _ _ _ _ _ _
    c.zeros-starts.ensures c.zeros.ensures c.zeros-2.ensures
    c.padded.ensures c.zeros-3.ensures c.zeros-4.ensures
