-- `graph::lookups::containing_in` meets its contract: an event below the first start is before the graph. Assumes nothing.
use Rattle.std.proofs.Common.{◌-◌, length, sym, ap}
use Rattle.model.specs.Answers.{containing_at}
use Rattle.graph.proofs.Placing.{in_before}
use Rattle.graph.proofs.lookups.containing_in.Goals as goal

pub returns-then-event-starts : goal.returns-then-event-starts
returns-then-event-starts c =
    let a = c.args in
    ap containing_at (sym (in_before a.starts.now (length a.starts.now - 1) a.event.0 c.if-event-starts.true))
