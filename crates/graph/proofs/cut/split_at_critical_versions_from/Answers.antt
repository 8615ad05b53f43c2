-- `graph::cut::split_at_critical_versions_from` meets its contract: a broken graph is refused, any other is held. Assumes nothing.
use Rattle.graph.proofs.CutWays.{cut_broken}
use Rattle.graph.proofs.cut.split_at_critical_versions_from.Goals as goal

pub returns-in-Err : goal.returns-in-Err
returns-in-Err c =
    let e = c.in-Err.ensures.err in
    rw (c.unwritten.ensures, e.0) (cut_broken c.args.g c.args.from.0 c.args.list.now e.1)
