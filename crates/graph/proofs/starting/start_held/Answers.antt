-- `graph::starting::start_held` meets its contract: in no run it is told false. Assumes nothing.
use Rattle.std.proofs.Common.{sym, ◌∙◌}
use Rattle.model.specs.Graph.{side}
use Rattle.model.specs.Record.{view}
use Rattle.model.specs.Start.{told}
use Rattle.graph.proofs.Placing.{told-run, told-out}
use Rattle.graph.proofs.StartWays.{start_outside}
use Rattle.graph.proofs.starting.start_held.Goals as goal

pub returns-in_default : goal.returns-in_default
unfolding told
returns-in_default c =
    let k = c.args.g.now in
    let g = k.graph in
    let at = c.args.at.0 in
    start_outside g at
    (told-out (side (view g) at) c.containing.ensures c.in_default.not-Run)

pub start_in-requires : goal.start_in-requires
start_in-requires c =
    let k = c.args.g.now in
    let g = k.graph in
    let at = c.args.at.0 in
    told-run (side (view g) at) c.in-Run.run' (sym c.containing.ensures ∙ c.in-Run.is)
