-- `graph::splitting::split_run` meets its contract: the record is copied once, split in place, and its marks are made once. Assumes nothing.
use Rattle.std.proofs.Common.{arith, ap, ◌∙◌}
use Rattle.model.specs.declared.record.CausalGraph.{CausalGraph}
use Rattle.graph.specs.Loops.{with_arrays}
use Rattle.graph.proofs.SplitParts.{fits_of, split-marked}
use Rattle.graph.proofs.StartWays.{in_runs_lem}
use Rattle.graph.proofs.splitting.split_run.Goals as goal

pub split_in-requires : goal.split_in-requires
split_in-requires c =
    let k = c.args.g.now in
    let p = c.requires in
    fits_of k.graph k.held c.args.run.0 (in_runs_lem k.graph k.held c.args.at.0 c.args.run.0 p.inside) p.run_room p.entry_room

pub mark-requires : goal.mark-requires
unfolding with_arrays
mark-requires c = omega (arith, ap (λ (x : CausalGraph). x.run_count) c.split_in.ensures, c.requires.run_room)

pub returns : goal.returns
returns c =
    let k = c.args.g.now in
    c.mark.ensures ∙ split-marked k.graph k.held c.args.run.0 c.args.at.0 (in_runs_lem k.graph k.held c.args.at.0 c.args.run.0 c.requires.inside) c.split_in.ensures
