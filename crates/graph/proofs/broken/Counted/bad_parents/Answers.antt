-- `graph::broken::Counted::bad_parents` meets its contract: where the groups cover the entries, each is asked. Assumes nothing.
use Rattle.std.proofs.Common.{arith, ap, ◌≤◌, not, length, length-take-le}
use Rattle.model.specs.Record.{view}
use Rattle.model.specs.Broken.{bad_parents}
use Rattle.graph.proofs.Testing.{told, groups_climb}
use Rattle.graph.proofs.broken.Counted.bad_parents.Goals as goal

pub returns-then-bad_groups : goal.returns-then-bad_groups
returns-then-bad_groups c = rw (told c.bad_groups.ensures c.if-bad_groups.true)

pub groups_fit-requires-clause-climbs : goal.groups_fit-requires-clause-climbs
groups_fit-requires-clause-climbs c =
    let g = c.args.self.graph.now in
    let fits : g.entry_count ≤ length g.parents = omega (arith, c.args.self.fit.entries, c.args.self.fit.sized.parents) in
    rw (length-take-le g.entry_count g.parents fits) (groups_climb g (told c.bad_groups.ensures c.if-bad_groups.false))

pub returns : goal.returns
unfolding bad_parents view
returns c = rw (told c.bad_groups.ensures c.if-bad_groups.false) (ap not c.groups_fit.ensures)
