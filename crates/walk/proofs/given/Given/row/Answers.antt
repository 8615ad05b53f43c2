-- `walk::given::Given::row`: a run's row, between its start and the next.
use Rattle.std.proofs.Common.{◌<◌, sym, ap, ◌∙◌, subst}
use Rattle.walk.specs.Given.{Given, row_starts, row_for}
use Rattle.walk.proofs.Reading.{row_bounds}
use Rattle.walk.proofs.given.Given.row.Goals as goal

pub part-requires : goal.part-requires
part-requires c = row_bounds _ c.self.invariant c.args.run (subst (λ (g : Given). c.args.run < g.runs) (sym c.self.view_is) c.requires)

pub returns : goal.returns
unfolding row_starts row_for
returns c = c.part.ensures.value ∙ ap (λ (g : Given). row_for g c.args.run) c.self.view_is
