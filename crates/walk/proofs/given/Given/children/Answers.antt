-- `walk::given::Given::children`: a run's children, between where they begin and the next.
use Rattle.std.proofs.Common.{◌<◌, sym, ap, ◌∙◌, subst}
use Rattle.walk.specs.Given.{Given, child_starts, children_for}
use Rattle.walk.proofs.Reading.{children_bounds}
use Rattle.walk.proofs.given.Given.children.Goals as goal

pub part-requires : goal.part-requires
part-requires c = children_bounds _ c.self.invariant c.args.run (subst (λ (g : Given). c.args.run < g.runs) (sym c.self.view_is) c.requires)

pub returns : goal.returns
unfolding child_starts children_for
returns c = c.part.ensures.value ∙ ap (λ (g : Given). children_for g c.args.run) c.self.view_is
