-- `walk::given::Given::parents`: a run's parents, between where they begin and the next.
use Rattle.std.proofs.Common.{◌<◌, sym, ap, ◌∙◌, subst}
use Rattle.model.specs.History.{at}
use Rattle.walk.specs.Given.{Given, parents_for}
use Rattle.walk.proofs.Reading.{parents_lent}
use Rattle.walk.proofs.given.Given.parents.Goals as goal

pub returns-clause-value : goal.returns-clause-value
returns-clause-value c =
    c.part.ensures.value ∙ (parents_lent _ c.self.invariant c.args.run (subst (λ (g : Given). c.args.run < g.runs) (sym c.self.view_is) c.requires) ∙ ap (λ (g : Given). at (parents_for g) c.args.run) c.self.view_is)
