-- `walk::given::Given::sums`: the first sums.
use Rattle.std.proofs.Common.{ap, arith, ◌∙◌}
use Rattle.walk.specs.Given.{Given, sums_in, begins_in}
use Rattle.walk.proofs.Looping.{few-chains}
use Rattle.walk.proofs.given.Given.sums.Goals as goal

pub sums-requires : goal.sums-requires
unfolding sums_in
sums-requires c = record { few = (omega (arith, c.self.invariant.few), few-chains _ c.self.invariant); small = c.self.invariant.sums.small }

pub returns-clause-before : goal.returns-clause-before
unfolding sums_in
returns-clause-before c = c.sums.ensures.before ∙ ap (λ (g : Given). sums_in g) c.self.view_is

pub returns-clause-begins : goal.returns-clause-begins
unfolding begins_in
returns-clause-begins c = c.sums.ensures.begins ∙ ap (λ (g : Given). begins_in g) c.self.view_is
