-- `walk::choice::is_only_parent`: two slices are equal where the definitions say that their lists are the same.
use Rattle.std.proofs.Common.{ap, ◌∙◌, List, ℕ, eqb}
use lib.Pointwise.{pointwise}
use Rattle.walk.specs.Choose.{is_only}
use Rattle.walk.proofs.Library.{same_is}
use Rattle.walk.proofs.choice.is_only_parent.Goals as goal

pub returns-in-Some : goal.returns-in-Some
unfolding is_only
returns-in-Some c = rw c.in-Some.is (c.eq.ensures ∙ (ap (λ (ys : List ℕ). pointwise eqb c.args.parents.now ys) c.as_slice.ensures ∙ same_is c.args.parents.now _))
