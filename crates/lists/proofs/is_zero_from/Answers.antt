-- `lists::is_zero_from` meets its contract: past the end there is no number. Assumes nothing.
use Rattle.std.proofs.Common.{refl, drop_of_length-le}
use Rattle.lists.specs.Lists.{all}
use Rattle.lists.specs.Areas.{zeros}
use Rattle.lists.proofs.is_zero_from.Goals as goal

pub returns-then-s-from : goal.returns-then-s-from
unfolding zeros all
returns-then-s-from c = rw (drop_of_length-le c.args.s.now c.if-s-from.true) refl
