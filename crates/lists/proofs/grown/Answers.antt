-- `lists::grown` meets its contract, by the two cases of the test. Assumes nothing.
use Rattle.std.proofs.lemmas.Bool.{le-leb, lt-leb}
use Rattle.lists.specs.Scans.{grow}
use Rattle.lists.proofs.grown.Goals as goal

pub returns-then-from-v : goal.returns-then-from-v
unfolding grow
returns-then-from-v c = rw (le-leb _ _ c.if-from-v.true)

pub returns-else-from-v : goal.returns-else-from-v
unfolding grow
returns-else-from-v c = rw (lt-leb _ _ c.if-from-v.false)
