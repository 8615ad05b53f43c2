-- `versions::archive::first_children` meets its contract. The loop's invariant: the first children among the runs so far. Assumes nothing.
use Rattle.std.proofs.Common.{refl}
use Rattle.versions.specs.Heads.{first_children}
use Rattle.versions.proofs.archive.first_children.Goals as goal

pub loop-q-init : goal.loop-q-init
unfolding first_children
loop-q-init c = refl
