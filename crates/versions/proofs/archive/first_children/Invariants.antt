-- `versions::archive::first_children` meets its contract. The loop's invariant: the first children among the runs so far. Assumes nothing.
use Rattle.std.proofs.Common.{◌≡◌}
use Rattle.versions.specs.Heads.{first_children}
use Rattle.versions.specs.Parents.{parents_in}
use Rattle.versions.proofs.archive.first_children.Given as goal

abbrev pub invariant-loop-q : goal.invariant-loop-q
invariant-loop-q l = l.firsts ≡ first_children (parents_in l.parents) l.q
