-- `versions::archive::note_child` meets its contract. The loop's invariant: what is left, noted from here, is the whole. Assumes nothing.
use Rattle.std.proofs.Common.{◌≡◌, drop}
use Rattle.versions.specs.Heads.{note_all}
use Rattle.versions.proofs.archive.note_child.Given as goal

abbrev pub invariant-loop-p : goal.invariant-loop-p
invariant-loop-p l = note_all l.firsts l.child.0 (drop l.p-index l.parents) ≡ note_all l.initial.firsts l.child.0 l.parents
