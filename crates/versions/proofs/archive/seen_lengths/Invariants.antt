-- `versions::archive::seen_lengths` meets its contract. The loop's invariant: each place so far. Assumes nothing.
use Rattle.std.proofs.Common.{◌≡◌, length}
use Rattle.versions.specs.Heads.{SeenLengths}
use Rattle.versions.specs.Parents.{parents_in}
use Rattle.versions.proofs.archive.seen_lengths.Given as goal

abbrev pub invariant-loop-q : goal.invariant-loop-q
invariant-loop-q l = (length l.seen ≡ 512) × SeenLengths l.firsts l.counts l.events (parents_in l.parents) l.q l.seen
