-- `versions::archive::head_counts` meets its contract. The loop's invariant: the count below the next run, and each place so far. Assumes nothing.
use Rattle.std.proofs.Common.{◌≡◌, ◌≤◌, length}
use Rattle.versions.specs.Heads.{head_count, HeadCounts}
use Rattle.versions.specs.Parents.{parents_in}
use Rattle.versions.proofs.archive.head_counts.Given as goal

abbrev pub invariant-loop-m : goal.invariant-loop-m
invariant-loop-m l =
    (length l.counts ≡ 512) × (l.heads ≤ l.m) × (l.heads ≡ head_count l.firsts (parents_in l.parents) l.m) × HeadCounts l.firsts (parents_in l.parents) l.m l.counts
