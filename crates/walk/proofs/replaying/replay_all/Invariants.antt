-- `walk::replaying::replay_all`: the ranges that are left, replayed from here, give the whole.
use Rattle.std.proofs.Common.{◌≡◌, drop}
use Rattle.moves.specs.Emit.{so_far, same_list}
use Rattle.walk.specs.Ranges.{range_at}
use Rattle.walk.specs.Walked.{replay_all}
use Rattle.walk.specs.CutRecords.{ranges_in}
use Rattle.walk.proofs.replaying.replay_all.Given as goal

abbrev pub invariant-loop-word : goal.invariant-loop-word
invariant-loop-word l = record {
  same_list : same_list l.steps l.initial.steps;
  left : replay_all l.graph.starts (range_at l.graph) (so_far l.steps, l.rows) (ranges_in (drop l.word-index l.ranges)) ≡
      replay_all l.graph.starts (range_at l.graph) (so_far l.initial.steps, l.initial.rows) (ranges_in l.ranges);
}
