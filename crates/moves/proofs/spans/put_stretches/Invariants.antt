-- `moves::spans::put_stretches`: from the open stretch on, what is left is the whole.
use Rattle.std.proofs.Common.{◌≡◌, ◌<◌, drop}
use Rattle.moves.specs.Emit.{so_far, same_list, ByCount}
use Rattle.moves.proofs.Stretching.{rest}
use Rattle.moves.proofs.spans.put_stretches.Given as goal

abbrev pub invariant-loop-run : goal.invariant-loop-run
invariant-loop-run l = record {
  same_list : same_list l.steps l.initial.steps;
  small : ByCount (so_far l.initial.steps) → ByCount (so_far l.steps);
  first : l.first < 512;
  last : l.last < 512;
  left : rest l.runs.starts.now l.kind l.runs.base (so_far l.steps) l.first l.last (drop l.run-index l.more) ≡
      rest l.runs.starts.now l.kind l.runs.base (so_far l.initial.steps) l.initial.first l.initial.last l.more;
}
