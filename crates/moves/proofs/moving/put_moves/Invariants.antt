-- `moves::moving::put_moves`: the chains that are left, written from here, give the whole.
use Rattle.std.proofs.Common.{◌≡◌, ◌-◌}
use Rattle.moves.specs.Emit.{so_far, same_list, emit, ByCount}
use Rattle.moves.specs.Moves.{moves_from}
use Rattle.moves.proofs.moving.put_moves.Given as goal

abbrev pub invariant-loop-c : goal.invariant-loop-c
invariant-loop-c l = record {
  same_list : same_list l.steps l.initial.steps;
  small : ByCount (so_far l.initial.steps) → ByCount (so_far l.steps);
  left : emit (so_far l.steps) (moves_from l.runs.starts.now l.kind l.runs.base l.chains.members.now l.chains.begins.now l.from l.to l.c (l.chains.count - l.c)) ≡
      emit (so_far l.initial.steps) (moves_from l.runs.starts.now l.kind l.runs.base l.chains.members.now l.chains.begins.now l.from l.to 0 l.chains.count);
}
