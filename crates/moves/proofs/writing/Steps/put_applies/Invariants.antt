-- `moves::writing::Steps::put_applies`: what is left, written from here, is the whole.
use Rattle.std.proofs.Common.{◌≡◌, ◌-◌}
use Rattle.moves.specs.Emit.{so_far, same_list, emit, applies, ByCount}
use Rattle.moves.proofs.writing.Steps.put_applies.Given as goal

abbrev pub invariant-loop-run : goal.invariant-loop-run
invariant-loop-run l = record {
  same_list : same_list l.self l.initial.self;
  small : ByCount (so_far l.initial.self) → ByCount (so_far l.self);
  left : emit (so_far l.self) (applies l.run (l.end - l.run)) ≡ emit (so_far l.initial.self) (applies l.first (l.end - l.first));
}
