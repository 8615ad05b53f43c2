-- `walk::visiting::Progress::visit_all`: the loop's invariant is `LoopedWithin`, and its counter counts the visits.
use Rattle.std.proofs.Common.{◌-◌}
use Rattle.moves.specs.Emit.{so_far, same_list}
use Rattle.walk.proofs.Looped.{LoopedWithin}
use Rattle.walk.proofs.visiting.Progress.visit_all.Given as goal

abbrev pub invariant-loop : goal.invariant-loop
invariant-loop l = record {
  same_list : same_list l.steps l.initial.steps;
  looped : LoopedWithin l.given (so_far l.initial.steps) (l.given.runs - l.counter) l.self (so_far l.steps);
}
