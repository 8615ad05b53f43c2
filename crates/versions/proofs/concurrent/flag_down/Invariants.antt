-- `versions::concurrent::flag_down` meets its contract. The loop's invariant: what is left, flagged from here, is the whole. Assumes nothing.
use Rattle.std.proofs.Common.{◌≡◌}
use Rattle.versions.specs.Flags.{flag_down}
use Rattle.versions.specs.Parents.{parents_in}
use Rattle.versions.proofs.concurrent.flag_down.Given as goal

abbrev pub invariant-loop-c : goal.invariant-loop-c
invariant-loop-c l = flag_down (parents_in l.parents) l.flags l.c ≡ flag_down (parents_in l.parents) l.initial.flags l.fn.end.0
