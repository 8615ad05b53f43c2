-- `versions::concurrent::flag_up` meets its contract. The loop's invariant: what is left, flagged from here, is the whole. Assumes nothing.
use Rattle.std.proofs.Common.{◌≡◌, ◌-◌}
use Rattle.versions.specs.Flags.{flag_up}
use Rattle.versions.specs.Parents.{parents_in}
use Rattle.versions.proofs.concurrent.flag_up.Given as goal

abbrev pub invariant-loop-q : goal.invariant-loop-q
invariant-loop-q l =
    flag_up (parents_in l.parents) l.run.0 l.flags l.q (l.q-end - l.q) ≡ flag_up (parents_in l.parents) l.run.0 l.initial.flags l.fn.from.0 (l.q-end - l.fn.from.0)
