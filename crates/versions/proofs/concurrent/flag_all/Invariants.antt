-- `versions::concurrent::flag_all` meets its contract. The loop's invariant: what is left, flagged from here, is the whole. Assumes nothing.
use Rattle.std.proofs.Common.{◌≡◌, drop}
use Rattle.versions.specs.Flags.{flag_all}
use Rattle.versions.proofs.concurrent.flag_all.Given as goal

abbrev pub invariant-loop-p : goal.invariant-loop-p
invariant-loop-p l = flag_all l.flags (drop l.p-index l.runs) ≡ flag_all l.initial.flags l.runs
