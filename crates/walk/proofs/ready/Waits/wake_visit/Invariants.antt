-- `walk::ready::Waits::wake_visit`: what is left to wake gives the whole, of the children and of the later runs.
use Rattle.std.proofs.Common.{◌≡◌, ◌-◌, drop}
use Rattle.lists.specs.Lists.{from}
use Rattle.walk.specs.Readiness.{wake_all}
use Rattle.walk.proofs.ready.Waits.wake_visit.Given as goal

abbrev pub invariant-loop-child : goal.invariant-loop-child
invariant-loop-child l = wake_all l.self (drop l.child-index l.child-items) ≡ wake_all l.initial.self l.child-items

abbrev pub invariant-loop-later : goal.invariant-loop-later
invariant-loop-later l = wake_all l.self (from l.later (l.later-end - l.later)) ≡ wake_all l.initial.self (from l.initial.later (l.later-end - l.initial.later))
