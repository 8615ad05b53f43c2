-- `tables::distance::Sums::events_of` meets its contract: the events of a version. Assumes nothing.
use Rattle.std.proofs.Common.{◌≡◌, ◌≤◌, ◌-◌, ◌+◌, ◌*◌, ◌^◌}
use Rattle.tables.specs.Sizes.{events_from}
use Rattle.tables.proofs.distance.Sums.events_of.Given as goal

abbrev pub invariant-loop-c : goal.invariant-loop-c
invariant-loop-c l = record {
  small : l.sum ≤ l.c * 2 ^ 41;
  going_on : l.sum + events_from l.self.before.now l.self.begins.now l.row l.c (l.self.chains - l.c) ≡ events_from l.self.before.now l.self.begins.now l.row 0 l.self.chains;
}
