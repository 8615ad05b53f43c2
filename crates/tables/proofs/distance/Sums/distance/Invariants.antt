-- `tables::distance::Sums::distance` meets its contract: the distance of two versions, or a part of it past the limit. Assumes nothing.
use Rattle.std.proofs.Common.{◌≡◌, ◌≤◌, ◌-◌, ◌+◌, ◌*◌, ◌^◌}
use Rattle.tables.specs.Gaps.{gaps_from}
use Rattle.tables.proofs.distance.Sums.distance.Given as goal

abbrev pub invariant-loop-c : goal.invariant-loop-c
invariant-loop-c l = record {
  small : l.sum ≤ l.c * 2 ^ 41;
  going_on : l.sum + gaps_from l.self.before.now l.self.begins.now l.current l.row l.c (l.self.chains - l.c) ≡ gaps_from l.self.before.now l.self.begins.now l.current l.row 0 l.self.chains;
}
