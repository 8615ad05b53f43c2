-- `walk::choice::nearest`: the candidates that are left, weighed from here, give the whole.
use Rattle.std.proofs.Common.{◌≡◌, ◌≤◌, ◌-◌, min, None}
use Rattle.walk.specs.Choose.{scan_c, only_c, cost_c, weight_c}
use Rattle.walk.proofs.choice.nearest.Given as goal

abbrev pub invariant-loop-at : goal.invariant-loop-at
invariant-loop-at l = record {
  from : l.at-start ≤ l.at;
  left : scan_c (only_c l.given l.last) (cost_c l.given l.current) (weight_c l.given) l.waits.2 l.waits.0 (l.waits.0 - l.at) (l.at - l.at-start) l.best ≡
      scan_c (only_c l.given l.last) (cost_c l.given l.current) (weight_c l.given) l.waits.2 l.waits.0 0 (min 64 l.waits.0) None;
}
