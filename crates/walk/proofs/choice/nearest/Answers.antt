-- `walk::choice::nearest`: a candidate more, and none.
use Rattle.std.proofs.Common.{◌≡◌, ℕ, ◌-◌, get_or, sym, ap, ◌∙◌, arith}
use Rattle.walk.specs.Readiness.{Wakes}
use Rattle.walk.specs.Choose.{scan_c, only_c, cost_c, weight_c}
use Rattle.walk.proofs.Weighing.{scan_next, scan_none}
use Rattle.walk.proofs.choice.nearest.Goals as goal

pub loop-at-preserved : goal.loop-at-preserved
loop-at-preserved c = let a = c.args in
    let g = a.given.now in
    let l = c.loop-at in
    let run = ap (λ (s : Wakes). get_or s.2 (l.at - 1) 0) c.waits.view_is in
    let few = ap (λ (s : Wakes). s.0) c.waits.view_is in
    record {
      from = omega (arith, c.loop-at-test.true);
      left = scan_next (only_c g a.last) (cost_c g a.current.now) (weight_c g) a.waits.now.2 a.waits.now.0 l.at c.saturating_sub-at-start.result
          (get_or c.waits.inside.ready (l.at - 1) 0) l.best c.weigh-best.result c.loop-at-test.true (omega (arith, l.auto.at, few)) run c.weigh-best.ensures ∙
          l.invariant.left;
    }

pub returns : goal.returns
returns c = let a = c.args in
    let l = c.loop-at in
    let g = a.given.now in
    let e : l.at ≡ c.saturating_sub-at-start.result = omega (arith, l.invariant.from, c.loop-at-test.false) in
    sym (ap (λ (k : ℕ). scan_c (only_c g a.last) (cost_c g a.current.now) (weight_c g) a.waits.now.2 a.waits.now.0 (a.waits.now.0 - l.at) (k - c.saturating_sub-at-start.result) l.best) e ∙
    scan_none (only_c g a.last) (cost_c g a.current.now) (weight_c g) a.waits.now.2 a.waits.now.0 (a.waits.now.0 - l.at) c.saturating_sub-at-start.result l.best) ∙ l.invariant.left
