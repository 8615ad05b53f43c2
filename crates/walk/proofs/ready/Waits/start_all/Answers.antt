-- `walk::ready::Waits::start_all`: no run, a run more, and all of them.
use Rattle.std.proofs.Common.{ℕ, ◌+◌, sym, ap, ◌∙◌, subst, length, drop, arith}
use Rattle.std.proofs.lemmas.List.{length-replicate}
use Rattle.model.specs.History.{at}
use Rattle.walk.specs.Given.{Given, parents_for, Prepared}
use Rattle.walk.specs.Readiness.{Wakes, start_all, start_waits}
use Rattle.walk.proofs.Looping.{size}
use Rattle.walk.proofs.Starting.{start-next, start_end, start_keep, start_few}
use Rattle.walk.proofs.ready.Waits.start_all.Goals as goal

pub loop-r-init : goal.loop-r-init
unfolding start_waits
loop-r-init c =
    let e = c.requires in
    record {
      few = omega (arith, ap (λ (s : Wakes). s.0) e);
      waiting = ap (λ (s : Wakes). length s.1) e ∙ length-replicate {A = ℕ} _ 0;
      ready = ap (λ (s : Wakes). length s.2) e ∙ length-replicate {A = ℕ} _ 0;
      left = ap (λ (s : Wakes). start_all c.args.given.now.known c.args.given.now.first s 0 (parents_for c.args.given.now)) e;
    }

pub loop-r-preserved : goal.loop-r-preserved
unfolding at
loop-r-preserved c = let l = c.loop-r in
    let g = c.args.given.now in
    let P = subst Prepared c.given.view_is c.given.invariant in
    let runs = ap (λ (g : Given). g.runs) c.given.view_is in
    let turn = c.start_run.ensures in
    let k = start_keep g.known g.first l.self l.r (at (parents_for g) l.r) in
    record {
      few = omega (arith, ap (λ (s : Wakes). s.0) turn, start_few g.known g.first l.self l.r (at (parents_for g) l.r), l.invariant.few);
      waiting = ap (λ (s : Wakes). length s.1) turn ∙ (k.0 ∙ l.invariant.waiting);
      ready = ap (λ (s : Wakes). length s.2) turn ∙ (k.1 ∙ l.invariant.ready);
      left = ap (λ (t : Wakes). start_all g.known g.first t (l.r + 1) (drop (l.r + 1) (parents_for g))) turn ∙
          (start-next g.known g.first l.self l.r (parents_for g) (omega (arith, size g P, c.loop-r-test.true, runs)) ∙ l.invariant.left);
    }

pub returns : goal.returns
returns c = let l = c.loop-r in
    let g = c.args.given.now in
    let P = subst Prepared c.given.view_is c.given.invariant in
    let runs = ap (λ (g : Given). g.runs) c.given.view_is in
    sym (start_end g.known g.first l.self l.r (parents_for g) (omega (arith, size g P, runs, c.loop-r-test.false))) ∙ l.invariant.left
