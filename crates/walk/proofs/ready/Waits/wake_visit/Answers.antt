-- `walk::ready::Waits::wake_visit`: what is ready after a visit.
use Rattle.std.proofs.Common.{◌+◌, ◌-◌, sym, ap, ◌∙◌, drop, arith}
use Rattle.lists.specs.Lists.{from}
use Rattle.walk.specs.Given.{Given, children_for}
use Rattle.walk.specs.Readiness.{Wakes, wake_all}
use Rattle.walk.proofs.Waking.{wake_next, wake_none, range_next, range_none, woken-known, woken-later, woken-first, woken-last}
use Rattle.walk.proofs.ready.Waits.wake_visit.Goals as goal

pub loop-child-preserved : goal.loop-child-preserved
loop-child-preserved c =
    let l = c.loop-child in
    let children = c.children-child-items.result.now in
    ap (λ (s : Wakes). wake_all s (drop (l.child-index + 1) children)) c.wake.ensures ∙ (wake_next l.self children l.child-index c.loop-child-test.true ∙ l.invariant)

pub loop-later-preserved : goal.loop-later-preserved
loop-later-preserved c =
    let l = c.loop-later in
    let end = c.given.inside.runs in
    ap (λ (s : Wakes). wake_all s (from (l.later + 1) (end - (l.later + 1)))) c.wake-in-loop-later.ensures ∙ (range_next l.self l.later end c.loop-later-test.true ∙ l.invariant)

pub returns-then-run-given : goal.returns-then-run-given
returns-then-run-given c =
    let a = c.args in
    let g = a.given.now in
    let known = ap (λ (g : Given). g.known) c.given.view_is in
    let first = ap (λ (g : Given). g.first) c.given.view_is in
    let kids = sym (wake_none c.loop-child.self _ c.loop-child.child-index c.loop-child-test.false) ∙ c.loop-child.invariant ∙ ap (wake_all a.self.now) c.children-child-items.ensures in
    let q = woken-known a.self.now (children_for g a.run) a.run g.known g.first g.runs a.left (omega (arith, c.if-run-given.true, known)) in
    record { ready_after = kids ∙ q.0; left_value = q.1 }

pub returns-then-given-run : goal.returns-then-given-run
returns-then-given-run c =
    let a = c.args in
    let g = a.given.now in
    let known = ap (λ (g : Given). g.known) c.given.view_is in
    let first = ap (λ (g : Given). g.first) c.given.view_is in
    let kids = sym (wake_none c.loop-child.self _ c.loop-child.child-index c.loop-child-test.false) ∙ c.loop-child.invariant ∙ ap (wake_all a.self.now) c.children-child-items.ensures in
    let q = woken-later a.self.now (children_for g a.run) a.run g.known g.first g.runs a.left (omega (arith, c.if-run-given.false, known)) (omega (arith, c.if-given-run.true, first)) in
    record { ready_after = kids ∙ q.0; left_value = q.1 }

pub returns-then-left-gt1 : goal.returns-then-left-gt1
returns-then-left-gt1 c =
    let a = c.args in
    let g = a.given.now in
    let known = ap (λ (g : Given). g.known) c.given.view_is in
    let first = ap (λ (g : Given). g.first) c.given.view_is in
    let kids = sym (wake_none c.loop-child.self _ c.loop-child.child-index c.loop-child-test.false) ∙ c.loop-child.invariant ∙ ap (wake_all a.self.now) c.children-child-items.ensures in
    let q = woken-first a.self.now (children_for g a.run) a.run g.known g.first g.runs a.left (omega (arith, c.if-run-given.false, known))
    (omega (arith, c.if-given-run.false, first)) c.if-left-gt1.true in
    record { ready_after = kids ∙ q.0; left_value = q.1 }

pub returns : goal.returns
returns c =
    let a = c.args in
    let g = a.given.now in
    let known = ap (λ (g : Given). g.known) c.given.view_is in
    let first = ap (λ (g : Given). g.first) c.given.view_is in
    let kids = sym (wake_none c.loop-child.self _ c.loop-child.child-index c.loop-child-test.false) ∙ c.loop-child.invariant ∙ ap (wake_all a.self.now) c.children-child-items.ensures in
    let runs = ap (λ (g : Given). g.runs) c.given.view_is in
    let q = woken-last a.self.now (children_for g a.run) a.run g.known g.first g.runs a.left (omega (arith, c.if-run-given.false, known))
    (omega (arith, c.if-given-run.false, first)) c.if-left-gt1.false in
    record {
      ready_after = sym (range_none c.loop-later.self c.loop-later.later _ c.loop-later-test.false) ∙ c.loop-later.invariant ∙
          ((λ i. wake_all (kids i) (from (first i) (runs i - first i))) ∙ q.0);
      left_value = q.1;
    }
