-- `walk::visiting::Progress::visit_all`: how it begins, a visit more, one refused, and its two ends.
use Rattle.std.proofs.Common.{◌≡◌, ◌+◌, ◌-◌, ◌^◌, refl, sym, ap, ◌∙◌, subst, arith}
use Rattle.std.proofs.lemmas.Result.{err_from_is_err_and}
use Rattle.moves.specs.Emit.{so_far}
use Rattle.moves.specs.Stretches.{Below}
use Rattle.walk.specs.Given.{Given, Prepared}
use Rattle.walk.specs.Choose.{index_of}
use Rattle.walk.specs.Turns.{best_in}
use Rattle.walk.proofs.Looped.{looped_ready, looped_fit, looped_none, looped_refused, looped_end, within_start, within_looped, within_next, looped_moved, looped_refused_moved, none_ready, some_ready}
use Rattle.walk.proofs.visiting.Progress.visit_all.Goals as goal

pub loop-init : goal.loop-init
loop-init c = let g = c.args.given.now in
    let z : g.runs - 0 ≡ g.runs = omega arith in
    record { same_list = refl; looped = rw z (within_start g _ (so_far c.args.steps.now) (subst Prepared c.given.view_is c.given.invariant) c.requires) }

pub nearest-requires-clause-ready : goal.nearest-requires-clause-ready
nearest-requires-clause-ready c = (looped_ready _ _ _ _ _ (within_looped _ _ _ _ _ c.loop.invariant.looped)).low

pub returns-in_default-clause-steps_after : goal.returns-in_default-clause-steps_after
unfolding best_in
returns-in_default-clause-steps_after c =
    looped_end _ _ _ _ _ (within_looped _ _ _ _ _ c.loop.invariant.looped) (none_ready c.args.given.now c.loop.self (sym c.nearest.ensures ∙ c.in_default.is))

pub visit_next-requires-clause-at : goal.visit_next-requires-clause-at
unfolding best_in
visit_next-requires-clause-at c = ap index_of (sym c.in-Some.is ∙ c.nearest.ensures)

pub visit_next-requires-clause-fit : goal.visit_next-requires-clause-fit
unfolding best_in
visit_next-requires-clause-fit c =
    looped_fit _ _ _ _ _ (within_looped _ _ _ _ _ c.loop.invariant.looped) (some_ready c.args.given.now c.loop.self c.in-Some.best (sym c.nearest.ensures ∙ c.in-Some.is))

pub returns-in_err-visit_next-clause-steps_after : goal.returns-in_err-visit_next-clause-steps_after
unfolding best_in
returns-in_err-visit_next-clause-steps_after c =
    let some = some_ready c.args.given.now c.loop.self c.in-Some.best (sym c.nearest.ensures ∙ c.in-Some.is) in
    let p = err_from_is_err_and c.from_residual.result c.from_residual.ensures.1 in
    rw (p.1, p.2) (looped_refused _ _ _ _ _ (within_looped _ _ _ _ _ c.loop.invariant.looped) some c.in_err-visit_next.ensures.steps_after)

pub loop-preserved : goal.loop-preserved
unfolding best_in
loop-preserved c = let a = c.args in
    let g = a.given.now in
    let l = c.loop in
    let v = c.in_ok-visit_next.ensures in
    let some = some_ready g l.self c.in-Some.best (sym c.nearest.ensures ∙ c.in-Some.is) in
    let z : g.runs - (l.counter + 1) ≡ g.runs - l.counter - 1 = omega arith in
    record {
      same_list = v.same_list ∙ l.invariant.same_list;
      looped = rw z (within_next g (so_far a.steps.now) (g.runs - l.counter) l.self (so_far l.steps) l.invariant.looped some c.visit_next.new.self
          (so_far c.visit_next.new.steps) v.turned v.steps_after);
    }

-- No visit is left, so no run is ready
pub returns-clause-steps_after : goal.returns-clause-steps_after
returns-clause-steps_after c =
    let runs = ap (λ (g : Given). g.runs) c.given.view_is in
    let L = within_looped _ _ _ _ _ c.loop.invariant.looped in
    looped_end _ _ _ _ _ L (looped_none _ _ _ _ _ L (omega (arith, runs, c.loop-test.false)))

-- What it moves
pub returns-in_default-clause-moved_bound : goal.returns-in_default-clause-moved_bound
returns-in_default-clause-moved_bound c = looped_moved _ _ _ _ _ c.loop.invariant.looped (subst (λ (g : Given). Below (2 ^ 32) g.starts) c.given.view_is c.starts_fit.ensures)

pub returns-in_err-visit_next-clause-moved_bound : goal.returns-in_err-visit_next-clause-moved_bound
unfolding best_in
returns-in_err-visit_next-clause-moved_bound c =
    let some = some_ready c.args.given.now c.loop.self c.in-Some.best (sym c.nearest.ensures ∙ c.in-Some.is) in
    looped_refused_moved _ _ _ _ _ c.loop.invariant.looped some (subst (λ (g : Given). Below (2 ^ 32) g.starts) c.given.view_is c.starts_fit.ensures) _ c.in_err-visit_next.ensures.steps_after

pub returns-clause-moved_bound : goal.returns-clause-moved_bound
returns-clause-moved_bound c = looped_moved _ _ _ _ _ c.loop.invariant.looped (subst (λ (g : Given). Below (2 ^ 32) g.starts) c.given.view_is c.starts_fit.ensures)
