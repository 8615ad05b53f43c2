-- `walk::visiting::Progress::visit_next`: the run chosen, its visit and what it wakes are one turn.
use Rattle.std.proofs.Common.{refl, ap, ◌∙◌}
use Rattle.std.proofs.lemmas.Result.{err_from_is_err_and}
use Rattle.moves.specs.Emit.{so_far, emit}
use Rattle.walk.specs.Given.{children_for}
use Rattle.walk.specs.Readiness.{Wakes, woken_of}
use Rattle.walk.proofs.Stepping.{visited_is, turned}
use Rattle.walk.proofs.visiting.Progress.visit_next.Goals as goal

pub returns-in_err-visit-clause-steps_after : goal.returns-in_err-visit-clause-steps_after
returns-in_err-visit-clause-steps_after c =
    let a = c.args in
    let p = err_from_is_err_and c.from_residual.result c.from_residual.ensures.1 in
    rw (p.1, p.2) (c.in_err-visit.ensures.steps_after ∙ ap (emit (so_far a.steps.now))
    (visited_is a.given.now a.self.now a.at c.remove-run.result c.requires.at c.remove-run.ensures.run))

pub returns-clause-steps_after : goal.returns-clause-steps_after
returns-clause-steps_after c =
    let a = c.args in
    c.in_ok-visit.ensures.steps_after ∙ ap (emit (so_far a.steps.now)) (visited_is a.given.now a.self.now a.at c.remove-run.result c.requires.at c.remove-run.ensures.run)

pub returns-clause-turned : goal.returns-clause-turned
returns-clause-turned c =
    let a = c.args in
    let g = a.given.now in
    let w = c.wake_visit-self.ensures in
    turned g a.self.now a.at c.remove-run.result c.requires.at c.remove-run.ensures.run c.in_ok-visit.ensures.version
    (w.ready_after ∙ ap (λ (s : Wakes). woken_of s (children_for g c.remove-run.result) c.remove-run.result g.known g.first g.runs a.self.now.left) c.remove-run.ensures.rest) w.left_value refl
