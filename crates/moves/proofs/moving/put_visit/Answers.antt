-- `moves::moving::put_visit`: retreats, advances, Apply, or as many as find room.
use Rattle.std.proofs.Common.{◌∙◌}
use Rattle.std.proofs.lemmas.Result.{err_from_is_err_and}
use Rattle.moves.specs.Emit.{so_far}
use Rattle.moves.proofs.Emitting.{ends_refused}
use Rattle.moves.proofs.ByChain.{visit_retreats, visit_advances, visit_applies}
use Rattle.moves.proofs.moving.put_visit.Goals as goal

pub returns-in_err-put_moves-clause-steps_after : goal.returns-in_err-put_moves-clause-steps_after
returns-in_err-put_moves-clause-steps_after c =
    let a = c.args in
    let p = err_from_is_err_and c.from_residual.result c.from_residual.ensures.1 in
    rw (p.1, p.2) (ends_refused _ (visit_retreats a.runs.starts.now a.runs.base _ _ a.current.now a.row.now a.chains.count a.run (so_far a.steps.now)) c.in_err-put_moves.ensures.steps_after)

pub returns-in_err-put_moves-2-clause-steps_after : goal.returns-in_err-put_moves-2-clause-steps_after
returns-in_err-put_moves-2-clause-steps_after c =
    let a = c.args in
    let p = err_from_is_err_and c.from_residual-in_err-put_moves-2.result c.from_residual-in_err-put_moves-2.ensures.1 in
    rw (p.1, p.2) (ends_refused _ (visit_advances a.runs.starts.now a.runs.base _ _ a.current.now a.row.now a.chains.count a.run
    (so_far a.steps.now) _ c.in_ok-put_moves.ensures.steps_after) c.in_err-put_moves-2.ensures.steps_after)

pub returns-clause-steps_after : goal.returns-clause-steps_after
returns-clause-steps_after c =
    let a = c.args in
    c.put_step.ensures.steps_after ∙
    visit_applies a.runs.starts.now a.runs.base _ _ a.current.now a.row.now a.chains.count a.run
    (so_far a.steps.now) _ c.in_ok-put_moves.ensures.steps_after _ c.in_ok-put_moves-2.ensures.steps_after
