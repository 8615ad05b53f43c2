-- `walk::replaying::replay_next`: Open finds no room, or the range is applied in order or walked.
use Rattle.std.proofs.Common.{◌-◌, ap, arith}
use Rattle.std.proofs.lemmas.Result.{err_from_is_err_and}
use Rattle.moves.specs.declared.writing.Kind.TheVariants.{Open}
use Rattle.moves.specs.Emit.{Writing, so_far, step_of}
use Rattle.moves.proofs.Bounds.{one_moved, applies_moved}
use Rattle.walk.specs.Ranges.{range_at}
use Rattle.walk.proofs.ReplayWays.{next_full, next_linear, next_walk}
use Rattle.walk.proofs.replaying.replay_next.Goals as goal

pub returns-in_err-put_step-clause-steps_after : goal.returns-in_err-put_step-clause-steps_after
returns-in_err-put_step-clause-steps_after c =
    let a = c.args in
    let p = err_from_is_err_and c.from_residual.result c.from_residual.ensures.1 in
    rw (p.1, p.2) (next_full a.graph.now.starts (range_at a.graph.now) _ _ _ a.rows.now a.kind a.a.0 a.b.0 c.in_err-put_step.ensures.steps_after)

pub returns-in-Linear-clause-steps_after : goal.returns-in-Linear-clause-steps_after
returns-in-Linear-clause-steps_after c =
    let a = c.args in
    rw c.in-Linear.is (next_linear a.graph.now.starts (range_at a.graph.now) _ _ _ a.rows.now a.a.0 a.b.0 c.in_ok-put_step.ensures.steps_after c.put_applies.ensures.steps_after)

pub returns-in-Concurrent-clause-steps_after : goal.returns-in-Concurrent-clause-steps_after
returns-in-Concurrent-clause-steps_after c =
    let a = c.args in
    rw c.in-Concurrent.is (next_walk a.graph.now.starts (range_at a.graph.now) _ _ _ a.rows.now a.a.0 a.b.0 c.in_ok-put_step.ensures.steps_after c.walk_range.ensures.steps_after)

pub returns-in-Linear-clause-moved_bound : goal.returns-in-Linear-clause-moved_bound
returns-in-Linear-clause-moved_bound c =
    let a = c.args in
    omega (
      arith,
      ap (λ (x : Writing). x.0.moved) c.put_applies.ensures.steps_after,
      applies_moved (so_far c.put_step.new.self) a.a.0 (a.b.0 - a.a.0),
      ap (λ (x : Writing). x.0.moved) c.in_ok-put_step.ensures.steps_after,
      one_moved (so_far a.steps.now) (step_of Open a.a.0 a.b.0 0),
    )
