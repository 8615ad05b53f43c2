-- `moves::writing::Steps::put_applies`: a run more, one that finds no room, and none.
use Rattle.std.proofs.Common.{◌+◌, ◌-◌, sym, ◌∙◌}
use Rattle.std.proofs.lemmas.Result.{err_from_is_err_and}
use Rattle.moves.specs.Emit.{so_far, applies}
use Rattle.moves.proofs.Emitting.{ends_refused, goes_on, applies-next, applies-none}
use Rattle.moves.proofs.writing.Steps.put_applies.Goals as goal

pub returns-in_err-put_step-clause-steps_after : goal.returns-in_err-put_step-clause-steps_after
returns-in_err-put_step-clause-steps_after c =
    let l = c.loop-run in
    let p = err_from_is_err_and c.from_residual.result c.from_residual.ensures.1 in
    rw (p.1, p.2) (ends_refused (applies (l.run + 1) (c.args.end - (l.run + 1)))
    (applies-next (so_far l.self) l.run c.args.end c.loop-run-test.true ∙ l.invariant.left) c.in_err-put_step.ensures.steps_after)

pub returns-in_err-put_step-clause-small : goal.returns-in_err-put_step-clause-small
returns-in_err-put_step-clause-small c s = c.in_err-put_step.ensures.small (c.loop-run.invariant.small s)

pub loop-run-preserved : goal.loop-run-preserved
loop-run-preserved c =
    let l = c.loop-run in
    let put = c.in_ok-put_step.ensures in
    record {
      same_list = put.same_list ∙ l.invariant.same_list;
      small = λ s. put.small (l.invariant.small s);
      left = goes_on _ (applies-next (so_far l.self) l.run c.args.end c.loop-run-test.true ∙ l.invariant.left) put.steps_after;
    }

pub returns-clause-steps_after : goal.returns-clause-steps_after
returns-clause-steps_after c = let l = c.loop-run in sym (applies-none (so_far l.self) l.run c.args.end c.loop-run-test.false) ∙ l.invariant.left

pub returns-clause-small : goal.returns-clause-small
returns-clause-small c = c.loop-run.invariant.small
