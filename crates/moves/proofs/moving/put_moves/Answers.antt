-- `moves::moving::put_moves`: a chain more, one whose moves find no room, and none.
use Rattle.std.proofs.Common.{sym, ◌∙◌}
use Rattle.std.proofs.lemmas.Result.{err_from_is_err_and}
use Rattle.moves.specs.Emit.{so_far}
use Rattle.moves.proofs.Emitting.{ends_refused, goes_on}
use Rattle.moves.proofs.ByChain.{moves_next, moves-none}
use Rattle.moves.proofs.moving.put_moves.Goals as goal

pub returns-in_err-put_chain-clause-steps_after : goal.returns-in_err-put_chain-clause-steps_after
returns-in_err-put_chain-clause-steps_after c =
    let l = c.loop-c in
    let p = err_from_is_err_and c.from_residual.result c.from_residual.ensures.1 in
    rw (p.1, p.2) (ends_refused _ (moves_next (so_far l.steps) _ _ _ _ _ _ _ l.c c.args.chains.count c.loop-c-test.true ∙ l.invariant.left) c.in_err-put_chain.ensures.steps_after)

pub returns-in_err-put_chain-clause-small : goal.returns-in_err-put_chain-clause-small
returns-in_err-put_chain-clause-small c s = c.in_err-put_chain.ensures.small (c.loop-c.invariant.small s)

pub loop-c-preserved : goal.loop-c-preserved
loop-c-preserved c =
    let l = c.loop-c in
    let put = c.in_ok-put_chain.ensures in
    record {
      same_list = put.same_list ∙ l.invariant.same_list;
      small = λ s. put.small (l.invariant.small s);
      left = goes_on _ (moves_next (so_far l.steps) _ _ _ _ _ _ _ l.c c.args.chains.count c.loop-c-test.true ∙ l.invariant.left) put.steps_after;
    }

pub returns-clause-steps_after : goal.returns-clause-steps_after
returns-clause-steps_after c = sym (moves-none _ _ _ _ _ _ _ _ _ _ c.loop-c-test.false) ∙ c.loop-c.invariant.left

pub returns-clause-small : goal.returns-clause-small
returns-clause-small c = c.loop-c.invariant.small
