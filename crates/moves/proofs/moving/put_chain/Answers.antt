-- `moves::moving::put_chain`: the moves of one chain, or none.
use Rattle.std.proofs.Common.{List, ℕ, ap, ◌∙◌, arith}
use Rattle.moves.specs.Emit.{so_far, emit}
use Rattle.moves.specs.Stretches.{stretches}
use Rattle.moves.proofs.ByChain.{runs_slice, runs_none}
use Rattle.moves.proofs.moving.put_chain.Goals as goal

pub returns-then-hi-lo-clause-steps_after : goal.returns-then-hi-lo-clause-steps_after
returns-then-hi-lo-clause-steps_after c =
    let a = c.args in
    runs_none (so_far a.steps.now) a.runs.starts.now a.kind a.runs.base a.chains.members.now a.chains.begins.now a.from.now a.to.now a.c (omega arith)

pub returns-clause-steps_after : goal.returns-clause-steps_after
returns-clause-steps_after c =
    let a = c.args in
    let read = runs_slice a.chains.members.now a.chains.begins.now a.from.now a.to.now a.c _ _ _ _ _ c.item-lo.ensures c.item-hi.ensures c.item-b.ensures c.min-e.ensures c.min-s.ensures in
    c.put_stretches.ensures.steps_after ∙ ap (λ (l : List ℕ). emit (so_far a.steps.now) (stretches a.runs.starts.now a.kind a.runs.base l)) read
