-- `moves::spans::put_stretches`: a run goes on with the open stretch or begins one, a stretch finds no room, and the last one.
use Rattle.std.proofs.Common.{◌<◌, ◌-◌, List, ℕ, length, get_or, take, drop, ap, ◌∙◌, arith}
use Rattle.std.proofs.lemmas.Result.{err_from_is_err_and}
use Rattle.moves.specs.Emit.{so_far}
use Rattle.moves.proofs.Emitting.{ends_refused, goes_on}
use Rattle.moves.proofs.Stretching.{rest, stretch_on, stretch_next, stretch_last, stretch_start, stretch_empty, tail_is, tail_below}
use Rattle.moves.proofs.spans.put_stretches.Goals as goal
use Rattle.moves.proofs.spans.put_stretches.Goals.{then-run-last+in_ok-put_span, else-run-last}

pub returns-in_default-clause-steps_after : goal.returns-in_default-clause-steps_after
returns-in_default-clause-steps_after c =
    let a = c.args in
    stretch_empty a.runs.starts.now a.kind a.runs.base (so_far a.steps.now) a.list.now (omega arith)

pub returns-in_err-put_span-clause-steps_after : goal.returns-in_err-put_span-clause-steps_after
returns-in_err-put_span-clause-steps_after c =
    let a = c.args in
    let l = c.loop-run in
    let p = err_from_is_err_and c.from_residual.result c.from_residual.ensures.1 in
    rw (p.1, p.2) (ends_refused _ (stretch_next a.runs.starts.now a.kind a.runs.base (so_far l.steps) l.first l.last _ l.run-index c.loop-run-test.true c.if-run-last.true ∙ l.invariant.left
    ∙ ap (rest a.runs.starts.now a.kind a.runs.base (so_far a.steps.now) (get_or a.list.now 0 0) (get_or a.list.now 0 0)) (tail_is a.list.now)
    ∙ stretch_start a.runs.starts.now a.kind a.runs.base (so_far a.steps.now) a.list.now (omega arith)) c.in_err-put_span.ensures.steps_after)

pub returns-in_err-put_span-clause-small : goal.returns-in_err-put_span-clause-small
returns-in_err-put_span-clause-small c s = c.in_err-put_span.ensures.small (c.loop-run.invariant.small s)

pub loop-run-preserved : goal.loop-run-preserved
loop-run-preserved c =
    let a = c.args in
    let l = c.loop-run in
    let more : List ℕ = take (length a.list.now - 1) (drop 1 a.list.now) in
    let low : get_or more l.run-index 0 < 512 = tail_below 512 a.list.now c.requires l.run-index in
    elim c.if-run-last.branch [
      | then-run-last+in_ok-put_span w ↦
          let put = w.in_ok-put_span.ensures in
          rw (w.steps-is, w.first-is, w.last-is) (record {
            same_list = put.same_list ∙ l.invariant.same_list;
            small = λ s. put.small (l.invariant.small s);
            first = low;
            last = low;
            left = goes_on _ (stretch_next a.runs.starts.now a.kind a.runs.base
                (so_far l.steps) l.first l.last more l.run-index c.loop-run-test.true w.if-run-last.true ∙ l.invariant.left) put.steps_after;
          })
      | else-run-last w ↦
          rw (w.steps-is, w.first-is, w.last-is) (record {
            same_list = l.invariant.same_list;
            small = l.invariant.small;
            first = l.invariant.first;
            last = low;
            left = stretch_on a.runs.starts.now a.kind a.runs.base (so_far l.steps) l.first l.last more l.run-index c.loop-run-test.true w.if-run-last.false ∙ l.invariant.left;
          })
    ]

pub returns-clause-steps_after : goal.returns-clause-steps_after
returns-clause-steps_after c =
    let a = c.args in
    let l = c.loop-run in
    c.put_span-2.ensures.steps_after ∙ stretch_last a.runs.starts.now a.kind a.runs.base (so_far l.steps) l.first l.last _ l.run-index c.loop-run-test.false ∙ l.invariant.left
    ∙ ap (rest a.runs.starts.now a.kind a.runs.base (so_far a.steps.now) (get_or a.list.now 0 0) (get_or a.list.now 0 0)) (tail_is a.list.now)
    ∙ stretch_start a.runs.starts.now a.kind a.runs.base (so_far a.steps.now) a.list.now (omega arith)

pub returns-clause-small : goal.returns-clause-small
returns-clause-small c s = c.put_span-2.ensures.small (c.loop-run.invariant.small s)
