-- `walk::replaying::replay_all`: a range more, one that is refused, and none.
use Rattle.std.proofs.Common.{ap, sym, ◌∙◌, get_or, refl, []}
use Rattle.std.proofs.lemmas.Result.{err_from_is_err_and}
use Rattle.model.specs.History.{at}
use Rattle.moves.specs.Emit.{so_far}
use Rattle.graph.specs.declared.cut.RangeKind.{RangeKind}
use Rattle.walk.specs.Ranges.{range_at}
use Rattle.walk.specs.Walked.{replay_on}
use Rattle.walk.specs.CutRecords.{range_by, range_in}
use Rattle.walk.proofs.ReplayWays.{ranges_next, ranges_refused, ranges_none}
use Rattle.walk.proofs.replaying.replay_all.Goals as goal

pub replay_next-requires-clause-arrays : goal.replay_next-requires-clause-arrays
unfolding at
replay_next-requires-clause-arrays c = c.requires.arrays c.loop-word.word-index c.loop-word-test.true

pub replay_next-requires-clause-order : goal.replay_next-requires-clause-order
unfolding at
replay_next-requires-clause-order c = c.requires.order c.loop-word.word-index c.loop-word-test.true

pub returns-in_err-replay_next-clause-steps_after : goal.returns-in_err-replay_next-clause-steps_after
unfolding at range_in
returns-in_err-replay_next-clause-steps_after c =
    let a = c.args in
    let l = c.loop-word in
    let st = a.graph.now.starts in
    let range = range_at a.graph.now in
    let p = err_from_is_err_and c.from_residual.result c.from_residual.ensures.1 in
    let rs = a.ranges.now in
    let r = get_or rs l.word-index [] in
    let on = c.in_err-replay_next.ensures.steps_after ∙ ap (λ (k : RangeKind). replay_on st range (so_far l.steps, l.rows) (range_by k (get_or r 1 0) (get_or r 2 0))) c.from.ensures in
    rw (p.1, p.2) (ranges_refused st range rs l.word-index _ _ _ refl (ranges_next st range rs l.word-index c.loop-word-test.true (so_far l.steps, l.rows) _ on ∙ l.invariant.left))

pub loop-word-preserved : goal.loop-word-preserved
unfolding at range_in
loop-word-preserved c =
    let a = c.args in
    let l = c.loop-word in
    let st = a.graph.now.starts in
    let range = range_at a.graph.now in
    let rs = a.ranges.now in
    let r = get_or rs l.word-index [] in
    let next = c.in_ok-replay_next.ensures in
    let on = next.steps_after ∙ ap (λ (k : RangeKind). replay_on st range (so_far l.steps, l.rows) (range_by k (get_or r 1 0) (get_or r 2 0))) c.from.ensures in
    record {
      same_list = next.same_list ∙ l.invariant.same_list;
      left = ranges_next st range rs l.word-index c.loop-word-test.true (so_far l.steps, l.rows) _ on ∙ l.invariant.left;
    }

pub returns-clause-steps_after : goal.returns-clause-steps_after
returns-clause-steps_after c =
    let a = c.args in
    let l = c.loop-word in
    sym (ranges_none a.graph.now.starts (range_at a.graph.now) a.ranges.now l.word-index c.loop-word-test.false (so_far l.steps, l.rows)) ∙ l.invariant.left
