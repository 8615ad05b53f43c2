-- `graph::cut::cut_from` meets its contract: a turn of the loop is a range more. Assumes nothing.
use Rattle.std.proofs.Common.{ap, ◌∙◌, ◌+◌, drop}
use Rattle.std.proofs.lemmas.Result.{err_from_is_err_and}
use Rattle.model.specs.Cut.{ranges_from}
use Rattle.graph.specs.Records.{state}
use Rattle.graph.specs.Cutting.{Cutting, cutting}
use Rattle.graph.proofs.Joining.{cut_rest, cut_begin, cut_turn, cut_stop, cut_end}
use Rattle.graph.proofs.cut.cut_from.Goals as goal

pub loop-i-preserved : goal.loop-i-preserved
loop-i-preserved c =
    let l = c.loop-i in
    let ms = c.args.marks.now in
    let end = c.args.end.0 in
    let on = c.in_ok-first.ensures in
    record {
      same_list = on.same_list ∙ l.invariant.same_list;
      rest =
          ap (λ (w : Cutting). cut_rest w (ranges_from (drop (l.i + 1) ms) end) end) on.written
          ∙ cut_turn (cutting l.first l.out) ms l.i c.mark_at.result.0 end c.loop-i-test.true c.mark_at.ensures
          ∙ l.invariant.rest;
    }

pub returns-in_err-first-clause-written : goal.returns-in_err-first-clause-written
returns-in_err-first-clause-written c =
    let a = c.args in
    let l = c.loop-i in
    let p = err_from_is_err_and c.from_residual.result c.from_residual.ensures.1 in
    let e = c.in_err-first.ensures.refused in
    rw (p.1, p.2)
    (cut_stop (cutting l.first l.out) a.marks.now l.i c.mark_at.result.0 a.end.0 c.loop-i-test.true c.mark_at.ensures _ _ _ e
    ∙ l.invariant.rest
    ∙ cut_begin (state a.out.now) a.marks.now a.from a.end.0 c.mark_at-first.result c.mark_at-first.ensures)

pub returns-clause-written : goal.returns-clause-written
returns-clause-written c =
    let a = c.args in
    let l = c.loop-i in
    c.put_linear.ensures.written
    ∙ cut_end (cutting l.first l.out) a.marks.now l.i a.end.0 c.loop-i-test.false
    ∙ l.invariant.rest
    ∙ cut_begin (state a.out.now) a.marks.now a.from a.end.0 c.mark_at-first.result c.mark_at-first.ensures
