-- `calls::calls` meets its contract: the calls that are left, made from here, give the whole. Assumes nothing.
use Rattle.std.proofs.Common.{◌∙◌, ap, arith, length}
use Rattle.calls.specs.Said.{is_lent, call_said}
use Rattle.calls.proofs.Making.{words_shorter, graph_next, graph_end}
use Rattle.calls.proofs.calls.Goals as goal

pub loop-form-smaller : goal.loop-form-smaller
loop-form-smaller c =
    let t = c.in-Some in
    omega (arith, ap length t.ensures, words_shorter (is_lent t.form) (call_said t.call) t.rest.now)

pub loop-form-preserved : goal.loop-form-preserved
loop-form-preserved c =
    let t = c.in-Some in
    let l = c.loop-form in
    graph_next (is_lent t.form) (call_said t.call) _ t.rest.now l.g _ t.ensures c.make-g.ensures ∙ l.invariant

pub returns : goal.returns
returns c =
    let l = c.loop-form in
    graph_end _ l.g c.in_default.ensures ∙ l.invariant
