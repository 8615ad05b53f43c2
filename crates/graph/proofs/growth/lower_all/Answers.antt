-- `graph::growth::lower_all` meets its contract: a turn takes one marked run more. Assumes nothing.
use Rattle.std.proofs.Common.{arith, rules, ◌≡◌, get_or, ltb, ◌<◌, length, sym, ◌∙◌}
use Rattle.model.specs.Graph.{marks}
use Rattle.model.specs.Record.{view}
use Rattle.graph.proofs.Views.{facts}
use Rattle.graph.proofs.Lowering.{mark_in, lower-step, lower_end}
use Rattle.graph.proofs.growth.lower_all.Goals as goal

pub bounds-g-place : goal.bounds-g-place
bounds-g-place c =
    let k = c.args.g.now in
    let h : c.loop-m.m-index < length (marks (view k.graph)) = rw (← c.marks-marks.ensures) c.loop-m-test.true in
    rw c.marks-marks.ensures (omega (arith, (facts k.graph k.held).runs, mark_in k.graph k.held c.loop-m.m-index h))

pub loop-m-preserved : goal.loop-m-preserved
loop-m-preserved c =
    let k = c.args.g.now in
    let l = c.loop-m in
    let h : l.m-index < length (marks (view k.graph)) = rw (← c.marks-marks.ensures) c.loop-m-test.true in
    let past : c.lt.result ≡ ltb c.args.seen.0 (get_or k.graph.starts (get_or c.marks-marks.result.now l.m-index 0) 0) = search rules in
    lower-step k.graph k.held c.args.seen.0 l.c.0 l.m-index c.lower-c.result.0 h (rw (past, c.marks-marks.ensures) at c.lower-c.ensures) ∙ l.invariant

pub returns : goal.returns
returns c =
    let k = c.args.g.now in
    let l = c.loop-m in
    sym (lower_end k.graph k.held c.args.seen.0 l.c.0 l.m-index (rw (← c.marks-marks.ensures) c.loop-m-test.false)) ∙ l.invariant
