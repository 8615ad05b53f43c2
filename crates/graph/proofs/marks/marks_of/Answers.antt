-- `graph::marks::marks_of` meets its contract: a turn asks one run more. Assumes nothing.
use Rattle.std.proofs.Common.{◌≡◌, ◌∙◌, ap, get_or, length, arith}
use Rattle.graph.proofs.Marking.{marked_by, marked-start, marked_few, marked_turn, marked_end}
use Rattle.graph.proofs.marks.marks_of.Goals as goal

pub loop-i-init : goal.loop-i-init
loop-i-init c = c.new-marks.ensures ∙ marked-start _ _

pub push_if-requires : goal.push_if-requires
push_if-requires c =
    let a = c.args in
    rw c.loop-i.invariant (omega (arith, marked_few a.starts.now a.seen.now c.loop-i.i, c.requires.few))

pub loop-i-preserved : goal.loop-i-preserved
loop-i-preserved c =
    let a = c.args in
    let i = c.loop-i.i in
    let turn = marked_turn a.starts.now a.seen.now c.loop-i.marks i (get_or c.lows-low.result i 0) in
    c.push_if.ensures ∙ turn (omega (arith, c.type_inv.starts i)) (c.lows-low.ensures i (omega arith)) c.loop-i.invariant

pub returns : goal.returns
returns c =
    let a = c.args in
    let e : c.loop-i.i ≡ length a.seen.now = omega arith in
    c.loop-i.invariant ∙ ap (marked_by a.starts.now a.seen.now) e ∙ marked_end a.starts.now a.seen.now c.requires.starts_cover
