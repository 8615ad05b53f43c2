-- `tables::covers::weights_of` meets its contract: the weights are those of the definition. Assumes nothing.
use Rattle.std.proofs.Common.{ℕ, ◌-◌, List, Bool, length, set, ap, subst, ◌∙◌, arith}
use Rattle.lists.specs.Lists.{count}
use Rattle.model.specs.Cover.{per_bit}
use Rattle.tables.specs.Covers.{Covered}
use Rattle.tables.proofs.JaggedRows.{rows-number}
use Rattle.tables.proofs.Weighing.{turn_of}
use Rattle.tables.proofs.Weighted.{Weighed, weighed_turn, weighed_all}
use Rattle.tables.proofs.covers.weights_of.Goals as goal

pub row-requires : goal.row-requires
row-requires c = omega (arith, ap length c.new-kids.ensures, rows-number c.args.begins.now c.args.children.now c.args.n)

pub weigh_run-requires : goal.weigh_run-requires
weigh_run-requires c =
    let a = c.args in
    let l = c.loop-r in
    let per = c.per_bit-per.ensures.value ∙ ap per_bit c.offset_of.ensures.value in
    let t = turn_of a.starts.now a.begins.now a.children.now l.covers c.row.result.now a.n (l.r - 1) c.new-kids.result c.per_bit-per.result _ _ _ c.requires.2 (omega arith)
    (omega arith) per
    c.offset_of-in-loop-r.ensures.value c.offset_of-in-loop-r-2.ensures.value c.div_ceil-high.ensures c.new-kids.ensures c.row.ensures in
    record { rising = t.rising; within = t.within; few = t.few; room = t.room; inside = t.inside }

pub loop-r-preserved : goal.loop-r-preserved
loop-r-preserved c =
    let a = c.args in
    let l = c.loop-r in
    let r : ℕ = l.r - 1 in
    let w = c.weigh_run in
    let per = c.per_bit-per.ensures.value ∙ ap per_bit c.offset_of.ensures.value in
    let t = turn_of a.starts.now a.begins.now a.children.now l.covers c.row.result.now a.n r c.new-kids.result c.per_bit-per.result _ _ _ c.requires.2 (omega arith) (omega arith) per
    c.offset_of-in-loop-r.ensures.value c.offset_of-in-loop-r-2.ensures.value c.div_ceil-high.ensures c.new-kids.ensures c.row.ensures in
    weighed_turn a.starts.now a.begins.now a.children.now a.n l.r r c.per_bit-per.result l.weights l.covers _ w.new.covers
    c.requires.2 (omega arith) (omega arith) (omega arith) per l.invariant
    (ap (set l.weights r) (w.ensures.value ∙ ap (λ (b : List Bool). count (λ x. x) b) t.bits))
    (subst (λ (b : List Bool). Covered r b w.new.covers l.covers) t.bits w.ensures.covered)

pub returns : goal.returns
returns c =
    let a = c.args in
    let l = c.loop-r in
    let all = λ (i : ℕ). Weighed a.starts.now a.begins.now a.children.now a.n i l.weights l.covers in
    weighed_all a.starts.now a.begins.now a.children.now a.n l.weights l.covers (subst all (omega arith) l.invariant)
