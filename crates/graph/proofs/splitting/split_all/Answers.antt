-- `graph::splitting::split_all` meets its contract: nothing is copied where no parent splits a run; else a turn of the loop is a split of the
-- record's graph. Assumes nothing.
use Rattle.std.proofs.Common.{◌∙◌}
use Rattle.graph.proofs.PartingAll.{going_done}
use Rattle.graph.proofs.SplitParts.{marked-runs, marked-fits, marked-start, marked_on, none-stored}
use Rattle.graph.proofs.splitting.split_all.Goals as goal

pub returns-then-splits-eq0 : goal.returns-then-splits-eq0
returns-then-splits-eq0 c =
    none-stored c.args.g.graph c.args.g.held c.args.ps.now c.requires.splits_counted c.if-splits-eq0.true

pub loop-p-init : goal.loop-p-init
loop-p-init c = marked-start c.args.g.graph c.args.g.held c.args.ps.now c.requires.room

pub split_after-requires : goal.split_after-requires
split_after-requires c =
    let l = c.loop-p in
    marked-fits c.args.ps.now c.args.g.graph l.h l.p-index c.loop-p-test.true l.invariant

pub loop-p-preserved : goal.loop-p-preserved
loop-p-preserved c =
    let l = c.loop-p in
    marked_on c.args.ps.now c.args.g.graph l.h _ l.p-index c.loop-p-test.true l.invariant c.split_after.ensures

pub mark-requires : goal.mark-requires
mark-requires c = marked-runs c.loop-p.h c.loop-p.invariant.is_held_lem

pub invariant_of-result : goal.invariant_of-result
invariant_of-result c = record { held = rw c.mark.ensures c.loop-p.invariant.is_held_lem }

pub returns : goal.returns
returns c =
    let l = c.loop-p in
    c.mark.ensures ∙ going_done c.args.ps.now c.args.g.graph _ l.p-index c.loop-p-test.false l.invariant
