-- `lists::groups_fit` meets its contract: a turn asks the first of the groups that are left. Assumes nothing.
use Rattle.std.proofs.Common.{sym, ◌∙◌, rules, arith}
use Rattle.lists.specs.Areas.{part}
use Rattle.lists.proofs.Fitting.{start-at, groups-step, groups_end}
use Rattle.lists.proofs.groups_fit.Goals as goal

pub slice_bounds-group_fits-count : goal.slice_bounds-group_fits-count
slice_bounds-group_fits-count c = (start-at _ _ c.requires.climbs c.loop-r.r (omega arith) (omega arith)).0

pub slice_bounds-group_fits-start : goal.slice_bounds-group_fits-start
slice_bounds-group_fits-start c =
    let h = start-at _ _ c.requires.climbs c.loop-r.r (omega arith) (omega arith) in
    search (rules, h.0, h.1)

pub slice_bounds-group_fits-end : goal.slice_bounds-group_fits-end
slice_bounds-group_fits-end c =
    let h = start-at _ _ c.requires.climbs c.loop-r.r (omega arith) (omega arith) in
    search (rules, h.0, h.1)

pub returns-then-not-group_fits : goal.returns-then-not-group_fits
unfolding part
returns-then-not-group_fits c =
    let step = groups-step _ _ c.requires.climbs c.loop-r.r (omega arith) (omega arith) in
    sym (c.loop-r.invariant ∙ step ∙ rw (sym c.group_fits.ensures ∙ c.if-not-group_fits.true))

pub loop-r-preserved : goal.loop-r-preserved
unfolding part
loop-r-preserved c =
    let step = groups-step _ _ c.requires.climbs c.loop-r.r (omega arith) (omega arith) in
    c.loop-r.invariant ∙ step ∙ rw (sym c.group_fits.ensures ∙ c.if-not-group_fits.false)

pub returns : goal.returns
returns c = sym (c.loop-r.invariant ∙ groups_end _ _ c.requires.climbs c.loop-r.r (omega arith) (omega arith))
