-- `graph::lookups::parents` meets its contract: the part of the entries between two starts is the run's group, and it is short enough. Assumes nothing.
use Rattle.std.proofs.Common.{sym, ap, ◌∙◌, [], arith, get_or, le-leb}
use borrow.Author.Tests.{lt-leb}
use Rattle.lists.specs.Areas.{pad, part}
use Rattle.model.specs.Graph.{runs}
use Rattle.model.specs.Record.{view}
use Rattle.model.specs.declared.answers.ParentRuns.{ParentRuns}
use Rattle.model.specs.Answers.{runs_listed}
use Rattle.model.specs.Lookups.{parents_of}
use Rattle.std.proofs.lemmas.Result.{err_from_is_err_and}
use Rattle.graph.proofs.Views.{facts, runs-view}
use Rattle.graph.proofs.Looking.{look_broken, look_outside, look_done, group_bounds, group_end, group_view, group_short, group_count, listed-done}
use Rattle.graph.proofs.lookups.parents.Goals as goal
use Rattle.std.specs.Prelude.{Ok}
use Rattle.model.specs.Refusals.{OrRefusal}

pub returns-in_err-g : goal.returns-in_err-g
unfolding parents_of
returns-in_err-g c =
    let p = err_from_is_err_and c.from_residual.result c.from_residual.ensures.1 in
    let e = c.in_err-g.ensures.err in
    rw (p.1, p.2, e.0, look_broken c.args.g e.1)

pub returns-then-g-n : goal.returns-then-g-n
unfolding parents_of runs_listed
returns-then-g-n c =
    let k = c.in_ok-g.field-0 in
    let g = k.graph in
    let same = c.in_ok-g.ensures.ok in
    rw (← same.0)
    (rw (look_outside g same.1 _ (le-leb (runs (view g)) c.args.run.0 (omega (arith, runs-view g k.held, c.if-g-n.true)))))

pub bounds-g-n : goal.bounds-g-n
bounds-g-n c =
    let k = c.in_ok-g.field-0 in
    let g = k.graph in
    omega (arith, (facts g k.held).runs)

pub bounds-g-next : goal.bounds-g-next
bounds-g-next c =
    let k = c.in_ok-g.field-0 in
    let g = k.graph in
    omega (arith, (facts g k.held).runs)

pub offset_bounds-entries-from : goal.offset_bounds-entries-from
offset_bounds-entries-from c =
    let k = c.in_ok-g.field-0 in
    let g = k.graph in
    let b = group_bounds g k.held c.args.run.0 c.if-g-n.false in
    omega (arith, b.0, b.1, (facts g k.held).entries)

pub slice_bounds-padded-count : goal.slice_bounds-padded-count
slice_bounds-padded-count c =
    let k = c.in_ok-g.field-0 in
    let g = k.graph in
    (group_bounds g k.held c.args.run.0 c.if-g-n.false).0

pub slice_bounds-padded-start : goal.slice_bounds-padded-start
slice_bounds-padded-start c =
    let k = c.in_ok-g.field-0 in
    let g = k.graph in
    (group_bounds g k.held c.args.run.0 c.if-g-n.false).0

pub slice_bounds-padded-end : goal.slice_bounds-padded-end
slice_bounds-padded-end c =
    let k = c.in_ok-g.field-0 in
    let g = k.graph in
    group_end g k.held c.args.run.0 c.if-g-n.false

pub padded-runs-requires : goal.padded-runs-requires
unfolding part
padded-runs-requires c =
    let k = c.in_ok-g.field-0 in
    let g = k.graph in
    group_short g k.held c.args.run.0 c.if-g-n.false

pub overflow_sub-result : goal.overflow_sub-result
overflow_sub-result c =
    let k = c.in_ok-g.field-0 in
    let g = k.graph in
    (group_bounds g k.held c.args.run.0 c.if-g-n.false).0

pub returns : goal.returns
unfolding parents_of runs_listed part
returns c =
    let k = c.in_ok-g.field-0 in
    let g = k.graph in
    let r = c.args.run.0 in
    let same = c.in_ok-g.ensures.ok in
    let inside = lt-leb (runs (view g)) r (omega (arith, runs-view g k.held, c.if-g-n.false)) in
    let items = c.padded-runs.ensures ∙ ap (pad 512) (sym (group_view g k.held r c.if-g-n.false)) in
    let count = group_count g k.held r c.if-g-n.false in
    rw (← same.0)
    (rw (look_done g same.1 _ inside)
    (listed-done {A = OrRefusal ParentRuns} (λ rs n. Ok (record { runs = rs; count = n })) _ _ (get_or (view g).parents r []) items count))
