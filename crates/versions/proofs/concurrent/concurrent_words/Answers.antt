-- `versions::concurrent::concurrent_words` meets its contract: refused where the graph is broken or has no such run; else the runs without a
-- flag. Assumes nothing.
use Rattle.std.proofs.Common.{length-take, ◌∙◌, ap, Bool, arith, le-leb, Ok}
use borrow.Author.Tests.{lt-leb}
use Rattle.std.proofs.lemmas.Result.{err_from_is_err_and}
use Rattle.model.specs.Graph.{runs}
use Rattle.model.specs.Record.{view}
use Rattle.graph.proofs.Views.{runs-view}
use Rattle.graph.proofs.Looking.{look_broken, look_outside, look_done}
use Rattle.versions.proofs.GraphRows.{few_runs}
use Rattle.versions.proofs.Passes.{free_part}
use Rattle.versions.proofs.ConcurrentWays.{free_list}
use Rattle.versions.proofs.concurrent.concurrent_words.Goals as goal

pub returns-in_err-g : goal.returns-in_err-g
returns-in_err-g c =
    let p = err_from_is_err_and c.from_residual.result c.from_residual.ensures.1 in
    let e = c.in_err-g.ensures.err in
    rw (p.1, p.2, e.0, look_broken c.args.g e.1)

pub returns-then-n-run : goal.returns-then-n-run
returns-then-n-run c =
    let k = c.in_ok-g.g in
    let g = k.graph in
    let same = c.in_ok-g.ensures.ok in
    rw (← same.0)
    (rw (look_outside g same.1 _ (le-leb (runs (view g)) c.args.run.0 (omega (arith, runs-view g k.held, c.if-n-run.true)))))

pub slice_bounds-free_runs-end : goal.slice_bounds-free_runs-end
slice_bounds-free_runs-end c = omega (arith, few_runs c.in_ok-g.g.graph c.in_ok-g.g.held, length-take {A = Bool})

pub returns : goal.returns
returns c =
    let k = c.in_ok-g.g in
    let g = k.graph in
    let r = c.args.run.0 in
    let same = c.in_ok-g.ensures.ok in
    let flags = c.flags_of-flags in
    let inside = lt-leb (runs (view g)) r (omega (arith, runs-view g k.held, c.if-n-run.false)) in
    rw (← same.0)
    (rw (look_done g same.1 _ inside) (ap Ok (c.free_runs.ensures ∙ free_part flags.result g.run_count (omega (arith, few_runs g k.held)) ∙ free_list g k.held r flags.result flags.ensures)))
