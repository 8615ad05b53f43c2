-- `walk::replaying::replay_held`: the cut's records are its ranges.
use Rattle.std.proofs.Common.{◌≡◌, ap, ◌∙◌, refl, rules, List, ℕ, arith, length-take, ◌*◌}
use Rattle.model.specs.Walk.{WalkResult}
use Rattle.model.specs.Replay.{replay_of}
use Rattle.moves.specs.Emit.{Writing}
use Rattle.walk.specs.Ranges.{range_at}
use Rattle.walk.specs.Walked.{replay_all}
use Rattle.walk.specs.CutRecords.{ranges_in}
use Rattle.walk.proofs.CutRead.{cut_long, records_are, cut_reads, cut_tiled}
use Rattle.walk.proofs.WholeReplay.{replay_whole}
use Rattle.walk.proofs.Counting.{replay_few}
use Rattle.walk.proofs.replaying.replay_held.Goals as goal

pub overflow_mul-cut : goal.overflow_mul-cut
overflow_mul-cut c = let w = c.cut_held-w in omega (arith, cut_long c.args.g.now.graph c.args.g.now.held _ w.new.list w.result refl w.ensures)

pub slice_bounds-cut-end : goal.slice_bounds-cut-end
slice_bounds-cut-end c = let w = c.cut_held-w in cut_long c.args.g.now.graph c.args.g.now.held _ w.new.list w.result refl w.ensures

pub slice_bounds-as_chunks-end : goal.slice_bounds-as_chunks-end
slice_bounds-as_chunks-end c =
    let w = c.cut_held-w in
    omega (arith, length-take (3 * w.result.count) w.new.list, cut_long c.args.g.now.graph c.args.g.now.held _ w.new.list w.result refl w.ensures)

pub replay_all-outcome-requires : goal.replay_all-outcome-requires
replay_all-outcome-requires c =
    let w = c.cut_held-w in
    let g = c.args.g.now in
    cut_tiled g.graph g.held _ w.new.list w.result refl w.ensures _ (records_are g.graph g.held _ w.new.list w.result refl w.ensures _ c.as_chunks.ensures.front)

pub walked-requires : goal.walked-requires
walked-requires c =
    let a = c.args in
    let g = a.g.now in
    let w = c.cut_held-w in
    let rs = c.as_chunks.result.0.now in
    let read = cut_reads g.graph g.held _ w.new.list w.result refl w.ensures rs (records_are g.graph g.held _ w.new.list w.result refl w.ensures rs c.as_chunks.ensures.front) in
    let e = c.replay_all-outcome.ensures.steps_after ∙ ap (λ (x : Writing). replay_all g.graph.starts (range_at g.graph) (x, a.rows.now) (ranges_in rs)) c.over-written.ensures.begun in
    omega (
      arith,
      ap (λ (x : WalkResult). x.0.moved) (replay_whole g.graph g.held a.rows.now a.steps.now (ranges_in rs) read _ e),
      replay_few g.graph g.held c.starts_fit.ensures a.rows.now a.steps.now,
    )

pub returns : goal.returns
returns c =
    let a = c.args in
    let g = a.g.now in
    let w = c.cut_held-w in
    let r = c.replay_all-outcome in
    let rs = c.as_chunks.result.0.now in
    let read = cut_reads g.graph g.held _ w.new.list w.result refl w.ensures rs (records_are g.graph g.held _ w.new.list w.result refl w.ensures rs c.as_chunks.ensures.front) in
    let e = r.ensures.steps_after ∙ ap (λ (x : Writing). replay_all g.graph.starts (range_at g.graph) (x, a.rows.now) (ranges_in rs)) c.over-written.ensures.begun in
    let all : (c.walked.result, r.new.rows, r.new.steps.list.now) ≡ replay_of g.graph a.rows.now a.steps.now =
    rw c.walked.ensures (replay_whole g.graph g.held a.rows.now a.steps.now (ranges_in rs) read _ e) in
    let back : (x : List ℕ) → x ≡ r.new.steps.list.now → (c.walked.result, r.new.rows, x) ≡ replay_of g.graph a.rows.now a.steps.now = λ x e. rw e all in
    search (rules, back)
