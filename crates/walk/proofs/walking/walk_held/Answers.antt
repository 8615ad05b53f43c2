-- `walk::walking::walk_held`: a held record's arrays give the definitions' walk.
use Rattle.std.proofs.Common.{◌≡◌, ap, ◌∙◌, rules, List, ℕ, arith}
use Rattle.model.specs.Record.{view}
use Rattle.model.specs.Walk.{WalkResult, walk_range}
use Rattle.moves.specs.Emit.{Writing}
use Rattle.walk.specs.Ranges.{range_at}
use Rattle.walk.specs.Walked.{walked_in}
use Rattle.walk.proofs.Arrays.{arrays_of}
use Rattle.walk.proofs.WholeWalk.{walk_whole}
use Rattle.walk.proofs.Counting.{walk_few}
use Rattle.walk.proofs.walking.walk_held.Goals as goal

pub walk_range-outcome-requires : goal.walk_range-outcome-requires
walk_range-outcome-requires c = arrays_of c.args.g.now.graph c.args.g.now.held c.args.bounds.end.0 c.requires

pub walked-requires : goal.walked-requires
walked-requires c =
    let a = c.args in
    let b = a.bounds in
    let g = a.g.now.graph in
    let w = c.walk_range-outcome in
    let e = w.ensures.steps_after ∙ ap (λ (x : Writing). walked_in g.starts (range_at g b.from.0 b.end.0) b.from.0 b.known b.first x a.rows.now) c.over-written.ensures.begun in
    omega (
      arith,
      ap (λ (x : WalkResult). x.0.moved) (walk_whole g b.from.0 b.end.0 b.known b.first a.rows.now a.steps.now a.g.now.held b.inside.0 c.requires _ e),
      walk_few g a.g.now.held c.starts_fit.ensures b.from.0 b.end.0 b.known b.first a.rows.now a.steps.now,
    )

pub returns : goal.returns
returns c =
    let a = c.args in
    let b = a.bounds in
    let g = a.g.now.graph in
    let w = c.walk_range-outcome in
    let e = w.ensures.steps_after ∙ ap (λ (x : Writing). walked_in g.starts (range_at g b.from.0 b.end.0) b.from.0 b.known b.first x a.rows.now) c.over-written.ensures.begun in
    let all : (c.walked.result, w.new.rows, w.new.steps.list.now) ≡ walk_range (view g) b.from.0 b.end.0 b.known b.first a.rows.now a.steps.now =
    rw c.walked.ensures (walk_whole g b.from.0 b.end.0 b.known b.first a.rows.now a.steps.now a.g.now.held b.inside.0 c.requires _ e) in
    let back : (x : List ℕ) → x ≡ w.new.steps.list.now → (c.walked.result, w.new.rows, x) ≡ walk_range (view g) b.from.0 b.end.0 b.known b.first a.rows.now a.steps.now = λ x e. rw e all in
    search (rules, back)
