-- `graph::cut::cut_held` meets its contract: each way out of a cut is one law. Assumes nothing.
use Rattle.std.proofs.Common.{rules, arith, ◌≡◌, sym, ◌∙◌, ℕ, List, None, position, eqb}
use Rattle.model.specs.Graph.{marks}
use Rattle.model.specs.Record.{view}
use Rattle.model.specs.Cut.{cut_of}
use Rattle.graph.proofs.Views.{facts}
use Rattle.graph.proofs.Cuts.{placed, unplaced}
use Rattle.graph.proofs.CutWays.{cut_empty, cut_outside, cut_unmarked, cut_done}
use Rattle.graph.proofs.cut.cut_held.Goals as goal

pub returns-then-runs-eq0 : goal.returns-then-runs-eq0
returns-then-runs-eq0 c =
    let a = c.args in
    cut_empty a.g.now.graph a.from.0 a.list.now a.g.now.held c.if-runs-eq0.true

pub returns-then-runs-from : goal.returns-then-runs-from
returns-then-runs-from c =
    let a = c.args in
    rw c.unwritten.ensures (cut_outside a.g.now.graph a.from.0 a.list.now a.g.now.held c.if-runs-eq0.false c.if-runs-from.true)

pub returns-in_default : goal.returns-in_default
returns-in_default c =
    let a = c.args in
    let none : position (λ m. eqb m a.from.0) (marks (view a.g.now.graph)) ≡ None = rw (← c.marks-marks.ensures) (sym c.place_of.ensures ∙ c.in_default.is) in
    rw c.unwritten-in_default.ensures
    (cut_unmarked a.g.now.graph a.from.0 a.list.now a.g.now.held c.if-runs-eq0.false c.if-runs-from.false (unplaced a.from.0 (marks (view a.g.now.graph)) none))

pub overflow_cast-runs : goal.overflow_cast-runs
overflow_cast-runs c = omega (arith, (facts c.args.g.now.graph c.args.g.now.held).runs)

pub returns : goal.returns
returns c =
    let a = c.args in
    let g = a.g.now.graph in
    let place = placed a.from.0 (marks (view g)) c.in-Some.at (rw (← c.marks-marks.ensures) (sym c.place_of.ensures ∙ c.in-Some.is)) in
    let done = rw (c.marks-marks.ensures, c.over-out.ensures.begun) at c.cut_from-outcome.ensures.written in
    let all : (c.written.result, c.cut_from-outcome.new.out.list.now) ≡ cut_of g a.from.0 a.list.now =
    rw c.written.ensures (cut_done g a.from.0 a.list.now a.g.now.held c.if-runs-eq0.false c.if-runs-from.false c.in-Some.at place.0 place.1 _ done) in
    let back : (x : List ℕ) → x ≡ c.cut_from-outcome.new.out.list.now → (c.written.result, x) ≡ cut_of g a.from.0 a.list.now = λ x e. rw e all in
    search (rules, back)
