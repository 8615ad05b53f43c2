-- `graph::pushing::does_extend` meets its contract, by the test's two cases. Assumes nothing.
use Rattle.std.proofs.Common.{arith, ap, ◌∙◌, ℕ, ◌-◌, ◌∷◌, [], lt-ltb}
use Rattle.lists.specs.Lists.{same}
use Rattle.lists.proofs.Scanning.{same-pointwise}
use Rattle.model.specs.Graph.{extends}
use Rattle.graph.proofs.Views.{runs-view}
use Rattle.graph.proofs.pushing.does_extend.Goals as goal

pub returns-then-g-eq0 : goal.returns-then-g-eq0
unfolding extends
returns-then-g-eq0 c = rw (runs-view c.args.g.now.graph c.args.g.now.held, c.if-g-eq0.true)

pub returns : goal.returns
unfolding extends
returns c =
    let k = c.args.g.now in
    let last = ap (λ (x : ℕ). same c.args.ps.now (x ∷ [])) (c.saturating_sub.ensures ∙ ap (λ (x : ℕ). x - 1) c.len.ensures) in
    rw (runs-view k.graph k.held, lt-ltb 0 k.graph.run_count (omega (arith, c.if-g-eq0.false)))
    (c.eq.ensures ∙ same-pointwise c.args.ps.now (c.saturating_sub.result ∷ []) ∙ last)
