-- `graph::starting::is_alone` meets its contract: its three ways out. Assumes nothing.
use Rattle.std.proofs.Common.{◌≡◌, sym, ap, ◌∙◌, Bool, ℕ, suc, ◌+◌, ◌<◌, arith}
use Rattle.lists.specs.Lists.{mem}
use Rattle.model.specs.declared.record.CausalGraph.{CausalGraph}
use Rattle.model.specs.Graph.{runs, marked, marks}
use Rattle.model.specs.Record.{view}
use Rattle.model.specs.Broken.{Held}
use Rattle.model.proofs.Lasting.{marks_list}
use Rattle.graph.proofs.Views.{facts, runs-view}
use Rattle.graph.proofs.StartWays.{alone-unmarked, alone-last, alone-next}
use Rattle.graph.proofs.starting.is_alone.Goals as goal

-- a run is among the marks exactly if it is marked
is_it : (g : CausalGraph) → Held g → {b : Bool} (r : ℕ) → r < g.run_count → b ≡ mem r (marks (view g)) → b ≡ marked (view g) r
is_it g good r h e = e ∙ marks_list (view g) r (omega (arith, runs-view g good))

pub returns-then-not-is_marked : goal.returns-then-not-is_marked
returns-then-not-is_marked c =
    let k = c.args.g.now in
    let r = c.args.run.0 in
    alone-unmarked (view k.graph) r (sym (is_it k.graph k.held r c.requires c.is_marked.ensures) ∙ c.if-not-is_marked.true)

pub overflow_add-next : goal.overflow_add-next
overflow_add-next c = omega (arith, c.requires, (facts c.args.g.now.graph c.args.g.now.held).runs)

pub returns-then-next-g : goal.returns-then-next-g
returns-then-next-g c =
    let k = c.args.g.now in
    let r = c.args.run.0 in
    let told = sym (is_it k.graph k.held r c.requires c.is_marked.ensures) ∙ c.if-not-is_marked.false in
    alone-last (view k.graph) r told (omega (arith, c.if-next-g.true, runs-view k.graph k.held))

pub returns : goal.returns
returns c =
    let k = c.args.g.now in
    let r = c.args.run.0 in
    let told = sym (is_it k.graph k.held r c.requires c.is_marked.ensures) ∙ c.if-not-is_marked.false in
    let next : r + 1 ≡ suc r = omega arith in
    let more : suc r ≡ runs (view k.graph) → ⊥ = λ q. c.if-next-g.false (omega (arith, q, runs-view k.graph k.held)) in
    is_it k.graph k.held (r + 1) (omega (arith, c.requires, c.if-next-g.false)) c.is_marked-2.ensures
    ∙ ap (marked (view k.graph)) next ∙ alone-next (view k.graph) r told more
