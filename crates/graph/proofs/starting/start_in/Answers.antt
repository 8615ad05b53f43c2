-- `graph::starting::start_in` meets its contract: each way out of a start in a run is one law. Assumes nothing.
use Rattle.std.proofs.Common.{sym, ap, ◌∙◌, Bool, not, true, arith, rules}
use Rattle.model.specs.declared.record.CausalGraph.{CausalGraph}
use Rattle.model.specs.Start.{told, start_refused}
use Rattle.model.specs.Record.{view}
use Rattle.model.proofs.Lasting.{marks_list}
use Rattle.graph.proofs.Views.{facts, runs-view}
use Rattle.graph.proofs.StartWays.{in_runs_lem, start_there, start-alone, start_full, start_crowded, start-splits, split-held}
use Rattle.graph.proofs.starting.start_in.Goals as goal

pub offset_bounds-g-place : goal.offset_bounds-g-place
offset_bounds-g-place c =
    let a = c.args in
    let p = c.requires in
    omega (arith, in_runs_lem a.g.now.graph a.g.now.held a.at.0 a.run.0 p, facts a.g.now.graph a.g.now.held)

pub bounds-g-place : goal.bounds-g-place
bounds-g-place c =
    let a = c.args in
    let p = c.requires in
    omega (arith, in_runs_lem a.g.now.graph a.g.now.held a.at.0 a.run.0 p, facts a.g.now.graph a.g.now.held)

pub returns-then-eq : goal.returns-then-eq
unfolding told
returns-then-eq c =
    let a = c.args in
    let p = c.requires in
    let g = a.g.now.graph in
    let inside = in_runs_lem g a.g.now.held a.at.0 a.run.0 p in
    let is-it = c.is_marked-told.ensures ∙ marks_list (view g) a.run.0 (omega (arith, runs-view g a.g.now.held, inside)) in
    ap (λ (b : Bool). told g (not b)) is-it ∙
    start_there g a.g.now.held a.at.0 a.run.0 p (search rules)

pub is_alone-requires : goal.is_alone-requires
is_alone-requires c =
    let a = c.args in
    let p = c.requires in
    in_runs_lem a.g.now.graph a.g.now.held a.at.0 a.run.0 p

pub returns-then-is_alone : goal.returns-then-is_alone
unfolding told
returns-then-is_alone c =
    let a = c.args in
    let p = c.requires in
    let is-it = sym c.is_alone.ensures ∙ c.if-is_alone.true in
    start-alone a.g.now.graph a.g.now.held a.at.0 a.run.0 p (search rules) is-it

pub returns-then-g-ge-MAX_RUNS : goal.returns-then-g-ge-MAX_RUNS
unfolding start_refused
returns-then-g-ge-MAX_RUNS c =
    let a = c.args in
    let p = c.requires in
    let is-not = sym c.is_alone.ensures ∙ c.if-is_alone.false in
    start_full a.g.now.graph a.g.now.held a.at.0 a.run.0 p (search rules) is-not c.if-g-ge-MAX_RUNS.true

pub returns-then-g-ge-MAX_ENTRIES : goal.returns-then-g-ge-MAX_ENTRIES
unfolding start_refused
returns-then-g-ge-MAX_ENTRIES c =
    let a = c.args in
    let p = c.requires in
    let is-not = sym c.is_alone.ensures ∙ c.if-is_alone.false in
    start_crowded a.g.now.graph a.g.now.held a.at.0 a.run.0 p
    (search rules) is-not c.if-g-ge-MAX_RUNS.false c.if-g-ge-MAX_ENTRIES.true

pub invariant_of-g : goal.invariant_of-g
invariant_of-g c =
    let a = c.args in
    let is-not = sym c.is_alone.ensures ∙ c.if-is_alone.false in
    record {
      held = split-held a.g.now.graph a.g.now.held a.at.0 a.run.0 c.requires (search rules) is-not c.if-g-ge-MAX_RUNS.false c.if-g-ge-MAX_ENTRIES.false
          c.split_run-split.result c.split_run-split.ensures;
    }

pub returns : goal.returns
unfolding told
returns c =
    let a = c.args in
    let p = c.requires in
    let is-not = sym c.is_alone.ensures ∙ c.if-is_alone.false in
    ap (λ (h : CausalGraph). told h true) c.split_run-split.ensures ∙
    start-splits a.g.now.graph a.g.now.held a.at.0 a.run.0 p
    (search rules) is-not c.if-g-ge-MAX_RUNS.false c.if-g-ge-MAX_ENTRIES.false
