-- `graph::splitting::split_in` meets its contract: one place taken up in each array. Assumes nothing.
use Rattle.std.proofs.Common.{arith, rules, ◌≡◌, min, ap, ◌∙◌, List, ◌++◌, ℕ, ◌+◌, drop}
use Rattle.lists.specs.Scans.{grow, insert_in}
use Rattle.lists.proofs.Inserting.{insert-front}
use Rattle.graph.specs.Loops.{with_arrays}
use Rattle.graph.proofs.splitting.split_in.Goals as goal

pub returns : goal.returns
unfolding with_arrays
returns c =
    let g = c.args.g.now in
    let f = c.requires in
    let e₁ =
    ap (λ (l : List ℕ). l ++ drop (g.run_count + 2) g.starts) c.insert_and_grow.ensures
    ∙ insert-front (g.run_count + 1) (g.run_count + 2) _ _ (grow 0 0) g.starts (omega arith) (omega (arith, f.more_runs, f.long.starts)) in
    let e₂ =
    ap (λ (l : List ℕ). l ++ drop (g.run_count + 2) g.parent_starts) c.insert_and_grow-2.ensures
    ∙ insert-front (g.run_count + 1) (g.run_count + 2) _ _ (grow 0 1) g.parent_starts (omega arith) (omega (arith, f.more_runs, f.long.heads)) in
    let e₃ =
    ap (λ (l : List ℕ). l ++ drop (g.entry_count + 1) g.parents) c.insert_and_grow-3.ensures
    ∙ insert-front g.entry_count (g.entry_count + 1) _ _ (grow c.args.run.0 1) g.parents (omega arith) (omega (arith, f.more_entries, f.long.parents)) in
    let e₄ =
    ap (λ (l : List ℕ). l ++ drop (g.run_count + 1) g.seen_prefix_len) c.insert_and_grow-4.ensures
    ∙ insert-front g.run_count (g.run_count + 1) _ _ (grow 0 0) g.seen_prefix_len (omega arith) (omega (arith, f.more_runs, f.long.seen))
    ∙ ap (λ (v : ℕ). insert_in g.run_count (c.args.run.0 + 1) v (grow 0 0) g.seen_prefix_len) c.seen_up_to-second.ensures in
    let low : c.min-g.result.0 ≡ min c.args.run.0 g.changed_from.0 = search rules in
    λ i.
    record {
      starts = e₁ i;
      parent_starts = e₂ i;
      parents = e₃ i;
      frontier = g.frontier;
      seen_prefix_len = e₄ i;
      critical_versions = g.critical_versions;
      run_count = g.run_count + 1;
      entry_count = g.entry_count + 1;
      frontier_count = g.frontier_count;
      mark_count = g.mark_count;
      changed_from = record { 0 = low i };
    }
