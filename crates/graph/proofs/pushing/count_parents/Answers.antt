-- `graph::pushing::count_parents` meets its contract: a turn counts one parent more. Assumes nothing.
use Rattle.std.proofs.Common.{arith, sym, ap, ◌∙◌, ◌+◌, drop, get_or}
use Rattle.graph.specs.declared.pushing.ParentCounts.{ParentCounts}
use Rattle.graph.specs.Loops.{count_parents}
use Rattle.graph.proofs.Counting.{plus_counts, count_most, counts_start, counts-next, counts_end}
use Rattle.graph.proofs.pushing.count_parents.Goals as goal

pub loop-p-init : goal.loop-p-init
loop-p-init c =
    let g = c.args.g.now.graph in
    record { unknown = omega arith; held = omega arith; splits = omega arith; all = counts_start g.starts g.run_count c.args.ps.now }

pub loop-p-preserved : goal.loop-p-preserved
loop-p-preserved c =
    let g = c.args.g.now.graph in
    let l = c.loop-p in
    let ps = c.args.ps.now in
    let m = count_most g.starts g.run_count l.t (get_or ps l.p-index 0) in
    let e = c.count_parent-t.ensures in
    record {
      unknown = omega (arith, ap (λ (x : ParentCounts). x.unknown) e, m.0, l.invariant.unknown);
      held = omega (arith, ap (λ (x : ParentCounts). x.held) e, m.1.0, l.invariant.held);
      splits = omega (arith, ap (λ (x : ParentCounts). x.splits) e, m.1.1, l.invariant.splits);
      all =
          ap (λ (x : ParentCounts). plus_counts x (count_parents g.starts g.run_count (drop (l.p-index + 1) ps))) e
          ∙ counts-next g.starts g.run_count ps l.t l.p-index c.loop-p-test.true ∙ l.invariant.all;
    }

pub returns : goal.returns
returns c =
    let g = c.args.g.now.graph in
    let l = c.loop-p in
    sym (counts_end g.starts g.run_count c.args.ps.now l.t l.p-index c.loop-p-test.false) ∙ l.invariant.all
