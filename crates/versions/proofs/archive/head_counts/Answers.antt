-- `versions::archive::head_counts` meets its contract. The loop's invariant: the count below the next run, and each place so far. Assumes nothing.
use Rattle.std.proofs.Common.{List, ℕ, refl, arith}
use Rattle.std.proofs.Math.ListN.{length-set}
use Rattle.versions.specs.Heads.{head_count}
use Rattle.versions.specs.Parents.{parents_in}
use Rattle.versions.proofs.HeadTurns.{count-start, count_turn, filled_next}
use Rattle.versions.proofs.archive.head_counts.Goals as goal

pub loop-m-init : goal.loop-m-init
loop-m-init c = (refl, omega arith, count-start c.args.firsts.now (parents_in c.args.parents), λ k h. absurd (omega arith))

pub loop-m-preserved : goal.loop-m-preserved
loop-m-preserved c =
    let a = c.args in
    let l = c.loop-m in
    let rows : ℕ → List ℕ = parents_in a.parents in
    let e = rw c.of.ensures at c.count_heads.ensures in (
      simp length-set l.invariant.0,
      omega arith,
      omega (arith, e, l.invariant.2, count_turn a.firsts.now rows l.m),
      filled_next 0 (head_count a.firsts.now rows) l.counts l.m l.heads (omega (arith, l.invariant.0, a.parents.rows.few)) l.invariant.3 l.invariant.2,
    )
