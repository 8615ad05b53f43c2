-- `tables::groups::put_parents` meets its contract: what is left to put, put from here, is the whole. Assumes nothing.
use Rattle.std.proofs.Common.{◌+◌, get_or, drop, sym, ap, ◌∙◌, arith}
use Rattle.tables.specs.Gather.{Gathered, put_parents}
use Rattle.tables.proofs.Gathering.{puts_next, puts_none, put_count}
use Rattle.tables.proofs.groups.put_parents.Goals as goal

pub loop-p-preserved : goal.loop-p-preserved
loop-p-preserved c =
    let a = c.args in
    let l = c.loop-p in
    let e = c.put_parent-to.ensures in
    record {
      room = omega (arith, ap (λ (s : Gathered). s.0) e, (put_count a.a (l.to, l.items) (get_or a.ps.now l.p-index 0)).1);
      left = ap (λ (s : Gathered). put_parents a.a s (drop (l.p-index + 1) a.ps.now)) e ∙ (puts_next a.a (l.to, l.items) a.ps.now l.p-index (omega arith) ∙ l.invariant.left);
    }

pub returns : goal.returns
returns c = let l = c.loop-p in sym (puts_none c.args.a (l.to, l.items) c.args.ps.now l.p-index (omega arith)) ∙ l.invariant.left
