-- `tables::children::put_child` meets its contract: a run is put among the kids of each of its parents. Assumes nothing.
use Rattle.std.proofs.Common.{arith}
use Rattle.tables.proofs.Putting.{putting_start, putting_next, putting_end}
use Rattle.tables.proofs.children.put_child.Goals as goal

pub loop-p-init : goal.loop-p-init
loop-p-init c = let a = c.args in putting_start a.r a.ps.now (a.next.now, a.children.now) c.requires.room

pub loop-p-preserved : goal.loop-p-preserved
loop-p-preserved c =
    let a = c.args in
    let l = c.loop-p in putting_next a.r a.ps.now (a.next.now, a.children.now) (l.next, l.children) l.p-index (omega arith) l.invariant

pub returns : goal.returns
returns c =
    let a = c.args in
    let l = c.loop-p in putting_end a.r a.ps.now (a.next.now, a.children.now) (l.next, l.children) l.p-index (omega arith) l.invariant
