-- `graph::records::Records::put` meets its contract: by whether the record fits. Assumes nothing.
use Rattle.std.proofs.Common.{arith, append_assoc, ◌≡◌, ◌+◌, ◌*◌, ◌-◌, drop-drop, lt-ltb, le-ltb}
use Rattle.graph.specs.Records.{put}
use Rattle.graph.proofs.records.Records.put.Goals as goal

pub returns-then-self-clause-written : goal.returns-then-self-clause-written
unfolding put
returns-then-self-clause-written g c = rw (le-ltb _ _ c.if-self.true)

pub returns-clause-written : goal.returns-clause-written
unfolding put
returns-clause-written g c =
    let e = c.copy_from_slice.ensures.after in
    let w = c.args.self.now in
    let n : w.count * g.row.N + g.row.N - w.count * g.row.N ≡ g.row.N = omega arith in
    rw (e, n, lt-ltb _ _ c.if-self.false, drop-drop g.row.N (w.count * g.row.N) w.list.now, append_assoc)
