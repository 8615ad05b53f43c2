-- `tables::versions::arrive` meets its contract: how far a run and its history reach. Assumes nothing.
use Rattle.std.proofs.Common.{arith}
use Rattle.tables.proofs.Reaching.{arrived-set}
use Rattle.tables.proofs.versions.arrive.Goals as goal

pub returns : goal.returns
returns c =
    let a = c.args in
    let copied = c.copy_row in
    arrived-set a.row.now copied.new.current a.chain a.place a.n (omega arith) copied.ensures
