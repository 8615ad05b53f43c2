-- `tables::rows::Rows::join_all` meets its contract: all parents joined in. Assumes nothing.
use Rattle.std.proofs.Common.{sym, ◌∙◌}
use Rattle.tables.proofs.Turns.{join_all-next, join_all-none}
use Rattle.tables.proofs.rows.Rows.join_all.Goals as goal

pub loop-p-preserved : goal.loop-p-preserved
loop-p-preserved c =
    let a = c.args in
    let l = c.loop-p in
    rw c.join_parent.ensures (join_all-next a.self.words.now a.self.starts.now a.self.chain.now a.self.place.now l.row a.parents.now l.p-index c.loop-p-test.true ∙ l.invariant)

pub returns : goal.returns
returns c = sym (join_all-none _ _ _ _ _ _ _ c.loop-p-test.false) ∙ c.loop-p.invariant
