-- `tables::rows::Rows::join_all` meets its contract: all parents joined in. Assumes nothing.
use Rattle.std.proofs.Common.{◌≡◌, drop}
use Rattle.tables.specs.Lay.{join_all}
use Rattle.tables.proofs.rows.Rows.join_all.Given as goal

abbrev pub invariant-loop-p : goal.invariant-loop-p
invariant-loop-p l = join_all l.self.words.now l.self.starts.now l.self.chain.now l.self.place.now l.row (drop l.p-index l.parents) ≡ join_all l.self.words.now l.self.starts.now l.self.chain.now l.self.place.now l.initial.row l.parents
