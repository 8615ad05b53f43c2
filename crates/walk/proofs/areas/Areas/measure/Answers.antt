-- `walk::areas::Areas::measure`: members and sums, and sizes by them.
use Rattle.std.proofs.Common.{◌≡◌, length, ap, ◌∙◌, arith}
use Rattle.model.specs.History.{at}
use Rattle.tables.specs.Sizes.{events_from}
use Rattle.tables.proofs.JaggedRows.{rows-number}
use Rattle.walk.proofs.areas.Areas.measure.Goals as goal

pub sizes_of-requires : goal.sizes_of-requires
sizes_of-requires c =
    let a = c.args in omega (arith, ap length c.rows-rows.ensures, rows-number a.self.now.chains.row_starts a.rows.now a.n, c.requires.1.rows.few)

pub returns-clause-measured : goal.returns-clause-measured
returns-clause-measured c =
    let a = c.args in
    let s = c.sums-sums.ensures in
    let number : length c.rows-rows.result ≡ a.n = ap length c.rows-rows.ensures ∙ rows-number a.self.now.chains.row_starts a.rows.now a.n in
    record {
      index = c.index.ensures.index;
      sizes = λ r lt. c.sizes_of.ensures r (omega (arith, number, lt)) ∙ (λ i. events_from (s.before i) (s.begins i) (at (c.rows-rows.ensures i) r) 0 (s.chains i));
    }
