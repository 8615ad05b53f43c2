-- `tables::jagged::Jagged::row` meets its contract: a row's items, from its start up to the next one's. Assumes nothing.
use Rattle.std.proofs.Common.{arith}
use Rattle.tables.proofs.JaggedRows.{row-below, row-lies, row_lent}
use Rattle.tables.proofs.jagged.Jagged.row.Goals as goal

pub overflow_add-r : goal.overflow_add-r
overflow_add-r c = let j = c.self.inside in omega (arith, row-below j.starts.now j.items.now j.rows c.args.self.now c.self.view_is c.args.r c.requires, c.self.invariant.few)

pub slice_bounds-result-count : goal.slice_bounds-result-count
slice_bounds-result-count c =
    let j = c.self.inside in (row-lies j.starts.now j.items.now j.rows c.args.self.now c.self.view_is c.args.r c.requires _ _ c.self.invariant c.item-s.ensures c.item-e.ensures).0

pub slice_bounds-result-start : goal.slice_bounds-result-start
slice_bounds-result-start c =
    let j = c.self.inside in (row-lies j.starts.now j.items.now j.rows c.args.self.now c.self.view_is c.args.r c.requires _ _ c.self.invariant c.item-s.ensures c.item-e.ensures).0

pub slice_bounds-result-end : goal.slice_bounds-result-end
slice_bounds-result-end c =
    let j = c.self.inside in (row-lies j.starts.now j.items.now j.rows c.args.self.now c.self.view_is c.args.r c.requires _ _ c.self.invariant c.item-s.ensures c.item-e.ensures).1

pub returns : goal.returns
returns c = let j = c.self.inside in row_lent j.starts.now j.items.now j.rows c.args.self.now c.self.view_is c.args.r c.requires _ _ c.item-s.ensures c.item-e.ensures
