-- `tables::rows::pick_chain` meets its contract: the first chain of which the row has all, or the next. Assumes nothing.
use Rattle.tables.proofs.Turns.{spot_found}
use Rattle.tables.proofs.rows.pick_chain.Goals as goal

pub returns-clause-spot : goal.returns-clause-spot
returns-clause-spot c = (spot_found c.args.row.now c.args.lens.now _ c.find_spot.result c.requires c.find_spot.ensures c.unwrap_or.ensures).0

pub returns-clause-upper_bound : goal.returns-clause-upper_bound
returns-clause-upper_bound c = (spot_found c.args.row.now c.args.lens.now _ c.find_spot.result c.requires c.find_spot.ensures c.unwrap_or.ensures).1
