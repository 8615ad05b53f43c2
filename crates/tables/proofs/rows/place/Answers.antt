-- `tables::rows::place` meets its contract: a run's words written. Assumes nothing.
use Rattle.std.proofs.Common.{refl}
use Rattle.tables.specs.Lay.{place_in}
use Rattle.tables.proofs.rows.place.Goals as goal

pub returns : goal.returns
unfolding place_in
returns c = refl
