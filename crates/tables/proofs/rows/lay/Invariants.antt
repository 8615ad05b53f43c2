-- `tables::rows::lay` meets its contract: the rows that fit, and the tables of all runs. Assumes nothing.
use Rattle.std.proofs.Common.{◌+◌, length}
use Rattle.tables.specs.Laid.{Laid, chains_of}
use Rattle.tables.proofs.rows.lay.Given as goal

abbrev pub invariant-loop-r : goal.invariant-loop-r
invariant-loop-r l = Laid l.parents l.r (chains_of l.area (length l.parents + 1) (record { row_starts = l.row_starts; chains = l.chains; places = l.places; lens = l.lens })) l.rows l.initial.rows
