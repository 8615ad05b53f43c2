-- `tables::covers::per_bit` meets its contract: the events of a bit. Assumes nothing.
use Rattle.std.proofs.Common.{arith}
use Rattle.model.specs.Limits.{cover_bits}
use Rattle.model.specs.Cover.{per_bit}
use Rattle.tables.proofs.Weighing.{ceil_is}
use Rattle.tables.proofs.covers.per_bit.Goals as goal

pub returns-clause-value : goal.returns-clause-value
unfolding per_bit
returns-clause-value c = omega (arith, c.max.ensures, c.div_ceil.ensures, ceil_is c.args.events cover_bits (omega arith))
