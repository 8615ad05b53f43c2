-- `tables::distance::Sums::events_of` meets its contract: the events of a version. Assumes nothing.
use Rattle.std.proofs.Common.{arith}
use Rattle.tables.proofs.Gapping.{events-next, events-none}
use Rattle.tables.proofs.distance.Sums.events_of.Goals as goal

pub loop-c-preserved : goal.loop-c-preserved
loop-c-preserved c =
    let s = c.args.self in
    let next = events-next s.before.now s.begins.now c.args.row.now c.loop-c.c s.chains c.loop-c-test.true in
    record { small = omega arith; going_on = omega arith }

pub returns-clause-value : goal.returns-clause-value
returns-clause-value c =
    let s = c.args.self in
    let none = events-none s.before.now s.begins.now c.args.row.now c.loop-c.c s.chains c.loop-c-test.false in
    omega arith
