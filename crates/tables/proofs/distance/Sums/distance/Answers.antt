-- `tables::distance::Sums::distance` meets its contract: the distance of two versions, or a part of it past the limit. Assumes nothing.
use Rattle.std.proofs.Common.{arith, inl, inr}
use Rattle.tables.proofs.Gapping.{gaps_next, gaps_none}
use Rattle.tables.proofs.distance.Sums.distance.Goals as goal

pub returns-then-limit-sum-clause-value : goal.returns-then-limit-sum-clause-value
returns-then-limit-sum-clause-value c =
    let s = c.args.self in
    let next = gaps_next s.before.now s.begins.now c.args.current.now c.args.row.now c.loop-c.c s.chains c.loop-c-test.true in
    inr (omega arith, omega arith)

pub loop-c-preserved : goal.loop-c-preserved
loop-c-preserved c =
    let s = c.args.self in
    let next = gaps_next s.before.now s.begins.now c.args.current.now c.args.row.now c.loop-c.c s.chains c.loop-c-test.true in
    record { small = omega arith; going_on = omega arith }

pub returns-clause-value : goal.returns-clause-value
returns-clause-value c =
    let s = c.args.self in
    let none = gaps_none s.before.now s.begins.now c.args.current.now c.args.row.now c.loop-c.c s.chains c.loop-c-test.false in
    inl (omega arith)
