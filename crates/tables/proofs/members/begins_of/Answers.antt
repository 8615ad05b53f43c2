-- `tables::members::begins_of` meets its contract: where each chain's members begin. Assumes nothing.
use Rattle.std.proofs.Common.{◌≡◌, ◌+◌, ◌-◌, min, length, replicate, take, arith, rules}
use Rattle.tables.proofs.Begins.{headed_small, begins_made, begins_low}
use Rattle.tables.proofs.members.begins_of.Goals as goal

pub sum_up-requires-clause-small : goal.sum_up-requires-clause-small
sum_up-requires-clause-small c =
    let a = c.args in
    let m = c.min-m.result in
    let zeros : c.fill.new.self ≡ replicate (length a.begins.now) 0 = search rules in
    let m-is : m ≡ min (length a.lens.now) a.n = search rules in
    let stored : c.copy_from_slice.new.self ≡ take m a.lens.now = search rules in
    λ k. omega (arith, headed_small (length a.begins.now) a.n m (m + 1 - 1) a.lens.now c.fill.new.self c.copy_from_slice.new.self zeros c.requires.1 m-is (omega arith) stored c.requires.2 k)

pub returns : goal.returns
returns c =
    let a = c.args in
    let m = c.min-m.result in
    let zeros : c.fill.new.self ≡ replicate (length a.begins.now) 0 = search rules in
    let m-is : m ≡ min (length a.lens.now) a.n = search rules in
    let stored : c.copy_from_slice.new.self ≡ take m a.lens.now = search rules in (
      begins_made (length a.begins.now) a.n m (m + 1 - 1) a.lens.now c.fill.new.self c.copy_from_slice.new.self zeros c.requires.1 m-is (omega arith) stored c.requires.2 c.sum_up.new.list c.sum_up.ensures c.sum_up.auto.list c.requires.0,
      begins_low (length a.begins.now) a.n m (m + 1 - 1) a.lens.now c.fill.new.self c.copy_from_slice.new.self zeros c.requires.1 m-is (omega arith) stored c.requires.2 c.sum_up.new.list c.sum_up.ensures c.sum_up.auto.list c.requires.0,
    )
