-- `tables::members::index` meets its contract: begins, members and sums. Assumes nothing.
use Rattle.std.proofs.Common.{◌+◌, ◌≡◌, length, drop, arith}
use Rattle.std.proofs.Math.Seq.{take_at}
use Rattle.std.proofs.lemmas.List.{length-take-le}
use Rattle.tables.proofs.members.index.Goals as goal

pub members_of-requires : goal.members_of-requires
members_of-requires c =
    let a = c.args in
    let begins = c.begins_of.new.begins in
    let size : length begins ≡ a.n + 1 = omega (arith, c.begins_of.auto.begins, length-take-le (a.n + 1) a.begins.now (omega (arith, c.requires.room.0))) in
    let same = take_at begins (drop (a.n + 1) a.begins.now) (a.n + 1) size in (
      c.requires.indexable.few,
      omega (arith, length-take-le (a.n + 1) a.runs.now (omega (arith, c.requires.room.1))),
      rw same (c.requires.indexable.scattered begins c.begins_of.ensures.0),
    )

pub returns-clause-index : goal.returns-clause-index
returns-clause-index c =
    let a = c.args in
    let begins = c.begins_of.new.begins in
    let members = c.members_of.new.members in
    let size : length begins ≡ a.n + 1 = omega (arith, c.begins_of.auto.begins, length-take-le (a.n + 1) a.begins.now (omega (arith, c.requires.room.0))) in
    let long : length members ≡ a.n + 1 = omega (arith, c.members_of.auto.members, length-take-le (a.n + 1) a.runs.now (omega (arith, c.requires.room.1))) in
    let same = take_at begins (drop (a.n + 1) a.begins.now) (a.n + 1) size in
    let listed = take_at members (drop (a.n + 1) a.runs.now) (a.n + 1) long in
    rw same record {
      begins = c.begins_of.ensures.0;
      begins_small = c.begins_of.ensures.1;
      members = rw (listed, ← same) c.members_of.ensures.0;
      members_long = rw listed (omega (arith, long));
      members_small = rw listed c.members_of.ensures.1;
      before = c.sums_of.ensures.sums.0;
      before_small = c.sums_of.ensures.sums.1;
    }

pub returns-clause-small : goal.returns-clause-small
returns-clause-small c = c.sums_of.ensures.small
