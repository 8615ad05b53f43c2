-- `tables::members::sums_of` meets its contract: prefix sums of the members' events. Assumes nothing.
use Rattle.std.proofs.Common.{◌≤◌, ◌*◌, ◌^◌, get_or}
use Rattle.tables.specs.Tables.{size_in}
use Rattle.tables.specs.Indexed.{Summed, Bounded, BoundedTo}
use Rattle.tables.proofs.members.sums_of.Given as goal

abbrev pub invariant-loop-j : goal.invariant-loop-j
invariant-loop-j l = record {
  low : get_or l.before l.j 0 ≤ l.j * 2 ^ 32;
  summed : Summed (λ i. size_in l.starts (get_or l.members i 0)) l.j l.before;
  bounded : BoundedTo l.j (2 ^ 41) l.before;
  small : Bounded (2 ^ 41) l.initial.before → Bounded (2 ^ 41) l.before;
}
