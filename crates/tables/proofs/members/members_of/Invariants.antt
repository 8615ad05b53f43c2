-- `tables::members::members_of` meets its contract: each run stands at its place. Assumes nothing.
use Rattle.tables.specs.Indexed.{Placed, Bounded, pos}
use Rattle.tables.proofs.members.members_of.Given as goal

abbrev pub invariant-loop-m : goal.invariant-loop-m
invariant-loop-m l = record {
  placed : Placed (pos l.begins l.chain l.place) l.m l.members;
  bounded : Bounded 511 l.members;
}
