-- `tables::groups::put_parents` meets its contract: what is left to put, put from here, is the whole. Assumes nothing.
use Rattle.std.proofs.Common.{◌≡◌, ◌≤◌, ◌-◌, ◌+◌, length, drop}
use Rattle.tables.specs.Gather.{put_parents}
use Rattle.tables.proofs.groups.put_parents.Given as goal

abbrev pub invariant-loop-p : goal.invariant-loop-p
invariant-loop-p l = record {
  room : l.to + (length l.ps - l.p-index) ≤ length l.items;
  left : put_parents l.a (l.to, l.items) (drop l.p-index l.ps) ≡ put_parents l.a (l.initial.to, l.initial.items) l.ps;
}
