-- `tables::covers::join_children` meets its contract: the covers of runs are joined. Assumes nothing.
use Rattle.std.proofs.Common.{◌≡◌, drop}
use Rattle.tables.specs.Covers.{word_bits, bits_in, join_of, cover_at}
use Rattle.tables.proofs.covers.join_children.Given as goal

abbrev pub invariant-loop-x : goal.invariant-loop-x
invariant-loop-x l = join_of (bits_in word_bits l.z) (cover_at l.covers) (drop l.x-index l.children) ≡ join_of (bits_in word_bits l.initial.z) (cover_at l.covers) l.children
