-- `tables::covers::own_bits` meets its contract: the bits from one place up to another are set. Assumes nothing.
use Rattle.std.proofs.Common.{◌≡◌, length}
use Rattle.tables.specs.Covers.{word_bits, cover_words, bits_in, range_bits}
use Rattle.tables.proofs.covers.own_bits.Given as goal

abbrev pub invariant-loop-i : goal.invariant-loop-i
invariant-loop-i l = record { whole : length l.z ≡ cover_words; bits_are : bits_in word_bits l.z ≡ range_bits l.low l.i }
