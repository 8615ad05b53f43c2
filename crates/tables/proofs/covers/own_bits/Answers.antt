-- `tables::covers::own_bits` meets its contract: the bits from one place up to another are set. Assumes nothing.
use Rattle.std.proofs.Common.{◌≡◌, ◌*◌, ◌%◌, ◌^◌, refl, ap, ◌∙◌, arith, length}
use Rattle.std.proofs.Math.Nat.{one-mul, mod-eq_of_lt}
use Rattle.std.proofs.Math.ListN.{length-set}
use Rattle.std.proofs.Math.Pow.{pow-lt}
use Rattle.tables.specs.Covers.{word_bits, cover_words, bits_in}
use Rattle.tables.proofs.Ranges.{range_none, bit-next}
use Rattle.tables.proofs.covers.own_bits.Goals as goal

pub loop-i-init : goal.loop-i-init
loop-i-init c = record { whole = ap length c.requires.zeros; bits_are = ap (bits_in word_bits) c.requires.zeros ∙ range_none word_bits cover_words _ refl }

pub loop-i-preserved : goal.loop-i-preserved
loop-i-preserved c =
    let l = c.loop-i in
    let e : 1 * 2 ^ (l.i % word_bits) % 2 ^ word_bits ≡ 2 ^ (l.i % word_bits) = rw one-mul (mod-eq_of_lt (pow-lt {j = word_bits} (omega arith))) in
    record {
      whole = length-set l.z _ _ ∙ l.invariant.whole;
      bits_are = bit-next word_bits l.z _ c.args.low l.i _ (omega arith) (omega (arith, l.invariant.whole)) (omega arith) (omega (arith, c.requires.within)) e refl l.invariant.bits_are;
    }
