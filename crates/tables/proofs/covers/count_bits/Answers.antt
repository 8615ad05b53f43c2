-- `tables::covers::count_bits` meets its contract: it counts the bits of words. Assumes nothing.
use Rattle.std.proofs.Common.{◌≡◌, ◌∙◌, rules, count_ones, sum_by, arith}
use Rattle.tables.specs.Covers.{word_bits}
use Rattle.tables.proofs.Bits.{bits_counted}
use Rattle.tables.proofs.covers.count_bits.Goals as goal

pub returns : goal.returns
returns c =
    let y = c.args.y.now in
    let s : c.sum.result ≡ sum_by count_ones y = search rules in s ∙ bits_counted word_bits y (λ i lt. omega (arith, c.type_inv.y i))
