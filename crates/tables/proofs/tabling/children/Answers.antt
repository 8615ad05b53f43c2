-- `tables::tabling::children` meets its contract: where each run's children begin, and the children. Assumes nothing.
use Rattle.std.proofs.Common.{◌≡◌, ◌+◌, length, ◌∙◌, arith}
use Rattle.std.proofs.Math.ListN.{get_or-append}
use Rattle.std.proofs.lemmas.List.{length-take-le}
use Rattle.tables.proofs.KidsLent.{kids-tabled}
use Rattle.tables.proofs.tabling.children.Goals as goal

pub returns : goal.returns
returns c =
    let a = c.args in
    let begins = c.starts_of.new.starts in
    let size : length begins ≡ length a.parents.now + 1 = omega (arith, c.starts_of.auto.starts, length-take-le (c.len-w.result + 1) a.starts.now (omega (arith, c.len-w.ensures.value, c.requires.starts)), c.len-w.ensures.value) in
    kids-tabled a.parents.now _ _ (omega arith) (λ k le. get_or-append begins _ 0 k (omega (arith, size)) ∙ c.starts_of.ensures k le) c.children_of.ensures
