-- `tables::children::starts_of` meets its contract: where each run's kids begin. Assumes nothing.
use Rattle.std.proofs.Common.{ℕ, ◌+◌, length, get_or, ◌∙◌, arith}
use Rattle.tables.specs.Counted.{tally}
use Rattle.tables.proofs.Summing.{sum_same}
use Rattle.tables.proofs.children.starts_of.Goals as goal

pub returns : goal.returns
returns c =
    let all = c.count_all in
    let pss = c.args.parents.now in
    let same = λ (k : ℕ). sum_same (λ i. get_or all.new.starts (i + 1) 0) (λ r. tally pss r (length pss)) k in
    λ k le. c.sum_up.ensures k (omega arith) ∙ same k (λ i lt. all.ensures.counted i (omega arith))
