-- `book::words::Words::take` meets its contract: so many words are there, or not. Assumes nothing.
use Rattle.book.proofs.Decoding.{none_left, fits, some_taken, decoded_after}
use Rattle.book.proofs.words.Words.take.Goals as goal

pub returns-in_err-taken : goal.returns-in_err-taken
returns-in_err-taken c = rw c.from_residual.ensures (none_left _ _ c.args.self.decoded _ c.in_err-taken.ensures.cases)

pub invariant_of-result : goal.invariant_of-result
invariant_of-result c = record { decoded = decoded_after _ _ c.args.self.decoded _ _ _ _ c.in_ok-taken.ensures.cases c.split_at.ensures.back }

pub returns : goal.returns
returns c = some_taken _ _ c.args.self.decoded _ _ _ _ c.in_ok-taken.ensures.cases c.split_at.ensures.back

pub split_at-requires : goal.split_at-requires
split_at-requires c = fits _ _ c.args.self.decoded _ c.in_ok-taken.ensures.cases.0
