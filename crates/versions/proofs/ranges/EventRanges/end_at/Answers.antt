-- `versions::ranges::EventRanges::end_at` meets its contract: an odd place is no even number of words. Assumes nothing.
use Rattle.std.proofs.Common.{arith}
use Rattle.versions.proofs.RangeWords.{ranges_even}
use Rattle.versions.proofs.ranges.EventRanges.end_at.Goals as goal

pub bounds-self-k : goal.bounds-self-k
bounds-self-k c = omega (arith, (ranges_even c.args.self.words.now c.args.self.paired).1)
