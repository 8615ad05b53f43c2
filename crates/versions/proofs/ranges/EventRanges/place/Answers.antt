-- `versions::ranges::EventRanges::place` meets its contract: as many words more as are at most the event. Assumes nothing.
use Rattle.versions.proofs.RangeWords.{ranges_even}
use Rattle.versions.proofs.RangeTurns.{place_on}
use Rattle.versions.proofs.ranges.EventRanges.place.Goals as goal

pub returns : goal.returns
returns c =
    let ranges = c.args.self in
    rw c.count_at_most.ensures (place_on ranges.words.now (ranges_even ranges.words.now ranges.paired).0 c.args.e.0 c.args.from c.requires)
