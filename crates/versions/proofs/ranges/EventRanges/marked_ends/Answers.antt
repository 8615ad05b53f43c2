-- `versions::ranges::EventRanges::marked_ends` meets its contract. The loop's invariant: each place so far. Assumes nothing.
use Rattle.std.proofs.Common.{arith, get_or, None}
use Rattle.std.proofs.Math.ListN.{length-set}
use Rattle.versions.specs.Ranges.{end_in}
use Rattle.versions.proofs.HeadTurns.{filled_next}
use Rattle.versions.proofs.RangeWords.{ranges_even, place_most}
use Rattle.versions.proofs.RangeTurns.{place-next, end_turn}
use Rattle.versions.proofs.ranges.EventRanges.marked_ends.Goals as goal

pub loop-r-preserved : goal.loop-r-preserved
loop-r-preserved c =
    let a = c.args in
    let p = c.requires in
    let l = c.loop-r in (
      simp length-set l.invariant.0,
      place-next a.self.words.now (ranges_even a.self.words.now a.self.paired).0 a.starts.now _ l.r _ p c.loop-r-test.true c.place-k.ensures,
      filled_next None (end_in a.starts.now a.self.words.now) l.ends l.r _ (omega (arith, l.invariant.0, p.few)) l.invariant.2
          (end_turn a.starts.now a.self.words.now l.r _ _ c.place-k.ensures c.end_at.ensures),
    )

pub end_at-requires : goal.end_at-requires
end_at-requires c =
    let ranges = c.args.self in
    rw c.place-k.ensures (place_most ranges.words.now (ranges_even ranges.words.now ranges.paired).0 (get_or c.args.starts.now c.loop-r.r 0))
