-- `walk::choice::cost_of`: the events in just one of the current version and a run's history, or a part of them past the best cost.
use Rattle.tables.specs.Gaps.{gaps_from}
use Rattle.walk.specs.Choose.{cost_c}
use Rattle.walk.proofs.Weighing.{within_same}
use Rattle.walk.proofs.choice.cost_of.Goals as goal

pub returns : goal.returns
unfolding cost_c
returns c = (
  within_same c.distance.result c.limit.ensures (λ i. gaps_from (c.sums.ensures.before i) (c.sums.ensures.begins i) c.args.current.now (c.row.ensures i) 0
      (c.sums.ensures.chains i)) c.distance.ensures.value,
  c.distance.ensures.small,
)
