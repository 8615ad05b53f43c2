-- `tables::versions::start_version` meets its contract: how far the first runs reach. Assumes nothing.
use Rattle.std.proofs.Common.{◌≡◌, ◌<◌, length, get_or, replicate, arith, rules}
use Rattle.tables.proofs.Reaching.{front_cleared, started_none, started-next}
use Rattle.tables.proofs.versions.start_version.Goals as goal

pub loop-r-init : goal.loop-r-init
loop-r-init c =
    let a = c.args in
    let cleared : c.fill.new.self ≡ replicate a.chains 0 = search rules in
    rw cleared (started_none a.chain.now a.place.now _ a.chains (front_cleared a.current.now a.chains))

pub loop-r-preserved : goal.loop-r-preserved
loop-r-preserved c =
    let a = c.args in
    let l = c.loop-r in
    let within : get_or a.chain.now l.r 0 < length l.current = omega (arith, c.requires.1.chains l.r) in
    rw (c.item-k.ensures, c.item.ensures) (started-next a.chain.now a.place.now l.current l.r a.chains within l.invariant)
