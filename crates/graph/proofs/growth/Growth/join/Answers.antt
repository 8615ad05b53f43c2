-- `graph::growth::Growth::join` meets its contract: each part of the new run is what the definition says. Assumes nothing.
use Rattle.std.proofs.Common.{arith, rules, ◌≡◌, min}
use Rattle.graph.proofs.Views.{facts, runs-view, entries-view}
use Rattle.graph.proofs.Owning.{own-begun, held-counted}
use Rattle.graph.proofs.Assembling.{own-fits, left-room, joined-stored}
use Rattle.graph.proofs.growth.Growth.join.Goals as goal

pub overflow_cast-first : goal.overflow_cast-first
overflow_cast-first c = omega (arith, (facts c.args.self.graph.now.graph c.args.self.graph.now.held).entries)

pub own_all-t-requires : goal.own_all-t-requires
own_all-t-requires c =
    let k = c.args.self.graph.now in
    omega (arith, c.requires.for_entries, held-counted k.graph k.held c.args.ps.now, entries-view k.graph k.held)

pub keep_all-tips-requires : goal.keep_all-tips-requires
keep_all-tips-requires c =
    let k = c.args.self.graph.now in
    rw c.frontier.ensures k.held.limits.frontier

pub push-requires : goal.push-requires
push-requires c =
    let k = c.args.self.graph.now in
    left-room k.held c.len-start.ensures c.requires (own-begun k.graph k.held) c.own_all-t.ensures (rw c.frontier.ensures at c.keep_all-tips.ensures)

pub overflow_cast-g : goal.overflow_cast-g
overflow_cast-g c = omega (arith, (facts c.args.self.graph.now.graph c.args.self.graph.now.held).runs)

pub assemble-requires : goal.assemble-requires
assemble-requires c =
    let k = c.args.self.graph.now in
    record {
      run_room = omega (arith, runs-view k.graph k.held, c.requires.for_runs);
      entries_fit = own-fits k.held c.len-start.ensures c.requires (own-begun k.graph k.held) c.own_all-t.ensures;
    }

pub returns : goal.returns
returns c =
    let k = c.args.self.graph.now in
    let low : c.min-low.result.0 ≡ min k.graph.run_count k.graph.changed_from.0 = search rules in
    joined-stored k.held c.len-start.ensures c.requires (own-begun k.graph k.held) c.own_all-t.ensures (rw c.frontier.ensures at c.keep_all-tips.ensures) c.push.ensures
    c.pick_seen-s.ensures low c.lower_all-changed.ensures c.assemble.ensures
