-- `graph::growth::add_own` meets its contract: nothing for a parent that lies in no run, else its run is put in place. Assumes nothing.
use Rattle.std.proofs.Common.{arith, rules, ◌≡◌, max, ap, ◌+◌}
use Rattle.lists.specs.Lists.{bit}
use Rattle.graph.specs.Loops.{side_in}
use Rattle.graph.proofs.Views.{facts}
use Rattle.graph.proofs.Placing.{found, found_held, told-out, by_starts}
use Rattle.graph.proofs.Owning.{own_no, own_yes}
use Rattle.graph.proofs.growth.add_own.Goals as goal

pub returns-in_default : goal.returns-in_default
returns-in_default c =
    let k = c.args.g.now in
    let g = k.graph in
    let p = c.args.p.0 in
    own_no g.starts g.seen_prefix_len g.run_count (c.args.items.now, c.args.t) p
    (told-out (side_in g.starts g.run_count p) (by_starts g k.held p c.containing.ensures) c.in_default.not-Run)

pub bounds-g-place : goal.bounds-g-place
bounds-g-place c =
    let k = c.args.g.now in
    omega (arith, (found k.graph.starts k.graph.run_count c.args.p.0 c.in-Run.run' (by_starts k.graph k.held c.args.p.0 c.containing.ensures) c.in-Run.is).low, (facts k.graph k.held).runs)

pub bounds-g-place-2 : goal.bounds-g-place-2
bounds-g-place-2 c =
    let k = c.args.g.now in
    omega (arith, (found k.graph.starts k.graph.run_count c.args.p.0 c.in-Run.run' (by_starts k.graph k.held c.args.p.0 c.containing.ensures) c.in-Run.is).low, (facts k.graph k.held).runs)

pub bounds-g-next : goal.bounds-g-next
bounds-g-next c =
    let k = c.args.g.now in
    omega (arith, (found k.graph.starts k.graph.run_count c.args.p.0 c.in-Run.run' (by_starts k.graph k.held c.args.p.0 c.containing.ensures) c.in-Run.is).low, (facts k.graph k.held).runs)

pub bounds-items-n : goal.bounds-items-n
bounds-items-n c =
    let k = c.args.g.now in
    omega (arith, ap bit (found_held (found k.graph.starts k.graph.run_count c.args.p.0 c.in-Run.run' (by_starts k.graph k.held c.args.p.0 c.containing.ensures) c.in-Run.is)), c.requires)

pub returns : goal.returns
returns c =
    let k = c.args.g.now in
    let g = k.graph in
    let t = c.args.t in
    let later : c.max.result.0 ≡ max t.seen.0 c.seen_up_to-after.result.0 = search rules in
    own_yes g.starts g.seen_prefix_len g.run_count c.args.items.now t _ c.args.p.0 _ _
    (found g.starts g.run_count c.args.p.0 c.in-Run.run' (by_starts g k.held c.args.p.0 c.containing.ensures) c.in-Run.is) c.seen_up_to-after.ensures
    (λ i. record { count = t.count + 1; seen = record { 0 = later i } })
