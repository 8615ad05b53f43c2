-- `graph::pushing::count_parent` meets its contract: a parent in a run is held and splits it or not; one that is not yet known is counted as
-- that; one before the graph is not counted. Assumes nothing.
use Rattle.std.proofs.Common.{arith, ◌≡◌, refl, ◌∙◌, Bool, true, false, not}
use mir.Val.{bool_byte}
use Rattle.lists.specs.Lists.{bit}
use Rattle.graph.proofs.Views.{facts}
use Rattle.graph.proofs.Placing.{found, by_starts}
use Rattle.graph.proofs.Counting.{count-run, count-unknown, count-before}
use Rattle.graph.proofs.pushing.count_parent.Goals as goal

-- A truth as a number
byte_bit : (b : Bool) → bool_byte b ≡ bit b
byte_bit true = refl
byte_bit false = refl

pub bounds-g-next : goal.bounds-g-next
bounds-g-next c =
    let k = c.args.g.now in
    omega (arith, (found k.graph.starts k.graph.run_count c.args.p.0 c.in-Run.run' (by_starts k.graph k.held c.args.p.0 c.containing.ensures) c.in-Run.is).low, (facts k.graph k.held).runs)

pub returns-in-Run : goal.returns-in-Run
returns-in-Run c =
    let k = c.args.g.now in
    let g = k.graph in
    let p = c.args.p.0 in
    let f = found g.starts g.run_count p c.in-Run.run' (by_starts g k.held p c.containing.ensures) c.in-Run.is in
    count-run g.starts g.run_count c.args.t p c.in-Run.run'.0 f c.is_next-ended.ensures (c.from.ensures ∙ byte_bit (not c.is_next-ended.result))

pub returns-in-Unknown : goal.returns-in-Unknown
returns-in-Unknown c =
    let k = c.args.g.now in
    count-unknown k.graph.starts k.graph.run_count c.args.t c.args.p.0 (by_starts k.graph k.held c.args.p.0 c.containing.ensures) c.in-Unknown.is

pub returns-in-Before : goal.returns-in-Before
returns-in-Before c =
    let k = c.args.g.now in
    count-before k.graph.starts k.graph.run_count c.args.t c.args.p.0 (by_starts k.graph k.held c.args.p.0 c.containing.ensures) c.in-Before.is
