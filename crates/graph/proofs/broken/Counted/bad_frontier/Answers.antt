-- `graph::broken::Counted::bad_frontier` meets its contract: a way out for each part of the clause. Assumes nothing.
use Rattle.std.proofs.Common.{rules, ◌≡◌, ◌<◌, ◌-◌, get_or, length, take}
use Rattle.model.specs.Record.{view}
use Rattle.model.specs.Broken.{bad_frontier}
use Rattle.graph.proofs.Testing.{told, not-rising, not-below, no_runs, no_frontier, last-is}
use Rattle.graph.proofs.broken.Counted.bad_frontier.Goals as goal

pub returns-then-not-is_rising : goal.returns-then-not-is_rising
unfolding bad_frontier view
returns-then-not-is_rising c = not-rising _ _ _ (told c.is_rising.ensures c.if-not-is_rising.true)

pub returns-then-not-all_below : goal.returns-then-not-all_below
unfolding bad_frontier view
returns-then-not-all_below c = not-below _ _ _ (told c.is_rising.ensures c.if-not-is_rising.false) (told c.all_below.ensures c.if-not-all_below.true)

pub returns-then-g-eq0 : goal.returns-then-g-eq0
unfolding bad_frontier view
returns-then-g-eq0 c =
    no_runs _ _ _ (told c.is_rising.ensures c.if-not-is_rising.false) (told c.all_below.ensures c.if-not-all_below.false) c.if-g-eq0.true

pub returns-in_default : goal.returns-in_default
unfolding bad_frontier view
returns-in_default c =
    no_frontier _ _ _ (told c.is_rising.ensures c.if-not-is_rising.false) (told c.all_below.ensures c.if-not-all_below.false) c.if-g-eq0.false (search rules)

pub returns : goal.returns
unfolding bad_frontier view
returns c =
    let f = c.args.self.graph.now.frontier in
    let n = c.args.self.graph.now.frontier_count in
    let some : 0 < length (take n f) = search rules in
    let last : c.in-Some.last.now ≡ get_or (take n f) (length (take n f) - 1) 0 = search rules in
    rw (c.is_next.ensures, last)
    (last-is _ _ (take n f) (told c.is_rising.ensures c.if-not-is_rising.false) (told c.all_below.ensures c.if-not-all_below.false) c.if-g-eq0.false some)
