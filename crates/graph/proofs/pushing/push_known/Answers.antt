-- `graph::pushing::push_known` meets its contract: the last run grows, or refusals 6 to 8 in their order, or the splits and a new run. Assumes
-- nothing.
use Rattle.std.proofs.Common.{arith, sym, ◌∙◌, ◌+◌, ltb-false}
use Rattle.graph.proofs.Views.{facts}
use Rattle.graph.proofs.PushWays.{known_of, splits_are, some_runs, grown-out, grown-held, too_many_runs, too_many_entries, frontier_too_long}
use Rattle.graph.proofs.PushWays.{new-run, room, parted_len, parted_joins, joined-out, joined-held}
use Rattle.graph.proofs.pushing.push_known.Goals as goal

pub invariant_of-grow_last : goal.invariant_of-grow_last
invariant_of-grow_last c = record { some = c.requires.some_events; fits = c.requires.events_fit }

pub grow_last-grown-requires : goal.grow_last-grown-requires
grow_last-grown-requires c =
    let a = c.args in
    let k = known_of a.g.now.graph a.g.now.held a.ps.now a.n a.counts c.len-start.ensures c.requires in
    some_runs k c.does_extend.ensures c.if-does_extend.true

pub invariant_of-g : goal.invariant_of-g
invariant_of-g c =
    let a = c.args in
    let k = known_of a.g.now.graph a.g.now.held a.ps.now a.n a.counts c.len-start.ensures c.requires in
    record { held = grown-held k c.grow_last-grown.result c.does_extend.ensures c.if-does_extend.true c.grow_last-grown.ensures }

pub returns-then-does_extend : goal.returns-then-does_extend
returns-then-does_extend c =
    let a = c.args in
    let k = known_of a.g.now.graph a.g.now.held a.ps.now a.n a.counts c.len-start.ensures c.requires in
    grown-out k c.grow_last-grown.result c.does_extend.ensures c.if-does_extend.true c.grow_last-grown.ensures

pub overflow_add-g : goal.overflow_add-g
overflow_add-g c = omega (arith, facts c.args.g.now.graph c.args.g.now.held)

pub returns-then-over : goal.returns-then-over
returns-then-over c =
    let a = c.args in
    let k = known_of a.g.now.graph a.g.now.held a.ps.now a.n a.counts c.len-start.ensures c.requires in
    too_many_runs k c.does_extend.ensures c.if-does_extend.false c.over.ensures c.if-over.true

pub overflow_add-g-2 : goal.overflow_add-g-2
overflow_add-g-2 c =
    let a = c.args in
    let few = ltb-false 512 (a.g.now.graph.run_count + 1 + a.counts.splits) (sym c.over.ensures ∙ c.if-over.false) in
    omega (arith, facts a.g.now.graph a.g.now.held, few)

pub returns-then-over-2 : goal.returns-then-over-2
returns-then-over-2 c =
    let a = c.args in
    let k = known_of a.g.now.graph a.g.now.held a.ps.now a.n a.counts c.len-start.ensures c.requires in
    too_many_entries k c.does_extend.ensures c.if-does_extend.false c.over.ensures c.if-over.false c.over-2.ensures c.if-over-2.true

pub keep_all-left-requires : goal.keep_all-left-requires
keep_all-left-requires c = rw c.frontier.ensures c.args.g.now.held.limits.frontier

pub returns-then-len-gt-MAX_FRONTIER : goal.returns-then-len-gt-MAX_FRONTIER
returns-then-len-gt-MAX_FRONTIER c =
    let a = c.args in
    let k = known_of a.g.now.graph a.g.now.held a.ps.now a.n a.counts c.len-start.ensures c.requires in
    frontier_too_long k c.does_extend.ensures c.if-does_extend.false c.over.ensures c.if-over.false c.over-2.ensures c.if-over-2.false
    (rw c.frontier.ensures at c.keep_all-left.ensures) (omega (arith, c.len.ensures.value, c.if-len-gt-MAX_FRONTIER.true))

pub split_all-parted-requires : goal.split_all-parted-requires
split_all-parted-requires c =
    let a = c.args in
    let k = known_of a.g.now.graph a.g.now.held a.ps.now a.n a.counts c.len-start.ensures c.requires in
    let r = new-run k c.does_extend.ensures c.if-does_extend.false c.over.ensures c.if-over.false c.over-2.ensures c.if-over-2.false
    (rw c.frontier.ensures at c.keep_all-left.ensures) (omega (arith, c.len.ensures.value, c.if-len-gt-MAX_FRONTIER.false)) in
    record { room = room r; splits_counted = splits_are k }

pub invariant_of-join : goal.invariant_of-join
invariant_of-join c =
    let a = c.args in
    let k = known_of a.g.now.graph a.g.now.held a.ps.now a.n a.counts c.len-start.ensures c.requires in
    let r = new-run k c.does_extend.ensures c.if-does_extend.false c.over.ensures c.if-over.false c.over-2.ensures c.if-over-2.false
    (rw c.frontier.ensures at c.keep_all-left.ensures) (omega (arith, c.len.ensures.value, c.if-len-gt-MAX_FRONTIER.false)) in
    record { some = c.requires.some_events; fits = rw (← parted_len r c.split_all-parted.result.graph c.split_all-parted.ensures) k.events }

pub join-joined-requires : goal.join-joined-requires
join-joined-requires c =
    let a = c.args in
    let k = known_of a.g.now.graph a.g.now.held a.ps.now a.n a.counts c.len-start.ensures c.requires in
    let r = new-run k c.does_extend.ensures c.if-does_extend.false c.over.ensures c.if-over.false c.over-2.ensures c.if-over-2.false
    (rw c.frontier.ensures at c.keep_all-left.ensures) (omega (arith, c.len.ensures.value, c.if-len-gt-MAX_FRONTIER.false)) in
    let h = c.split_all-parted.result.graph in
    let e = c.split_all-parted.ensures in
    parted_joins r h e

pub invariant_of-g-2 : goal.invariant_of-g-2
invariant_of-g-2 c =
    let a = c.args in
    let k = known_of a.g.now.graph a.g.now.held a.ps.now a.n a.counts c.len-start.ensures c.requires in
    let r = new-run k c.does_extend.ensures c.if-does_extend.false c.over.ensures c.if-over.false c.over-2.ensures c.if-over-2.false
    (rw c.frontier.ensures at c.keep_all-left.ensures) (omega (arith, c.len.ensures.value, c.if-len-gt-MAX_FRONTIER.false)) in
    record { held = joined-held r c.split_all-parted.result.graph c.split_all-parted.ensures c.join-joined.result c.join-joined.ensures }

pub returns : goal.returns
returns c =
    let a = c.args in
    let k = known_of a.g.now.graph a.g.now.held a.ps.now a.n a.counts c.len-start.ensures c.requires in
    let r = new-run k c.does_extend.ensures c.if-does_extend.false c.over.ensures c.if-over.false c.over-2.ensures c.if-over-2.false
    (rw c.frontier.ensures at c.keep_all-left.ensures) (omega (arith, c.len.ensures.value, c.if-len-gt-MAX_FRONTIER.false)) in
    joined-out r c.split_all-parted.result.graph c.split_all-parted.ensures c.join-joined.result c.join-joined.ensures
