-- `graph::lookups::from_the_end` meets its contract: no start is at most the event, or the end is, or a run's start is the last one. Assumes
-- nothing.
use Rattle.std.proofs.Common.{rules, sym, ap, subst}
use Rattle.std.proofs.iter.runs.Made.{chains}
use Rattle.model.specs.Answers.{containing_at}
use Rattle.graph.proofs.Placing.{LastPlace, at_none, at_end, at_run}
use Rattle.graph.proofs.lookups.from_the_end.Goals as goal

pub returns-in_default : goal.returns-in_default
returns-in_default c =
    let a = c.args in
    let found : LastPlace a.starts.now a.event.0 c.rposition.result = search (rules, chains) in
    ap containing_at (sym (at_none a.starts.now a.event.0 c.requires.some (subst (LastPlace a.starts.now a.event.0) c.in_default.is found)))

pub returns-then-place-starts : goal.returns-then-place-starts
returns-then-place-starts c =
    let a = c.args in
    let found : LastPlace a.starts.now a.event.0 c.rposition.result = search (rules, chains) in
    ap containing_at (sym (at_end a.starts.now a.event.0 _ c.requires.rises (subst (LastPlace a.starts.now a.event.0) c.in-Some.is found) c.if-place-starts.true))

pub returns : goal.returns
returns c =
    let a = c.args in
    let found : LastPlace a.starts.now a.event.0 c.rposition.result = search (rules, chains) in
    ap containing_at (sym (at_run a.starts.now a.event.0 _ c.requires.rises (subst (LastPlace a.starts.now a.event.0) c.in-Some.is found) c.if-place-starts.false))
