-- `graph::pushing::push_held` meets its contract: refusals 2 to 5 in their order, then what `push_known` gives. Assumes nothing.
use Rattle.std.proofs.Common.{arith, ◌≡◌, true, false, sym, ◌∙◌}
use Rattle.lists.specs.Lists.{rising}
use Rattle.graph.proofs.PushWays.{no_events_lem, not-rising, one_unknown, all_known_lem, unknown-event, too_many_events, far_passed}
use Rattle.graph.proofs.pushing.push_held.Goals as goal

pub returns-then-len-eq0 : goal.returns-then-len-eq0
returns-then-len-eq0 c =
    let a = c.args in
    no_events_lem a.g.now.graph a.parents.now a.len c.if-len-eq0.true

pub returns-then-not-is_rising : goal.returns-then-not-is_rising
returns-then-not-is_rising c =
    let a = c.args in
    let falls : rising a.parents.now ≡ false = sym c.is_rising.ensures ∙ c.if-not-is_rising.true in
    not-rising a.g.now.graph a.parents.now a.len c.if-len-eq0.false falls

pub returns-then-counts-gt0 : goal.returns-then-counts-gt0
returns-then-counts-gt0 c =
    let a = c.args in
    let ps = a.parents.now in
    let rises : rising ps ≡ true = sym c.is_rising.ensures ∙ c.if-not-is_rising.false in
    unknown-event a.g.now.graph ps a.len c.if-len-eq0.false rises (one_unknown a.g.now.graph a.g.now.held ps c.count_parents-counts.ensures c.if-counts-gt0.true)

pub returns-then-over : goal.returns-then-over
returns-then-over c =
    let a = c.args in
    let ps = a.parents.now in
    let rises : rising ps ≡ true = sym c.is_rising.ensures ∙ c.if-not-is_rising.false in
    let known = all_known_lem a.g.now.graph a.g.now.held ps c.count_parents-counts.ensures c.if-counts-gt0.false in
    too_many_events a.g.now.graph ps a.len _ c.len-start.ensures c.if-len-eq0.false rises known (sym c.over.ensures ∙ c.if-over.true)

pub push_known-requires : goal.push_known-requires
push_known-requires c =
    let a = c.args in
    record {
      rising = sym c.is_rising.ensures ∙ c.if-not-is_rising.false;
      known = all_known_lem a.g.now.graph a.g.now.held a.parents.now c.count_parents-counts.ensures c.if-counts-gt0.false;
      some_events = omega (arith, c.if-len-eq0.false);
      events_fit = rw (← c.len-start.ensures) (far_passed _ _ (sym c.over.ensures ∙ c.if-over.false));
      counted = c.count_parents-counts.ensures;
    }
