-- `graph::fresh::after` meets its contract: each of its tests, in their order, is one of the definition. Assumes nothing.
use Rattle.std.proofs.Common.{sym, ◌∙◌}
use Rattle.graph.proofs.Beginning.{after_unordered, after-unknown, after-long, after-done}
use Rattle.graph.proofs.fresh.after.Goals as goal

pub returns-then-not-is_rising : goal.returns-then-not-is_rising
returns-then-not-is_rising c = c.refused.ensures ∙ after_unordered _ _ _ c.new.ensures (sym c.is_rising.ensures ∙ c.if-not-is_rising.true)

pub returns-then-not-all_below : goal.returns-then-not-all_below
returns-then-not-all_below c =
    let rises = sym c.is_rising.ensures ∙ c.if-not-is_rising.false in
    c.refused-then-not-all_below.ensures ∙ after-unknown _ _ _ c.new-then-not-all_below.ensures rises (sym c.all_below.ensures ∙ c.if-not-all_below.true)

pub returns-then-frontier-gt-MAX_FRONTIER : goal.returns-then-frontier-gt-MAX_FRONTIER
returns-then-frontier-gt-MAX_FRONTIER c =
    let rises = sym c.is_rising.ensures ∙ c.if-not-is_rising.false in
    let known = sym c.all_below.ensures ∙ c.if-not-all_below.false in
    c.refused-then-frontier-gt-MAX_FRONTIER.ensures ∙ after-long _ _ _ c.new-then-frontier-gt-MAX_FRONTIER.ensures rises known c.if-frontier-gt-MAX_FRONTIER.true

pub returns : goal.returns
returns c =
    let rises = sym c.is_rising.ensures ∙ c.if-not-is_rising.false in
    let known = sym c.all_below.ensures ∙ c.if-not-all_below.false in
    after-done _ _ _ c.fresh_held.ensures rises known c.if-frontier-gt-MAX_FRONTIER.false
