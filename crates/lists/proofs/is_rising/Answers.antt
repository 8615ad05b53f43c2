-- `lists::is_rising` meets its contract: a turn asks one pair more. Assumes nothing.
use Rattle.std.proofs.Common.{sym, ap, ltb, ◌∙◌, arith}
use Rattle.std.proofs.lemmas.List.{take_all}
use Rattle.lists.proofs.Scanning.{pairs, pairs_first, pairs_more, pairs-rising}
use Rattle.lists.proofs.is_rising.Goals as goal

pub loop-i-init : goal.loop-i-init
loop-i-init c = sym (pairs_first _ _)

pub loop-i-preserved : goal.loop-i-preserved
loop-i-preserved c = rw c.loop-i.invariant (sym (pairs_more _ _ _ (omega arith) (omega arith)))

pub returns : goal.returns
returns c = c.loop-i.invariant ∙ ap (pairs ltb) (take_all _ _ (omega arith)) ∙ pairs-rising _
