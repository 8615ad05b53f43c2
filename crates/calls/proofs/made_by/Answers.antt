-- `calls::made_by` meets its contract: no start, or a start and the calls after it. Assumes nothing.
use Rattle.std.proofs.Common.{◌∙◌}
use Rattle.calls.proofs.Making.{none_made, start_made_by}
use Rattle.calls.proofs.made_by.Goals as goal

pub returns-in_default : goal.returns-in_default
returns-in_default c = c.new.ensures ∙ none_made _ c.in_default.ensures

pub returns : goal.returns
returns c = c.calls.ensures ∙ start_made_by _ _ _ _ c.in-Some.ensures c.begin.ensures
