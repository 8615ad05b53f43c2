-- `graph::starting::is_marked` meets its contract. Assumes nothing.
use Rattle.std.proofs.Common.{◌∙◌, ap}
use Rattle.lists.specs.Lists.{mem}
use Rattle.lists.proofs.Scanning.{mem-list_any}
use Rattle.graph.proofs.starting.is_marked.Goals as goal

pub returns : goal.returns
returns c = c.contains.ensures.value ∙ mem-list_any c.args.run.0 c.marks.result.now ∙ ap (mem c.args.run.0) c.marks.ensures
