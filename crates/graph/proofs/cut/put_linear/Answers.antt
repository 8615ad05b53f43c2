-- `graph::cut::put_linear` meets its contract: it has a run and is written, or it has none. Assumes nothing.
use Rattle.std.proofs.Common.{rules, sym, ◌∙◌}
use Rattle.graph.specs.Records.{state}
use Rattle.graph.proofs.Joining.{linear_put, linear_none}
use Rattle.graph.proofs.cut.put_linear.Goals as goal

pub returns-then-lt-clause-written : goal.returns-then-lt-clause-written
returns-then-lt-clause-written c =
    let a = c.args in
    c.put.ensures.written ∙ sym (linear_put (state a.out.now) a.first.0 a.end.0 (search rules))

pub returns-clause-written : goal.returns-clause-written
returns-clause-written c =
    let a = c.args in
    sym (linear_none (state a.out.now) a.first.0 a.end.0 (search rules))
