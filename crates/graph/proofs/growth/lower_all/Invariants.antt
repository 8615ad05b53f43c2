-- `graph::growth::lower_all` meets its contract. The loop's invariant: the rest done from here is all done from the start. Assumes nothing.
use Rattle.std.proofs.Common.{◌≡◌, drop}
use Rattle.model.specs.Graph.{marks}
use Rattle.model.specs.Record.{view}
use Rattle.graph.specs.Loops.{lower_all}
use Rattle.graph.proofs.growth.lower_all.Given as goal

abbrev pub invariant-loop-m : goal.invariant-loop-m
invariant-loop-m l =
    let g = view l.g.graph in
    lower_all g.starts l.seen.0 l.c.0 (drop l.m-index (marks g)) ≡ lower_all g.starts l.seen.0 l.initial.c.0 (marks g)
