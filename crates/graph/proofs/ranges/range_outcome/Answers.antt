-- `graph::ranges::range_outcome` meets its contract: its tests are those of the definition. Assumes nothing.
use Rattle.std.proofs.Common.{rules, sym}
use Rattle.std.proofs.lemmas.Result.{err_from_is_err_and}
use Rattle.graph.proofs.RangeWays.{range_broken, range_reversed, range_past, range_known, range_inside}
use Rattle.graph.proofs.ranges.range_outcome.Goals as goal

pub returns-in_err-held-clause-refused : goal.returns-in_err-held-clause-refused
returns-in_err-held-clause-refused c =
    let p = err_from_is_err_and c.from_residual.result c.from_residual.ensures.1 in
    let e = c.in_err-held.ensures.err in
    rw (p.1, p.2, e.0) (sym (range_broken c.args.g _ _ _ e.1))

pub returns-then-lt-clause-refused : goal.returns-then-lt-clause-refused
returns-then-lt-clause-refused c =
    let k = c.in_ok-held.held in
    let e = c.in_ok-held.ensures.ok in
    rw (← e.0) (sym (range_reversed k.graph _ _ _ e.1 (search rules)))

pub returns-then-held-end-clause-refused : goal.returns-then-held-end-clause-refused
returns-then-held-end-clause-refused c =
    let k = c.in_ok-held.held in
    let e = c.in_ok-held.ensures.ok in
    rw (← e.0) (sym (range_past k.graph _ _ _ e.1 k.held (search rules) c.if-held-end.true))

pub returns-then-end-first-clause-refused : goal.returns-then-end-first-clause-refused
returns-then-end-first-clause-refused c =
    let k = c.in_ok-held.held in
    let e = c.in_ok-held.ensures.ok in
    rw (← e.0) (sym (range_known k.graph _ _ _ e.1 k.held (search rules) c.if-held-end.false c.if-end-first.true))

pub returns-clause-inside : goal.returns-clause-inside
returns-clause-inside c =
    let k = c.in_ok-held.held in
    let e = c.in_ok-held.ensures.ok in
    (e.0, rw (← e.0) (sym (range_inside k.graph _ _ _ e.1 k.held (search rules) c.if-held-end.false c.if-end-first.false)))
