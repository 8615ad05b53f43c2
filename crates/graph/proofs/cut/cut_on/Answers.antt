-- `graph::cut::cut_on` meets its contract: a single run goes on with the Linear, any other range closes it. Assumes nothing.
use Rattle.std.proofs.Common.{sym, ap, ◌∙◌, ◌+◌}
use Rattle.std.proofs.lemmas.Result.{err_from_is_err_and}
use Rattle.lists.proofs.Truth.{eqb_sym}
use Rattle.graph.specs.Cutting.{Cutting, cutting}
use Rattle.graph.proofs.Joining.{on_single, on_closed, on_refused}
use Rattle.graph.proofs.cut.cut_on.Goals as goal

pub returns-then-is_next-clause-written : goal.returns-then-is_next-clause-written
returns-then-is_next-clause-written c =
    let a = c.args in
    sym (on_single (cutting a.first a.out.now) a.a.0 a.b.0 (eqb_sym a.b.0 (a.a.0 + 1) ∙ sym c.is_next.ensures ∙ c.if-is_next.true))

pub returns-clause-written : goal.returns-clause-written
returns-clause-written c =
    let a = c.args in
    on_closed (cutting a.first a.out.now) a.a.0 a.b.0 (eqb_sym a.b.0 (a.a.0 + 1) ∙ sym c.is_next.ensures ∙ c.if-is_next.false) c.in_ok-put_linear.ensures.written c.in_ok-put.ensures.written

pub returns-in_err-put_linear-clause-refused : goal.returns-in_err-put_linear-clause-refused
returns-in_err-put_linear-clause-refused c =
    let a = c.args in
    let p = err_from_is_err_and c.from_residual.result c.from_residual.ensures.1 in
    let e = c.in_err-put_linear.ensures.written in
    rw (p.1, p.2) (on_refused (cutting a.first a.out.now) a.a.0 a.b.0 (eqb_sym a.b.0 (a.a.0 + 1) ∙ sym c.is_next.ensures ∙ c.if-is_next.false) _ _ _ e)

pub returns-in_err-put-clause-refused : goal.returns-in_err-put-clause-refused
returns-in_err-put-clause-refused c =
    let a = c.args in
    let p = err_from_is_err_and c.from_residual-in_err-put.result c.from_residual-in_err-put.ensures.1 in
    let e = c.in_err-put.ensures.written in
    let d = on_closed (cutting a.first a.out.now) a.a.0 a.b.0 (eqb_sym a.b.0 (a.a.0 + 1) ∙ sym c.is_next.ensures ∙ c.if-is_next.false) c.in_ok-put_linear.ensures.written e in
    rw (p.1, p.2) (ap (λ (w : Cutting). w.written) d)
