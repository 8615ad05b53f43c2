-- `walk::walking::walk` meets its contract: refused before anything is written, or the walk of a held record. Assumes nothing.
use Rattle.std.proofs.Common.{◌≡◌, refl, sym, ap, ◌∙◌, rules, List, ℕ, Ok, Err}
use Rattle.moves.specs.Emit.{Writing}
use Rattle.model.specs.Walk.{range_outcome, walk_of}
use Rattle.model.proofs.Stored.{sized_held}
use Rattle.walk.proofs.WholeWalk.{walk_inside, walk_refused, walk_done}
use Rattle.walk.proofs.walking.walk.Goals as goal

pub invariant_of-bounds : goal.invariant_of-bounds
invariant_of-bounds c =
    let a = c.args in
    let k = c.in-Ok.held in
    let e = c.in-Ok.ensures.inside in
    let inside : range_outcome k.graph a.first_run.0 a.end_run.0 a.known ≡ Ok tt = rw e.0 e.1 in
    let h = walk_inside k.graph a.first_run.0 a.end_run.0 a.known a.first a.rows.now a.steps.now (sized_held k.graph k.held) (Ok tt) (sym inside) refl in
    record { inside = (h.1, h.3) }

pub walk_held-requires : goal.walk_held-requires
walk_held-requires c =
    let a = c.args in
    let k = c.in-Ok.held in
    let e = c.in-Ok.ensures.inside in
    let inside : range_outcome k.graph a.first_run.0 a.end_run.0 a.known ≡ Ok tt = rw e.0 e.1 in
    (walk_inside k.graph a.first_run.0 a.end_run.0 a.known a.first a.rows.now a.steps.now (sized_held k.graph k.held) (Ok tt) (sym inside) refl).2

pub returns-in-Ok : goal.returns-in-Ok
returns-in-Ok c =
    let a = c.args in
    let k = c.in-Ok.held in
    let e = c.in-Ok.ensures.inside in
    let inside : range_outcome k.graph a.first_run.0 a.end_run.0 a.known ≡ Ok tt = rw e.0 e.1 in
    rw (← e.0) (c.walk_held.ensures ∙ walk_done k.graph a.first_run.0 a.end_run.0 a.known a.first a.rows.now a.steps.now (Ok tt) (sym inside) refl)

pub returns-in-Err : goal.returns-in-Err
returns-in-Err c =
    let a = c.args in
    let r = c.in-Err.r in
    let begun = c.over.ensures.begun in
    let told : c.walked.result ≡ record { count = 0; moved = 0; outcome = Err r } =
    c.walked.ensures ∙ ap (λ (x : Writing). record { count = x.0.count; moved = x.0.moved; outcome = Err r }) begun in
    let refused = walk_refused a.g a.first_run.0 a.end_run.0 a.known a.first a.rows.now a.steps.now (Err r) (sym c.in-Err.ensures.refused) r refl in
    let back : (x : List ℕ) → x ≡ c.over.result.list.now → (c.walked.result, a.rows.now, x) ≡ walk_of a.g a.first_run.0 a.end_run.0 a.known a.first a.rows.now a.steps.now =
    λ x q. (λ i. (told i, a.rows.now, (q ∙ ap (λ (x : Writing). x.1) begun) i)) ∙ refused in
    search (rules, back)
