-- `walk::visiting::visit`: what the version needs of what is given, and what it moves.
use Rattle.std.proofs.Common.{◌≡◌, ◌+◌, ◌≤◌, ◌^◌, List, ℕ, length, ap, subst, arith}
use Rattle.model.specs.Limits.{max_runs}
use Rattle.moves.specs.Emit.{Writing, emit}
use Rattle.moves.specs.Stretches.{Below}
use Rattle.moves.specs.Moves.{visit_of}
use Rattle.moves.proofs.Bounds.{visit_moved}
use Rattle.walk.specs.Given.{Given, Prepared}
use Rattle.walk.proofs.Looping.{few-chains, chain-low, place-low}
use Rattle.walk.proofs.visiting.visit.Goals as goal

pub arrive-requires : goal.arrive-requires
arrive-requires c =
    let g = c.args.given.now in
    let P = subst Prepared c.given.view_is c.given.invariant in
    let n = ap (λ (g : Given). g.chains) c.given.view_is in (
      omega (arith, few-chains _ c.given.invariant),
      omega (arith, c.chain.ensures, chain-low g P c.args.run c.requires, n),
      omega
          (arith, c.place.ensures, place-low g P c.args.run c.requires),
    )

-- It moves 2 ^ 52 events at most
moves : (st : List ℕ) (b : ℕ) (members begins current row : List ℕ) (n run : ℕ) (w u : Writing) → u ≡ emit w (visit_of st b members begins current row n run) →
    Below (2 ^ 32) st → n ≤ max_runs → length members ≤ 513 → u.0.moved ≤ w.0.moved + 2 ^ 52
moves st b members begins current row n run w u e small few short =
    omega (arith, ap (λ (x : Writing). x.0.moved) e, visit_moved st b members begins current row n run w small few short)

pub returns-in_err-put_visit-clause-moved_bound : goal.returns-in_err-put_visit-clause-moved_bound
returns-in_err-put_visit-clause-moved_bound c =
    let P = c.given.invariant in
    moves _ _ _ _ _ _ _ _ _ _ c.in_err-put_visit.ensures.steps_after c.starts_fit.ensures (omega (arith, few-chains _ P))
    (omega (arith, c.members.ensures.length, ap (λ (g : Given). g.runs) c.given.view_is, P.few))

pub returns-clause-moved_bound : goal.returns-clause-moved_bound
returns-clause-moved_bound c =
    let P = c.given.invariant in
    moves _ _ _ _ _ _ _ _ _ _ c.in_ok-put_visit.ensures.steps_after c.starts_fit.ensures (omega (arith, few-chains _ P))
    (omega (arith, c.members.ensures.length, ap (λ (g : Given). g.runs) c.given.view_is, P.few))
