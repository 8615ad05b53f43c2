-- `walk::ready::Waits::remove`: what stands after the run moves one place down.
use Rattle.std.proofs.Common.{◌≡◌, List, ℕ, ◌+◌, ◌-◌, take, ap, ◌∙◌, arith}
use Rattle.walk.specs.Readiness.{Wakes, taken_out}
use Rattle.walk.proofs.Removing.{shifted, shift_end}
use Rattle.walk.proofs.ready.Waits.remove.Goals as goal

pub returns-clause-rest : goal.returns-clause-rest
returns-clause-rest c =
    let at = c.args.at in
    let i = c.self.inside in
    let e : i.count - (at + 1) ≡ i.count - 1 - at = omega arith in
    let out = c.copy_within.ensures.after ∙ (ap (shifted i.ready at) e ∙ shift_end i.ready at i.count (omega (arith, c.requires.at, ap (λ (s : Wakes). s.0) c.self.view_is))) in
    ap (λ (l : List ℕ). (i.count - 1, take i.runs i.waiting, l)) out ∙ ap (λ (s : Wakes). (s.0 - 1, s.1, taken_out s.2 s.0 at)) c.self.view_is
