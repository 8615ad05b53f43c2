-- `walk::replaying::replay` meets its contract: a broken graph is refused, any other is held. Assumes nothing.
use Rattle.std.proofs.Common.{◌≡◌, ap, ap₂, ◌∙◌, rules, List, ℕ}
use Rattle.std.specs.Prelude.{Err}
use Rattle.model.specs.declared.answers.Refusal.{Refusal}
use Rattle.model.specs.declared.answers.Refusal.TheVariants.{Broken}
use Rattle.model.specs.Replay.{replay_of}
use Rattle.moves.specs.Emit.{Writing}
use Rattle.walk.proofs.WholeReplay.{replay_broken}
use Rattle.walk.proofs.replaying.replay.Goals as goal

pub returns-in-Err : goal.returns-in-Err
returns-in-Err c =
    let a = c.args in
    let e = c.in-Err.ensures.err in
    let begun = c.over.ensures.begun in
    let told : c.walked.result ≡ record { count = 0; moved = 0; outcome = Err Broken } =
    c.walked.ensures ∙ ap₂ (λ (x : Writing) (r : Refusal). record { count = x.0.count; moved = x.0.moved; outcome = Err r }) begun e.0 in
    let back : (x : List ℕ) → x ≡ c.over.result.list.now → (c.walked.result, a.rows.now, x) ≡ replay_of a.g a.rows.now a.steps.now =
    λ x q. (λ i. (told i, a.rows.now, (q ∙ ap (λ (x : Writing). x.1) begun) i)) ∙ replay_broken a.g a.rows.now a.steps.now e.1 in
    search (rules, back)
