-- `walk::choice::weigh`: a candidate weighed as the definitions weigh it.
use Rattle.std.proofs.Common.{ℕ, List, sym, ap, ◌∙◌}
use Rattle.walk.specs.Choose.{try_of, is_only, only_c, cost_c}
use Rattle.walk.proofs.Weighing.{run_of, weigh-last, weigh-free, weigh_cost, beaten_keeps, cut_same, least_cost}
use Rattle.walk.proofs.choice.weigh.Goals as goal

pub returns-then-is_only_parent : goal.returns-then-is_only_parent
unfolding only_c
returns-then-is_only_parent c =
    let a = c.args in
    c.consider.ensures ∙ (ap (λ (w : ℕ). try_of a.best (run_of 0 w a.at)) c.weight-weight.ensures ∙
    sym (weigh-last _ _ _ _ a.best (sym (ap (λ (ps : List ℕ). is_only ps a.last) c.parents.ensures.value) ∙ (sym c.is_only_parent.ensures ∙ c.if-is_only_parent.true))))

pub returns-then-is_free : goal.returns-then-is_free
unfolding only_c
returns-then-is_free c =
    let a = c.args in
    let other = sym (ap (λ (ps : List ℕ). is_only ps a.last) c.parents.ensures.value) ∙ (sym c.is_only_parent.ensures ∙ c.if-is_only_parent.false) in
    sym (weigh-free _ _ _ _ a.best other (sym c.is_free.ensures ∙ c.if-is_free.true))

pub returns-then-is_beaten : goal.returns-then-is_beaten
unfolding only_c
returns-then-is_beaten c =
    let a = c.args in
    let other = sym (ap (λ (ps : List ℕ). is_only ps a.last) c.parents.ensures.value) ∙ (sym c.is_only_parent.ensures ∙ c.if-is_only_parent.false) in
    let d = cost_c a.given.now a.current.now a.run in
    let le = least_cost a.given.now a.current.now a.run c.abs_diff.result a.here c.size.result c.abs_diff.ensures c.requires.here c.size.ensures in
    let kept = beaten_keeps a.best c.abs_diff.result d c.weight-weight.result a.at (sym c.is_beaten.ensures ∙ c.if-is_beaten.true) le in
    sym (weigh_cost _ d _ a.at a.best other (sym c.is_free.ensures ∙ c.if-is_free.false) ∙ (sym (ap (λ (w : ℕ). try_of a.best (run_of d w a.at)) c.weight-weight.ensures) ∙ kept))

pub returns : goal.returns
unfolding only_c
returns c =
    let a = c.args in
    let other = sym (ap (λ (ps : List ℕ). is_only ps a.last) c.parents.ensures.value) ∙ (sym c.is_only_parent.ensures ∙ c.if-is_only_parent.false) in
    let d = cost_c a.given.now a.current.now a.run in
    let same = ap (λ (w : ℕ). try_of a.best (run_of d w a.at)) c.weight-weight.ensures in
    let full = cut_same a.best d c.cost_of-cost.result c.weight-weight.result a.at c.cost_of-cost.ensures.0 c.cost_of-cost.ensures.1 in
    c.consider-2.ensures ∙ (full ∙ (same ∙ sym (weigh_cost _ d _ a.at a.best other (sym c.is_free.ensures ∙ c.if-is_free.false))))
