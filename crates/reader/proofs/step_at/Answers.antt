-- `reader::step_at` meets its contract: by the words from the place on. Assumes nothing.
use Rattle.std.proofs.Common.{refl, sym, ◌∙◌, ap, List, ℕ}
use Rattle.std.specs.Borrow.{Bor}
use Rattle.reader.proofs.Decoding.{told, part_left, next-short, next_left, handed_step, handed_none}
use Rattle.reader.proofs.step_at.Goals as goal

pub returns-in_default : goal.returns-in_default
returns-in_default c =
    let left = ap (λ (x : Bor (List ℕ)). x.now) c.unwrap_or-left.ensures ∙ part_left c.args.words.now c.args.at _ _ refl c.get.ensures.lookup in
    told c.answer.ensures (sym (next-short c.args.words.now c.unwrap_or-left.result.now c.args.at (sym left) c.in_default.len_below))

pub returns-in-Some : goal.returns-in-Some
returns-in-Some c =
    let left = ap (λ (x : Bor (List ℕ)). x.now) c.unwrap_or-left.ensures ∙ part_left c.args.words.now c.args.at _ _ refl c.get.ensures.lookup in
    told c.answer-in-Some.ensures
    (handed_step c.args.at _ c.in-Some.step c.in-Some.ensures ∙ sym (next_left c.args.words.now c.unwrap_or-left.result.now c.args.at left c.in-len3-up.len_at_least))

pub returns-in-None : goal.returns-in-None
returns-in-None c =
    let left = ap (λ (x : Bor (List ℕ)). x.now) c.unwrap_or-left.ensures ∙ part_left c.args.words.now c.args.at _ _ refl c.get.ensures.lookup in
    told c.answer-in-None.ensures
    (handed_none c.args.at _ c.in-None.ensures ∙ sym (next_left c.args.words.now c.unwrap_or-left.result.now c.args.at left c.in-len3-up.len_at_least))
