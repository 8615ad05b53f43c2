-- `versions::words::try_put` meets its contract: refused as what was found is, or where the words do not fit; else they are written. Assumes
-- nothing.
use Rattle.std.proofs.Common.{refl, ◌∙◌}
use Rattle.std.proofs.lemmas.Result.{err_from_is_err_and}
use Rattle.model.specs.Cut.{unwritten}
use Rattle.versions.specs.Words.{counted, all_put}
use Rattle.versions.proofs.Writing.{all_fit, none_fit}
use Rattle.versions.proofs.words.try_put.Goals as goal

pub returns-in_err-words : goal.returns-in_err-words
unfolding counted all_put unwritten
returns-in_err-words c =
    let p = err_from_is_err_and c.from_residual.result c.from_residual.ensures.1 in
    rw (p.1, p.2, c.in_err-words.was) refl

pub returns-then-list-n : goal.returns-then-list-n
returns-then-list-n c = rw (c.in_ok-words.was) (none_fit c.in_ok-words.words c.args.list.now c.len-n.result c.len-n.ensures.value c.if-list-n.true)

pub returns : goal.returns
returns c =
    let k = c.in_ok-words in
    rw k.was (all_fit k.words c.args.list.now c.len-n.result c.copy_from_slice.new.self c.len-n.ensures.value (c.copy_from_slice.ensures.after ∙ c.as_slice.ensures) c.if-list-n.false)
