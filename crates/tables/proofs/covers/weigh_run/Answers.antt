-- `tables::covers::weigh_run` meets its contract: a run's cover is written and its bits are counted. Assumes nothing.
use Rattle.std.proofs.Common.{◌≡◌, ◌*◌, Bool, List, length, refl, ap, ◌∙◌, arith}
use Rattle.std.proofs.lemmas.Slice.{put_mid-paste}
use Rattle.tables.specs.Covers.{cover_words, join_of, cover_at}
use Rattle.tables.proofs.Weighing.{cover_stored}
use Rattle.tables.proofs.covers.weigh_run.Goals as goal

pub returns-clause-covered : goal.returns-clause-covered
returns-clause-covered c =
    let a = c.args in
    let z = c.join_children.new.z in
    let bits = c.join_children.ensures ∙ ap (λ (b : List Bool). join_of b (cover_at a.covers.now) a.children.now) c.own_bits.ensures in
    let whole : length z ≡ cover_words = omega arith in
    cover_stored a.covers.now z a.r _ _ whole c.requires.room bits (put_mid-paste (a.r * cover_words) _ a.covers.now _ z (length z) c.copy_from_slice.ensures.after (omega arith) refl)
