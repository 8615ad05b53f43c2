-- `versions::wanted::all_whole` meets its contract. The loop's invariant: the runs so far pass. Assumes nothing.
use Rattle.std.proofs.Common.{sym, ◌∙◌, add-one, length}
use Rattle.versions.specs.Ranges.{marked_whole}
use Rattle.versions.proofs.RangeTurns.{all_stop}
use Rattle.versions.proofs.wanted.all_whole.Goals as goal

pub returns-then-not-is_whole : goal.returns-then-not-is_whole
unfolding marked_whole
returns-then-not-is_whole c =
    let a = c.args in
    let l = c.loop-r in
    let test = rw (add-one l.r) at c.is_whole.ensures in
    all_stop (marked_whole a.flags.now a.ends.now a.starts.now) l.r (length a.ends.now) c.loop-r-test.true (sym test ∙ c.if-not-is_whole.true)
