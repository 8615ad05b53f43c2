-- `versions::wanted::flag_marked` meets its contract. The loop's invariant: the flags of the runs so far. Assumes nothing.
use Rattle.std.proofs.Common.{refl, ◌∙◌}
use Rattle.lists.specs.Areas.{pad}
use Rattle.versions.specs.Ranges.{flag_marked}
use Rattle.versions.specs.Parents.{parents_in}
use Rattle.versions.proofs.RangeTurns.{flags_next}
use Rattle.versions.proofs.wanted.flag_marked.Goals as goal

pub loop-r-init : goal.loop-r-init
unfolding flag_marked pad
loop-r-init c = refl

pub loop-r-preserved : goal.loop-r-preserved
loop-r-preserved c =
    let l = c.loop-r in
    c.flag_if.ensures ∙ rw (c.of.ensures, l.invariant) (flags_next (parents_in c.args.parents) c.args.ends.now l.r)
