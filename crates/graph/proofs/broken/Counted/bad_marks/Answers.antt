-- `graph::broken::Counted::bad_marks` meets its contract: the marks are made once, in place, and compared. Assumes nothing.
use Rattle.std.proofs.Common.{sym, ◌∙◌, ap, not, take}
use Rattle.lists.specs.Lists.{same}
use Rattle.lists.proofs.Scanning.{same-pointwise}
use Rattle.model.specs.Broken.{bad_marks}
use Rattle.graph.proofs.Testing.{marks-used}
use Rattle.graph.proofs.broken.Counted.bad_marks.Goals as goal

pub returns : goal.returns
unfolding bad_marks
returns c =
    let g = c.args.self.graph.now in
    let made = c.as_slice.ensures ∙ c.marks_of-marks.ensures ∙ sym (marks-used g c.args.self.fit.sized c.args.self.fit.runs) in
    c.ne.ensures ∙ ap not (same-pointwise _ _ ∙ ap (same (take g.mark_count g.critical_versions)) made)
