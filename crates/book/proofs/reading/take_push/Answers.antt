-- `book::reading::take_push` meets its contract: cut short, or whole and tried on a held graph. Assumes nothing.
use Rattle.std.proofs.Common.{refl, ◌∙◌}
use Rattle.model.specs.Book.{ends_early}
use Rattle.book.proofs.Taking.{length_cut, parents_cut, push_whole}
use Rattle.book.proofs.Turning.{goes_on, ends}
use Rattle.book.proofs.reading.take_push.Goals as goal

pub returns-in_default : goal.returns-in_default
unfolding ends_early
returns-in_default c = λ n. length_cut c.args.g.now.graph n c.args.k _ c.in_default.ensures

pub returns-in_default-take_counted : goal.returns-in_default-take_counted
unfolding ends_early
returns-in_default-take_counted c = λ n.
    parents_cut c.args.g.now.graph n c.args.k _ _ _ c.in-Some.ensures c.in_default-take_counted.ensures

pub returns-in-Ok : goal.returns-in-Ok
returns-in-Ok c = λ n.
    let k = c.args.g.now in
    push_whole k.graph n c.args.k _ _ _ c.in-Some.ensures _ _ c.in-Some-take_counted.ensures
    ∙ goes_on k.graph k.held _ _ _ c.in-Ok.ensures n c.args.k _ c.in-Ok.field-0.0 c.in-Ok.field-0.1 refl

pub returns-in-Err : goal.returns-in-Err
returns-in-Err c = λ n.
    let k = c.args.g.now in
    push_whole k.graph n c.args.k _ _ _ c.in-Some.ensures _ _ c.in-Some-take_counted.ensures
    ∙ ends k.graph k.held _ _ _ c.in-Err.ensures n c.args.k _ c.in-Err.r refl
