-- `book::reading::pushes` meets its contract: the pushes that are left, taken from here, give the whole. Assumes nothing.
use Rattle.std.proofs.Common.{◌∙◌, sym, ap, ◌-◌, ◌+◌, add-one}
use Rattle.model.specs.Book.{book_read, read_pushes}
use Rattle.book.specs.Turns.{read_of}
use Rattle.book.proofs.Taking.{next_push, no_push}
use Rattle.book.proofs.reading.pushes.Goals as goal

pub loop-k-preserved : goal.loop-k-preserved
loop-k-preserved c =
    let l = c.loop-k in
    let g = c.take_push.new.g.graph in
    let left = c.in-Ok.next.bytes.now in
    ap (λ k. read_pushes (c.args.count - (l.k + 1)) k g left) (add-one l.k)
    ∙ sym (next_push c.args.count l.k l.g.graph l.left.bytes.now c.loop-k-test.true ∙ c.in-Ok.ensures (c.args.count - (l.k + 1))) ∙ l.invariant

pub returns-in-Err : goal.returns-in-Err
unfolding book_read
returns-in-Err c =
    let l = c.loop-k in
    ap read_of c.answered.ensures ∙ sym (next_push c.args.count l.k l.g.graph l.left.bytes.now c.loop-k-test.true ∙ c.in-Err.ensures (c.args.count - (l.k + 1))) ∙ l.invariant

pub returns : goal.returns
returns c =
    let l = c.loop-k in
    c.finish.ensures ∙ no_push c.args.count l.k l.g.graph l.left.bytes.now c.loop-k-test.false ∙ l.invariant
