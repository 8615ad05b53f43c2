-- `book::printing::decimal` meets its contract: one more digit stands in its place each turn, the last one first. Assumes nothing.
use Rattle.std.proofs.Common.{rules, ◌∙◌, arith, refl, replicate}
use Rattle.book.proofs.Decimals.{digits-begin, digits_turn, digits_end, digits-room}
use Rattle.book.proofs.printing.decimal.Goals as goal

pub loop-left-init : goal.loop-left-init
loop-left-init c = (omega arith, omega arith, omega arith, search rules, digits-begin c.args.n (replicate 20 0) refl)

pub loop-left-preserved : goal.loop-left-preserved
loop-left-preserved c =
    let l = c.loop-left in
    let room = digits-room l.at l.left l.invariant.0 (omega arith) l.invariant.2 in (
      room.1,
      omega arith,
      room.0,
      search rules,
      digits_turn l.bytes l.at l.left c.digit.result l.invariant.0 (omega arith) (omega arith) c.digit.ensures ∙ l.invariant.4,
    )

pub returns : goal.returns
returns c =
    let l = c.loop-left in
    (digits_end l.bytes l.at l.left c.digit-2.result l.invariant.0 (omega arith) (omega arith) c.digit-2.ensures ∙ l.invariant.4, omega arith)
