-- `book::printing::Lines::put_steps` meets its contract: the steps that are left, put from here, give the whole. Assumes nothing.
use Rattle.std.proofs.Common.{List, ℕ, ◌∙◌, ap, sym, arith}
use Rattle.std.specs.Slice.Iter.{chunks_exact_rest}
use Rattle.book.specs.Output.{put_line, put_lines, word_lines}
use Rattle.book.specs.Writing.{state}
use Rattle.book.specs.declared.printing.Printed.{Printed}
use Rattle.book.proofs.Fits.{lines_next, lines_none}
use Rattle.book.proofs.printing.Lines.put_steps.Goals as goal

pub loop-step-preserved : goal.loop-step-preserved
loop-step-preserved c =
    let l = c.loop-step in
    let x = c.in-Some.step.now in
    let rest = chunks_exact_rest c.next.new.self in
    let cut = c.in-Some.ensures.steps in record {
      same_buffer = c.put.ensures.same_buffer ∙ l.invariant.same_buffer;
      size = cut.0 ∙ l.invariant.size;
      left =
          ap (λ (w : Printed × List ℕ). put_lines w (word_lines rest)) (c.put.ensures.written ∙ ap (put_line (state l.self)) c.step_line-line.ensures)
          ∙ lines_next (state l.self) x rest (cut.1.1 ∙ l.invariant.size)
          ∙ ap (λ (ws : List ℕ). put_lines (state l.self) (word_lines ws)) (sym cut.1.0) ∙ l.invariant.left;
    }

pub returns-clause-written : goal.returns-clause-written
returns-clause-written c =
    let l = c.loop-step in
    lines_none (state l.self) (chunks_exact_rest l.step-iterator) (omega (arith, c.in-None.ensures.steps.1.0, l.invariant.size)) ∙ l.invariant.left
