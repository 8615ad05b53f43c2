-- `book::printing::Lines::put_steps` meets its contract: the steps that are left, put from here, give the whole. Assumes nothing.
use Rattle.std.proofs.Common.{◌≡◌}
use Rattle.std.specs.Slice.Iter.{chunks_exact_rest, chunks_exact_size}
use Rattle.book.specs.Output.{put_lines, word_lines}
use Rattle.book.specs.Writing.{state, same_buffer}
use Rattle.book.proofs.printing.Lines.put_steps.Given as goal

abbrev pub invariant-loop-step : goal.invariant-loop-step
invariant-loop-step l = record {
  same_buffer : same_buffer l.self l.initial.self;
  size : chunks_exact_size l.step-iterator ≡ 3;
  left : put_lines (state l.self) (word_lines (chunks_exact_rest l.step-iterator)) ≡ put_lines (state l.initial.self) (word_lines l.steps);
}
