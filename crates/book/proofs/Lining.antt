-- Each line of a book's output as texts and numbers. Assumes nothing.
use Rattle.std.proofs.Common.{◌≡◌, refl, ◌++◌, ℕ}
use Rattle.model.specs.Steps.{retreat, advance, opened, apply}
use Rattle.model.specs.Print.{step_line, ascii, decimal, say, say_range, step_text, line_text}
use Rattle.book.specs.Output.{ended}

module _ (a b : ℕ) where
  pub retreat_line : ended (step_line (retreat a b)) ≡ ascii "retreat " ++ decimal a ++ ascii " " ++ decimal b ++ ascii "\n"
  unfolding ended line_text step_text say_range say
  retreat_line = refl

  pub advance_line : ended (step_line (advance a b)) ≡ ascii "advance " ++ decimal a ++ ascii " " ++ decimal b ++ ascii "\n"
  unfolding ended line_text step_text say_range say
  advance_line = refl

  pub open_line : ended (step_line (opened a b)) ≡ ascii "open " ++ decimal a ++ ascii " " ++ decimal b ++ ascii "\n"
  unfolding ended line_text step_text say_range say
  open_line = refl

  pub apply_line : ended (step_line (apply a)) ≡ ascii "apply " ++ decimal a ++ ascii "\n"
  unfolding ended line_text step_text say
  apply_line = refl

pub ruleset step_lines = (retreat_line, advance_line, open_line, apply_line)
