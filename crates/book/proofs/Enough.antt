-- How long the text of a book can be, so that a lent buffer is long enough. Assumes nothing.
use Rattle.std.proofs.Common.{◌≡◌, ap, false, List, [], ◌∷◌, ◌++◌, map, ℕ, ◌+◌, ◌*◌, ◌≤◌, arith, length, length-append}
use Rattle.lists.specs.Lists.{concat}
use Rattle.lists.specs.Areas.{over}
use Rattle.model.specs.declared.record.CausalGraph.{CausalGraph}
use Rattle.model.specs.Broken.{Held}
use Rattle.model.specs.Steps.{Step, retreat, advance, opened, apply}
use Rattle.model.specs.Refusals.{number}
use Rattle.model.specs.Book.{book_of}
use Rattle.model.specs.Print.{Line, step_line, moved_line, refused_line, push_refused_line, ascii, say, say_range, step_text, line_text, text, printed, replay_text}
use Rattle.book.specs.Output.{max_text, ended, printing}
use Rattle.book.proofs.Decimals.{decimal-length, decimal_three}
use Rattle.book.proofs.Fits.{printing-all}
use Rattle.model.proofs.BookPrints.{book-held}
use Rattle.book.proofs.Numbers.{Small, Smalls}
use Rattle.book.proofs.Whole.{by_answer, replay_text_lem}
use Rattle.std.specs.Prelude.{Ok, Err, Result}
use Rattle.model.specs.declared.answers.BookRefusal.{BookRefusal}
use Rattle.model.specs.declared.answers.BookRefusal.TheVariants.{Refused as BookRefused, PushRefused}

-- No line is longer than 55 bytes
line_length : (l : Line) → length (ended l) ≤ 55
unfolding ended line_text step_text say_range say ascii
line_length (step_line (retreat a b)) = simp length-append (omega (arith, decimal-length a, decimal-length b))
line_length (step_line (advance a b)) = simp length-append (omega (arith, decimal-length a, decimal-length b))
line_length (step_line (opened a b)) = simp length-append (omega (arith, decimal-length a, decimal-length b))
line_length (step_line (apply r)) = simp length-append (omega (arith, decimal-length r))
line_length (moved_line n) = simp length-append (omega (arith, decimal-length n))
line_length (refused_line n) = simp length-append (omega (arith, decimal-length n))
line_length (push_refused_line n k) = simp length-append (omega (arith, decimal-length n, decimal-length k))

-- nor a step's line, where runs are at most 512, than 16
step-length : (s : Step) → Small 512 s → length (ended (step_line s)) ≤ 16
unfolding ended line_text step_text say_range say ascii
step-length (retreat a b) h = simp length-append (omega (arith, decimal_three a (omega (arith, h.0)), decimal_three b (omega (arith, h.1))))
step-length (advance a b) h = simp length-append (omega (arith, decimal_three a (omega (arith, h.0)), decimal_three b (omega (arith, h.1))))
step-length (opened a b) h = simp length-append (omega (arith, decimal_three a (omega (arith, h.0)), decimal_three b (omega (arith, h.1))))
step-length (apply r) h = simp length-append (omega (arith, decimal_three r (omega arith)))

one_length : (l : Line) → length (text (l ∷ [])) ≤ 55
unfolding text concat ended
one_length l = omega (arith, line_length l, length-append (ended l) [])

-- the text of steps and a last line
steps-length : (ss : List Step) (l : Line) → Smalls 512 ss → length (text (map step_line ss ++ l ∷ [])) ≤ 16 * length ss + 55
unfolding text concat ended
steps-length [] l h = omega (arith, one_length l)
steps-length (s ∷ ss) l h =
    omega (arith, step-length s h.0, steps-length ss l h.1, length-append (ended (step_line s)) (text (map step_line ss ++ l ∷ [])))

-- The text of a book, by its answer
answer-length : (g : CausalGraph) → Held g → (a : (Result (Unit {0}) BookRefusal)) → length (text (by_answer g a)) ≤ 65591
unfolding by_answer
answer-length g H (Ok tt) =
    let r = replay_text_lem g H in
    omega (arith, ap (λ (ls : List Line). length (text ls)) r.2.0, steps-length r.0 r.1 r.2.2, r.2.1)
answer-length g H (Err (BookRefused r)) = omega (arith, one_length (refused_line (number r)))
answer-length g H (Err (PushRefused r k)) = omega (arith, one_length (push_refused_line (number r) k))

-- A buffer of 131,072 bytes is long enough for every book
pub text-fits : (bytes : List ℕ) → length (replay_text bytes) ≤ max_text
unfolding replay_text printed by_answer
text-fits bytes = omega (arith, answer-length (book_of bytes).graph (book-held bytes) (book_of bytes).answer)

pub printed-whole : (bytes out : List ℕ) → max_text ≤ length out →
    printing (printed bytes) out ≡ (record { used = length (replay_text bytes); short = false }, over (replay_text bytes) out)
unfolding replay_text
printed-whole bytes out h = printing-all (printed bytes) out (omega (arith, text-fits bytes))
