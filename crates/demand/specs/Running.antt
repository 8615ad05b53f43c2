-- Demand 3 of calls, books, full replays and walks that ran. Assumes nothing.
use Rattle.std.specs.Prelude.{◌≡◌, false, List, [], ◌∷◌, ◌++◌, ℕ, ◌+◌, ◌≤◌, length, take, Ok}
use Rattle.model.specs.declared.record.CausalGraph.{CausalGraph}
use Rattle.model.specs.Walk.{WalkResult, walk_of}
use Rattle.model.specs.Replay.{replay_of}
use Rattle.model.specs.Book.{book_of}
use Rattle.model.specs.Print.{Line, moved_line, printed, replay_text}
use Rattle.model.specs.Log.{Log, run_count}
use Rattle.model.specs.PlainSet.{ReplayFollows, WalkFollows}
use Rattle.model.specs.Claim.{RowRoom, StepRoom}
use Rattle.model.specs.BookCalls.{book_log, LinesFollow}
use Rattle.book.specs.declared.printing.Printed.{Printed}
use Rattle.book.specs.Output.{max_text, printing}

-- The graph that a book gives, and the plain log of its calls
abbrev pub book_by : List ℕ → CausalGraph × Log
book_by bs = ((book_of bs).graph, book_log bs)

-- "every full replay that is not refused, whatever room it is lent": it is 01's, and follows on the plain log. With enough room it is not
-- refused
pub record Replayed (made : CausalGraph × Log) (rows steps : List ℕ) (result : WalkResult) : Type 0 where
  pub is : result ≡ replay_of made.0 rows steps
  pub follows : result.0.outcome ≡ Ok tt → ReplayFollows made.1 result
  pub done : RowRoom ≤ length rows → StepRoom ≤ length steps → result.0.outcome ≡ Ok tt

-- "every walk over any range with any known prefix and any `first`"
pub record WalkedOver (made : CausalGraph × Log) (a b known first : ℕ) (rows steps : List ℕ) (result : WalkResult) : Type 0 where
  pub is : result ≡ walk_of made.0 a b known first rows steps
  pub follows : result.0.outcome ≡ Ok tt → WalkFollows made.1 a b known result
  pub done : a + known ≤ b → b ≤ run_count made.1 → RowRoom ≤ length rows → StepRoom ≤ length steps → result.0.outcome ≡ Ok tt

-- What is printed of a book: 01's lines, all of them where the buffer has 131,072 bytes; and where the last one is `moved n`, the others are
-- the steps of a full replay that follows on the plain log of the book's calls
pub record BookPrinted (bytes out : List ℕ) (result : Printed × List ℕ) : Type 0 where
  pub is : result ≡ printing (printed bytes) out
  pub whole : max_text ≤ length out → (result.0.short ≡ false) × (take result.0.used result.1 ≡ replay_text bytes)
  pub follows : (lines : List Line) (n : ℕ) → printed bytes ≡ lines ++ moved_line n ∷ [] → LinesFollow (book_log bytes) lines n
