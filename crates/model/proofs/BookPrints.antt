-- Demand 3 of books: what `replay` replays is what a list of calls made, and what it prints are the steps of a full replay that follows.
-- Assumes nothing.
use Rattle.std.proofs.Common.{◌≡◌, refl, sym, ap, ◌∙◌, subst, List, [], ◌∷◌, ◌++◌, map, ℕ, ◌*◌, arith, length, take, replicate, length-append}
use mathlib.Core.Option.{Option, none, some}
use Rattle.model.specs.declared.record.CausalGraph.{CausalGraph}
use Rattle.model.specs.Refusals.{number, Outcome}
use Rattle.model.specs.Broken.{Held}
use Rattle.model.specs.Steps.{Step, words}
use Rattle.model.specs.Walk.{WalkResult}
use Rattle.model.specs.Replay.{replay_of}
use Rattle.model.specs.Book.{book_of}
use Rattle.model.specs.Print.{Line, step_line, moved_line, refused_line, push_refused_line, refusal_line, said_steps, last_line, replay_lines, printed}
use Rattle.model.specs.Log.{Log}
use Rattle.model.specs.PlainSet.{ReplayFollows}
use Rattle.model.specs.Claim.{Claimed}
use Rattle.model.specs.BookCalls.{book_start, book_calls, book_log, LinesFollow, Books}
use Rattle.model.proofs.Reading.{said-words}
use Rattle.model.proofs.Good.{made_good}
use Rattle.model.proofs.Demand.{claim}
use Rattle.model.proofs.BookMade.{book-short, book-made, empty-start, empty_calls}
use Rattle.model.proofs.BookCut.{printed_cut}
use Rattle.model.proofs.Everything.{everything}
use Rattle.std.specs.Prelude.{Ok, Err, Result}
use Rattle.model.specs.declared.answers.BookRefusal.{BookRefusal}
use Rattle.model.specs.declared.answers.BookRefusal.TheVariants.{Refused, PushRefused}

-- The graph that a book gives is held
pub book-held : (bs : List ℕ) → Held (book_of bs).graph
book-held bs = subst (λ (g : CausalGraph). Held g) (sym (book-made bs)) (made_good (book_start bs) (book_calls bs)).held

pub book-claimed : (bs : List ℕ) → Claimed (book_of bs).graph (book_log bs)
book-claimed bs = subst (λ (g : CausalGraph). Claimed g (book_log bs)) (sym (book-made bs)) (claim (book_start bs) (book_calls bs))

-- Two lists that end in one line each
ends : (xs ys : List Line) (x y : Line) → xs ++ x ∷ [] ≡ ys ++ y ∷ [] → (xs ≡ ys) × (x ≡ y)
ends [] [] x y e = (refl, cc)
ends [] (b ∷ ys) x y e = absurd (omega (arith, simp length-append at (ap length e)))
ends (a ∷ xs) [] x y e = absurd (omega (arith, simp length-append at (ap length e)))
ends (a ∷ xs) (b ∷ ys) x y e = let later = ends xs ys x y (cc) in (cc, later.1)

-- A refusal's line is no `moved`
is_moved : Line → ℕ
is_moved (step_line s) = 0
is_moved (moved_line n) = 1
is_moved (refused_line n) = 0
is_moved (push_refused_line n k) = 0

not-moved : (a : Line) (n : ℕ) → is_moved a ≡ 0 → a ≡ moved_line n → ⊥
unfolding is_moved
not-moved a n z e = omega (arith, sym z ∙ ap is_moved e)

last-moved : (o : Outcome) (m n : ℕ) → last_line o m ≡ moved_line n → (o ≡ Ok tt) × (m ≡ n)
unfolding last_line is_moved
last-moved (Ok _) m n e = (refl, cc)
last-moved (Err r) m n e = absurd (not-moved (refused_line (number r)) n refl e)

-- The words of steps say just these
said-steps : (ws : List ℕ) (ss : List Step) → ws ≡ words ss → said_steps ws ≡ ss
unfolding said_steps
said-steps ws ss e = ap said_steps e ∙ ap (λ (o : Option (List Step)). elim o as (λ _. List Step) [ none ↦ [] | some x ↦ x ]) (said-words ss)

-- The lines of a replay that follows, where they end in a `moved`
lines_follow : (l : Log) (x : WalkResult) → (x.0.outcome ≡ Ok tt → ReplayFollows l x) → (lines : List Line) (n : ℕ) →
    map step_line (said_steps (take (3 * x.0.count) x.2)) ++ last_line x.0.outcome x.0.moved ∷ [] ≡ lines ++ moved_line n ∷ [] →
    LinesFollow l lines n
lines_follow l x follows lines n e =
    let parts = ends (map step_line (said_steps (take (3 * x.0.count) x.2))) lines (last_line x.0.outcome x.0.moved) (moved_line n) e in
    let last = last-moved x.0.outcome x.0.moved n parts.1 in
    let F = follows last.0 in
    record {
      result = x;
      follows = F;
      steps = sym parts.0 ∙ ap (map step_line) (said-steps (take (3 * x.0.count) x.2) F.steps F.follows.written);
      moved = sym last.1;
    }

replay_prints : (g : CausalGraph) (l : Log) → Claimed g l → (lines : List Line) (n : ℕ) → replay_lines g ≡ lines ++ moved_line n ∷ [] → LinesFollow l lines n
unfolding replay_lines
replay_prints g l C = lines_follow l (replay_of g (replicate 8192 0) (replicate 12288 0)) (C.replays (replicate 8192 0) (replicate 12288 0))

book-prints : (bs : List ℕ) (lines : List Line) (n : ℕ) → printed bs ≡ lines ++ moved_line n ∷ [] → LinesFollow (book_log bs) lines n
unfolding printed is_moved
book-prints bs lines n = go (book_of bs).answer
  where
    go : (a : (Result (Unit {0}) BookRefusal)) → elim a as (λ _. List Line) [
      | Ok _ ↦ replay_lines (book_of bs).graph
      | Err r ↦ refusal_line r ∷ []
    ] ≡ lines ++ moved_line n ∷ [] → LinesFollow (book_log bs) lines n
    go (Ok _) e = replay_prints (book_of bs).graph (book_log bs) (book-claimed bs) lines n e
    go (Err (Refused r)) e = absurd (not-moved (refused_line (number r)) n refl (ends [] lines (refused_line (number r)) (moved_line n) e).1)
    go (Err (PushRefused r k)) e = absurd (not-moved (push_refused_line (number r) k) n refl (ends [] lines (push_refused_line (number r) k) (moved_line n) e).1)

-- The empty file
empty_prints : printed [] ≡ moved_line 0 ∷ []
unfolding everything
empty_prints = refl

empty-whole : (book_of []).answer ≡ Ok tt
unfolding everything
empty-whole = refl

pub books : Books
books = record {
  empty = (empty-whole, empty-start, empty_calls);
  empty_prints = empty_prints;
  short = book-short;
  made = book-made;
  claimed = book-claimed;
  prints = book-prints;
  enough = printed_cut;
}
