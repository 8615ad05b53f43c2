-- What ran is what demand 3's claim speaks of. Assumes nothing.
use Rattle.std.proofs.Common.{◌≡◌, refl, sym, ap, ◌∙◌, subst, List, ℕ, length, take}
use Rattle.lists.proofs.Pads.{take-over}
use Rattle.model.specs.declared.record.CausalGraph.{CausalGraph}
use Rattle.model.specs.Walk.{WalkResult, walk_of}
use Rattle.model.specs.Replay.{replay_of}
use Rattle.model.specs.Print.{printed, replay_text}
use Rattle.model.specs.Log.{Log}
use Rattle.model.specs.PlainSet.{ReplayFollows, WalkFollows}
use Rattle.model.specs.Claim.{Claimed}
use Rattle.model.specs.declared.answers.BookRead.{BookRead}
use Rattle.model.specs.Book.{book_of}
use Rattle.model.proofs.BookPrints.{books, book-claimed}
use Rattle.model.proofs.Demand.{claim}
use Rattle.calls.specs.Words.{fresh_in, calls_in, called_by}
use Rattle.book.specs.declared.printing.Printed.{Printed}
use Rattle.book.specs.Output.{printing}
use Rattle.book.proofs.Enough.{printed-whole}
use Rattle.demand.specs.Running.{book_by, Replayed, WalkedOver, BookPrinted}

-- A result that is 01's, of a graph and a log of which the claim holds
module _ (made : CausalGraph × Log) (C : Claimed made.0 made.1) (rows steps : List ℕ) (x : WalkResult) where
  pub replayed : x ≡ replay_of made.0 rows steps → Replayed made rows steps x
  replayed e = record {
    is = e;
    follows = λ d. subst (λ (y : WalkResult). ReplayFollows made.1 y) (sym e) (C.replays rows steps (ap (λ (y : WalkResult). y.0.outcome) (sym e) ∙ d));
    done = λ p q. ap (λ (y : WalkResult). y.0.outcome) e ∙ C.replay_done rows steps p q;
  }

  pub walked-over : (a b known first : ℕ) → x ≡ walk_of made.0 a b known first rows steps → WalkedOver made a b known first rows steps x
  walked-over a b known first e = record {
    is = e;
    follows = λ d.
        subst (λ (y : WalkResult). WalkFollows made.1 a b known y) (sym e)
        (C.walks a b known first rows steps (ap (λ (y : WalkResult). y.0.outcome) (sym e) ∙ d));
    done = λ i j p q. ap (λ (y : WalkResult). y.0.outcome) e ∙ C.walk_done a b known first rows steps i j p q;
  }

-- A full replay and a walk of the graph that calls made
module _ (ws rows steps : List ℕ) (g : CausalGraph) (x : WalkResult) (made : g ≡ (called_by ws).0) where
  pub calls_replayed : x ≡ replay_of g rows steps → Replayed (called_by ws) rows steps x
  calls_replayed e =
      replayed (called_by ws) (claim (fresh_in ws) (calls_in ws)) rows steps x
      (e ∙ ap (λ (h : CausalGraph). replay_of h rows steps) made)

  pub calls_walked : (a b known first : ℕ) → x ≡ walk_of g a b known first rows steps → WalkedOver (called_by ws) a b known first rows steps x
  calls_walked a b known first e =
      walked-over (called_by ws) (claim (fresh_in ws) (calls_in ws)) rows steps x a b known first
      (e ∙ ap (λ (h : CausalGraph). walk_of h a b known first rows steps) made)

-- A full replay of the graph that a book gives
pub book_replayed : (bytes rows steps : List ℕ) (b : BookRead) (x : WalkResult) → b ≡ book_of bytes → x ≡ replay_of b.graph rows steps → Replayed (book_by bytes) rows steps x
book_replayed bytes rows steps b x read e =
    replayed (book_by bytes) (book-claimed bytes) rows steps x
    (e ∙ ap (λ (c : BookRead). replay_of c.graph rows steps) read)

-- The lines of a book in a buffer
pub book_printed : (bytes out : List ℕ) (x : Printed × List ℕ) → x ≡ printing (printed bytes) out → BookPrinted bytes out x
book_printed bytes out x e = record {
  is = e;
  whole = λ h. let w = e ∙ printed-whole bytes out h in (
    ap (λ (y : Printed × List ℕ). y.0.short) w,
    ap (λ (y : Printed × List ℕ). take y.0.used y.1) w ∙ take-over (replay_text bytes) out (length (replay_text bytes)) refl,
  );
  follows = books.prints bytes;
}
