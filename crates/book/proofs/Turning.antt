-- A push on a held graph, and what its answer makes of the reading. Assumes nothing.
use Rattle.std.proofs.Common.{◌≡◌, refl, sym, ◌∙◌, ap, List, ℕ, suc}
use Rattle.model.specs.declared.record.CausalGraph.{CausalGraph}
use Rattle.model.specs.declared.record.EventIndex.{EventIndex}
use Rattle.model.specs.declared.answers.Refusal.{Refusal}
use Rattle.model.specs.Broken.{Held}
use Rattle.model.specs.Record.{view}
use Rattle.model.specs.Refusals.{Outcome}
use Rattle.model.specs.Push.{push, push_outcome, pushed, push_refused, push_held_of, push_of}
use Rattle.model.specs.Book.{book_read, read_pushes}
use Rattle.model.proofs.Stored.{held-store, not-broken}
use Rattle.model.proofs.FormedPush.{push-formed, push-limits}
use Rattle.graph.proofs.PushWays.{unbroken-out}
use Rattle.book.proofs.Taking.{tried}
use Rattle.std.specs.Prelude.{Ok, Err}
use Rattle.model.specs.Answers.{Pushed}
use Rattle.model.specs.declared.answers.BookRefusal.TheVariants.{PushRefused}

-- A push on a held graph is the push, and leaves a held graph
pub push-is : (g : CausalGraph) → Held g → (ps : List ℕ) (n : ℕ) → push_held_of g ps n ≡ push_of g ps n
push-is g H ps n = unbroken-out g ps n (not-broken g H)

pub pushed-held : (g : CausalGraph) → Held g → (ps : List ℕ) (n : ℕ) → Held (push_held_of g ps n).graph
unfolding push_held_of pushed push_refused
pushed-held g H ps n = go (push_outcome (view g) ps n) refl
  where
    go : (o : Outcome) → push_outcome (view g) ps n ≡ o →
        Held (elim o as (λ _. Pushed) [ Ok _ ↦ pushed (view g) ps n | Err r ↦ push_refused g r ]).graph
    go (Ok tt) e = held-store (push (view g) ps n) (push-formed (view g) H.formed ps n e) (push-limits (view g) H.formed H.limits ps n e)
    go (Err r) e = H

-- What was pushed, by its answer
module _ (g : CausalGraph) (H : Held g) (ps : List ℕ) (len : ℕ) (p : Pushed) (e : p ≡ push_held_of g ps len) where
  module _ (n k : ℕ) (left : List ℕ) where
    tried_is : tried n k (push_of g ps len) left ≡ tried n k p left
    tried_is = ap (λ (x : Pushed). tried n k x left) (sym (e ∙ push-is g H ps len))

    pub goes_on : (first end : EventIndex) → p.answer ≡ Ok (first, end) → tried n k (push_of g ps len) left ≡ read_pushes n (suc k) p.graph left
    unfolding tried
    goes_on first end a = tried_is ∙ rw (a, tried)

    pub ends : (r : Refusal) → p.answer ≡ Err r → tried n k (push_of g ps len) left ≡ book_read p.graph (Err (PushRefused r k))
    unfolding tried
    ends r a = tried_is ∙ rw (a, tried)
