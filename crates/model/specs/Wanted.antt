-- 02, F-3: the parents that give a wanted version, on every input, and what is claimed of them. Assumes nothing.
use Rattle.std.specs.Prelude.{◌≡◌, ◌↔◌, Bool, true, false, not, ◌&&◌, List, [], ◌∷◌, ◌++◌, ℕ, ◌-◌, ◌≤◌, length, take, drop, ltb, Ok, Err}
use Rattle.lists.specs.Lists.{from, mem, rising}
use Rattle.lists.specs.Areas.{over}
use Rattle.model.specs.declared.record.CausalGraph.{CausalGraph}
use Rattle.model.specs.declared.record.EventIndex.{EventIndex}
use Rattle.model.specs.declared.answers.Written.{Written}
use Rattle.model.specs.EventGraph.{EventGraph, HappenedBefore, InEvents, Version, maximal, closed}
use Rattle.model.specs.Refusals.{refusal, first_of, Outcome}
use Rattle.model.specs.Graph.{Graph, all_held}
use Rattle.model.specs.Record.{Sized, view}
use Rattle.model.specs.Broken.{broken}
use Rattle.model.specs.Cut.{unwritten}
use Rattle.model.specs.Push.{push_of}
use Rattle.model.specs.HeldEvents.{held_events}
use Rattle.model.specs.Log.{Fresh, Call, push, made_by, event_graph}

-- the marked events: "event ranges, first and exclusive end"
unfoldable pub events_in : List ℕ → List ℕ
events_in [] = []
events_in (a ∷ []) = []
events_in (a ∷ b ∷ ws) = from a (b - a) ++ events_in ws

-- "a first without its end too" is faulty
unfoldable pub paired : List ℕ → Bool
paired [] = true
paired (a ∷ []) = false
paired (a ∷ b ∷ ws) = paired ws

-- "rising, non-empty and not touching": each word is above the one before it
unfoldable pub ranges : List ℕ → Bool
ranges ws = rising ws && paired ws

-- the wanted parents: the marked events that are parent of no marked one
unfoldable pub wanted_parents : Graph → List ℕ → List ℕ
wanted_parents g ws = maximal (held_events g) (events_in ws)

-- Refusals 1, 3, 4, 17, 11: "17 .. after 4 and before 11". No list does it where a held parent of a marked event is not marked: `none` below
unfoldable pub wanted_outcome : CausalGraph → List ℕ → List ℕ → Outcome
wanted_outcome g ws lent =
    first_of (
    (broken g, 1) ∷
    (not (ranges ws), 3) ∷
    (not (all_held (view g) (events_in ws)), 4) ∷
    (not (closed (held_events (view g)) (events_in ws)), 17) ∷
    (ltb (length lent) (length (wanted_parents (view g) ws)), 11) ∷ [])

-- The wanted parents into a lent list, a word each, and the list afterwards: "a short list gets 11 and stays untouched"
unfoldable pub wanted_parents_of : CausalGraph → List ℕ → List ℕ → Written × List ℕ
wanted_parents_of g ws lent = elim (wanted_outcome g ws lent) [
  | Ok _ ↦ (record { count = length (wanted_parents (view g) ws); outcome = Ok tt }, over (wanted_parents (view g) ws) lent)
  | Err r ↦ unwritten r lent
]

-- "an event pushed on it has seen exactly" these events: Events(V) of the list is the set
abbrev pub Gives : EventGraph → List ℕ → List ℕ → Type 0
Gives G vs es = (e : ℕ) → InEvents G vs e ↔ (mem e es ≡ true)

-- How the call ended
abbrev pub ended : CausalGraph → List ℕ → List ℕ → Outcome → Type 0
ended g ws lent o = (wanted_parents_of g ws lent).0.outcome ≡ o

-- What is claimed of the wanted parents. A record is `Sized` as its arrays are: of every value of the code
pub record Wanted : Type 0 where
  -- done, it gives the marked events: "the rising list of held events, none an ancestor of another, such that .."
  pub gives : (g : CausalGraph) (ws lent : List ℕ) → Sized g → ended g ws lent (Ok tt) →
      Version (held_events (view g)) (wanted_parents (view g) ws) × Gives (held_events (view g)) (wanted_parents (view g) ws) (events_in ws)
  pub rises : (g : CausalGraph) (ws lent : List ℕ) → ended g ws lent (Ok tt) → rising (wanted_parents (view g) ws) ≡ true
  -- no other such list does
  pub only : (g : Graph) (ws vs : List ℕ) → ranges ws ≡ true → rising vs ≡ true → Version (held_events g) vs → Gives (held_events g) vs (events_in ws) →
      vs ≡ wanted_parents g ws
  -- 17 comes exactly where, of ranges that are not faulty, all of held events, "no list of held events does that", be it rising or not, with
  -- ancestors of one another in it or not
  pub none : (g : CausalGraph) (ws lent : List ℕ) → Sized g → ended g ws lent (Err (refusal 17)) ↔
      ((broken g ≡ false) × (ranges ws ≡ true) × (all_held (view g) (events_in ws) ≡ true) ×
      ((vs : List ℕ) → all_held (view g) vs ≡ true → ¬ Gives (held_events (view g)) vs (events_in ws)))
  -- on a graph that calls made, an event pushed on the answer has in the plain log exactly the marked events for ancestors
  pub pushed : (f : Fresh) (cs : List Call) (ws lent : List ℕ) (n : ℕ) (a b : EventIndex) → let g : CausalGraph = (made_by f cs).0 in
      ended g ws lent (Ok tt) → (push_of g (wanted_parents (view g) ws) n).answer ≡ Ok (a, b) →
      (e : ℕ) → HappenedBefore (event_graph (made_by f (cs ++ push (wanted_parents (view g) ws) n ∷ [])).1) e a.0 ↔ (mem e (events_in ws) ≡ true)
  -- it stands in the list's first words, and what lies behind it keeps its value
  pub written : (g : CausalGraph) (ws lent : List ℕ) → ended g ws lent (Ok tt) → let w = wanted_parents_of g ws lent in
      (take w.0.count w.1 ≡ wanted_parents (view g) ws) × (drop w.0.count w.1 ≡ drop w.0.count lent)
  -- so many words as it tells are there, done or refused
  pub fits : (g : CausalGraph) (ws lent : List ℕ) → (wanted_parents_of g ws lent).0.count ≤ length lent
  -- "The empty mark gives the empty list"
  pub nothing : (g : CausalGraph) (lent : List ℕ) → broken g ≡ false → wanted_parents_of g [] lent ≡ (record { count = 0; outcome = Ok tt }, lent)
