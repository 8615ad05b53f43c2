-- What an event has seen that is pushed on a list of held events: the events of that list, and just those. Assumes nothing.
use Rattle.std.proofs.Common.{◌≡◌, refl, sym, ap, ◌∙◌, inl, inr, ◌↔◌, true, List, [], ◌∷◌, ℕ, ◌≤◌, ◌<◌, arith, leb, le-leb, le-ltb, eq-eqb, ne_eqb}
use Rattle.lists.specs.Lists.{mem}
use Rattle.lists.proofs.Members.{filter_agree}
use Rattle.lists.proofs.Counts.{filter_true}
use Rattle.model.specs.declared.record.CausalGraph.{CausalGraph}
use Rattle.model.specs.declared.record.EventIndex.{EventIndex}
use Rattle.model.specs.EventGraph.{EventGraph, HappenedBefore, parent, further, InEvents, Lower}
use Rattle.model.specs.Push.{push_of}
use Rattle.model.specs.Log.{Log, push, held_of, log_push, note, answer, after_calls, event_graph}
use Rattle.std.specs.Prelude.{Ok}
use Rattle.model.specs.Refusals.{OrRefusal}

-- Events below n with the same parents in two graphs have the same ancestors
before_same : (G H : EventGraph) (n : ℕ) → Lower G → ((e : ℕ) → e < n → G.parents e ≡ H.parents e) → {p e : ℕ} → e < n → HappenedBefore G p e → HappenedBefore H p e
before_same G H n low same {p} {e} lt (parent m) = parent (rw (same e lt) at m)
before_same G H n low same {p} {e} lt (further {q = q} m k) = further (rw (same e lt) at m) (before_same G H n low same (omega (arith, low e q m)) k)

module _ (l : Log) (low : Lower (event_graph l)) (ps : List ℕ) (n : ℕ) (held : (p : ℕ) → mem p ps ≡ true → (l.first_held ≤ p) × (p < l.next)) where
  abbrev G : EventGraph
  G = event_graph l

  abbrev H : EventGraph
  H = event_graph (log_push l ps n)

  next-parents : H.parents l.next ≡ ps
  unfolding held_of log_push
  next-parents =
      rw (eq-eqb l.next l.next refl)
      (filter_agree (λ p. leb l.first_held p) (λ p. true) ps (λ p m. le-leb l.first_held p (held p m).0) ∙ filter_true (λ p. true) ps (λ p. refl))

  earlier_parents : (e : ℕ) → e < l.next → H.parents e ≡ G.parents e
  unfolding held_of log_push
  earlier_parents e lt = rw (ne_eqb e l.next (λ z. omega arith), le-ltb l.next e (omega arith))

  earlier_before : {p e : ℕ} → e < l.next → HappenedBefore H p e → HappenedBefore G p e
  earlier_before {p} {e} lt (parent m) = parent (rw (earlier_parents e lt) at m)
  earlier_before {p} {e} lt (further {q = q} m k) =
      let n : mem q (G.parents e) ≡ true = rw (earlier_parents e lt) at m in
      further n (earlier_before (omega (arith, low e q n)) k)

  -- The first event of a push has seen the events of its parents, and just those
  pub push_sees : (e : ℕ) → HappenedBefore H e l.next ↔ InEvents G ps e
  push_sees e = (there, back)
    where
      there : HappenedBefore H e l.next → InEvents G ps e
      there (parent m) = inl (rw next-parents at m)
      there (further {q = q} m k) = let n : mem q ps ≡ true = rw next-parents at m in inr (q, n, earlier_before (held q n).1 k)

      back : InEvents G ps e → HappenedBefore H e l.next
      back (inl m) = let n : mem e (H.parents l.next) ≡ true = rw next-parents m in parent n
      back (inr t) =
          let n : mem t.0 (H.parents l.next) ≡ true = rw next-parents t.1 in
          further n (before_same G H l.next low (λ x lt. sym (earlier_parents x lt)) (held t.0 t.1).1 t.2)

-- The log after a push that is taken
pub push_logged : (g : CausalGraph) (l : Log) (ps : List ℕ) (n : ℕ) (a b : EventIndex) → (push_of g ps n).answer ≡ Ok (a, b) →
    (after_calls g l (push ps n ∷ [])).1 ≡ log_push l ps n
unfolding after_calls answer note
push_logged g l ps n a b e = ap (λ (x : (OrRefusal (EventIndex × EventIndex))). note l (push ps n) x) e
