-- The maximal events of a closed set, those that are parent of none of it: they make a version, and its events are the set. Assumes nothing.
use Rattle.std.proofs.Common.{◌≡◌, refl, ◌⊎◌, inl, inr, ◌↔◌, Bool, true, false, not, List, ℕ, zero, suc, ◌+◌, ◌≤◌, ◌<◌, arith}
use borrow.Author.Tests.{not-false}
use Rattle.lists.specs.Lists.{all, mem}
use Rattle.lists.proofs.Truth.{false_true, not_so}
use Rattle.lists.proofs.Members.{mem-filter, filter-mem, all_of, all-at, all_fails}
use Rattle.model.specs.EventGraph.{EventGraph, HappenedBefore, parent, further, InEvents, maximal, closed, Lower}
use Rattle.model.proofs.Ancestry.{before_trans}

-- What happened before an event is a parent of that event or of one that happened before it
pub child : (G : EventGraph) {a b : ℕ} → HappenedBefore G a b → (c : ℕ) × (mem a (G.parents c) ≡ true) × ((c ≡ b) ⊎ HappenedBefore G c b)
child G {a} {b} (parent h) = (b, h, inl refl)
child G {a} {b} (further {q = q} h k) = go (child G k)
  where
    go : (c : ℕ) × (mem a (G.parents c) ≡ true) × ((c ≡ q) ⊎ HappenedBefore G c q) → (c : ℕ) × (mem a (G.parents c) ≡ true) × ((c ≡ b) ⊎ HappenedBefore G c b)
    go t = (t.0, t.1, inr (onward t.2))
      where
        onward : (t.0 ≡ q) ⊎ HappenedBefore G t.0 q → HappenedBefore G t.0 b
        onward (inl e) = rw e (parent h)
        onward (inr c) = further h c

module _ (G : EventGraph) (es : List ℕ) where
  -- The set has the parents of each of its events
  abbrev pub Closed : Type 0
  Closed = (e p : ℕ) → mem e es ≡ true → mem p (G.parents e) ≡ true → mem p es ≡ true

  pub closed_at : closed G es ≡ true → Closed
  unfolding closed
  closed_at k e p m n = all-at (λ p. mem p es) (G.parents e) (all-at (λ e. all (λ p. mem p es) (G.parents e)) es k e m) p n

  pub closed_of : Closed → closed G es ≡ true
  unfolding closed
  closed_of h = all_of (λ e. all (λ p. mem p es) (G.parents e)) es (λ e m. all_of (λ p. mem p es) (G.parents e) (λ p n. h e p m n))

  -- so what happened before an event of it is in it
  closed-before : Closed → {a b : ℕ} → mem b es ≡ true → HappenedBefore G a b → mem a es ≡ true
  closed-before h {a} {b} m (parent k) = h b a m k
  closed-before h {a} {b} m (further {q = q} k t) = closed-before h (h b q m k) t

  abbrev childless : ℕ → Bool
  childless e = all (λ c. not (mem e (G.parents c))) es

  -- Maximal events are in the set, and parent of none of it
  pub maximal_in : (e : ℕ) → mem e (maximal G es) ≡ true → mem e es ≡ true
  unfolding maximal
  maximal_in e m = (mem-filter childless e es m).0

  pub maximal-none : (e c : ℕ) → mem e (maximal G es) ≡ true → mem c es ≡ true → ¬ (mem e (G.parents c) ≡ true)
  unfolding maximal
  maximal-none e c m n h = false_true (rw h at (all-at (λ c. not (mem e (G.parents c))) es (mem-filter childless e es m).1 c n))

  pub maximal_has : (e : ℕ) → mem e es ≡ true → ((c : ℕ) → mem c es ≡ true → ¬ (mem e (G.parents c) ≡ true)) → mem e (maximal G es) ≡ true
  unfolding maximal
  maximal_has e m h = filter-mem childless e es m (all_of (λ c. not (mem e (G.parents c))) es (λ c n. rw (not_so (mem e (G.parents c)) (h c n))))

  -- None of them happened before an event of the set
  pub maximal-apart : Closed → (a b : ℕ) → mem a (maximal G es) ≡ true → mem b es ≡ true → ¬ HappenedBefore G a b
  maximal-apart k a b m n h = go (child G h)
    where
      go : (c : ℕ) × (mem a (G.parents c) ≡ true) × ((c ≡ b) ⊎ HappenedBefore G c b) → ⊥
      go t = maximal-none a t.0 m (inside t.2) t.1
        where
          inside : (t.0 ≡ b) ⊎ HappenedBefore G t.0 b → mem t.0 es ≡ true
          inside (inl e) = rw e n
          inside (inr c) = closed-before k n c

  module _ (low : Lower G) (n : ℕ) (top : (e : ℕ) → mem e es ≡ true → e < n) where
    -- Each event of the set is maximal or happened before one that is; k numbers are left up to n, which is above them all
    covered : (k e : ℕ) → n ≤ e + k → mem e es ≡ true → InEvents G (maximal G es) e
    covered zero e j m = absurd (omega (arith, top e m))
    covered (suc k) e j m = go (childless e) refl (λ c u v. covered k c u v)
      where
        go : (b : Bool) → childless e ≡ b → ((c : ℕ) → n ≤ c + k → mem c es ≡ true → InEvents G (maximal G es) c) → InEvents G (maximal G es) e
        go true h ih = inl (unfold maximal in filter-mem childless e es m h)
        go false h ih =
            let c : (c : ℕ) × (mem c es ≡ true) × (not (mem e (G.parents c)) ≡ false) = all_fails (λ c. not (mem e (G.parents c))) es h in
            let p : mem e (G.parents c.0) ≡ true = not-false (mem e (G.parents c.0)) c.2 in
            onward c.0 p (ih c.0 (omega (arith, low c.0 e p)) c.1)
          where
            onward : (c : ℕ) → mem e (G.parents c) ≡ true → InEvents G (maximal G es) c → InEvents G (maximal G es) e
            onward c p (inl n) = inr (c, n, parent p)
            onward c p (inr t) = inr (t.0, t.1, before_trans G (parent p) t.2)

    pub maximal-covers : (e : ℕ) → mem e es ≡ true → InEvents G (maximal G es) e
    maximal-covers e m = covered n e (omega arith) m

    -- Events(V) of them is the set
    pub maximal-events : Closed → (e : ℕ) → InEvents G (maximal G es) e ↔ (mem e es ≡ true)
    maximal-events k e = (there, maximal-covers e)
      where
        there : InEvents G (maximal G es) e → mem e es ≡ true
        there (inl m) = maximal_in e m
        there (inr t) = closed-before k (maximal_in t.0 t.1) t.2
