-- A graph tied to a plain log: the same runs, the same parents. Then the log's ancestors of a run are the events of the runs that
-- happened before it. Assumes nothing.
use Rattle.std.proofs.Common.{◌≡◌, refl, sym, ◌∙◌, subst, ◌⊎◌, inl, inr, ◌↔◌, Bool, true, false, ◌&&◌, ◌||◌, [], ◌∷◌, ◌++◌, map, ℕ, zero, suc, ◌+◌, ◌-◌, ◌≤◌, ◌<◌, arith, length, get_or, leb, ltb}
use Rattle.std.proofs.Common.{eqb, eqb-true, lt-ltb, le-ltb, le-leb, eq-eqb, ne_eqb}
use borrow.Author.Tests.{lt-leb}
use Rattle.lists.specs.Lists.{any, filter, mem}
use Rattle.lists.proofs.Truth.{lt_or_le, eq_or-not, false_true, not_so, bool_iff, and_right, and_both, or_cases, or_right}
use Rattle.lists.proofs.Between.{within, within_in, within-before, within-after, within_true}
use Rattle.lists.proofs.Members.{mem_one, mem_index, mem-map, map-mem, any_intro, any_elim}
use Rattle.lists.proofs.Rising.{up_low, up_high, up_step, up_mono}
use Rattle.model.specs.EventGraph.{parent, further, reaches, ancestor}
use Rattle.model.specs.Graph.{Graph}
use Rattle.model.specs.History.{at, histories}
use Rattle.model.specs.Range.{parents_in}
use Rattle.model.specs.Log.{Log, run_start, in_runs, held_of, held_before, event_graph}
use Rattle.model.proofs.Histories.{Below, Reach, history-is}
use Rattle.model.proofs.Exact.{ancestors}
use Rattle.model.proofs.Runs.{held-is, in_is, in_bounds, run_of, Edged, splits_of}

-- A run's last event
abbrev pub last_of : Log → ℕ → ℕ
last_of l j = run_start l (suc j) - 1

-- The runs start at the edges; a run's parents end in the parents of its first event; inside a run each event follows the last
pub record Tied (g : Graph) (l : Log) : Type 0 where
  pub edged : Edged l
  pub starts : g.starts ≡ l.edges ++ l.next ∷ []
  pub rows : length g.parents ≡ length l.edges
  pub below : Below g.parents
  pub parents : (r : ℕ) → r < length l.edges → held_of l (l.parents (run_start l r)) ≡ map (last_of l) (at g.parents r)
  pub inside : (e : ℕ) → l.first_held ≤ e → e < l.next → mem e l.edges ≡ false → l.parents e ≡ (e - 1) ∷ []

module _ (g : Graph) (l : Log) (t : Tied g l) where
  -- Run starts lie between the first held event and the next one, and rise
  pub low : (r : ℕ) → l.first_held ≤ run_start l r
  unfolding run_start
  low r = up_low l.first_held l.edges l.next t.edged.up r

  pub high : (r : ℕ) → run_start l r ≤ l.next
  unfolding run_start
  high r = up_high l.first_held l.edges l.next t.edged.up r

  pub step : (r : ℕ) → r < length l.edges → run_start l r < run_start l (suc r)
  unfolding run_start
  step r lt = up_step l.first_held l.edges l.next t.edged.up r lt

  pub mono : (r s : ℕ) → r ≤ s → run_start l r ≤ run_start l s
  unfolding run_start
  mono r s q = up_mono l.first_held l.edges l.next t.edged.up r s q

  -- A run's first event is held
  pub start-held : (r : ℕ) → r < length l.edges → held_before l l.next (run_start l r) ≡ true
  start-held r lt = held-is l l.next (run_start l r) (low r) (omega (arith, step r lt, high (suc r)))

  not-edge : (r x : ℕ) → run_start l r < x → x < run_start l (suc r) → mem x l.edges ≡ false
  unfolding run_start
  not-edge r x p q = not_so (mem x l.edges) (λ e.
      let k : (j : ℕ) × (j < length l.edges) × (get_or l.edges j l.next ≡ x) = mem_index x l.next l.edges e in
      cases k.0 k.2 (lt_or_le r k.0))
    where
      cases : (j : ℕ) → get_or l.edges j l.next ≡ x → (r < j) ⊎ (j ≤ r) → ⊥
      cases j e (inl h) = omega (arith, mono (suc r) j h)
      cases j e (inr h) = omega (arith, mono j r h)

  -- Inside a run each event has the one before it as its only parent
  pub alone : (r x : ℕ) → run_start l r < x → x < run_start l (suc r) → l.parents x ≡ (x - 1) ∷ []
  alone r x p q = t.inside x (omega (arith, low r)) (omega (arith, high (suc r))) (not-edge r x p q)

  pub alone-held : (r x : ℕ) → run_start l r < x → x < run_start l (suc r) → held_of l (l.parents x) ≡ (x - 1) ∷ []
  unfolding held_of filter
  alone-held r x p q = rw (alone r x p q, le-leb l.first_held (x - 1) (omega (arith, low r)))

  -- Down a run, event by event
  pub down : (d k r x e : ℕ) → x ≡ run_start l r + d → x < run_start l (suc r) → x ≤ k →
      ((j : ℕ) → run_start l r ≤ j → reaches j (event_graph l) (run_start l r) e ≡ true) ⊎ ((run_start l r ≤ e) × (e < x)) → reaches k (event_graph l) x e ≡ true
  unfolding reaches any
  down zero k r x e q lt f (inl h) = let z : x ≡ run_start l r = omega arith in rw z (h k (omega arith))
  down zero k r x e q lt f (inr h) = absurd (omega (arith, h.0, h.1))
  down (suc d) zero r x e q lt f h = absurd (omega arith)
  down (suc d) (suc k) r x e q lt f h =
      rw (alone-held r x (omega arith) lt) (go h (eq_or-not e (x - 1)) (λ c. down d k r (x - 1) e (omega arith) (omega arith) (omega arith) c))
    where
      go : ((j : ℕ) → run_start l r ≤ j → reaches j (event_graph l) (run_start l r) e ≡ true) ⊎ ((run_start l r ≤ e) × (e < x)) → (e ≡ x - 1) ⊎ (e ≡ x - 1 → ⊥) →
          (((j : ℕ) → run_start l r ≤ j → reaches j (event_graph l) (run_start l r) e ≡ true) ⊎ ((run_start l r ≤ e) × (e < x - 1)) → reaches k (event_graph l) (x - 1) e ≡ true) →
          eqb e (x - 1) || reaches k (event_graph l) (x - 1) e || false ≡ true
      go c (inl z) ih = rw (eq-eqb e (x - 1) z)
      go (inl c) (inr z) ih = rw (ne_eqb e (x - 1) z, ih (inl c))
      go (inr c) (inr z) ih = rw (ne_eqb e (x - 1) z, ih (inr (c.0, omega (arith, c.1, c.0))))

  from-parent : (j r k e : ℕ) → mem j (at g.parents r) ≡ true → r < length l.edges → eqb e (last_of l j) || reaches k (event_graph l) (last_of l j) e ≡ true →
      reaches (suc k) (event_graph l) (run_start l r) e ≡ true
  unfolding reaches
  from-parent j r k e h lt c =
      any_intro (λ q. eqb e q || reaches k (event_graph l) q e) (held_of l (l.parents (run_start l r))) (last_of l j)
      (rw (t.parents r lt) (mem-map (last_of l) j (at g.parents r) h)) c

  -- An event of run m, from the start of a run that m leads to
  up_reach : {m r : ℕ} (e : ℕ) → Reach g.parents m r → r < length l.edges → run_start l m ≤ e → e < run_start l (suc m) →
      (k : ℕ) → run_start l r ≤ k → reaches k (event_graph l) (run_start l r) e ≡ true
  up_reach {m} {r} e (parent h) lt p q zero f = absurd (omega (arith, step m (omega (arith, t.below r m h)), mono (suc m) r (t.below r m h)))
  up_reach {m} {r} e (parent h) lt p q (suc k) f =
      let b : m < r = t.below r m h in
      from-parent m r k e h lt (go (eq_or-not e (last_of l m)) b)
    where
      go : (e ≡ last_of l m) ⊎ (e ≡ last_of l m → ⊥) → m < r → eqb e (last_of l m) || reaches k (event_graph l) (last_of l m) e ≡ true
      go (inl z) b = rw (eq-eqb e (last_of l m) z)
      go (inr z) b = or_right (eqb e (last_of l m)) (down (last_of l m - run_start l m) k m (last_of l m) e
          (omega (arith, step m (omega arith))) (omega (arith, step m (omega arith))) (omega (arith, mono (suc m) r b, step m (omega arith))) (inr (p, omega arith)))
  up_reach {m} {r} e (further {q = j} h c) lt p q zero f = absurd (omega (arith, step j (omega (arith, t.below r j h)), mono (suc j) r (t.below r j h)))
  up_reach {m} {r} e (further {q = j} h c) lt p q (suc k) f =
      let b : j < r = t.below r j h in
      from-parent j r k e h lt (or_right (eqb e (last_of l j)) (down (last_of l j - run_start l j) k j (last_of l j) e
      (omega (arith, step j (omega arith))) (omega (arith, step j (omega arith))) (omega (arith, mono (suc j) r b, step j (omega arith)))
      (inl (up_reach e c (omega arith) p q))))

  -- Where parents lead from an event of run r
  abbrev pub Led : ℕ → ℕ → ℕ → Type 0
  Led r x e = ((run_start l r ≤ e) × (e < x)) ⊎ ((s : ℕ) × Reach g.parents s r × (run_start l s ≤ e) × (e < run_start l (suc s)))

  -- An event that parents lead to lies before x in its run, or in a run that happened before that
  pub led : (k r x e : ℕ) → r < length l.edges → run_start l r ≤ x → x < run_start l (suc r) → reaches k (event_graph l) x e ≡ true → Led r x e
  unfolding reaches
  led zero r x e lt p q h = false_true h
  led (suc k) r x e lt p q h =
      let a : (y : ℕ) × (mem y (held_of l (l.parents x)) ≡ true) × (eqb e y || reaches k (event_graph l) y e ≡ true) =
      any_elim (λ q. eqb e q || reaches k (event_graph l) q e) (held_of l (l.parents x)) h in
      cases a.0 a.1 (or_cases (eqb e a.0) (reaches k (event_graph l) a.0 e) a.2) (eq_or-not x (run_start l r)) (λ s y u v w. led k s y e u v w)
    where
      cases : (y : ℕ) → mem y (held_of l (l.parents x)) ≡ true → (eqb e y ≡ true) ⊎ (reaches k (event_graph l) y e ≡ true) →
          (x ≡ run_start l r) ⊎ (x ≡ run_start l r → ⊥) →
          ((s y : ℕ) → s < length l.edges → run_start l s ≤ y → y < run_start l (suc s) → reaches k (event_graph l) y e ≡ true → Led s y e) → Led r x e
      cases y m c (inl z) ih =
          let a : (j : ℕ) × (mem j (at g.parents r) ≡ true) × (y ≡ last_of l j) = map-mem (last_of l) y (at g.parents r) (rw (z, t.parents r lt) at m) in
          start a.0 a.1 a.2 c
        where
          start : (j : ℕ) → mem j (at g.parents r) ≡ true → y ≡ last_of l j → (eqb e y ≡ true) ⊎ (reaches k (event_graph l) y e ≡ true) → Led r x e
          start j n u (inl v) =
              let w : e ≡ y = eqb-true e y v in
              let b : j < r = t.below r j n in
              inr (j, parent n, omega (arith, step j (omega arith)), omega (arith, step j (omega arith)))
          start j n u (inr v) =
              let b : j < r = t.below r j n in
              onward (ih j y (omega arith) (omega (arith, step j (omega arith))) (omega (arith, step j (omega arith))) v)
            where
              onward : Led j y e → Led r x e
              onward (inl w) = inr (j, parent n, w.0, omega (arith, w.1, step j (omega (arith, t.below r j n))))
              onward (inr w) = inr (w.0, further n w.1, w.2, w.3)
      cases y m c (inr z) ih = inner c
        where
          same : y ≡ x - 1
          same = mem_one y (x - 1) (rw (alone-held r x (omega arith) q) at m)

          inner : (eqb e y ≡ true) ⊎ (reaches k (event_graph l) y e ≡ true) → Led r x e
          inner (inl v) = let w : e ≡ y = eqb-true e y v in inl (omega (arith, same), omega (arith, same))
          inner (inr v) = onward (ih r y lt (omega (arith, same)) (omega (arith, same)) v)
            where
              onward : Led r y e → Led r x e
              onward (inl w) = inl (w.0, omega (arith, w.1, same))
              onward (inr w) = inr w

  -- The run of an event that lies in run s
  pub run_is : (s e : ℕ) → run_start l s ≤ e → e < run_start l (suc s) → run_of l e ≡ s
  run_is s e p q =
      let i : held_before l l.next e && within (s, suc s) (run_of l e) ≡ true = sym (splits_of l t.edged s (suc s) e) ∙ in_is l s (suc s) e p q in
      let w = within_true s (suc s) (run_of l e) (and_right (held_before l l.next e) (within (s, suc s) (run_of l e)) i) in
      omega (arith, w.0, w.1)

  -- An event lies in its run
  pub in_run_lem : (e : ℕ) → held_before l l.next e ≡ true → (run_start l (run_of l e) ≤ e) × (e < run_start l (suc (run_of l e)))
  in_run_lem e h =
      let r : ℕ = run_of l e in
      in_bounds l r (suc r) e
      (splits_of l t.edged r (suc r) e ∙ and_both (held_before l l.next e) (within (r, suc r) r) h (within_in r (suc r) r (omega arith) (omega arith)))

  -- The ancestors of a run, event by event
  pub ancestors_are : (r e : ℕ) → r < length l.edges → held_before l l.next e ≡ true →
      (ancestors l (run_start l r) e ≡ true) ↔ Reach g.parents (run_of l e) r
  unfolding ancestors ancestor
  ancestors_are r e lt h = (
    (λ a. there (led (run_start l r) r (run_start l r) e lt (omega arith) (step r lt) a)),
    (λ c. up_reach e c lt (in_run_lem e h).0 (in_run_lem e h).1 (run_start l r) (omega arith)),
  )
    where
      there : Led r (run_start l r) e → Reach g.parents (run_of l e) r
      there (inl w) = absurd (omega (arith, w.0, w.1))
      there (inr w) = subst (λ (s : ℕ). Reach g.parents s r) (sym (run_is w.0 e w.2 w.3)) w.1

  -- A run's ancestors in a range, as the walk has them
  pub in_range : (a n : ℕ) → a + n ≤ length l.edges → (r : ℕ) → r < n → (e : ℕ) →
      in_runs l a (a + n) e && ancestors l (run_start l (a + r)) e ≡
      held_before l l.next e && (leb a (run_of l e) && (ltb (run_of l e - a) n && mem (run_of l e - a) (at (histories (parents_in g a (a + n))) r)))
  in_range a n le r lt e = rw (splits_of l t.edged a (a + n) e) (go (held_before l l.next e) refl (lt_or_le (run_of l e) a) (lt_or_le (run_of l e - a) n))
    where
      go : (b : Bool) → held_before l l.next e ≡ b → (run_of l e < a) ⊎ (a ≤ run_of l e) → (run_of l e - a < n) ⊎ (n ≤ run_of l e - a) →
          b && within (a, a + n) (run_of l e) && ancestors l (run_start l (a + r)) e ≡
          b && (leb a (run_of l e) && (ltb (run_of l e - a) n && mem (run_of l e - a) (at (histories (parents_in g a (a + n))) r)))
      go false h p q = refl
      go true h (inl p) q = rw (within-before a (a + n) (run_of l e) p, lt-leb a (run_of l e) p)
      go true h (inr p) (inr q) = rw (within-after a (a + n) (run_of l e) (omega arith), le-leb a (run_of l e) p, le-ltb (run_of l e - a) n q)
      go true h (inr p) (inl q) =
          rw (within_in a (a + n) (run_of l e) p (omega arith), le-leb a (run_of l e) p, lt-ltb (run_of l e - a) n q)
          (bool_iff (ancestors l (run_start l (a + r)) e) (mem (run_of l e - a) (at (histories (parents_in g a (a + n))) r))
          (λ x. (history-is g a n (omega (arith, t.rows)) t.below (run_of l e - a) r lt).1
          (subst (λ (k : ℕ). Reach g.parents k (a + r)) back ((ancestors_are (a + r) e (omega arith) h).0 x)))
          (λ x. (ancestors_are (a + r) e (omega arith) h).1
          (subst (λ (k : ℕ). Reach g.parents k (a + r)) (sym back) ((history-is g a n (omega (arith, t.rows)) t.below (run_of l e - a) r lt).0 x))))
        where
          back : run_of l e ≡ a + (run_of l e - a)
          back = omega arith
