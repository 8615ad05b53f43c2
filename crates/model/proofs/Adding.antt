-- The events that a push adds to a log: their parents, what they lead to, and the frontier above them. Assumes nothing.
use Rattle.std.proofs.Common.{◌≡◌, refl, sym, ap, ◌∙◌, subst, ◌⊎◌, inl, inr, Bool, true, false, not, cond, ◌&&◌, ◌||◌, List, [], ◌∷◌, ◌++◌, ℕ, zero, suc, ◌+◌, ◌-◌, ◌≤◌, ◌<◌, arith, leb, ltb, eqb}
use Rattle.std.proofs.Common.{lt-ltb, le-ltb, le-leb, eq-eqb, ne_eqb}
use Rattle.lists.specs.Lists.{any, mem}
use Rattle.lists.proofs.Truth.{lt_or_le, eq_or-not, or_cases, or_left, or_right}
use Rattle.lists.proofs.Members.{mem_one, mem-append, mem-filter, filter-mem, any_same}
use Rattle.model.specs.EventGraph.{reaches, ancestor}
use Rattle.model.specs.Graph.{Graph, len}
use Rattle.model.specs.Push.{staying}
use Rattle.model.specs.Log.{Log, held_of, event_graph}
use Rattle.model.proofs.Exact.{ancestors}
use Rattle.model.proofs.Runs.{first_next}
use Rattle.model.proofs.Seen.{Front, ParentsLower, Inv, len_tied, reach_step, lower_tied}

-- The log with n more events, the first of which has the parents ps, and with the edges es
abbrev pub added : Log → List ℕ → ℕ → List ℕ → Log
added l ps n es = record {
  first_held = l.first_held;
  next = l.next + n;
  parents = λ e. cond (eqb e l.next) ps (cond (ltb l.next e && ltb e (l.next + n)) ((e - 1) ∷ []) (l.parents e));
  edges = es;
}

-- Where an event stands against the next one and n more
pub data Stands (next n e : ℕ) : Type 0 where
  old : e < next → Stands next n e
  first : e ≡ next → Stands next n e
  later : next < e → e < next + n → Stands next n e
  past : next < e → next + n ≤ e → Stands next n e

pub stands : (next n e : ℕ) → Stands next n e
stands next n e = go (lt_or_le e next) (eq_or-not e next) (lt_or_le e (next + n))
  where
    go : (e < next) ⊎ (next ≤ e) → (e ≡ next) ⊎ (e ≡ next → ⊥) → (e < next + n) ⊎ (next + n ≤ e) → Stands next n e
    go (inl p) q r = old p
    go (inr p) (inl q) r = first q
    go (inr p) (inr q) (inl r) = later (omega arith) r
    go (inr p) (inr q) (inr r) = past (omega arith) r

-- The parents of the events before, of the first new one and of the later ones
module _ (l : Log) (ps : List ℕ) (n : ℕ) (es : List ℕ) where
  pub old_parents : (e : ℕ) → e < l.next → (added l ps n es).parents e ≡ l.parents e
  old_parents e lt = rw (ne_eqb e l.next (λ q. omega arith), le-ltb l.next e (omega arith))

  pub own-parents : (e : ℕ) → e ≡ l.next → (added l ps n es).parents e ≡ ps
  own-parents e q = rw (eq-eqb e l.next q)

  pub later-parents : (e : ℕ) → l.next < e → e < l.next + n → (added l ps n es).parents e ≡ (e - 1) ∷ []
  later-parents e p q = rw (ne_eqb e l.next (λ z. omega arith), lt-ltb l.next e p, lt-ltb e (l.next + n) q)

  past_parents : (e : ℕ) → l.next < e → l.next + n ≤ e → (added l ps n es).parents e ≡ l.parents e
  past_parents e p q = rw (ne_eqb e l.next (λ z. omega arith), lt-ltb l.next e p, le-ltb e (l.next + n) q)

  -- Parents stay lower numbers
  pub added_lower : ParentsLower l → ((p : ℕ) → mem p ps ≡ true → p < l.next) → 0 < n → ParentsLower (added l ps n es)
  added_lower lower known pos e p m = go (stands l.next n e)
    where
      among : {xs : List ℕ} → (added l ps n es).parents e ≡ xs → mem p xs ≡ true
      among k = subst (λ (xs : List ℕ). mem p xs ≡ true) k m

      kept : (added l ps n es).parents e ≡ l.parents e → (p < e) × (e < l.next + n)
      kept k = let z : (p < e) × (e < l.next) = lower e p (among k) in (z.0, omega (arith, z.1))

      go : Stands l.next n e → (p < e) × (e < l.next + n)
      go (old a) = kept (old_parents e a)
      go (first a) = (omega (arith, known p (among (own-parents e a))), omega arith)
      go (later a b) = let k : p ≡ e - 1 = mem_one p (e - 1) (among (later-parents e a b)) in (omega arith, b)
      go (past a b) = kept (past_parents e a b)

module _ (g : Graph) (l : Log) (v : Inv g l) (ps : List ℕ) (n : ℕ) (pos : 0 < n) (known : (p : ℕ) → mem p ps ≡ true → p < l.next) (es : List ℕ) where
  abbrev l₂ : Log
  l₂ = added l ps n es

  -- What the events before lead to stays
  pub old_reaches : (k x e : ℕ) → x < l.next → reaches k (event_graph l₂) x e ≡ reaches k (event_graph l) x e
  unfolding reaches held_of
  old_reaches zero x e lt = refl
  old_reaches (suc k) x e lt =
      ap (λ (ys : List ℕ). any (λ y. eqb e y || reaches k (event_graph l₂) y e) (held_of l ys)) (old_parents l ps n es x lt) ∙
      any_same (λ y. eqb e y || reaches k (event_graph l₂) y e) (λ y. eqb e y || reaches k (event_graph l) y e) (held_of l (l.parents x))
      (λ y m. ap (λ b. eqb e y || b) (old_reaches k y e (omega (arith, lower_tied l v.lower x y m))))

  -- What a held parent has seen, the first new event has
  pub from-own : (p e : ℕ) → mem p ps ≡ true → l.first_held ≤ p → (e ≡ p) ⊎ (ancestors l p e ≡ true) → (j : ℕ) → l.next ≤ j →
      reaches j (event_graph l₂) l.next e ≡ true
  unfolding ancestors ancestor held_of
  from-own p e m h c j le = reach_step p j (event_graph l₂) l.next e p
      (subst (λ (ys : List ℕ). mem p (held_of l ys) ≡ true) (sym (own-parents l ps n es l.next refl)) (filter-mem (λ q. leb l.first_held q) p ps m (le-leb l.first_held p h)))
      (go c) (omega (arith, known p m))
    where
      go : (e ≡ p) ⊎ (reaches p (event_graph l) p e ≡ true) → (e ≡ p) ⊎ (reaches p (event_graph l₂) p e ≡ true)
      go (inl z) = inl z
      go (inr z) = inr (old_reaches p p e (known p m) ∙ z)

  -- The new last event
  abbrev top : ℕ
  top = l.next + n - 1

  -- Up the new events, one by one
  climb : (d y e : ℕ) → l.next ≤ y → y + d < l.next + n → (e ≡ y) ⊎ (reaches y (event_graph l₂) y e ≡ true) →
      (e ≡ y + d) ⊎ (reaches (y + d) (event_graph l₂) (y + d) e ≡ true)
  climb zero y e a b h = subst (λ (k : ℕ). (e ≡ k) ⊎ (reaches k (event_graph l₂) k e ≡ true)) (omega arith) h
  climb (suc d) y e a b h =
      let z : y + suc d ≡ suc (y + d) = omega arith in
      let p : l₂.parents (suc (y + d)) ≡ (y + d) ∷ [] = later-parents l ps n es (suc (y + d)) (omega arith) (omega arith) ∙ ap (λ k. k ∷ []) (omega arith) in
      subst (λ (k : ℕ). (e ≡ k) ⊎ (reaches k (event_graph l₂) k e ≡ true)) (sym z)
      (inr (reach_step (y + d) (suc (y + d)) (event_graph l₂) (suc (y + d)) e (y + d) (in_one p) (climb d y e a (omega arith) h) (omega arith)))
    where
      in_one : l₂.parents (suc (y + d)) ≡ (y + d) ∷ [] → mem (y + d) (held_of l₂ (l₂.parents (suc (y + d)))) ≡ true
      in_one p = unfold held_of in filter-mem (λ q. leb l.first_held q) (y + d) (l₂.parents (suc (y + d)))
          (subst (λ (xs : List ℕ). mem (y + d) xs ≡ true) (sym p) (unfold mem in rw (eq-eqb (y + d) (y + d) refl))) (le-leb l.first_held (y + d) (omega (arith, first_next l v.tied.edged)))

  to_top : (y e : ℕ) → l.next ≤ y → y < l.next + n → (e ≡ y) ⊎ (reaches y (event_graph l₂) y e ≡ true) → (e ≡ top) ⊎ (reaches top (event_graph l₂) top e ≡ true)
  to_top y e a b h = subst (λ (k : ℕ). (e ≡ k) ⊎ (reaches k (event_graph l₂) k e ≡ true)) (omega arith) (climb (top - y) y e a (omega arith) h)

  -- "those not named stay, the new last event joins": the frontier is above every held event again
  pub added_front : (g₂ : Graph) → g₂.frontier ≡ staying g ps ++ (len g + n - 1) ∷ [] → Front g₂ l₂
  unfolding ancestors ancestor staying
  added_front g₂ f = record {
    below = λ q m. below' q (in_frontier q (subst (λ (xs : List ℕ). mem q xs ≡ true) frontier-is m));
    covers = λ e h q. cases e h q (lt_or_le e l.next);
  }
    where
      frontier-is : g₂.frontier ≡ staying g ps ++ top ∷ []
      frontier-is = f ∙ ap (λ k. staying g ps ++ (k + n - 1) ∷ []) (len_tied g l v.tied)

      in_frontier : (q : ℕ) → mem q (staying g ps ++ top ∷ []) ≡ true → (mem q g.frontier ≡ true) ⊎ (q ≡ top)
      in_frontier q m = go (or_cases (mem q (staying g ps)) (mem q (top ∷ [])) (sym (mem-append q (staying g ps) (top ∷ [])) ∙ m))
        where
          go : (mem q (staying g ps) ≡ true) ⊎ (mem q (top ∷ []) ≡ true) → (mem q g.frontier ≡ true) ⊎ (q ≡ top)
          go (inl z) = inl (mem-filter (λ e. not (mem e ps)) q g.frontier z).0
          go (inr z) = inr (mem_one q top z)

      below' : (q : ℕ) → (mem q g.frontier ≡ true) ⊎ (q ≡ top) → q < l.next + n
      below' q (inl z) = omega (arith, v.front.below q z)
      below' q (inr z) = omega arith

      Covered : ℕ → Type 0
      Covered e = (x : ℕ) × (mem x g₂.frontier ≡ true) × (l.first_held ≤ x) × ((e ≡ x) ⊎ (reaches x (event_graph l₂) x e ≡ true))

      top_in : mem top g₂.frontier ≡ true
      top_in = rw (frontier-is, mem-append top (staying g ps) (top ∷ [])) (or_right (mem top (staying g ps)) (unfold mem in rw (eq-eqb top top refl)))

      by_top : (e : ℕ) → (e ≡ top) ⊎ (reaches top (event_graph l₂) top e ≡ true) → Covered e
      by_top e c = (top, top_in, omega (arith, first_next l v.tied.edged), c)

      older : (e x : ℕ) → mem x g.frontier ≡ true → l.first_held ≤ x → (e ≡ x) ⊎ (ancestors l x e ≡ true) → (b : Bool) → mem x ps ≡ b → Covered e
      older e x m h c true z = by_top e (to_top l.next e (omega arith) (omega arith) (inr (from-own x e z h c l.next (omega arith))))
      older e x m h c false z = (x, stays, h, same_reach c)
        where
          stays : mem x g₂.frontier ≡ true
          stays = rw (frontier-is, mem-append x (staying g ps) (top ∷ [])) (or_left (mem x (top ∷ [])) (filter-mem (λ e. not (mem e ps)) x g.frontier m (rw z)))

          same_reach : (e ≡ x) ⊎ (ancestors l x e ≡ true) → (e ≡ x) ⊎ (reaches x (event_graph l₂) x e ≡ true)
          same_reach (inl y) = inl y
          same_reach (inr y) = inr (old_reaches x x e (v.front.below x m) ∙ y)

      cases : (e : ℕ) → l.first_held ≤ e → e < l.next + n → (e < l.next) ⊎ (l.next ≤ e) → Covered e
      cases e h q (inl a) =
          let k : (x : ℕ) × (mem x g.frontier ≡ true) × (l.first_held ≤ x) × ((e ≡ x) ⊎ (ancestors l x e ≡ true)) = v.front.covers e h a in
          older e k.0 k.1 k.2 k.3 (mem k.0 ps) refl
      cases e h q (inr a) = by_top e (to_top e e a q (inl refl))
