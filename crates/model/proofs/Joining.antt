-- A new run, once its held parents end runs, keeps a graph tied to its log. Assumes nothing.
use Rattle.std.proofs.Common.{◌≡◌, refl, sym, ap, ◌∙◌, subst, ◌⊎◌, inl, inr, true, false, ◌||◌, List, [], ◌∷◌, ◌++◌, map, ℕ, suc, ◌+◌, ◌-◌, ◌≤◌, ◌<◌, arith, length, get_or, length-append, leb}
use Rattle.std.proofs.Common.{ltb, eqb, ltb-false, leb-true, leb-false, le-ltb, eq-eqb}
use lib.ListN.{get_or-append, get_or-eq_default}
use lib.Seq.{get_or-append_seam}
use borrow.Author.Tests.{lt-leb}
use Rattle.lists.specs.Lists.{filter, mem, count}
use Rattle.lists.proofs.Truth.{lt_or_le, eq_or-not, lt_of_ne, lt_eq_gt, false_true, or_right, or-first, or-last}
use Rattle.lists.proofs.Members.{mem-append, mem_index, get_d_snoc, mem-filter, map-mem, map_same}
use Rattle.lists.proofs.Counts.{count_le}
use Rattle.lists.proofs.Rising.{up_append, up_count}
use Rattle.model.specs.Graph.{Graph, containing, held}
use Rattle.model.specs.History.{at}
use Rattle.model.specs.Push.{parent_runs, joined}
use Rattle.model.specs.Log.{Log, run_start, held_of}
use Rattle.model.proofs.Histories.{Below}
use Rattle.model.proofs.Tied.{last_of, Tied, high, step, mono}
use Rattle.model.proofs.Seen.{len_tied, held_tied, containing-is}
use Rattle.model.proofs.Adding.{added, old_parents, own-parents, later-parents}

module _ (g : Graph) (l : Log) (t : Tied g l) (ps : List ℕ) (n : ℕ) (pos : 0 < n)
    (known : (p : ℕ) → mem p ps ≡ true → p < l.next)
    (ended : (p : ℕ) → mem p (held_of l ps) ≡ true → mem (suc p) (l.edges ++ l.next ∷ []) ≡ true) where
  abbrev es₂ : List ℕ
  es₂ = l.edges ++ l.next ∷ []

  abbrev l₂ : Log
  l₂ = added l ps n es₂

  abbrev c : ℕ
  c = length l.edges

  -- The runs before start where they did, and the new one at the next event
  pub old_start : (x : ℕ) → x ≤ c → run_start l₂ x ≡ run_start l x
  unfolding run_start
  old_start x le = get_d_snoc l.edges l.next (l.next + n) x le

  pub top_start : run_start l c ≡ l.next
  unfolding run_start
  top_start = get_or-eq_default l.edges l.next (omega arith)

  -- A held parent's run ends in it
  pub ends-run : (p : ℕ) → mem p (held_of l ps) ≡ true → (containing g p < c) × (run_start l (suc (containing g p)) ≡ suc p)
  unfolding held_of
  ends-run p m =
      let k : (mem p ps ≡ true) × (leb l.first_held p ≡ true) = mem-filter (λ q. leb l.first_held q) p ps m in
      let lt : p < l.next = known p k.0 in
      let le : l.first_held ≤ p = leb-true l.first_held p k.1 in
      let r : suc (containing g p) ≡ count (λ s. leb s p) l.edges = containing-is g l t p lt le in
      let i : (x : ℕ) × (x < length es₂) × (get_or es₂ x (l.next + n) ≡ suc p) =
      mem_index (suc p) (l.next + n) es₂ (ended p m) in
      (omega (arith, count_le (λ s. leb s p) l.edges), exact i.0 (omega (arith, i.1, length-append l.edges (l.next ∷ []))) i.2 lt r)
    where
      reached : (x : ℕ) → p < l.next → leb (run_start l x) p ≡ ltb x (count (λ s. leb s p) l.edges)
      reached x lt = unfold run_start in up_count l.first_held l.edges l.next t.edged.up x p lt

      exact : (x : ℕ) → x ≤ c → get_or es₂ x (l.next + n) ≡ suc p → p < l.next → suc (containing g p) ≡ count (λ s. leb s p) l.edges →
          run_start l (suc (containing g p)) ≡ suc p
      exact x le e lt r =
          let q : run_start l x ≡ suc p = sym (old_start x le) ∙ (unfold run_start in e) in
          let a : p < run_start l (suc (containing g p)) = leb-false (run_start l (suc (containing g p))) p
          (reached (suc (containing g p)) lt ∙ le-ltb (suc (containing g p)) (count (λ s. leb s p) l.edges) (omega arith)) in
          let b : count (λ s. leb s p) l.edges ≤ x = ltb-false x (count (λ s. leb s p) l.edges) (sym (reached x lt) ∙ lt-leb (run_start l x) p (omega arith)) in
          omega (arith, mono g l t (suc (containing g p)) x (omega arith))

  lasts_own : (qs : List ℕ) → ((p : ℕ) → mem p qs ≡ true → mem p (held_of l ps) ≡ true) → map (last_of l₂) (map (containing g) qs) ≡ qs
  unfolding mem
  lasts_own [] h = refl
  lasts_own (q ∷ qs) h =
      let k : (containing g q < c) × (run_start l (suc (containing g q)) ≡ suc q) = ends-run q (h q (rw (eq-eqb q q refl))) in
      let e : last_of l₂ (containing g q) ≡ q = omega (arith, old_start (suc (containing g q)) k.0, k.1) in
      rw (e, lasts_own qs (λ p m. h p (or_right (eqb p q) m)))

  lasts_old : (qs : List ℕ) → ((p : ℕ) → mem p qs ≡ true → p < c) → map (last_of l₂) qs ≡ map (last_of l) qs
  lasts_old qs h = map_same (last_of l₂) (last_of l) qs (λ p m. ap (λ k. k - 1) (old_start (suc p) (h p m)))

  abbrev parents₂ : List (List ℕ)
  parents₂ = g.parents ++ parent_runs g ps ∷ []

  parents_old : (x : ℕ) → x < c → at parents₂ x ≡ at g.parents x
  unfolding at
  parents_old x lt = get_or-append g.parents (parent_runs g ps ∷ []) [] x (omega (arith, t.rows))

  parents-new : at parents₂ c ≡ parent_runs g ps
  unfolding at
  parents-new = subst (λ (k : ℕ). get_or parents₂ k [] ≡ parent_runs g ps) t.rows (get_or-append_seam g.parents (parent_runs g ps) [] [])

  parents-none : (x : ℕ) → c < x → at parents₂ x ≡ []
  unfolding at
  parents-none x lt = get_or-eq_default parents₂ [] (omega (arith, length-append g.parents (parent_runs g ps ∷ []), t.rows))

  own_below : (p : ℕ) → mem p (parent_runs g ps) ≡ true → p < c
  unfolding parent_runs
  own_below p m =
      let k : (q : ℕ) × (mem q (held g ps) ≡ true) × (p ≡ containing g q) = map-mem (containing g) p (held g ps) m in
      omega (arith, k.2, (ends-run k.0 (subst (λ (xs : List ℕ). mem k.0 xs ≡ true) (held_tied g l t ps known) k.1)).0)

  below₂ : Below parents₂
  below₂ x p m = go (lt_eq_gt x c)
    where
      go : (x < c) ⊎ ((x ≡ c) ⊎ (c < x)) → p < x
      go (inl a) = t.below x p (rw (parents_old x a) at m)
      go (inr (inl a)) = omega (arith, own_below p (rw (a, parents-new) at m))
      go (inr (inr a)) = false_true (unfold mem in (rw (parents-none x a) at m))

  parents_tied : (x : ℕ) → x < suc c → held_of l₂ (l₂.parents (run_start l₂ x)) ≡ map (last_of l₂) (at parents₂ x)
  unfolding held_of parent_runs
  parents_tied x lt = go (lt_eq_gt x c)
    where
      go : (x < c) ⊎ ((x ≡ c) ⊎ (c < x)) → filter (λ p. leb l.first_held p) (l₂.parents (run_start l₂ x)) ≡ map (last_of l₂) (at parents₂ x)
      go (inl a) = rw (old_start x (omega arith), old_parents l ps n es₂ (run_start l x) (omega (arith, step g l t x a, high g l t (suc x))), parents_old x a)
          (t.parents x a ∙ sym (lasts_old (at g.parents x) (λ p m. omega (arith, t.below x p m))))
      go (inr (inl a)) = rw (a, old_start c (omega arith), top_start, own-parents l ps n es₂ l.next refl, parents-new, held_tied g l t ps known) (sym (lasts_own (filter (λ p. leb l.first_held p) ps) (λ p m. m)))
      go (inr (inr a)) = absurd (omega arith)

  -- One edge more
  pub edges-size : length es₂ ≡ suc c
  edges-size = omega (arith, length-append l.edges (l.next ∷ []))

  -- The graph stays tied
  pub joined_tied : Tied (joined g ps n) l₂
  unfolding joined
  joined_tied = record {
    edged = record { up = up_append l.first_held l.edges l.next (l.next + n) t.edged.up (omega arith); first = old_start 0 (omega arith) ∙ t.edged.first };
    starts = rw (len_tied g l t, t.starts);
    rows = length-append g.parents (parent_runs g ps ∷ []) ∙ omega (arith, t.rows, edges-size);
    below = below₂;
    parents = λ x lt. parents_tied x (omega (arith, edges-size));
    inside = inner;
  }
    where
      inner : (e : ℕ) → l.first_held ≤ e → e < l.next + n → mem e es₂ ≡ false → l₂.parents e ≡ (e - 1) ∷ []
      inner e p q m =
          let k : mem e l.edges || mem e (l.next ∷ []) ≡ false = sym (mem-append e l.edges (l.next ∷ [])) ∙ m in
          go (lt_or_le e l.next) (eq_or-not e l.next) (or-first (mem e l.edges) (mem e (l.next ∷ [])) k) (or-last (mem e l.edges) (mem e (l.next ∷ [])) k)
        where
          go : (e < l.next) ⊎ (l.next ≤ e) → (e ≡ l.next) ⊎ (e ≡ l.next → ⊥) → mem e l.edges ≡ false → mem e (l.next ∷ []) ≡ false → l₂.parents e ≡ (e - 1) ∷ []
          go (inl a) b x y = old_parents l ps n es₂ e a ∙ t.inside e p a x
          go (inr a) (inl b) x y = false_true (sym y ∙ (unfold mem in rw (eq-eqb e l.next b)))
          go (inr a) (inr b) x y = later-parents l ps n es₂ e (lt_of_ne l.next e a (λ z. b (sym z))) q
