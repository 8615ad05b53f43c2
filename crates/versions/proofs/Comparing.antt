-- The passes behind the concurrency list flag a run's ancestors, the run itself and its descendants. Assumes nothing.
use Rattle.std.proofs.Common.{◌≡◌, refl, sym, ap, ◌∙◌, subst, ◌⊎◌, inl, inr, Bool, true, false, not, cond, ◌&&◌, List, ℕ, zero, suc, ◌+◌, ◌-◌, ◌<◌, ◌≤◌, arith, length, get_or, set, length-set}
use Rattle.std.proofs.Common.{get_or-set_same, get_or-set_other, leb, ltb, eqb, le-leb, leb-true, lt-ltb, eq-eqb, ne_eqb}
use Rattle.lists.specs.Lists.{any, mem}
use Rattle.lists.proofs.Truth.{lt_or_le, eq_or-not, not_so, false_true, and_left, and_right, and_both, and_false}
use Rattle.lists.proofs.Members.{any_intro, any_elim}
use Rattle.model.specs.EventGraph.{parent, further}
use Rattle.model.specs.Graph.{Graph, runs}
use Rattle.model.specs.History.{at, run_graph, histories}
use Rattle.model.specs.Beside.{concurrent_run}
use Rattle.model.proofs.Ancestry.{before_trans}
use Rattle.model.proofs.Histories.{Below, Reach, reach_below, history_iff, history-below}
use Rattle.model.proofs.Maximal.{child}
use Rattle.versions.specs.Flags.{flag_all, flag_parents, flag_down, flagged, flag_child, flag_up, Flags}
use Rattle.versions.proofs.Flagging.{flag_length, flag_get, flag_in, flag_stays, decided, only-first, only_second, free-is}

module _ (pss : List (List ℕ)) (below : Below pss) (rows : ℕ → List ℕ) (same : (k : ℕ) → k < length pss → rows k ≡ at pss k) (r : ℕ) (held : r < length pss) where
  -- r or an ancestor of it; r or a descendant
  abbrev Before : ℕ → Type 0
  Before q = (q ≡ r) ⊎ Reach pss q r

  abbrev After : ℕ → Type 0
  After q = (q ≡ r) ⊎ Reach pss r q

  before-low : (q : ℕ) → Before q → q ≤ r
  before-low q (inl e) = omega arith
  before-low q (inr h) = omega (arith, reach_below pss below h)

  after_high : (q : ℕ) → After q → r ≤ q
  after_high q (inl e) = omega arith
  after_high q (inr h) = omega (arith, reach_below pss below h)

  before_parent : (k q : ℕ) → Before k → mem q (at pss k) ≡ true → Before q
  before_parent k q (inl e) m = inr (parent (rw e at m))
  before_parent k q (inr h) m = inr (before_trans (run_graph pss) (parent m) h)

  -- On the way down, the runs from c on being done
  record Down (flags : List Bool) (c : ℕ) : Type 0 where
    size : length pss ≤ length flags
    own : get_or flags r false ≡ true
    sound : (q : ℕ) → q < length pss → (get_or flags q false ≡ false) ⊎ Before q
    done : (k q : ℕ) → c ≤ k → Before k → mem q (at pss k) ≡ true → get_or flags q false ≡ true

  is-flagged : (flags : List Bool) (c q : ℕ) → Down flags c → c ≤ suc q → Before q → get_or flags q false ≡ true
  is-flagged flags c q d le (inl e) = rw e d.own
  is-flagged flags c q d le (inr h) = go (child (run_graph pss) h)
    where
      go : (k : ℕ) × (mem q (at pss k) ≡ true) × ((k ≡ r) ⊎ Reach pss k r) → get_or flags q false ≡ true
      go t = d.done t.0 q (omega (arith, below t.0 q t.1)) t.2 t.1

  down_step : (flags : List Bool) (c : ℕ) → c ≤ r → Down flags (suc c) → Down (flag_parents rows flags c) c
  unfolding flag_parents
  down_step flags c le d = go (get_or flags c false) refl
    where
      skipped : get_or flags c false ≡ false → Down flags c
      skipped e = record {
        size = d.size;
        own = d.own;
        sound = d.sound;
        done = λ k q l b m. later k q l b m (eq_or-not k c);
      }
        where
          later : (k q : ℕ) → c ≤ k → Before k → mem q (at pss k) ≡ true → (k ≡ c) ⊎ (k ≡ c → ⊥) → get_or flags q false ≡ true
          later k q l b m (inl e₂) = false_true (sym e ∙ sym (ap (λ (x : ℕ). get_or flags x false) e₂) ∙ is-flagged flags (suc c) k d (omega arith) b)
          later k q l b m (inr n) = d.done k q (omega arith) b m

      passed : Before c → Down (flag_all flags (at pss c)) c
      passed b = record {
        size = omega (arith, d.size, flag_length flags (at pss c));
        own = flag_stays flags (at pss c) r (omega (arith, d.size)) d.own;
        sound = λ q h. sounds q h (decided (mem q (at pss c)));
        done = λ k q l p m. later k q l p m (eq_or-not k c);
      }
        where
          sounds : (q : ℕ) → q < length pss → (mem q (at pss c) ≡ true) ⊎ (mem q (at pss c) ≡ false) → (get_or (flag_all flags (at pss c)) q false ≡ false) ⊎ Before q
          sounds q h (inl m) = inr (before_parent c q b m)
          sounds q h (inr m) = subst (λ (x : Bool). (x ≡ false) ⊎ Before q) (sym (flag_get flags (at pss c) q (omega (arith, d.size)) ∙ rw m)) (d.sound q h)

          later : (k q : ℕ) → c ≤ k → Before k → mem q (at pss k) ≡ true → (k ≡ c) ⊎ (k ≡ c → ⊥) → get_or (flag_all flags (at pss c)) q false ≡ true
          later k q l p m (inl e) = flag_in flags (at pss c) q (omega (arith, d.size, below k q m, before-low k p)) (rw e at m)
          later k q l p m (inr n) = flag_stays flags (at pss c) q (omega (arith, d.size, below k q m, before-low k p)) (d.done k q (omega arith) p m)

      go : (t : Bool) → get_or flags c false ≡ t → Down (cond t (flag_all flags (rows c)) flags) c
      go false e = skipped e
      go true e = subst (λ (ps : List ℕ). Down (flag_all flags ps) c) (sym (same c (omega arith))) (passed (was (d.sound c (omega arith))))
        where
          was : (get_or flags c false ≡ false) ⊎ Before c → Before c
          was (inl z) = false_true (sym z ∙ e)
          was (inr b) = b

  down_all : (c : ℕ) (flags : List Bool) → c ≤ suc r → Down flags c → Down (flag_down rows flags c) 0
  unfolding flag_down
  down_all zero flags le d = d
  down_all (suc c) flags le d = down_all c (flag_parents rows flags c) (omega arith) (down_step flags c (omega arith) d)

  down_start : (flags : List Bool) → length pss ≤ length flags → ((q : ℕ) → get_or flags q false ≡ false) → Down (set flags r true) (suc r)
  down_start flags size none = record {
    size = omega (arith, length-set flags r true);
    own = get_or-set_same flags r true false (omega arith);
    sound = λ q h. sounds q (eq_or-not q r);
    done = λ k q l b m. absurd (omega (arith, before-low k b));
  }
    where
      sounds : (q : ℕ) → (q ≡ r) ⊎ (q ≡ r → ⊥) → (get_or (set flags r true) q false ≡ false) ⊎ Before q
      sounds q (inl e) = inr (inl e)
      sounds q (inr n) = inl (get_or-set_other flags r q true false n ∙ none q)

  -- On the way up, the runs before q being done; those up to r stay as they were
  record Upward (was flags : List Bool) (q : ℕ) : Type 0 where
    size : length pss ≤ length flags
    stays : (p : ℕ) → p ≤ r → get_or flags p false ≡ get_or was p false
    own : get_or flags r false ≡ true
    sound : (p : ℕ) → r ≤ p → p < q → (get_or flags p false ≡ false) ⊎ After p
    done : (p : ℕ) → p < q → After p → get_or flags p false ≡ true

  -- a run has a parent that is flagged, from r on, just where it is a descendant
  child_is : (was flags : List Bool) (q : ℕ) → r < q → q < length pss → Upward was flags q →
      (any (flagged flags r) (at pss q) ≡ true → Reach pss r q) × (Reach pss r q → any (flagged flags r) (at pss q) ≡ true)
  unfolding flagged
  child_is was flags q gt lt u = ((λ h. out (any_elim (flagged flags r) (at pss q) h)), (λ s. into s refl))
    where
      out : (p : ℕ) × (mem p (at pss q) ≡ true) × (flagged flags r p ≡ true) → Reach pss r q
      out t = on (u.sound t.0 (leb-true r t.0 (and_left (leb r t.0) (get_or flags t.0 false) t.2)) (below q t.0 t.1))
        where
          on : (get_or flags t.0 false ≡ false) ⊎ After t.0 → Reach pss r q
          on (inl z) = false_true (sym z ∙ and_right (leb r t.0) (get_or flags t.0 false) t.2)
          on (inr (inl e)) = parent (subst (λ (x : ℕ). mem x (at pss q) ≡ true) e t.1)
          on (inr (inr s)) = further t.1 s

      is : (p : ℕ) → mem p (at pss q) ≡ true → After p → any (flagged flags r) (at pss q) ≡ true
      is p m a = any_intro (flagged flags r) (at pss q) p m
          (and_both (leb r p) (get_or flags p false) (le-leb r p (after_high p a)) (u.done p (below q p m) a))

      into : {k : ℕ} → Reach pss r k → k ≡ q → any (flagged flags r) (at pss q) ≡ true
      into {k} (parent m) e = is r (rw e at m) (inl refl)
      into {k} (further {q = p} m s) e = is p (rw e at m) (inr s)

  up_step : (was flags : List Bool) (q : ℕ) → r < q → q < length pss → Upward was flags q → Upward was (flag_child rows r flags q) (suc q)
  unfolding flag_child
  up_step was flags q gt lt u = subst (λ (ps : List ℕ). Upward was (set flags q (any (flagged flags r) ps)) (suc q)) (sym (same q lt))
      (go (any (flagged flags r) (at pss q)) (child_is was flags q gt lt u).0 (child_is was flags q gt lt u).1)
    where
      go : (t : Bool) → (t ≡ true → Reach pss r q) → (Reach pss r q → t ≡ true) → Upward was (set flags q t) (suc q)
      go t forth back = record {
        size = omega (arith, length-set flags q t, u.size);
        stays = λ p le. other p (λ e. omega arith) ∙ u.stays p le;
        own = other r (λ e. omega arith) ∙ u.own;
        sound = λ p le h. sounds p le h (eq_or-not p q);
        done = λ p h a. later p h a (eq_or-not p q);
      }
        where
          other : (p : ℕ) → (p ≡ q → ⊥) → get_or (set flags q t) p false ≡ get_or flags p false
          other p n = get_or-set_other flags q p t false n

          here : (p : ℕ) → p ≡ q → get_or (set flags q t) p false ≡ t
          here p e = ap (λ (x : ℕ). get_or (set flags q t) x false) e ∙ get_or-set_same flags q t false (omega (arith, u.size))

          sounds : (p : ℕ) → r ≤ p → p < suc q → (p ≡ q) ⊎ (p ≡ q → ⊥) → (get_or (set flags q t) p false ≡ false) ⊎ After p
          sounds p le h (inl e) = on (decided t)
            where
              on : (t ≡ true) ⊎ (t ≡ false) → (get_or (set flags q t) p false ≡ false) ⊎ After p
              on (inl y) = inr (inr (subst (λ (x : ℕ). Reach pss r x) (sym e) (forth y)))
              on (inr n) = inl (here p e ∙ n)
          sounds p le h (inr n) = subst (λ (x : Bool). (x ≡ false) ⊎ After p) (sym (other p n)) (u.sound p le (omega arith))

          later : (p : ℕ) → p < suc q → After p → (p ≡ q) ⊎ (p ≡ q → ⊥) → get_or (set flags q t) p false ≡ true
          later p h (inl a) (inl e) = absurd (omega arith)
          later p h (inr s) (inl e) = here p e ∙ back (subst (λ (x : ℕ). Reach pss r x) e s)
          later p h a (inr n) = other p n ∙ u.done p (omega arith) a

  up_all : (k q : ℕ) (was flags : List Bool) → r < q → q + k ≤ length pss → Upward was flags q → Upward was (flag_up rows r flags q k) (q + k)
  unfolding flag_up
  up_all zero q was flags gt le u = subst (λ (n : ℕ). Upward was flags n) (omega arith) u
  up_all (suc k) q was flags gt le u =
      subst (λ (n : ℕ). Upward was (flag_up rows r (flag_child rows r flags q) (suc q) k) n) (omega arith)
      (up_all k (suc q) was (flag_child rows r flags q) (omega arith) (omega arith) (up_step was flags q gt (omega arith) u))

  up_start : (flags : List Bool) → Down flags 0 → Upward flags flags (suc r)
  up_start flags d = record {
    size = d.size;
    stays = λ p le. refl;
    own = d.own;
    sound = λ p le h. inr (inl (omega arith));
    done = λ p h a. rw (at_r p h a) d.own;
  }
    where
      at_r : (p : ℕ) → p < suc r → After p → p ≡ r
      at_r p h a = omega (arith, after_high p a)

  -- After both passes the runs without a flag are the concurrent ones
  ends : (down up : List Bool) → Down down 0 → Upward down up (length pss) → (q : ℕ) → q < length pss →
      not (get_or up q false) ≡ ltb q (length pss) && not (mem q (at (histories pss) r)) && not (mem r (at (histories pss) q)) && not (eqb q r)
  ends down up d u q h = by (lt_or_le q r) (eq_or-not q r)
    where
      Told : Type 0
      Told = not (get_or up q false) ≡ ltb q (length pss) && not (mem q (at (histories pss) r)) && not (mem r (at (histories pss) q)) && not (eqb q r)

      lower : q < r → (q ≡ r → ⊥) → not (get_or up q false) ≡ not (mem q (at (histories pss) r))
      lower l n =
          ap not (u.stays q (omega arith)) ∙
          free-is (get_or down q false) (mem q (at (histories pss) r))
          (λ m. is-flagged down 0 q d (omega arith) (inr ((history_iff pss below q r held).0 m))) (on (d.sound q h))
        where
          on : (get_or down q false ≡ false) ⊎ Before q → (get_or down q false ≡ false) ⊎ (mem q (at (histories pss) r) ≡ true)
          on (inl z) = inl z
          on (inr (inl e)) = absurd (n e)
          on (inr (inr s)) = inr ((history_iff pss below q r held).1 s)

      upper : r ≤ q → (q ≡ r → ⊥) → not (get_or up q false) ≡ not (mem r (at (histories pss) q))
      upper l n =
          free-is (get_or up q false) (mem r (at (histories pss) q)) (λ m. u.done q h (inr ((history_iff pss below r q h).0 m))) (on (u.sound q l h))
        where
          on : (get_or up q false ≡ false) ⊎ After q → (get_or up q false ≡ false) ⊎ (mem r (at (histories pss) q) ≡ true)
          on (inl z) = inl z
          on (inr (inl e)) = absurd (n e)
          on (inr (inr s)) = inr ((history_iff pss below r q h).1 s)

      by : (q < r) ⊎ (r ≤ q) → (q ≡ r) ⊎ (q ≡ r → ⊥) → Told
      by o (inl e) = rw (eq-eqb q r e, ap (λ (k : ℕ). get_or up k false) e ∙ u.own) (sym (and_false (ltb q (length pss) && not (mem q (at (histories pss) r)) && not (mem r (at (histories pss) q)))))
      by (inl l) (inr n) =
          rw (lt-ltb q (length pss) h, ne_eqb q r n, not_so (mem r (at (histories pss) q)) (λ m. omega (arith, history-below pss below r q h m)))
          (lower l n ∙ only-first (mem q (at (histories pss) r)))
      by (inr l) (inr n) =
          rw (lt-ltb q (length pss) h, ne_eqb q r n, not_so (mem q (at (histories pss) r)) (λ m. omega (arith, history-below pss below q r held m)))
          (upper l n ∙ only_second (mem r (at (histories pss) q)))

  pub both_passes : (flags : List Bool) → length pss ≤ length flags → ((q : ℕ) → get_or flags q false ≡ false) → (q : ℕ) → q < length pss →
      not (get_or (flag_up rows r (flag_down rows (set flags r true) (suc r)) (suc r) (length pss - suc r)) q false) ≡
      ltb q (length pss) && not (mem q (at (histories pss) r)) && not (mem r (at (histories pss) q)) && not (eqb q r)
  both_passes flags size none =
      let d = down_all (suc r) (set flags r true) (omega arith) (down_start flags size none) in
      let down : List Bool = flag_down rows (set flags r true) (suc r) in
      let u = up_all (length pss - suc r) (suc r) down down (omega arith) (omega arith) (up_start down d) in
      ends down (flag_up rows r down (suc r) (length pss - suc r)) d
      (subst (λ (n : ℕ). Upward down (flag_up rows r down (suc r) (length pss - suc r)) n) (omega arith) u)

-- The runs left without a flag are those that are concurrent with r
pub flags_are : (g : Graph) → Below g.parents → (rows : ℕ → List ℕ) → ((k : ℕ) → k < runs g → rows k ≡ at g.parents k) →
    (r : ℕ) → r < runs g → (flags : List Bool) → runs g ≤ length flags → ((q : ℕ) → get_or flags q false ≡ false) →
    Flags g r (flag_up rows r (flag_down rows (set flags r true) (suc r)) (suc r) (runs g - suc r))
unfolding runs concurrent_run
flags_are g b rows same r held flags size none = record { each = both_passes g.parents b rows same r held flags size none }
