-- A set of held events that has, of each run, the first events up to an end: whether it is closed, and which of its events are maximal, run by
-- run. Assumes nothing.
use Rattle.std.proofs.Common.{◌≡◌, sym, ap, ◌∙◌, ◌⊎◌, inl, inr, ◌↔◌, true, List, [], ◌∷◌, ℕ, suc, ◌-◌, ◌≤◌, ◌<◌, arith}
use Rattle.lists.specs.Lists.{mem}
use Rattle.lists.proofs.Truth.{eq_or-not, lt_or_le, lt_of_ne}
use Rattle.lists.proofs.Members.{mem-first, mem_one, mem-map, map-mem, all-at}
use Rattle.model.specs.EventGraph.{EventGraph, maximal}
use Rattle.model.specs.Graph.{Graph, runs, start, containing, side, is_held, all_held}
use Rattle.model.specs.Broken.{WellFormed}
use Rattle.model.specs.History.{at}
use Rattle.model.specs.HeldEvents.{last_event, event_parents, held_events}
use Rattle.model.proofs.FormedReads.{start-less, start-len, first-start, containing_in, containing-only}
use Rattle.model.proofs.Siding.{held-between}
use Rattle.model.proofs.Histories.{Below, fit_below}
use Rattle.model.proofs.Maximal.{Closed, maximal_in, maximal-none, maximal_has}
use Rattle.model.proofs.OwnLog.{first-parents, later-parents}

module _ (g : Graph) (formed : WellFormed g) where
  -- A run's parents are below it, and it starts before the next
  pub below : Below g.parents
  below = fit_below g.parents formed.parents

  pub run_step : (r : ℕ) → r < runs g → start g r < start g (suc r)
  run_step r lt = start-less g formed r (suc r) (omega arith) lt

  -- The parents of a run's first event are the last events of its parent runs,
  pub start_has : (r j : ℕ) → r < runs g → mem j (at g.parents r) ≡ true → mem (last_event g j) (event_parents g (start g r)) ≡ true
  start_has r j lt m = rw (first-parents g formed r lt) (mem-map (last_event g) j (at g.parents r) m)

  start-from : (r p : ℕ) → r < runs g → mem p (event_parents g (start g r)) ≡ true → (j : ℕ) × (mem j (at g.parents r) ≡ true) × (p ≡ last_event g j)
  start-from r p lt m = map-mem (last_event g) p (at g.parents r) (rw (first-parents g formed r lt) at m)

  -- and of any other event the one before it
  module _ (r e : ℕ) (lt : r < runs g) (low : start g r < e) (high : e < start g (suc r)) where
    later : event_parents g e ≡ (e - 1) ∷ []
    later =
        let c : containing g e ≡ r = containing-only g formed e r lt (omega arith) high in
        later-parents g formed e (omega (arith, first-start g formed r (omega arith))) (omega (arith, start-len g formed (suc r) lt))
        (λ z. omega (arith, ap (start g) c))

    pub later_has : mem (e - 1) (event_parents g e) ≡ true
    later_has = rw later (mem-first (e - 1) [])

    later-from : (p : ℕ) → mem p (event_parents g e) ≡ true → p ≡ e - 1
    later-from p m = mem_one p (e - 1) (rw later at m)

  last_in_lem : (r j : ℕ) → r < runs g → mem j (at g.parents r) ≡ true → (j < runs g) × (start g j ≤ last_event g j) × (last_event g j < start g (suc j))
  unfolding last_event
  last_in_lem r j lt m = let b : j < r = below r j m in (omega arith, omega (arith, run_step j (omega arith)), omega (arith, run_step j (omega arith)))

  module _ (es : List ℕ) (held : all_held g es ≡ true) (E : ℕ → ℕ) (most : (r : ℕ) → r < runs g → E r ≤ start g (suc r))
      (parts : (r e : ℕ) → r < runs g → start g r ≤ e → e < start g (suc r) → (mem e es ≡ true) ↔ (e < E r)) where
    abbrev G : EventGraph
    G = held_events g

    -- run r has events of the set
    abbrev pub Met : ℕ → Type 0
    Met r = start g r < E r

    -- each parent run of a run that has such events has no others
    abbrev pub Whole : Type 0
    Whole = (r j : ℕ) → r < runs g → Met r → mem j (at g.parents r) ≡ true → E j ≡ start g (suc j)

    place : (e : ℕ) → mem e es ≡ true → (containing g e < runs g) × (start g (containing g e) ≤ e) × (e < start g (suc (containing g e)))
    unfolding all_held
    place e m = let i = held-between g e (all-at (λ x. is_held (side g x)) es held e m) in containing_in g formed e i.0 i.1

    met_start : (r : ℕ) → r < runs g → Met r → mem (start g r) es ≡ true
    met_start r lt h = (parts r (start g r) lt (omega arith) (run_step r lt)).1 h

    -- A closed set has all of each such parent run, and a set that has them is closed
    pub closed-whole : Closed G es → Whole
    unfolding last_event
    closed-whole k r j lt h m =
        let i = last_in_lem r j lt m in
        let u : last_event g j < E j = (parts j (last_event g j) i.0 i.1 i.2).0 (k (start g r) (last_event g j) (met_start r lt h) (start_has r j lt m)) in
        omega (arith, most j i.0, i.2)

    pub whole-closed : Whole → Closed G es
    whole-closed w e p m n = cases (eq_or-not e (start g r))
      where
        r : ℕ
        r = containing g e

        i : (containing g e < runs g) × (start g (containing g e) ≤ e) × (e < start g (suc (containing g e)))
        i = place e m

        reach : e < E r
        reach = (parts r e i.0 i.1 i.2).0 m

        cases : (e ≡ start g r) ⊎ (e ≡ start g r → ⊥) → mem p es ≡ true
        cases (inl z) =
            let t : (j : ℕ) × (mem j (at g.parents r) ≡ true) × (p ≡ last_event g j) = start-from r p i.0 (rw z at n) in
            let l = last_in_lem r t.0 i.0 t.1 in
            rw t.2 ((parts t.0 (last_event g t.0) l.0 l.1 l.2).1 (omega (arith, l.2, w r t.0 i.0 (omega (arith, reach)) t.1)))
        cases (inr z) =
            let lt : start g r < e = lt_of_ne (start g r) e i.1 (λ q. z (sym q)) in
            rw (later-from r e i.0 lt i.2 p n) ((parts r (e - 1) i.0 (omega arith) (omega (arith, i.2))).1 (omega (arith, reach)))

    -- run r is parent of no run that has events of the set
    abbrev pub Childless : ℕ → Type 0
    Childless r = (q : ℕ) → q < runs g → Met q → ¬ (mem r (at g.parents q) ≡ true)

    module _ (whole : Whole) where
      -- A maximal event is the last of its run that the set has, and no such run is a child of that run
      pub maximal_top : (e : ℕ) → mem e (maximal G es) ≡ true → (r : ℕ) × (r < runs g) × Met r × (e ≡ E r - 1) × Childless r
      unfolding last_event
      maximal_top e top = (
        r,
        i.0,
        omega (arith, i.1, reach),
        last (lt_or_le (suc e) (E r)),
        λ q lt h c.
            maximal-none G es e (start g q) top (met_start q lt h) (ends q lt h c),
      )
        where
          m : mem e es ≡ true
          m = maximal_in G es e top

          r : ℕ
          r = containing g e

          i : (containing g e < runs g) × (start g (containing g e) ≤ e) × (e < start g (suc (containing g e)))
          i = place e m

          reach : e < E r
          reach = (parts r e i.0 i.1 i.2).0 m

          last : (suc e < E r) ⊎ (E r ≤ suc e) → e ≡ E r - 1
          last (inr q) = omega (arith, reach)
          last (inl q) =
              let high : suc e < start g (suc r) = omega (arith, most r i.0) in
              let n : mem (suc e) es ≡ true = (parts r (suc e) i.0 (omega (arith, i.1)) high).1 q in
              let c : mem (suc e - 1) (event_parents g (suc e)) ≡ true = later_has r (suc e) i.0 (omega (arith, i.1)) high in
              let z : suc e - 1 ≡ e = omega arith in
              absurd (maximal-none G es e (suc e) top n (rw z at c))

          ends : (q : ℕ) → q < runs g → Met q → mem r (at g.parents q) ≡ true → mem e (event_parents g (start g q)) ≡ true
          ends q lt h c =
              let z : e ≡ last_event g r = omega (arith, last (lt_or_le (suc e) (E r)), whole q r lt h c) in
              rw z (start_has q r lt c)

      -- and each such event is maximal
      pub top_maximal : (r : ℕ) → r < runs g → Met r → Childless r → mem (E r - 1) (maximal G es) ≡ true
      unfolding last_event
      top_maximal r lt met none = maximal_has G es e m child
        where
          e : ℕ
          e = E r - 1

          low : start g r ≤ e
          low = omega arith

          high : e < start g (suc r)
          high = omega (arith, most r lt)

          m : mem e es ≡ true
          m = (parts r e lt low high).1 (omega arith)

          same : (q : ℕ) → q < runs g → start g q ≤ e → e < start g (suc q) → q ≡ r
          same q k a b = sym (containing-only g formed e q k a b) ∙ containing-only g formed e r lt low high

          child : (c : ℕ) → mem c es ≡ true → ¬ (mem e (event_parents g c) ≡ true)
          child c n p = cases (eq_or-not c (start g q))
            where
              q : ℕ
              q = containing g c

              i : (containing g c < runs g) × (start g (containing g c) ≤ c) × (c < start g (suc (containing g c)))
              i = place c n

              reach : c < E q
              reach = (parts q c i.0 i.1 i.2).0 n

              cases : (c ≡ start g q) ⊎ (c ≡ start g q → ⊥) → ⊥
              cases (inl z) =
                  let t : (j : ℕ) × (mem j (at g.parents q) ≡ true) × (e ≡ last_event g j) = start-from q e i.0 (rw z at p) in
                  let l = last_in_lem q t.0 i.0 t.1 in
                  let one : t.0 ≡ r = same t.0 l.0 (omega (arith, l.1, t.2)) (omega (arith, l.2, t.2)) in
                  none q i.0 (omega (arith, reach)) (rw one at t.1)
              cases (inr z) =
                  let lt : start g q < c = lt_of_ne (start g q) c i.1 (λ w. z (sym w)) in
                  let b : e ≡ c - 1 = later-from q c i.0 lt i.2 e p in
                  let one : q ≡ r = same q i.0 (omega arith) (omega (arith, i.2)) in
                  omega (arith, reach, ap E one)
