-- Archive points: by events, by critical versions and by runs they are the same. Assumes nothing.
use Rattle.std.proofs.Common.{◌≡◌, refl, sym, ap₂, ◌∙◌, subst, ◌⊎◌, inl, inr, ◌↔◌, true, List, [], map, ℕ, suc, ◌≤◌, ◌<◌, arith, length}
use Rattle.lists.specs.Lists.{all, filter, from, upto, mem, rising}
use Rattle.lists.proofs.Truth.{lt_or_le}
use Rattle.lists.proofs.Members.{mem-filter, filter-mem, mem-map, map-mem, all_of, all-at}
use Rattle.lists.proofs.Counts.{mem-from, from-mem, upto-mem}
use Rattle.lists.proofs.Rising.{rising-filter, rising-map, rising-from}
use Rattle.model.specs.EventGraph.{EventGraph, ancestor, CriticalAt, Lower}
use Rattle.model.specs.Graph.{Graph, runs, start, first_held, len, containing, marked, side, is_held}
use Rattle.model.specs.Record.{view}
use Rattle.model.specs.Broken.{WellFormed}
use Rattle.model.specs.HeldEvents.{last_event, event_parents, held_events}
use Rattle.model.specs.Archive.{seen_by_later, archive_points, SeenByAll, Archive}
use Rattle.model.specs.Log.{Log, made_by, run_count, run_start, event_graph}
use Rattle.model.proofs.Ancestry.{ancestor_iff}
use Rattle.model.proofs.Histories.{Reach}
use Rattle.model.proofs.Runs.{in_is, run_of}
use Rattle.model.proofs.Tied.{Tied, step, mono, start-held, in_run_lem, ancestors_are}
use Rattle.model.proofs.Concurrency.{before-runs}
use Rattle.model.proofs.Siding.{between-held, held-between}
use Rattle.model.proofs.Seen.{start_is, lower_tied}
use Rattle.model.proofs.FormedReads.{start-less, first-start}
use Rattle.model.proofs.Critical.{critical_iff, log_inside, run_past, run-held, run-before, marks_critical}
use Rattle.model.proofs.OwnLog.{own_log, own_tied, own-events, own-lower, held-lower}
use Rattle.model.proofs.Telling.{events_are}
use Rattle.model.proofs.Good.{Good, made_good}

-- Every run from r on has every run before r among its ancestors
abbrev pub Parted : Graph → ℕ → Type 0
Parted g r = (q p : ℕ) → r ≤ q → q < runs g → p < r → Reach g.parents p q

-- On a log: events are ancestors of one another where their runs are
module _ (g : Graph) (l : Log) (t : Tied g l) (lower : Lower (event_graph l)) (r : ℕ) where
  parted_seen : Parted g r → SeenByAll (event_graph l) (run_start l r)
  unfolding runs
  parted_seen k a b h q j le =
      let few : run_of l b < length l.edges = run-held g l t lower b j in
      let i : (run_start l (run_of l a) ≤ a) × (a < run_start l (suc (run_of l a))) = in_run_lem g l t a h in
      run-before g l t lower a b j ((ancestors_are g l t (run_of l b) a few h).1
      (k (run_of l b) (run_of l a) (run_past g l t lower r b j le) (omega (arith, t.rows)) (earlier i.0 (lt_or_le (run_of l a) r))))
    where
      earlier : run_start l (run_of l a) ≤ a → (run_of l a < r) ⊎ (r ≤ run_of l a) → run_of l a < r
      earlier u (inl c) = c
      earlier u (inr c) = absurd (omega (arith, mono g l t r (run_of l a) c))

  seen_parted : SeenByAll (event_graph l) (run_start l r) → Parted g r
  unfolding runs
  seen_parted s q p le lt few =
      let many : q < length l.edges = omega (arith, t.rows) in
      let some : p < length l.edges = omega arith in
      before-runs g l t lower p q (run_start l p) (run_start l q) many (λ e. omega arith)
      (in_is l p (suc p) (run_start l p) (omega arith) (step g l t p some)) (in_is l q (suc q) (run_start l q) (omega arith) (step g l t q many))
      (s (run_start l p) (run_start l q) (start-held g l t p some) (omega (arith, step g l t p some, mono g l t (suc p) r few)) (start-held g l t q many) (mono g l t r q le))

module _ (g : Graph) (formed : WellFormed g) where
  -- By computing: the events before s and those from s on
  seen_iff : (s : ℕ) → first_held g ≤ s → (seen_by_later g s ≡ true) ↔ SeenByAll (held_events g) s
  unfolding seen_by_later
  seen_iff s le = (there, back)
    where
      G : EventGraph
      G = held_events g

      there : seen_by_later g s ≡ true → SeenByAll G s
      there h a b x lt y ge =
          let i : (first_held g ≤ a) × (a < len g) = held-between g a x in
          let j : (first_held g ≤ b) × (b < len g) = held-between g b y in
          (ancestor_iff G (held-lower g formed) b a).1
          (all-at (λ p. ancestor G b p) _ (all-at (λ e. all (λ p. ancestor G e p) _) _ h b (from-mem b s _ ge (omega (arith, j.1)))) a (from-mem a (first_held g) _ i.0 (omega arith)))

      back : SeenByAll G s → seen_by_later g s ≡ true
      back k = all_of (λ e. all (λ p. ancestor G e p) _) _ (λ b m. all_of (λ p. ancestor G b p) _ (λ a n.
          let i = mem-from a (first_held g) _ n in
          let j = mem-from b s _ m in
          (ancestor_iff G (held-lower g formed) b a).0
          (k a b (between-held g a i.0 (omega (arith, i.1, j.0, j.1))) (omega (arith, i.0, i.1)) (between-held g b (omega (arith, j.0)) (omega (arith, j.0, j.1))) j.0)))

  -- By runs
  pub point_parted : (r : ℕ) → r < runs g → (seen_by_later g (start g r) ≡ true) ↔ Parted g r
  unfolding runs
  point_parted r lt =
      let t : Tied g (own_log g) = own_tied g formed in
      let is : start g r ≡ run_start (own_log g) r = start_is g (own_log g) t r (omega (arith, t.rows)) in
      let both : (seen_by_later g (start g r) ≡ true) ↔ SeenByAll (event_graph (own_log g)) (run_start (own_log g) r) =
      subst (λ (s : ℕ). (seen_by_later g (start g r) ≡ true) ↔ SeenByAll (event_graph (own_log g)) s) is
      (subst (λ (G : EventGraph). (seen_by_later g (start g r) ≡ true) ↔ SeenByAll G (start g r)) (own-events g formed)
      (seen_iff (start g r) (first-start g formed r (omega arith)))) in
      ((λ h. seen_parted g (own_log g) t (own-lower g formed) r (both.0 h)), (λ k. both.1 (parted_seen g (own_log g) t (own-lower g formed) r k)))

  -- The list of them
  points_iff : (s : ℕ) → (mem s (archive_points g) ≡ true) ↔ ((r : ℕ) × (r < runs g) × (start g r ≡ s) × SeenByAll (held_events g) s)
  unfolding archive_points upto
  points_iff s = (there, back)
    where
      starts : List ℕ
      starts = map (start g) (from 0 (runs g))

      there : mem s (filter (seen_by_later g) starts) ≡ true → (r : ℕ) × (r < runs g) × (start g r ≡ s) × SeenByAll (held_events g) s
      there m =
          let f : (mem s starts ≡ true) × (seen_by_later g s ≡ true) = mem-filter (seen_by_later g) s starts m in
          let k : (r : ℕ) × (mem r (from 0 (runs g)) ≡ true) × (s ≡ start g r) = map-mem (start g) s (from 0 (runs g)) f.0 in
          let lt : k.0 < runs g = omega (arith, (mem-from k.0 0 (runs g) k.1).1) in
          (k.0, lt, sym k.2, (seen_iff s (omega (arith, k.2, first-start g formed k.0 (omega arith)))).0 f.1)

      back : (r : ℕ) × (r < runs g) × (start g r ≡ s) × SeenByAll (held_events g) s → mem s (filter (seen_by_later g) starts) ≡ true
      back k =
          let m : mem (start g k.0) starts ≡ true = mem-map (start g) k.0 (from 0 (runs g)) (upto-mem k.0 (runs g) k.1) in
          filter-mem (seen_by_later g) s starts (rw k.2 at m) ((seen_iff s (omega (arith, k.2, first-start g formed k.0 (omega (arith, k.1))))).1 k.3)

  critical-own : (s : ℕ) → SeenByAll (held_events g) s ↔ CriticalAt (held_events g) s
  critical-own s =
      subst (λ (G : EventGraph). SeenByAll G s ↔ CriticalAt G s) (sym (own-events g formed))
      (critical_iff (event_graph (own_log g)) (own-lower g formed) (log_inside (own_log g) (own-lower g formed)) s)

  points-rise : rising (archive_points g) ≡ true
  unfolding archive_points upto
  points-rise =
      rising-filter (seen_by_later g) (map (start g) (from 0 (runs g)))
      (rising-map (start g) (from 0 (runs g)) (λ x y m n lt. start-less g formed x y lt (omega (arith, (mem-from y 0 (runs g) n).1))) (rising-from 0 (runs g)))

  -- The first run's start is one: no event is before it
  first_point : 0 < runs g → mem (first_held g) (archive_points g) ≡ true
  unfolding first_held
  first_point lt = (points_iff (start g 0)).1 (0, lt, refl, λ a b h few k le. absurd (omega (arith, (held-between g a h).0)))

-- Of a graph's fields the points read starts and parents
by_parents_lem : List ℕ → List (List ℕ) → List ℕ
by_parents_lem starts parents = archive_points (record { starts = starts; parents = parents; frontier = []; seen = []; changed = 0 })

points_by : (g : Graph) → archive_points g ≡ by_parents_lem g.starts g.parents
unfolding by_parents_lem archive_points seen_by_later runs start first_held len containing side is_held last_event event_parents
points_by g = refl

parents_only : (g h : Graph) → g.starts ≡ h.starts → g.parents ≡ h.parents → archive_points g ≡ archive_points h
parents_only g h e f = points_by g ∙ ap₂ by_parents_lem e f ∙ sym (points_by h)

-- In a graph that calls made, whose event graph and runs are the log's
module _ (g : Graph) (l : Log) (G : Good g l) where
  count-is : runs g ≡ run_count l
  unfolding runs run_count
  count-is = G.inv.tied.rows

  begins : (r : ℕ) → r < runs g → start g r ≡ run_start l r
  unfolding run_count
  begins r lt = start_is g l G.inv.tied r (omega (arith, count-is))

  events : held_events g ≡ event_graph l
  events = events_are g l G.inv.tied G.inv.lower

  points-made : (s : ℕ) → (mem s (archive_points g) ≡ true) ↔ ((r : ℕ) × (r < run_count l) × (run_start l r ≡ s) × CriticalAt (event_graph l) s)
  points-made s = (there, back)
    where
      crit : SeenByAll (held_events g) s ↔ CriticalAt (event_graph l) s
      crit = subst (λ (E : EventGraph). SeenByAll (held_events g) s ↔ CriticalAt E s) events (critical-own g G.formed s)

      there : mem s (archive_points g) ≡ true → (r : ℕ) × (r < run_count l) × (run_start l r ≡ s) × CriticalAt (event_graph l) s
      there m =
          let k : (r : ℕ) × (r < runs g) × (start g r ≡ s) × SeenByAll (held_events g) s = (points_iff g G.formed s).0 m in
          (k.0, omega (arith, k.1, count-is), sym (begins k.0 k.1) ∙ k.2, crit.0 k.3)

      back : (r : ℕ) × (r < run_count l) × (run_start l r ≡ s) × CriticalAt (event_graph l) s → mem s (archive_points g) ≡ true
      back k =
          let lt : k.0 < runs g = omega (arith, k.1, count-is) in
          (points_iff g G.formed s).1 (k.0, lt, begins k.0 lt ∙ k.2, crit.1 k.3)

  marked_point : (r : ℕ) → r < runs g → marked g r ≡ true → mem (start g r) (archive_points g) ≡ true
  unfolding run_count
  marked_point r lt m =
      (points-made (start g r)).1 (
        r,
        omega (arith, count-is),
        sym (begins r lt),
        subst (λ (s : ℕ). CriticalAt (event_graph l) s) (sym (begins r lt))
            (marks_critical g l G.inv.tied G.inv.seen (lower_tied l G.inv.lower) r (omega (arith, count-is)) m),
      )

-- What is claimed of archive points
pub archive : Archive
archive = record {
  points = points_iff;
  critical = critical-own;
  rises = points-rise;
  first = first_point;
  parents_only = parents_only;
  made = λ f cs. points-made (view (made_by f cs).0) (made_by f cs).1 (made_good f cs).fact;
  marked_made = λ f cs. marked_point (view (made_by f cs).0) (made_by f cs).1 (made_good f cs).fact;
}
