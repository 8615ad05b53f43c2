-- The wanted parents by runs are those of the definition, and so is refusal 17. Assumes nothing.
use Rattle.std.proofs.Common.{◌≡◌, refl, sym, ap, ◌∙◌, ◌⊎◌, inl, inr, ◌↔◌, Bool, true, false, not, ◌||◌, List, map, ℕ, zero, suc, ◌-◌, ◌≤◌, ◌<◌, arith, length, get_or, eq-eqb, eqb-true, Some}
use Rattle.std.proofs.Common.{None, is_some}
use Rattle.std.proofs.lemmas.List.{length-replicate}
use Rattle.lists.specs.Lists.{all, filter, from, upto, mem, rising}
use Rattle.lists.proofs.Truth.{eq_or-not, false_true, bool_iff, not_so, and_left, and_right, and_both, or_cases, or_left, or_right}
use Rattle.lists.proofs.Members.{mem-map, map-mem, all_of, all-at}
use Rattle.lists.proofs.Counts.{mem-from, upto-mem}
use Rattle.lists.proofs.Rising.{rising-filter, rising-map, rising-only}
use Rattle.lists.proofs.Passing.{passing, passing_rises}
use Rattle.model.specs.EventGraph.{EventGraph, maximal, closed}
use Rattle.model.specs.Graph.{Graph, runs, start, all_held}
use Rattle.model.specs.Broken.{WellFormed}
use Rattle.model.specs.History.{at}
use Rattle.model.specs.HeldEvents.{held_events}
use Rattle.model.specs.Wanted.{events_in, ranges, wanted_parents}
use Rattle.model.proofs.FormedReads.{start_mono}
use Rattle.model.proofs.Maximal.{closed_at, closed_of}
use Rattle.model.proofs.Wanting.{events-rise}
use Rattle.versions.specs.Flags.{flag_all}
use Rattle.versions.specs.Ranges.{End, end_number, ends_at, place_of, clear_at, end_at, clear_in, end_in, Ends, flag_marked, marked_whole, is_top, tops}
use Rattle.versions.proofs.Flagging.{replicated, flag_length, flag_get, flag_in, flag_stays, decided}
use Rattle.versions.proofs.RangeWords.{ranges_even, marked-part, part_most, part_above, not_clear}
use Rattle.versions.proofs.FirstParts.{below, run_step, Met, Whole, Childless, later_has, closed-whole, whole-closed, maximal_top, top_maximal}

-- Flags: of the parents of runs of which something is marked, and of no other runs
module _ (rows : ℕ → List ℕ) (ends : List End) where
  -- something is marked of run r
  abbrev Marked : ℕ → Type 0
  Marked r = is_some (get_or ends r None) ≡ true

  -- once more where something is marked of the next run
  flags_on : (r : ℕ) → Marked r → flag_marked rows ends (suc r) ≡ flag_all (flag_marked rows ends r) (rows r)
  unfolding flag_marked
  flags_on r m = rw m

  flags_stay : (r : ℕ) → is_some (get_or ends r None) ≡ false → flag_marked rows ends (suc r) ≡ flag_marked rows ends r
  unfolding flag_marked
  flags_stay r e = rw e

  pub flags_long : (n : ℕ) → length (flag_marked rows ends n) ≡ 512
  flags_long zero = unfold flag_marked in length-replicate 512 false
  flags_long (suc r) = go (decided (is_some (get_or ends r None))) (flags_long r)
    where
      go : Marked r ⊎ (is_some (get_or ends r None) ≡ false) → length (flag_marked rows ends r) ≡ 512 → length (flag_marked rows ends (suc r)) ≡ 512
      go (inr e) ih = ap length (flags_stay r e) ∙ ih
      go (inl m) ih = ap length (flags_on r m) ∙ flag_length (flag_marked rows ends r) (rows r) ∙ ih

  flagged-some : (n r p : ℕ) → p < 512 → r < n → Marked r → mem p (rows r) ≡ true → get_or (flag_marked rows ends n) p false ≡ true
  flagged-some zero r p few lt h m = absurd (omega arith)
  flagged-some (suc c) r p few lt h m = go (eq_or-not r c) (decided (is_some (get_or ends c None))) (λ k. flagged-some c r p few k h m)
    where
      long : p < length (flag_marked rows ends c)
      long = omega (arith, flags_long c)

      go : (r ≡ c) ⊎ (r ≡ c → ⊥) → Marked c ⊎ (is_some (get_or ends c None) ≡ false) → (r < c → get_or (flag_marked rows ends c) p false ≡ true) →
          get_or (flag_marked rows ends (suc c)) p false ≡ true
      go (inl e) (inr z) ih = false_true (sym z ∙ sym (ap (λ (k : ℕ). is_some (get_or ends k None)) e) ∙ h)
      go (inl e) (inl z) ih = ap (λ (l : List Bool). get_or l p false) (flags_on c z) ∙ flag_in (flag_marked rows ends c) (rows c) p long (rw e at m)
      go (inr n) (inr z) ih = ap (λ (l : List Bool). get_or l p false) (flags_stay c z) ∙ ih (omega arith)
      go (inr n) (inl z) ih = ap (λ (l : List Bool). get_or l p false) (flags_on c z) ∙ flag_stays (flag_marked rows ends c) (rows c) p long (ih (omega arith))

  flagged-none : (n p : ℕ) → p < 512 → ((r : ℕ) → r < n → Marked r → ¬ (mem p (rows r) ≡ true)) → get_or (flag_marked rows ends n) p false ≡ false
  flagged-none zero p few h = unfold flag_marked in replicated 512 p false
  flagged-none (suc c) p few h = go (decided (is_some (get_or ends c None))) (flagged-none c p few (λ r lt. h r (omega arith)))
    where
      go : Marked c ⊎ (is_some (get_or ends c None) ≡ false) → get_or (flag_marked rows ends c) p false ≡ false → get_or (flag_marked rows ends (suc c)) p false ≡ false
      go (inr z) ih = ap (λ (l : List Bool). get_or l p false) (flags_stay c z) ∙ ih
      go (inl z) ih =
          ap (λ (l : List Bool). get_or l p false) (flags_on c z) ∙ flag_get (flag_marked rows ends c) (rows c) p (omega (arith, flags_long c)) ∙
          rw (not_so (mem p (rows c)) (h c (omega arith) z)) ih

module _ (g : Graph) (formed : WellFormed g) (starts : List ℕ) (same : (r : ℕ) → r ≤ runs g → get_or starts r 0 ≡ start g r)
    (ws : List ℕ) (words : ranges ws ≡ true) (held : all_held g (events_in ws) ≡ true) where
  abbrev es : List ℕ
  es = events_in ws

  abbrev G : EventGraph
  G = held_events g

  -- the tests at a run's start and end
  clear_at_lem : (r : ℕ) → r < runs g → clear_in starts ws r ≡ clear_at ws (place_of ws (start g r)) (start g (suc r))
  unfolding clear_in
  clear_at_lem r lt = rw (same r (omega arith), same (suc r) lt)

  end_at_lem : (r : ℕ) → r < runs g → end_in starts ws r ≡ end_at ws (place_of ws (start g r)) (start g (suc r))
  unfolding end_in
  end_at_lem r lt = rw (same r (omega arith), same (suc r) lt)

  -- Where the marked events have their held parents no range begins inside a run
  pub closed_clear : closed G es ≡ true → all (clear_in starts ws) (upto (runs g)) ≡ true
  unfolding upto
  closed_clear k = all_of (clear_in starts ws) (from 0 (runs g)) (λ r m.
      let lt : r < runs g = omega (arith, (mem-from r 0 (runs g) m).1) in
      clear_at_lem r lt ∙ go r lt (clear_at ws (place_of ws (start g r)) (start g (suc r))) refl)
    where
      go : (r : ℕ) → r < runs g → (t : Bool) → clear_at ws (place_of ws (start g r)) (start g (suc r)) ≡ t → t ≡ true
      go r lt true e = refl
      go r lt false e =
          let a = not_clear ws words (start g r) (start g (suc r)) e in
          false_true (sym a.4 ∙ closed_at G es k a.0 (a.0 - 1) a.3 (later_has g formed r a.0 lt a.1 a.2))

  module _ (clear : all (clear_in starts ws) (upto (runs g)) ≡ true) (few : runs g ≤ 512) (rows : ℕ → List ℕ)
      (agree : (r : ℕ) → r < runs g → rows r ≡ at g.parents r) (ends : List End) (filled : Ends starts ws (runs g) ends) where
    abbrev E : ℕ → ℕ
    E r = end_number (get_or ends r None)

    abbrev flags : List Bool
    flags = flag_marked rows ends (runs g)

    -- What is marked of a run goes from its start up to its end in the table
    is : (r : ℕ) → r < runs g → get_or ends r None ≡ end_at ws (place_of ws (start g r)) (start g (suc r))
    is r lt = filled r lt ∙ end_at_lem r lt

    most : (r : ℕ) → r < runs g → E r ≤ start g (suc r)
    most r lt = rw (is r lt) (part_most ws words (start g r) (start g (suc r)))

    parts : (r e : ℕ) → r < runs g → start g r ≤ e → e < start g (suc r) → (mem e es ≡ true) ↔ (e < E r)
    parts r e lt low high =
        rw (is r lt) (marked-part ws words (start g r) (start g (suc r)) (sym (clear_at_lem r lt) ∙ all-at (clear_in starts ws) (upto (runs g)) clear r (upto-mem r (runs g) lt)) e low high)

    abbrev MetRun : ℕ → Type 0
    MetRun = Met g formed es held E most parts

    -- so that something is marked of it exactly if it has an end there
    met : (r : ℕ) → r < runs g → is_some (get_or ends r None) ≡ true → MetRun r
    met r lt n = rw (is r lt) (part_above ws words (start g r) (start g (suc r)) (run_step g formed r lt) (sym (ap is_some (is r lt)) ∙ n))

    met_end : (r : ℕ) → MetRun r → is_some (get_or ends r None) ≡ true
    unfolding end_number
    met_end r h = go (get_or ends r None) h
      where
        go : (e : End) → start g r < end_number e → is_some e ≡ true
        go None h = absurd (omega arith)
        go (Some e) h = refl

    -- and it ends at an event exactly if that is its end
    ends_here : (r n : ℕ) → 0 < n → E r ≡ n → ends_at (get_or ends r None) n ≡ true
    unfolding end_number ends_at
    ends_here r n some h = go (get_or ends r None) h
      where
        go : (e : End) → end_number e ≡ n → ends_at e n ≡ true
        go None h = absurd (omega (arith, some))
        go (Some e) h = eq-eqb e.0 n h

    here_ends : (r n : ℕ) → ends_at (get_or ends r None) n ≡ true → E r ≡ n
    unfolding end_number ends_at
    here_ends r n h = go (get_or ends r None) h
      where
        go : (e : End) → ends_at e n ≡ true → end_number e ≡ n
        go None h = false_true h
        go (Some e) h = eqb-true e.0 n h

    -- A flag stands for a run with a child of which something is marked
    flag_childless : (r : ℕ) → r < runs g → not (get_or flags r false) ≡ true → Childless g formed es held E most parts r
    flag_childless r lt e q k h m =
        false_true (sym (ap not (flagged-some rows ends (runs g) q r (omega arith) k (met_end q h) (rw (agree q k) m))) ∙ e)

    childless_flag : (r : ℕ) → r < runs g → Childless g formed es held E most parts r → not (get_or flags r false) ≡ true
    childless_flag r lt h =
        ap not (flagged-none rows ends (runs g) r (omega arith) (λ q k n m. h q k (met q k n) (rw (agree q k) at m)))

    -- So that 17 is told by flags and ends
    pub closed-runs : closed G es ≡ all (marked_whole flags ends starts) (upto (runs g))
    unfolding marked_whole upto
    closed-runs = bool_iff (closed G es) (all (marked_whole flags ends starts) (from 0 (runs g))) there back
      where
        there : closed G es ≡ true → all (marked_whole flags ends starts) (from 0 (runs g)) ≡ true
        there k = all_of (marked_whole flags ends starts) (from 0 (runs g)) (λ r m. go r (omega (arith, (mem-from r 0 (runs g) m).1)) (eq_or-not (E r) (get_or starts (suc r) 0)))
          where
            go : (r : ℕ) → r < runs g → (E r ≡ get_or starts (suc r) 0) ⊎ (E r ≡ get_or starts (suc r) 0 → ⊥) →
                not (get_or flags r false) || ends_at (get_or ends r None) (get_or starts (suc r) 0) ≡ true
            go r lt (inl e) = or_right (not (get_or flags r false)) (ends_here r (get_or starts (suc r) 0) (omega (arith, same (suc r) lt, run_step g formed r lt)) e)
            go r lt (inr n) = or_left (ends_at (get_or ends r None) (get_or starts (suc r) 0)) (childless_flag r lt (λ q few h m.
                n (closed-whole g formed es held E most parts (closed_at G es k) q r few h m ∙ sym (same (suc r) lt))))

        back : all (marked_whole flags ends starts) (from 0 (runs g)) ≡ true → closed G es ≡ true
        back k = closed_of G es (whole-closed g formed es held E most parts (λ r j lt h m.
            let b : j < runs g = omega (arith, below g formed r j m) in
            let test : marked_whole flags ends starts j ≡ true = all-at (marked_whole flags ends starts) (from 0 (runs g)) k j (upto-mem j (runs g) b) in
            cases r j lt h m b (or_cases (not (get_or flags j false)) (ends_at (get_or ends j None) (get_or starts (suc j) 0)) test)))
          where
            cases : (r j : ℕ) → r < runs g → MetRun r → mem j (at g.parents r) ≡ true → j < runs g →
                (not (get_or flags j false) ≡ true) ⊎ (ends_at (get_or ends j None) (get_or starts (suc j) 0) ≡ true) → E j ≡ start g (suc j)
            cases r j lt h m b (inl e) = absurd (flag_childless j b e r lt h m)
            cases r j lt h m b (inr e) = here_ends j (get_or starts (suc j) 0) e ∙ same (suc j) b

    -- and the answer too
    module _ (k : closed G es ≡ true) where
      whole : Whole g formed es held E most parts
      whole = closed-whole g formed es held E most parts (closed_at G es k)

      top_is : (r : ℕ) → r < runs g → is_top flags ends r ≡ true → MetRun r × Childless g formed es held E most parts r
      unfolding is_top
      top_is r lt h = (
        met r lt (and_left (is_some (get_or ends r None)) (not (get_or flags r false)) h),
        flag_childless r lt (and_right (is_some (get_or ends r None)) (not (get_or flags r false)) h),
      )

      is_top_lem : (r : ℕ) → r < runs g → MetRun r → Childless g formed es held E most parts r → is_top flags ends r ≡ true
      unfolding is_top
      is_top_lem r lt h c = and_both (is_some (get_or ends r None)) (not (get_or flags r false)) (met_end r h) (childless_flag r lt c)

      abbrev top_runs : List ℕ
      top_runs = filter (is_top flags ends) (upto (runs g))

      top_run : (r : ℕ) → mem r top_runs ≡ true → (r < runs g) × (is_top flags ends r ≡ true)
      top_run r = (passing (is_top flags ends) (runs g) r).0

      tops-rise : rising (tops flags ends (runs g)) ≡ true
      unfolding tops
      tops-rise = rising-map (λ r. E r - 1) top_runs (λ x y m n lt.
          let p = top_run x m in
          let q = top_run y n in
          omega (arith, (top_is x p.0 p.1).0, (top_is y q.0 q.1).0, most x p.0, start_mono g formed (suc x) y lt (omega (arith, q.0))))
          (passing_rises (is_top flags ends) (runs g))

      pub tops_are : tops flags ends (runs g) ≡ wanted_parents g ws
      unfolding tops wanted_parents
      tops_are = rising-only (map (λ r. E r - 1) top_runs) (maximal G es) tops-rise
          (unfold maximal in rising-filter (λ e. all (λ c. not (mem e (G.parents c))) es) es (events-rise ws (ranges_even ws words).0))
          (λ e. bool_iff (mem e (map (λ r. E r - 1) top_runs)) (mem e (maximal G es)) (there e) (back e))
        where
          there : (e : ℕ) → mem e (map (λ r. E r - 1) top_runs) ≡ true → mem e (maximal G es) ≡ true
          there e m =
              let t : (r : ℕ) × (mem r top_runs ≡ true) × (e ≡ E r - 1) = map-mem (λ r. E r - 1) e top_runs m in
              let p = top_run t.0 t.1 in
              let q = top_is t.0 p.0 p.1 in
              rw t.2 (top_maximal g formed es held E most parts whole t.0 p.0 q.0 q.1)

          back : (e : ℕ) → mem e (maximal G es) ≡ true → mem e (map (λ r. E r - 1) top_runs) ≡ true
          back e m =
              let t = maximal_top g formed es held E most parts whole e m in
              rw t.3 (mem-map (λ r. E r - 1) t.0 top_runs ((passing (is_top flags ends) (runs g) t.0).1 (t.1, is_top_lem t.0 t.1 t.2 t.4)))
