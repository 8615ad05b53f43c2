-- Each way out of the archive points is what their definition says: the runs that are marked by what the passes find start at them. Assumes
-- nothing.
use Rattle.std.proofs.Common.{◌≡◌, refl, sym, ap, ap₂, ◌∙◌, ◌⊎◌, inl, inr, ◌↔◌, Bool, true, false, cond, List, [], ◌∷◌, map, ℕ, suc, ◌+◌, ◌≤◌, ◌<◌, arith, length, take, drop, get_or, length-take}
use Rattle.std.proofs.Common.{length-drop, get_or-take, get_or-drop, leb, eqb, leb-true, le-leb}
use Rattle.std.specs.List.{All}
use Rattle.lists.specs.Lists.{all, filter, count, upto, mem, rising}
use Rattle.lists.proofs.Truth.{lt_or_le, bool_iff}
use Rattle.lists.proofs.Members.{get_d_all, get_d_mem, all-from_on, filter_agree, filter_map}
use Rattle.lists.proofs.Counts.{mem-from, count_same}
use Rattle.lists.proofs.Passing.{passing}
use Rattle.lists.proofs.Pads.{get_pad}
use Rattle.model.specs.declared.record.CausalGraph.{CausalGraph}
use Rattle.model.specs.Graph.{Graph, runs, start}
use Rattle.model.specs.Record.{view}
use Rattle.model.specs.Broken.{broken, Held}
use Rattle.model.specs.Cut.{writing, unwritten}
use Rattle.model.specs.declared.answers.Written.{Written}
use Rattle.model.specs.declared.answers.Refusal.TheVariants.{Broken}
use Rattle.model.specs.Refusals.{first_of}
use Rattle.model.specs.Answers.{answer_or}
use Rattle.model.specs.Lookups.{lookup}
use Rattle.model.specs.History.{at}
use Rattle.model.specs.Archive.{seen_by_later, archive_points, archive_points_of}
use Rattle.model.proofs.FormedReads.{start_mono, start-less}
use Rattle.model.proofs.Archiving.{Parted, point_parted}
use Rattle.graph.specs.Loops.{marks_of}
use Rattle.graph.proofs.Views.{facts, runs-view, start-view, starts-pad}
use Rattle.graph.proofs.Entries.{parents-below, parents-rise}
use Rattle.graph.proofs.Marking.{is_mark, marks-filter}
use Rattle.versions.specs.Heads.{Child, childless, heads, last_in, highest_by, highest, first_children, is_head, whole_in, HeadsFit, HeadCounts, SeenLengths}
use Rattle.versions.proofs.FirstChildren.{head_is}
use Rattle.versions.proofs.HeadCounting.{all-heads, count-is, count_fits}
use Rattle.versions.proofs.ByHeads.{last_mem, last_most, parted_iff}
use Rattle.versions.specs.Words.{fitting_put}
use Rattle.versions.proofs.Writing.{records_put}

module _ (g : CausalGraph) (held : Held g) where
  abbrev G : Graph
  G = view g

  abbrev pss : List (List ℕ)
  pss = G.parents

  abbrev n : ℕ
  n = g.run_count

  rise : (r : ℕ) → rising (at pss r) ≡ true
  rise = parents-rise g held

  -- By the graph's rows
  module _ (rows : ℕ → List ℕ) (same : (c : ℕ) → c < n → rows c ≡ at pss c) (firsts : List Child) (is : firsts ≡ first_children rows n) where
    -- First children tell the heads, and the counts how many there are
    told : (m p : ℕ) → m ≤ n → p < n → is_head firsts m p ≡ childless pss m p
    told m p le lt =
        rw is (head_is rows n p (omega (arith, (facts g held).runs)) pss m le same)

    pub counts_fit : HeadsFit firsts rows n
    counts_fit = count_fits pss (parents-below g held) rise firsts rows n same told

    module _ (counts : List ℕ) (filled : HeadCounts firsts rows n counts) where
      abbrev found : ℕ → ℕ
      found q = highest_by (whole_in firsts counts) (rows q)

      -- so which run is the last that a run's parents let start at a point
      found_is : (q : ℕ) → q < n → (found q ≡ highest pss q) × (highest pss q ≤ q)
      unfolding highest highest_by whole_in
      found_is q lt = rw (same q lt) (go (at pss q) refl)
        where
          go : (ps : List ℕ) → at pss q ≡ ps →
              (highest_by (whole_in firsts counts) ps ≡ highest_by (λ m ps. all (λ h. mem h ps) (heads pss m)) ps) ×
              (highest_by (λ m ps. all (λ h. mem h ps) (heads pss m)) ps ≤ q)
          go [] e = (refl, omega arith)
          go (p ∷ ps) e = (ap (λ (t : Bool). cond t (suc last) last) tests, most (all (λ h. mem h (p ∷ ps)) (heads pss (suc last))))
            where
              last : ℕ
              last = last_in (p ∷ ps)

              few : last < q
              few = parents-below g held q last (rw e (last_mem p ps))

              up : rising (p ∷ ps) ≡ true
              up = rw e at (rise q)

              low : (x : ℕ) → mem x (p ∷ ps) ≡ true → x < suc last
              low = last_most p ps up

              tests : eqb (count (is_head firsts (suc last)) (p ∷ ps)) (get_or counts (suc last) 0) ≡ all (λ h. mem h (p ∷ ps)) (heads pss (suc last))
              tests =
                  ap₂ eqb (count_same (is_head firsts (suc last)) (childless pss (suc last)) (p ∷ ps) (λ x k. told (suc last) x (omega (arith, few)) (omega (arith, few, low x k))))
                  (filled (suc last) (omega (arith, few)) ∙ count-is pss (parents-below g held) rise firsts rows n same told (suc last) (omega (arith, few))) ∙
                  all-heads pss (parents-below g held) rise (suc last) (p ∷ ps) up low

              most : (t : Bool) → cond t (suc last) last ≤ q
              most true = few
              most false = omega (arith, few)

      module _ (seen : List ℕ) (long : n ≤ length seen) (lengths : SeenLengths firsts counts g.starts rows n seen) where
        abbrev starts : List ℕ
        starts = take (n + 1) g.starts

        abbrev lows : List ℕ
        lows = take n seen

        lows_long : length lows ≡ n
        lows_long = omega (arith, length-take n seen)

        start-at : (r : ℕ) → r < n → get_or starts r 0 ≡ start G r
        start-at r lt = get_or-take (n + 1) g.starts r 0 (omega arith) ∙ sym (start-view g held r (omega arith))

        low-at : (q : ℕ) → q < n → get_or lows q 0 ≡ start G (highest pss q)
        low-at q lt =
            let h = found_is q lt in
            get_or-take n seen q 0 lt ∙ lengths q lt ∙ ap (λ (k : ℕ). get_or g.starts k 0) h.0 ∙ sym (start-view g held (highest pss q) (omega (arith, h.1)))

        -- A run is marked by these exactly if it parts the others, so if it starts at a point
        mark_is : (r : ℕ) → r < n → is_mark starts lows r ≡ seen_by_later G (start G r)
        unfolding is_mark
        mark_is r lt = bool_iff (is_mark starts lows r) (seen_by_later G (start G r))
            (λ m. points.1 (parts.1 (λ q le few.
            let k : q < n = omega (arith, runs-view g held) in
            lower q k (leb-true (get_or starts r 0) (get_or lows q 0) (all-from_on (λ t. leb (get_or starts r 0) t) r q lows le (omega (arith, lows_long)) m)))))
            (λ m. get_d_all (λ t. leb (get_or starts r 0) t) (drop r lows) (λ i h.
            let few : r + i < n = omega (arith, length-drop r lows, lows_long) in
            rw (get_or-drop r lows i 0) (le-leb (get_or starts r 0) (get_or lows (r + i) 0) (higher (r + i) few (parts.0 (points.0 m) (r + i) (omega arith) (omega (arith, runs-view g held)))))))
          where
            points : (seen_by_later G (start G r) ≡ true) ↔ Parted G r
            points = point_parted G held.formed r (omega (arith, runs-view g held))

            parts : Parted G r ↔ ((q : ℕ) → r ≤ q → q < runs G → r ≤ highest pss q)
            parts = parted_iff G (parents-below g held) rise r

            lower : (q : ℕ) → q < n → get_or starts r 0 ≤ get_or lows q 0 → r ≤ highest pss q
            lower q k h = cases (lt_or_le (highest pss q) r)
              where
                cases : (highest pss q < r) ⊎ (r ≤ highest pss q) → r ≤ highest pss q
                cases (inr c) = c
                cases (inl c) = absurd (omega (arith, start-at r lt, low-at q k, start-less G held.formed (highest pss q) r c (omega (arith, runs-view g held))))

            higher : (q : ℕ) → q < n → r ≤ highest pss q → get_or starts r 0 ≤ get_or lows q 0
            higher q k h = omega (
              arith,
              start-at r lt,
              low-at q k,
              start_mono G held.formed r (highest pss q) h (omega (arith, (found_is q k).1, runs-view g held)),
            )

        -- The runs that are marked by these are those that start at points
        pub marks_are : marks_of 0 starts lows ≡ filter (λ r. seen_by_later G (start G r)) (upto (runs G))
        unfolding upto
        marks_are =
            marks-filter starts lows (runs G) (omega (arith, lows_long, runs-view g held))
            (omega (arith, lows_long, length-take (n + 1) g.starts, (facts g held).runs, (facts g held).sized.starts)) ∙
            filter_agree (is_mark starts lows) (λ r. seen_by_later G (start G r)) (upto (runs G)) (λ r m. mark_is r (omega (arith, (mem-from r 0 (runs G) m).1, runs-view g held)))

  -- The runs that start at archive points
  abbrev point_runs : List ℕ
  point_runs = filter (λ r. seen_by_later G (start G r)) (upto (runs G))

  module _ (points : List ℕ) (found : points ≡ point_runs) where
    -- What those that gather their starts need of them
    pub points-below : All (λ r. r < length g.starts) points
    points-below k d lt =
        let m : mem (get_or points k d) point_runs ≡ true = sym (ap (mem (get_or points k d)) found) ∙ get_d_mem points k d lt in
        omega (arith, ((passing (λ r. seen_by_later G (start G r)) (runs G) (get_or points k d)).0 m).0, runs-view g held, (facts g held).runs, (facts g held).sized.starts)

    starts-same : (ms : List ℕ) → map (λ m. get_or g.starts m 0) ms ≡ map (start G) ms
    unfolding start
    starts-same [] = refl
    starts-same (m ∷ ms) = ap₂ (λ (e : ℕ) (l : List ℕ). e ∷ l) (ap (λ (l : List ℕ). get_or l m 0) (starts-pad g held) ∙ get_pad 513 G.starts m) (starts-same ms)

    -- Their starts are the archive points
    pub points_are : map (λ m. get_or g.starts m 0) points ≡ archive_points G
    unfolding archive_points
    points_are = starts-same points ∙ ap (map (start G)) found ∙ sym (filter_map (seen_by_later G) (start G) (upto (runs G)))

-- The points, or why they are not told, written: what the call's definition says
pub is_put : (g : CausalGraph) (lent : List ℕ) → fitting_put (answer_or (lookup g false) (archive_points (view g))) lent ≡ archive_points_of g lent
unfolding fitting_put lookup first_of archive_points_of unwritten
is_put g lent = go (broken g)
  where
    go : (b : Bool) → fitting_put (answer_or (first_of ((b, 1) ∷ (false, 9) ∷ [])) (archive_points (view g))) lent ≡
        elim b as (λ _. Written × List ℕ) [ true ↦ unwritten Broken lent | false ↦ writing 1 (map (λ e. e ∷ []) (archive_points (view g))) lent ]
    go true = refl
    go false = sym (records_put (archive_points (view g)) lent)
