-- What the passes find are the wanted parents, and written they are what the call's definition says. Assumes nothing.
use Rattle.std.proofs.Common.{◌≡◌, refl, sym, ap, ◌∙◌, Bool, true, false, not, cond, ◌&&◌, ◌||◌, List, [], ◌∷◌, ltb, map, ℕ, suc, ◌+◌, ◌-◌, ◌≤◌, ◌<◌, arith, length, get_or, take, length-take}
use Rattle.std.proofs.Common.{get_or-take, None, is_some}
use Rattle.lists.specs.Lists.{all, upto, mem}
use Rattle.lists.specs.Areas.{over}
use Rattle.lists.proofs.Truth.{false_true, not_so}
use Rattle.lists.proofs.Members.{all_same, filter_agree}
use Rattle.lists.proofs.Counts.{mem-from}
use Rattle.model.specs.declared.record.CausalGraph.{CausalGraph}
use Rattle.model.specs.declared.answers.Written.{Written}
use Rattle.model.specs.declared.answers.Refusal.TheVariants.{Broken, NotRising, UnknownEvent, NoSuchParents}
use Rattle.model.specs.EventGraph.{closed}
use Rattle.model.specs.Refusals.{first_of}
use Rattle.model.specs.Graph.{Graph, runs, start, len, all_held}
use Rattle.model.specs.Record.{view}
use Rattle.model.specs.Broken.{broken, Held}
use Rattle.model.specs.Cut.{unwritten}
use Rattle.model.specs.History.{at}
use Rattle.model.specs.HeldEvents.{held_events}
use Rattle.model.specs.Answers.{answer_or}
use Rattle.model.specs.Wanted.{events_in, ranges, wanted_parents, wanted_outcome, wanted_parents_of}
use Rattle.model.proofs.FormedReads.{start_mono}
use Rattle.graph.proofs.Views.{facts, runs-view, start-view, first-view}
use Rattle.versions.specs.Ranges.{End, end_number, ends_at, words_within, clear_in, Ends, flag_marked, marked_whole, is_top, tops, Starts}
use Rattle.versions.specs.Words.{all_put, wanted_tests}
use Rattle.versions.proofs.Writing.{fits_last}
use Rattle.versions.proofs.RangeWords.{held-within}
use Rattle.versions.proofs.MarkedRuns.{closed_clear, closed-runs, tops_are}
use Rattle.std.specs.Prelude.{Ok, Err}

-- The starts of a record's runs, and its length
abbrev pub starts_in : CausalGraph → List ℕ
starts_in g = take (g.run_count + 1) g.starts

module _ (g : CausalGraph) (held : Held g) where
  pub starts_long : length (starts_in g) ≡ g.run_count + 1
  starts_long = omega (arith, length-take (g.run_count + 1) g.starts, (facts g held).runs, (facts g held).sized.starts)

  pub starts_at : (r : ℕ) → r ≤ g.run_count → get_or (starts_in g) r 0 ≡ start (view g) r
  starts_at r le = get_or-take (g.run_count + 1) g.starts r 0 (omega arith) ∙ sym (start-view g held r le)

  pub starts_of : Starts (starts_in g) (length (starts_in g) - 1)
  starts_of =
      let n : length (starts_in g) - 1 ≡ g.run_count = omega (arith, starts_long) in
      rw n (record {
        few = (facts g held).runs;
        fits = omega (arith, starts_long);
        climb = λ r lt. omega (
          arith,
          starts_at r (omega arith),
          starts_at (suc r) lt,
          start_mono (view g) held.formed r (suc r) (omega arith) (omega (arith, runs-view g held)),
        );
      })

-- What is read of flags, of n runs, is the same of other flags that agree below n
module _ (flags fs : List Bool) (ends : List End) (starts : List ℕ) (n : ℕ) (agree : (r : ℕ) → r < n → get_or flags r false ≡ get_or fs r false) where
  below-n : (r : ℕ) → mem r (upto n) ≡ true → get_or flags r false ≡ get_or fs r false
  unfolding upto
  below-n r m = agree r (omega (arith, (mem-from r 0 n m).1))

  whole-same : all (marked_whole flags ends starts) (upto n) ≡ all (marked_whole fs ends starts) (upto n)
  unfolding marked_whole
  whole-same =
      all_same (marked_whole flags ends starts) (marked_whole fs ends starts) (upto n) (λ r m.
      ap (λ (f : Bool). not f || ends_at (get_or ends r None) (get_or starts (suc r) 0)) (below-n r m))

  tops_same : tops flags ends n ≡ tops fs ends n
  unfolding tops is_top
  tops_same =
      ap (map (λ r. end_number (get_or ends r None) - 1)) (filter_agree (is_top flags ends) (is_top fs ends) (upto n) (λ r m.
      ap (λ (f : Bool). is_some (get_or ends r None) && not f) (below-n r m)))

-- The parents, or why they are not told, written: what the call's definition says
pub is_put : (g : CausalGraph) (ws lent : List ℕ) → all_put (answer_or (wanted_tests g ws) (wanted_parents (view g) ws)) lent ≡ wanted_parents_of g ws lent
unfolding all_put wanted_tests first_of wanted_outcome wanted_parents_of unwritten
is_put g ws lent = go (broken g) (ranges ws) (all_held (view g) (events_in ws)) (closed (held_events (view g)) (events_in ws))
  where
    ps : List ℕ
    ps = wanted_parents (view g) ws

    go : (b r h c : Bool) → all_put (answer_or (first_of ((b, 1) ∷ (not r, 3) ∷ (not h, 4) ∷ (not c, 17) ∷ [])) ps) lent ≡
        elim (first_of ((b, 1) ∷ (not r, 3) ∷ (not h, 4) ∷ (not c, 17) ∷ (ltb (length lent) (length ps), 11) ∷ [])) as (λ _. Written × List ℕ) [
          | Ok _ ↦ (record { count = length ps; outcome = Ok (tt {0}) }, over ps lent)
          | Err r ↦ unwritten r lent
        ]
    go true r h c = refl
    go false false h c = refl
    go false true false c = refl
    go false true true false = refl
    go false true true true = sym (fits_last ps lent)

module _ (g : CausalGraph) (ws : List ℕ) where
  -- What the first tests tell
  pub tests_broken : broken g ≡ true → wanted_tests g ws ≡ Err Broken
  unfolding wanted_tests first_of
  tests_broken e = rw e

  pub tests_faulty : broken g ≡ false → ranges ws ≡ false → wanted_tests g ws ≡ Err NotRising
  unfolding wanted_tests first_of
  tests_faulty e f = rw (e, f)

  pub tests_unknown : broken g ≡ false → ranges ws ≡ true → all_held (view g) (events_in ws) ≡ false → wanted_tests g ws ≡ Err UnknownEvent
  unfolding wanted_tests first_of
  tests_unknown e f h = rw (e, f, h)

  pub tests-last : broken g ≡ false → ranges ws ≡ true → all_held (view g) (events_in ws) ≡ true →
      cond (closed (held_events (view g)) (events_in ws)) (Ok (wanted_parents (view g) ws)) (Err NoSuchParents) ≡ answer_or (wanted_tests g ws) (wanted_parents (view g) ws)
  unfolding wanted_tests first_of
  tests-last e f h = rw (e, f, h) (go (closed (held_events (view g)) (events_in ws)))
    where
      go : (c : Bool) → cond c (Ok (wanted_parents (view g) ws)) (Err NoSuchParents) ≡
          answer_or (cond (not c) (Err NoSuchParents) (Ok tt)) (wanted_parents (view g) ws)
      go true = refl
      go false = refl

  module _ (held : Held g) (words : ranges ws ≡ true) where
    abbrev G : Graph
    G = view g

    abbrev n : ℕ
    n = g.run_count

    -- Whether the marked events are held, by the record's first held event and `len`
    pub held-is : all_held G (events_in ws) ≡ words_within (get_or g.starts 0 0) (len G) ws
    held-is = held-within ws words G ∙ rw (first-view g held)

    module _ (marked : all_held G (events_in ws) ≡ true) where
      abbrev starts : List ℕ
      starts = starts_in g

      same : (r : ℕ) → r ≤ runs G → get_or starts r 0 ≡ start G r
      same r le = starts_at g held r (omega (arith, runs-view g held))

      runs_are : length starts - 1 ≡ runs G
      runs_are = omega (arith, starts_long g held, runs-view g held)

      -- 17, a range begins inside a run
      pub wanted_inside : all (clear_in starts ws) (upto (length starts - 1)) ≡ false → closed (held_events G) (events_in ws) ≡ false
      wanted_inside e = not_so (closed (held_events G) (events_in ws)) (λ k.
          false_true (sym e ∙ ap (λ (m : ℕ). all (clear_in starts ws) (upto m)) runs_are ∙ closed_clear G held.formed starts same ws words marked k))

      -- The ends and the flags of as many runs as there are, out of longer lists
      module _ (clear : all (clear_in starts ws) (upto (length starts - 1)) ≡ true)
          (all_ends : List End) (filled : Ends starts ws (length starts - 1) all_ends) (long : n ≤ length all_ends)
          (rows : ℕ → List ℕ) (each : (r : ℕ) → r < n → rows r ≡ at G.parents r)
          (all_flags : List Bool) (flagged : all_flags ≡ flag_marked rows (take n all_ends) (length (take n all_ends))) where
        abbrev ends : List End
        ends = take n all_ends

        abbrev flags : List Bool
        flags = take n all_flags

        agree : (r : ℕ) → r < runs G → rows r ≡ at G.parents r
        agree r lt = each r (omega (arith, runs-view g held))

        clear_all : all (clear_in starts ws) (upto (runs G)) ≡ true
        clear_all = rw runs_are at clear

        few : runs G ≤ 512
        few = omega (arith, (facts g held).runs, runs-view g held)

        filled_all : Ends starts ws (runs G) ends
        filled_all r lt = get_or-take n all_ends r None (omega (arith, runs-view g held)) ∙ filled r (omega (arith, runs_are))

        long_ends : length ends ≡ runs G
        long_ends = omega (arith, length-take n all_ends, runs-view g held)

        told : (r : ℕ) → r < runs G → get_or flags r false ≡ get_or (flag_marked rows ends (runs G)) r false
        told r lt = get_or-take n all_flags r false (omega (arith, runs-view g held)) ∙ ap (λ (fs : List Bool). get_or fs r false) (flagged ∙ ap (flag_marked rows ends) long_ends)

        -- 17, a parent run of a run with marked events is not marked whole
        pub whole_is : closed (held_events G) (events_in ws) ≡ all (marked_whole flags ends starts) (upto (length ends))
        whole_is =
            closed-runs G held.formed starts same ws words marked clear_all few rows agree ends filled_all ∙
            sym (whole-same flags (flag_marked rows ends (runs G)) ends starts (runs G) told) ∙
            ap (λ (m : ℕ). all (marked_whole flags ends starts) (upto m)) (sym long_ends)

        -- Done
        pub tops_wanted : all (marked_whole flags ends starts) (upto (length ends)) ≡ true → tops flags ends (length ends) ≡ wanted_parents G ws
        tops_wanted whole =
            ap (tops flags ends) long_ends ∙ tops_same flags (flag_marked rows ends (runs G)) ends starts (runs G) told ∙
            tops_are G held.formed starts same ws words marked clear_all few rows agree ends filled_all (whole_is ∙ whole)
