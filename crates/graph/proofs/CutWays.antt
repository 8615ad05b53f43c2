-- Each way out of a cut is what its definition says. Assumes nothing.
use Rattle.std.proofs.Common.{◌≡◌, refl, sym, ap, ◌∙◌, true, false, List, [], ◌∷◌, map, ℕ, ◌<◌, ◌≤◌, arith, length, drop, get_or, leb, lt-ltb, le-ltb, le-leb}
use borrow.Author.Tests.{lt-leb}
use Rattle.lists.specs.Lists.{filter, mem}
use Rattle.lists.proofs.Rising.{Up}
use Rattle.model.specs.declared.record.CausalGraph.{CausalGraph}
use Rattle.model.specs.declared.answers.Written.{Written}
use Rattle.model.specs.declared.answers.Refusal.{Refusal}
use Rattle.model.specs.declared.answers.Refusal.TheVariants.{Broken, Outside, Unmarked}
use Rattle.model.specs.Refusals.{first_of, Outcome}
use Rattle.model.specs.Graph.{runs, marks}
use Rattle.model.specs.Record.{view}
use Rattle.model.specs.Broken.{broken, Held}
use Rattle.model.specs.Cut.{HistoryRange, linear, concurrent, ranges_from, join_ranges, range_words, cut_from, writing, unwritten, cut_outcome, cut_of}
use Rattle.lists.proofs.Members.{get_d_mem}
use Rattle.model.proofs.Stored.{not-broken, marks-length}
use Rattle.model.proofs.RoomsReplay.{marks-rise}
use Rattle.graph.specs.Records.{blank, put_all}
use Rattle.graph.specs.Cutting.{join_on, put_ranges}
use Rattle.graph.proofs.Views.{runs-view}
use Rattle.graph.proofs.Writing.{put-writing}
use Rattle.graph.proofs.Cuts.{cut_written}
use Rattle.std.specs.Prelude.{Ok, Err}

words_three : (r : HistoryRange) → length (range_words r) ≡ 3
unfolding range_words
words_three (linear a b) = refl
words_three (concurrent a b) = refl

none_left : (xs : List ℕ) → length xs ≤ 0 → xs ≡ []
none_left [] h = refl
none_left (x ∷ xs) h = absurd (omega arith)

module _ (g : CausalGraph) (f : ℕ) (lent : List ℕ) where
  outcome_is : (o : Outcome) → cut_outcome g f ≡ o → cut_of g f lent ≡
      elim o as (λ _. Written × List ℕ) [ Ok _ ↦ writing 3 (map range_words (cut_from (view g) f)) lent | Err r ↦ unwritten r lent ]
  unfolding cut_of
  outcome_is o e = ap
      (λ (o : Outcome). elim o as (λ _. Written × List ℕ) [ Ok _ ↦ writing 3 (map range_words (cut_from (view g) f)) lent | Err r ↦ unwritten r lent ]) e

  -- Refused
  pub cut_refused : (r : Refusal) → cut_outcome g f ≡ Err r → (record { count = 0; outcome = Err r }, lent) ≡ cut_of g f lent
  unfolding unwritten
  cut_refused r e = sym (outcome_is (Err r) e)

  pub cut_broken : broken g ≡ true → (record { count = 0; outcome = Err Broken }, lent) ≡ cut_of g f lent
  unfolding cut_outcome first_of
  cut_broken e = cut_refused Broken (rw e)

  module _ (held : Held g) where
    -- Nothing to cut
    pub cut_empty : g.run_count ≡ 0 → (record { count = 0; outcome = Ok tt }, lent) ≡ cut_of g f lent
    unfolding cut_outcome first_of cut_from filter ranges_from join_ranges put_all
    cut_empty e =
        put-writing 3 range_words words_three [] lent ∙
        (ap (λ (ms : List ℕ). writing 3 (map range_words (join_ranges (ranges_from (filter (λ m. leb f m) ms) (runs (view g))))) lent) (sym no_marks) ∙
        sym (outcome_is (Ok tt) (rw (not-broken g held, runs-view g held, le-ltb 0 g.run_count (omega arith)))))
      where
        no_marks : marks (view g) ≡ []
        no_marks = none_left (marks (view g)) (omega (arith, marks-length (view g), runs-view g held))

    pub cut_outside : (g.run_count ≡ 0 → ⊥) → g.run_count ≤ f → (record { count = 0; outcome = Err Outside }, lent) ≡ cut_of g f lent
    unfolding cut_outcome first_of
    cut_outside z h = cut_refused Outside (rw (not-broken g held, runs-view g held, lt-ltb 0 g.run_count (omega arith), le-leb g.run_count f h))

    pub cut_unmarked : (g.run_count ≡ 0 → ⊥) → f < g.run_count → mem f (marks (view g)) ≡ false →
        (record { count = 0; outcome = Err Unmarked }, lent) ≡ cut_of g f lent
    unfolding cut_outcome first_of
    cut_unmarked z h m = cut_refused Unmarked
        (rw (not-broken g held, runs-view g held, lt-ltb 0 g.run_count (omega arith), lt-leb g.run_count f h, m))

    -- Done
    pub cut_done : (g.run_count ≡ 0 → ⊥) → f < g.run_count → (at : ℕ) → at < length (marks (view g)) → get_or (marks (view g)) at 0 ≡ f →
        (p : Written × List ℕ) →
        p ≡ put_ranges (blank, lent) (join_on (get_or (marks (view g)) at g.run_count) (ranges_from (drop at (marks (view g))) g.run_count) g.run_count) →
        p ≡ cut_of g f lent
    unfolding cut_outcome first_of put_ranges cut_from
    cut_done z h at b q p e =
        e ∙ ap (λ (rs : List HistoryRange). put_ranges (blank, lent) rs) joined ∙ put-writing 3 range_words words_three (cut_from (view g) f) lent ∙
        sym (outcome_is (Ok tt)
        (rw (not-broken g held, runs-view g held, lt-ltb 0 g.run_count (omega arith), lt-leb g.run_count f h, m)))
      where
        m : mem f (marks (view g)) ≡ true
        m = rw (← q) (get_d_mem (marks (view g)) at 0 b)

        up : Up 0 (marks (view g)) g.run_count
        up = rw (runs-view g held) at (marks-rise (view g))

        joined : join_on (get_or (marks (view g)) at g.run_count) (ranges_from (drop at (marks (view g))) g.run_count) g.run_count ≡ cut_from (view g) f
        joined =
            cut_written (marks (view g)) f g.run_count at up b q ∙
            ap (λ (n : ℕ). join_ranges (ranges_from (filter (λ m. leb f m) (marks (view g))) n)) (sym (runs-view g held))
