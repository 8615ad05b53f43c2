-- An unmarked run stays unmarked, and run starts are told true exactly where one starts, or comes to start by a split. Assumes nothing.
use Rattle.std.proofs.Common.{◌≡◌, refl, sym, ap, ◌∙◌, ◌⊎◌, inl, inr, Bool, true, false, ◌&&◌, ◌||◌, List, ℕ, suc, ◌≤◌, ◌<◌, arith, get_or, drop, leb, eqb, leb-true}
use borrow.Author.Tests.{eqb-false}
use Rattle.lists.specs.Lists.{all, insert_at}
use Rattle.lists.proofs.Truth.{lt_or_le, lt_of_ne, false_true, not_so, and_left, and_right, and_both}
use Rattle.lists.proofs.Members.{all-from_on}
use Rattle.lists.proofs.Inserts.{insert-at, all_insert}
use Rattle.model.specs.Graph.{Graph, runs, start, containing, marked}
use Rattle.model.specs.Broken.{WellFormed}
use Rattle.model.specs.Split.{second_seen, split}
use Rattle.model.proofs.SeenSecond.{Met, second_own}
use Rattle.model.specs.Push.{grown, joined, lowered}
use Rattle.model.specs.Start.{answers, splitting, alone, starting, taken}
use Rattle.model.specs.StaysTrue.{UnmarkedAt, SeenStarts}
use Rattle.model.proofs.FormedReads.{start_mono, start-less, start-len, first-start, containing_in, containing-start, marked_of}
use Rattle.model.proofs.FormedSplits.{split_runs}
use Rattle.model.proofs.FormedJoins.{joined-runs}
use Rattle.model.proofs.FormedCalls.{starting-inside, starting-told, starting_tells, start-inside}
use Rattle.model.proofs.Persisting.{Persists}
use Rattle.model.proofs.Lasting.{split-start, split-start-later, split-marked, split-marked-later, grown-start, grown-marked, joined-start, joined-marked}

-- A split leaves every mark: the runs up to the one split keep their numbers, those after it move up one
split-unmarked : (e : ℕ) (g : Graph) (r at : ℕ) → WellFormed g → r < runs g → start g r < at → UnmarkedAt g e → UnmarkedAt (split g r at) e
split-unmarked e g r at w b lo U = go (lt_or_le r U.run)
  where
    go : (r < U.run) ⊎ (U.run ≤ r) → UnmarkedAt (split g r at) e
    go (inl c) = record {
      run = suc U.run;
      held = omega (arith, split_runs g r at, U.held);
      starts = split-start-later g w r at b U.run c ∙ U.starts;
      unmarked = split-marked-later g w r at b U.run c ∙ U.unmarked;
    }
    go (inr c) = record {
      run = U.run;
      held = omega (arith, split_runs g r at, U.held);
      starts = split-start g w r at b U.run c ∙ U.starts;
      unmarked = split-marked g w r at b lo U.run c ∙ U.unmarked;
    }

-- So does growth of the last run
grown-unmarked : (e : ℕ) (g : Graph) (ps : List ℕ) (n : ℕ) → WellFormed g → UnmarkedAt g e → UnmarkedAt (grown g ps n) e
grown-unmarked e g ps n w U = record {
  run = U.run;
  held = unfold grown runs in U.held;
  starts = sym (grown-start g ps n w U.run U.held) ∙ U.starts;
  unmarked = sym (grown-marked g ps n w U.run U.held) ∙ U.unmarked;
}

-- A new run can only take marks away
joined-unmarked : (e : ℕ) (s : Graph) (ps : List ℕ) (n : ℕ) → WellFormed s → UnmarkedAt s e → UnmarkedAt (lowered s (joined s ps n)) e
unfolding lowered runs start marked
joined-unmarked e s ps n w U = record {
  run = U.run;
  held = omega (arith, joined-runs s ps n, U.held);
  starts = sym (joined-start s ps n w U.run (omega (arith, U.held))) ∙ U.starts;
  unmarked = not_so (marked (joined s ps n) U.run) (λ m. false_true (sym U.unmarked ∙ joined-marked s ps n w U.run U.held m));
}

pub unmarked_persists : (e : ℕ) → Persists (λ g. UnmarkedAt g e)
unmarked_persists e = record {
  splits = λ g r at w b lo hi U. split-unmarked e g r at w b lo U;
  grows = grown-unmarked e;
  joins = joined-unmarked e;
}

pub unmarked-taken : (e : ℕ) (g : Graph) → UnmarkedAt g e → UnmarkedAt (taken g) e
unfolding taken runs start marked
unmarked-taken e g U = record { run = U.run; held = U.held; starts = U.starts; unmarked = U.unmarked }

-- The second part of a split inside run r
module _ (g : Graph) (w : WellFormed g) (S : SeenStarts g) (r at : ℕ) (b : r < runs g) (lo : start g r < at) where
  abbrev own : ℕ
  own = get_or g.seen r 0

  abbrev second : ℕ
  second = second_seen g r at

  second_start : start (split g r at) (suc r) ≡ at
  unfolding start split
  second_start = insert-at (suc r) at 0 g.starts (omega (arith, w.starts_count))

  -- It is marked exactly if it and all later runs have seen up to `at`
  second_is : marked (split g r at) (suc r) ≡ leb at second && all (λ s. leb at s) (drop (suc r) g.seen)
  unfolding marked split
  second_is =
      ap (λ (k : ℕ). all (λ s. leb k s) (drop (suc r) (insert_at (suc r) second g.seen))) second_start ∙
      all_insert (λ s. leb at s) (suc r) (suc r) second g.seen (omega arith) (omega (arith, w.seen_count))

  -- Then the run that is split was marked, and so was the next, if there is one: what a later run has seen is a run's start from `at` on
  module _ (m : marked (split g r at) (suc r) ≡ true) where
    -- it and all later runs have seen up to `at`
    both : leb at second && all (λ s. leb at s) (drop (suc r) g.seen) ≡ true
    both = sym second_is ∙ m

    later-seen : (q : ℕ) → r < q → q < runs g → at ≤ get_or g.seen q 0
    later-seen q c lt = leb-true at (get_or g.seen q 0)
        (all-from_on (λ s. leb at s) (suc r) q g.seen c (omega (arith, w.seen_count)) (and_right (leb at second) _ both))

    -- the split run had seen up to its start, since else the second part has seen no more than it
    own-seen : start g r ≤ own
    own-seen = go (second_own g r at)
      where
        go : ((second ≡ at) × Met own (start g r)) ⊎ (second ≡ own) → start g r ≤ own
        go (inl w) = omega (arith, w.1)
        go (inr w) = omega (arith, w, leb-true at second (and_left (leb at second) _ both))

    run-marked : marked g r ≡ true
    run-marked = marked_of g w r (λ q le lt. go q (lt_or_le r q) le lt)
      where
        go : (q : ℕ) → (r < q) ⊎ (q ≤ r) → r ≤ q → q < runs g → start g r ≤ get_or g.seen q 0
        go q (inl c) le lt = omega (arith, later-seen q c lt)
        go q (inr c) le lt = let e : r ≡ q = omega arith in omega (arith, own-seen, ap (λ (k : ℕ). get_or g.seen k 0) e)

    next-marked : suc r < runs g → marked g (suc r) ≡ true
    next-marked h = marked_of g w (suc r) (λ q le lt.
        let s : (j : ℕ) × (j ≤ q) × (get_or g.seen q 0 ≡ start g j) = S q lt in
        from_next q s.0 (omega (arith, s.1)) s.2 (later-seen q le lt) (lt_or_le r s.0))
      where
        from_next : (q j : ℕ) → j ≤ runs g → get_or g.seen q 0 ≡ start g j → at ≤ get_or g.seen q 0 → (r < j) ⊎ (j ≤ r) → start g (suc r) ≤ get_or g.seen q 0
        from_next q j i e k (inl c) = omega (arith, start_mono g w (suc r) j c i)
        from_next q j i e k (inr c) = absurd (omega (arith, start_mono g w j r c (omega arith)))

    -- and of such a run a run start is told false
    was_alone : alone g r ≡ true
    unfolding alone
    was_alone = and_both (marked g r) _ run-marked (go (eqb (suc r) (runs g)) refl)
      where
        go : (t : Bool) → eqb (suc r) (runs g) ≡ t → t || marked g (suc r) ≡ true
        go true e = refl
        go false e = next-marked (lt_of_ne (suc r) (runs g) b (eqb-false (suc r) (runs g) e))

  -- So it is unmarked where the run was not alone
  second_unmarked : alone g r ≡ false → UnmarkedAt (split g r at) at
  second_unmarked e = record {
    run = suc r;
    held = omega (arith, split_runs g r at);
    starts = second_start;
    unmarked = not_so (marked (split g r at) (suc r)) (λ m. false_true (sym e ∙ was_alone m));
  }

-- A run start that splits leaves an unmarked run that starts there
pub splitting-unmarked : (g : Graph) → WellFormed g → SeenStarts g → (at : ℕ) → starting g at ≡ splitting → UnmarkedAt (split g (containing g at) at) at
splitting-unmarked g w S at e =
    let i = start-inside g w at e in
    second_unmarked g w S (containing g at) at i.0 i.1 (starting-inside g w at e).3

-- One told true at a run's start has found one
pub told-unmarked : (g : Graph) → WellFormed g → (at : ℕ) → starting g at ≡ answers true → UnmarkedAt g at
told-unmarked g w at e =
    let t = starting-told g w at e in
    record { run = containing g at; held = (containing_in g w at (omega (arith, t.0)) t.1).0; starts = t.2; unmarked = t.3 }

-- Where an unmarked run starts, a run start is told true
pub unmarked_tells : (g : Graph) → WellFormed g → (at : ℕ) → UnmarkedAt g at → starting g at ≡ answers true
unmarked_tells g w at U =
    let r : ℕ = U.run in
    let c : containing g at ≡ r = ap (containing g) (sym U.starts) ∙ containing-start g w r U.held in
    starting_tells g at (omega (arith, U.starts, first-start g w r (omega (arith, U.held))))
    (omega (arith, U.starts, start-less g w r (suc r) (omega arith) U.held, start-len g w (suc r) U.held)) (ap (start g) c ∙ U.starts)
    (ap (marked g) c ∙ U.unmarked)
