-- What a split, a grown run and a new run leave as it was of the other runs. Assumes nothing.
use Rattle.std.proofs.Common.{◌≡◌, refl, sym, ap, ◌∙◌, Bool, true, false, not, ◌&&◌, List, [], ◌∷◌, ◌++◌, map, ℕ, suc, ◌+◌, ◌≤◌, ◌<◌, min, arith, get_or, take, drop, length-take, get_or-take, leb}
use Rattle.std.proofs.Common.{ltb, lt-ltb, le-leb}
use mathlib.Core.Option.{Option, none, some}
use lib.ListN.{length-map, get_or-append, get_or-map}
use lib.Seq.{drop-append-le}
use Rattle.lists.specs.Lists.{all, filter, mem, insert_at, least}
use Rattle.lists.proofs.Truth.{false_true, bool_iff, and_left}
use Rattle.lists.proofs.Members.{filter-mem, map_leaves, all-from_on, all_both}
use Rattle.lists.proofs.Passing.{passing_test}
use Rattle.lists.proofs.Bounds.{least_le, least-mem}
use Rattle.lists.proofs.Inserts.{insert-before, insert-after, insert-drop, all_insert}
use Rattle.model.specs.Graph.{Graph, runs, start, len, marked, marks}
use Rattle.model.specs.Broken.{WellFormed}
use Rattle.model.specs.Split.{renumber, second_seen, split}
use Rattle.model.specs.Push.{grown, new_seen, parent_runs, joined, lowered}
use Rattle.model.specs.Claim.{run_state}
use Rattle.model.proofs.SeenFrom.{second_has}
use Rattle.model.proofs.FormedReads.{groups_fit-at, start_mono}
use Rattle.model.proofs.FormedSplits.{renumber-below}
use Rattle.model.proofs.FormedJoins.{joined-runs}

-- Two graphs alike at a run
pub state_same : (g h : Graph) (q : ℕ) → q < runs g → q < runs h → start g q ≡ start h q → start g (suc q) ≡ start h (suc q) →
    get_or g.parents q [] ≡ get_or h.parents q [] → marked g q ≡ marked h q → run_state g q ≡ run_state h q
unfolding run_state
state_same g h q b c s t p m = go (ltb q (runs g)) (ltb q (runs h)) (lt-ltb q (runs g) b) (lt-ltb q (runs h) c)
  where
    go : (u v : Bool) → u ≡ true → v ≡ true →
        ◌≡◌ {A = Option (ℕ × ℕ × List ℕ × Bool)}
        (elim u [ true ↦ some (start g q, start g (suc q), get_or g.parents q [], marked g q) | false ↦ none ])
        (elim v [ true ↦ some (start h q, start h (suc q), get_or h.parents q [], marked h q) | false ↦ none ])
    go true true x y = λ i. some (s i, t i, p i, m i)
    go true false x y = false_true y
    go false true x y = false_true x
    go false false x y = false_true x

-- A split of run r leaves the runs before it, with the first part's start and mark
module _ (g : Graph) (w : WellFormed g) (r at : ℕ) (b : r < runs g) where
  pub split-start : (q : ℕ) → q ≤ r → start (split g r at) q ≡ start g q
  unfolding start split
  split-start q le = insert-before (suc r) q at 0 g.starts (omega arith) (omega (arith, w.starts_count))

  pub split-parents : (q : ℕ) → q < r → get_or (split g r at).parents q [] ≡ get_or g.parents q []
  unfolding split runs
  split-parents q lt =
      insert-before (suc r) q (r ∷ []) [] (map (map (renumber r)) g.parents) (omega arith) (omega (arith, length-map g.parents (map (renumber r)))) ∙
      get_or-map (map (renumber r)) g.parents q [] ∙
      map_leaves (renumber r) (get_or g.parents q [])
      (λ p m. renumber-below r p (omega (arith, groups_fit-at 0 g.parents w.parents q p m)))

  pub split-marked : start g r < at → (q : ℕ) → q ≤ r → marked (split g r at) q ≡ marked g q
  unfolding marked split
  split-marked lo q lt =
      ap (λ (k : ℕ). all (λ s. leb k s) (drop q (insert_at (suc r) (second_seen g r at) g.seen))) (split-start q (omega arith)) ∙
      all_insert (λ s. leb (start g q) s) q (suc r) (second_seen g r at) g.seen (omega arith) (omega (arith, w.seen_count)) ∙
      and_idle (leb (start g q) (second_seen g r at)) (all (λ s. leb (start g q) s) (drop q g.seen))
      (λ h. second_has (λ s. leb (start g q) s ≡ true) g r at (le-leb (start g q) at (omega (arith, start_mono g w q r lt (omega arith))))
      (all-from_on (λ s. leb (start g q) s) q r g.seen (omega arith) (omega (arith, w.seen_count)) h))
    where
      and_idle : (x y : Bool) → (y ≡ true → x ≡ true) → x && y ≡ y
      and_idle true y h = refl
      and_idle false true h = h refl
      and_idle false false h = refl

  -- The runs after it move up one, and keep their starts and marks
  pub split-start-later : (q : ℕ) → r < q → start (split g r at) (suc q) ≡ start g q
  unfolding start split
  split-start-later q lt = insert-after (suc r) q at 0 g.starts (omega arith) (omega (arith, w.starts_count))

  pub split-marked-later : (q : ℕ) → r < q → marked (split g r at) (suc q) ≡ marked g q
  unfolding marked split
  split-marked-later q lt =
      ap (λ (k : ℕ). all (λ s. leb k s) (drop (suc q) (insert_at (suc r) (second_seen g r at) g.seen))) (split-start-later q lt) ∙
      ap (all (λ s. leb (start g q) s)) (insert-drop (suc r) q (second_seen g r at) g.seen (omega arith) (omega (arith, w.seen_count)))

-- A grown last run leaves the starts and the marks
pub grown-start : (g : Graph) (ps : List ℕ) (n : ℕ) → WellFormed g → (q : ℕ) → q < runs g → start g q ≡ start (grown g ps n) q
unfolding start grown
grown-start g ps n w q lt =
    sym (get_or-append (take (runs g) g.starts) ((len g + n) ∷ []) 0 q (omega (arith, length-take (runs g) g.starts, w.starts_count)) ∙
    get_or-take (runs g) g.starts q 0 lt)

pub grown-marked : (g : Graph) (ps : List ℕ) (n : ℕ) → WellFormed g → (q : ℕ) → q < runs g → marked g q ≡ marked (grown g ps n) q
unfolding marked grown
grown-marked g ps n w q lt = ap (λ (k : ℕ). all (λ s. leb k s) (drop q g.seen)) (grown-start g ps n w q lt)

-- A mark is listed exactly where it is
pub marks_list : (g : Graph) (q : ℕ) → q < runs g → mem q (marks g) ≡ marked g q
unfolding marks
marks_list g q b = passing_test (marked g) (runs g) q b

-- `changed_from` is no part of a run's state
pub lowered_state : (g h : Graph) (q : ℕ) → run_state h q ≡ run_state (lowered g h) q
unfolding run_state runs start marked lowered
lowered_state g h q = refl

-- A new run leaves those before it
module _ (s : Graph) (ps : List ℕ) (n : ℕ) (w : WellFormed s) where
  pub joined-start : (q : ℕ) → q ≤ runs s → start s q ≡ start (joined s ps n) q
  unfolding start joined
  joined-start q le = sym (get_or-append s.starts ((len s + n) ∷ []) 0 q (omega (arith, w.starts_count)))

  pub joined-parents : (q : ℕ) → q < runs s → get_or s.parents q [] ≡ get_or (joined s ps n).parents q []
  unfolding joined runs
  joined-parents q lt = sym (get_or-append s.parents (parent_runs s ps ∷ []) [] q lt)

  -- Marks can only be lost
  pub joined-marked : (q : ℕ) → q < runs s → marked (joined s ps n) q ≡ true → marked s q ≡ true
  unfolding marked joined
  joined-marked q lt h =
      and_left (all (λ x. leb (start s q) x) (drop q s.seen)) (all (λ x. leb (start s q) x) (new_seen s ps ∷ []))
      (sym (all_both (λ x. leb (start s q) x) (drop q s.seen) (new_seen s ps ∷ [])) ∙
      ap (all (λ x. leb (start s q) x)) (sym (drop-append-le q s.seen (new_seen s ps ∷ []) (omega (arith, w.seen_count)))) ∙
      ap (λ (k : ℕ). all (λ x. leb k x) (drop q (s.seen ++ new_seen s ps ∷ []))) (joined-start q (omega arith)) ∙ h)

  -- A run below the lowest that loses its mark keeps it
  pub joined_keeps : (q : ℕ) → q < (lowered s (joined s ps n)).changed → (q < runs s) × (q < s.changed) × (marked s q ≡ marked (joined s ps n) q)
  unfolding lowered joined
  joined_keeps q lt = (in_runs_lem, omega (arith, low), bool_iff (marked s q) (marked h q) (λ m. go (marked h q) refl m) (joined-marked q in_runs_lem))
    where
      h : Graph
      h = joined s ps n

      lost : List ℕ
      lost = filter (λ r. not (mem r (marks h))) (marks s)

      low : least (min (runs s) s.changed) lost ≤ min (runs s) s.changed
      low = least_le (min (runs s) s.changed) lost

      in_runs_lem : q < runs s
      in_runs_lem = omega (arith, low)

      go : (t : Bool) → marked h q ≡ t → marked s q ≡ true → t ≡ true
      go true e m = refl
      go false e m = absurd (omega (arith, least-mem (min (runs s) s.changed) lost q (listed (marks_list h q (omega (arith, joined-runs s ps n, in_runs_lem)) ∙ e))))
        where
          listed : mem q (marks h) ≡ false → mem q lost ≡ true
          listed k = filter-mem (λ r. not (mem r (marks h))) q (marks s) (marks_list s q in_runs_lem ∙ m) (ap not k)
