-- The lookups in the words of the code's tests: what is refused, and what is read. Assumes nothing.
use Rattle.std.proofs.Common.{◌≡◌, refl, ◌∙◌, Bool, true, false, ◌&&◌, List, [], ◌∷◌, ℕ, zero, suc, ◌+◌, ◌-◌, ◌<◌, ◌≤◌, add-one, arith, length, take, get_or, length-take, get_or-take, ltb}
use Rattle.std.proofs.Common.{ltb-true, eq-eqb}
use Rattle.lists.specs.Lists.{rising, below, all, mem}
use Rattle.lists.specs.Areas.{pad, part}
use Rattle.lists.specs.Scans.{groups_fit}
use Rattle.lists.proofs.Truth.{and_left, and_right, or_left}
use Rattle.lists.proofs.Groups.{climbs-at, length_part, part-take, group_at}
use Rattle.lists.proofs.Rising.{rising_tail, rising_above}
use Rattle.model.specs.declared.record.CausalGraph.{CausalGraph}
use Rattle.model.specs.declared.answers.Refusal.TheVariants.{Broken, Outside}
use Rattle.model.specs.Refusals.{first_of}
use Rattle.model.specs.Graph.{runs}
use Rattle.model.specs.Record.{view}
use Rattle.model.specs.Broken.{broken, Held}
use Rattle.model.specs.Lookups.{lookup}
use Rattle.model.proofs.Stored.{not-broken, clauses_of}
use Rattle.graph.proofs.Views.{facts, runs-view}
use Rattle.std.specs.Prelude.{Ok, Err}

-- The two tests of a lookup
module _ (g : CausalGraph) where
  pub look_broken : broken g ≡ true → (outside : Bool) → lookup g outside ≡ Err Broken
  unfolding lookup first_of
  look_broken e outside = rw e

  pub look_outside : broken g ≡ false → (outside : Bool) → outside ≡ true → lookup g outside ≡ Err Outside
  unfolding lookup first_of
  look_outside e outside o = rw (e, o)

  pub look_done : broken g ≡ false → (outside : Bool) → outside ≡ false → lookup g outside ≡ Ok tt
  unfolding lookup first_of
  look_done e outside o = rw (e, o)

-- A run's parents

-- numbers from lo on that rise below n are no more than there are
rising-room : (lo n : ℕ) (l : List ℕ) → rising l ≡ true → below n l ≡ true → ((z : ℕ) → mem z l ≡ true → lo ≤ z) → length l ≤ n - lo
unfolding below all mem
rising-room lo n [] r b h = omega arith
rising-room lo n (x ∷ xs) r b h =
    let low : lo ≤ x = h x (or_left (mem x xs) (eq-eqb x x refl)) in
    omega (
      arith,
      ltb-true x n (and_left (ltb x n) (all (λ y. ltb y n) xs) b),
      rising-room (suc lo) n xs (rising_tail x xs r) (and_right (ltb x n) (all (λ y. ltb y n) xs) b) (λ z m. omega (arith, rising_above x xs r z m)),
    )

-- a group that fits has no more items than its number
fits-at : (k i : ℕ) (xs : List (List ℕ)) → groups_fit k xs ≡ true → i < length xs → length (get_or xs i []) ≤ k + i
unfolding groups_fit
fits-at k i [] e h = absurd (omega arith)
fits-at k zero (x ∷ xs) e h =
    let p = and_left (rising x && below k x) (groups_fit (suc k) xs) e in
    omega (arith, rising-room 0 k x (and_left (rising x) (below k x) p) (and_right (rising x) (below k x) p) (λ z m. omega arith))
fits-at k (suc i) (x ∷ xs) e h = omega (arith, fits-at (suc k) i xs (and_right (rising x && below k x) (groups_fit (suc k) xs) e) (omega arith))

module _ (g : CausalGraph) (held : Held g) (run : ℕ) (h : run < g.run_count) where
  starts_in_lem : suc run < length (take (g.run_count + 1) g.parent_starts)
  starts_in_lem = simp length-take (omega (arith, (facts g held).runs, (facts g held).sized.parent_starts))

  start_here : get_or (take (g.run_count + 1) g.parent_starts) run 0 ≡ get_or g.parent_starts run 0
  start_here = get_or-take (g.run_count + 1) g.parent_starts run 0 (omega arith)

  start-next : get_or (take (g.run_count + 1) g.parent_starts) (suc run) 0 ≡ get_or g.parent_starts (run + 1) 0
  start-next = get_or-take (g.run_count + 1) g.parent_starts (suc run) 0 (omega arith) ∙ rw (add-one run)

  -- their places
  pub group_bounds :
      (get_or g.parent_starts run 0 ≤ get_or g.parent_starts (run + 1) 0) × (get_or g.parent_starts (run + 1) 0 ≤ g.entry_count)
  group_bounds =
      rw (← start_here, ← start-next)
      (climbs-at g.entry_count (take (g.run_count + 1) g.parent_starts) (clauses_of g (not-broken g held)).groups_climb run starts_in_lem)

  pub group_end : get_or g.parent_starts (run + 1) 0 ≤ length g.parents
  group_end = omega (arith, group_bounds.1, (facts g held).entries, (facts g held).sized.parents)

  -- what stands there
  pub group_view : get_or (view g).parents run [] ≡ part (get_or g.parent_starts run 0) (get_or g.parent_starts (run + 1) 0) g.parents
  unfolding view
  group_view =
      rw (
        group_at (take (g.run_count + 1) g.parent_starts) (take g.entry_count g.parents) run starts_in_lem,
        start_here,
        start-next,
      )
      (part-take _ _ g.entry_count g.parents group_bounds.1)

  pub group_short : length (part (get_or g.parent_starts run 0) (get_or g.parent_starts (run + 1) 0) g.parents) ≤ 512
  unfolding runs
  group_short = rw (← group_view) (omega (arith, fits-at 0 run (view g).parents held.formed.parents (omega (arith, runs-view g held)), (facts g held).runs))

  pub group_count : get_or g.parent_starts (run + 1) 0 - get_or g.parent_starts run 0 ≡ length (get_or (view g).parents run [])
  group_count =
      rw group_view
      (omega (
        arith,
        length_part (get_or g.parent_starts run 0) (get_or g.parent_starts (run + 1) 0) g.parents group_bounds.0 group_end,
        group_bounds.0,
      ))

-- A list as it is answered, runs or events
pub listed-done : {A : Type 0} (answer : List ℕ → ℕ → A) (items : List ℕ) (n : ℕ) (l : List ℕ) → items ≡ pad 512 l → n ≡ length l →
    answer items n ≡ answer (pad 512 l) (length l)
listed-done answer items n l p q = λ i. answer (p i) (q i)
