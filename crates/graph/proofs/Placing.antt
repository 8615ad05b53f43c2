-- Where an event lies, by the starts in their array: by comparisons, what the code is told, and that it is the graph's side. Assumes nothing.
use Rattle.std.proofs.Common.{◌≡◌, refl, sym, ap, ◌∙◌, ◌⊎◌, inl, inr, Bool, true, false, cond, List, ℕ, zero, suc, ◌+◌, ◌-◌, ◌≤◌, ◌<◌, arith, length, take, get_or, get_or-take, leb}
use Rattle.std.proofs.Common.{length-take-le, Option, Some, None, MatchOption}
use Rattle.std.specs.List.{EachIndex}
use borrow.Author.Tests.{lt-leb}
use Rattle.lists.specs.Lists.{rising}
use Rattle.lists.proofs.Rising.{rising_get_d}
use Rattle.lists.proofs.Scanning.{last_step, last_is}
use Rattle.lists.specs.Scans.{last_at_most}
use Rattle.lists.proofs.Truth.{lt_or_le}
use Rattle.model.specs.declared.record.CausalGraph.{CausalGraph}
use Rattle.model.specs.declared.record.EventRunIndex.{EventRunIndex}
use Rattle.model.specs.Answers.{containing_at}
use Rattle.model.specs.Graph.{first_held, len, Side, in_run, before, unknown, side, is_held}
use Rattle.model.specs.Record.{view}
use Rattle.model.specs.Broken.{Held}
use Rattle.model.proofs.Siding.{by_before, by_unknown, by_run, by_told, side_before, side-unknown, side-run}
use Rattle.graph.specs.Loops.{side_in}
use Rattle.graph.proofs.Views.{first-view, len-view, containing-view}
use Rattle.model.specs.declared.answers.Containing.{Containing}
use Rattle.model.specs.declared.answers.Containing.TheVariants.{Run, Before, Unknown}

-- The place that a scan finds is below n, or 0
pub last-low : (xs : List ℕ) (e n : ℕ) → last_at_most xs e n ≤ n - 1
unfolding last_at_most
last-low xs e zero = omega arith
last-low xs e (suc n) = go (leb (get_or xs n 0) e) (last-low xs e n)
  where
    go : (b : Bool) → last_at_most xs e n ≤ n - 1 → cond b n (last_at_most xs e n) ≤ suc n - 1
    go true h = omega arith
    go false h = omega arith

module _ (xs : List ℕ) (n e : ℕ) where
  -- The three sides
  pub in_before : e < get_or xs 0 0 → side_in xs n e ≡ before
  unfolding side_in
  in_before h = by_before (get_or xs 0 0) (get_or xs n 0) (last_at_most xs e n) e h

  pub in_unknown : get_or xs 0 0 ≤ e → get_or xs n 0 ≤ e → side_in xs n e ≡ unknown
  unfolding side_in
  in_unknown h k = by_unknown (get_or xs 0 0) (get_or xs n 0) (last_at_most xs e n) e h k

  pub in_run_lem : get_or xs 0 0 ≤ e → e < get_or xs n 0 → side_in xs n e ≡ in_run (last_at_most xs e n)
  unfolding side_in
  in_run_lem h k = by_run (get_or xs 0 0) (get_or xs n 0) (last_at_most xs e n) e h k

-- By the starts in use alone the side is the same
last_used : (xs : List ℕ) (e m k : ℕ) → k ≤ m → last_at_most (take m xs) e k ≡ last_at_most xs e k
unfolding last_at_most
last_used xs e m zero h = refl
last_used xs e m (suc k) h =
    let l : k < m = omega arith in
    rw (get_or-take m xs k 0 l, last_used xs e m k (omega arith))

side_used : (xs : List ℕ) (n e : ℕ) → n < length xs → side_in (take (n + 1) xs) (length (take (n + 1) xs) - 1) e ≡ side_in xs n e
unfolding side_in
side_used xs n e h =
    let l : length (take (n + 1) xs) - 1 ≡ n = omega (arith, length-take-le (n + 1) xs (omega arith)) in
    let h₀ : 0 < n + 1 = omega arith in
    let h₁ : n < n + 1 = omega arith in
    rw (l, get_or-take (n + 1) xs 0 0 h₀, get_or-take (n + 1) xs n 0 h₁, last_used xs e (n + 1) n (omega arith))

pub by_used : (xs : List ℕ) (n e : ℕ) → n < length xs → {a : Containing} →
    a ≡ containing_at (side_in (take (n + 1) xs) (length (take (n + 1) xs) - 1) e) → a ≡ containing_at (side_in xs n e)
by_used xs n e h q = q ∙ ap containing_at (side_used xs n e h)

-- The last start that is at most e, looked for from the end on: none, the end itself, or a run's
abbrev pub LastPlace : List ℕ → ℕ → Option ℕ → Type 0
LastPlace xs e r = MatchOption r (EachIndex xs (λ k. e < get_or xs k 0))
    (λ i. (i < length xs) × (get_or xs i 0 ≤ e) × ((k : ℕ) → i < k → k < length xs → e < get_or xs k 0))

pub at_none : (xs : List ℕ) (e : ℕ) → 0 < length xs → LastPlace xs e None → side_in xs (length xs - 1) e ≡ before
at_none xs e z h = in_before xs (length xs - 1) e (h 0 z)

module _ (xs : List ℕ) (e i : ℕ) (rises : rising xs ≡ true) (h : LastPlace xs e (Some i)) where
  from_first : get_or xs 0 0 ≤ e
  from_first = omega (arith, rising_get_d xs rises 0 i (omega arith) h.0, h.1)

  pub at_end : i + 1 ≡ length xs → side_in xs (length xs - 1) e ≡ unknown
  at_end q =
      let p : length xs - 1 ≡ i = omega arith in
      in_unknown xs (length xs - 1) e from_first (rw p h.1)

  pub at_run : (i + 1 ≡ length xs → ⊥) → side_in xs (length xs - 1) e ≡ in_run i
  at_run q =
      let z : 0 < length xs = omega (arith, h.0) in
      let past : e < get_or xs (length xs - 1) 0 = h.2 (length xs - 1) (omega (arith, h.0)) (omega arith) in
      let stop : last_at_most xs e (length xs) ≡ last_at_most xs e (length xs - 1) = rw (last_step xs e (length xs) z, lt-leb (get_or xs (length xs - 1) 0) e past) in
      in_run_lem xs (length xs - 1) e from_first past ∙ ap in_run (sym (last_is xs e (Some i) h ∙ stop))

-- What is told of an event in a run: the scan found it, below the run count, and the event is below the last start
pub record Found (xs : List ℕ) (n e r : ℕ) : Type 0 where
  pub there : side_in xs n e ≡ in_run r
  pub is : r ≡ last_at_most xs e n
  pub low : r < n
  pub under : e < get_or xs n 0

pub found_in : (xs : List ℕ) (n e r : ℕ) → side_in xs n e ≡ in_run r → Found xs n e r
unfolding side_in
found_in xs n e r q =
    let t = by_told (get_or xs 0 0) (get_or xs n 0) (last_at_most xs e n) e r q in
    record { there = q; is = sym t.2; low = omega (arith, t.2, last-low xs e n, some n t.0 t.1); under = t.1 }
  where
    some : (n : ℕ) → get_or xs 0 0 ≤ e → e < get_or xs n 0 → 0 < n
    some zero h k = absurd (omega arith)
    some (suc n) h k = omega arith

pub found_held : {xs : List ℕ} {n e r : ℕ} → Found xs n e r → is_held (side_in xs n e) ≡ true
unfolding is_held
found_held f = ap is_held f.there

-- The code's answer, by its variants: a run; none, by the numbers of the others
pub told-run : (s : Side) (r : EventRunIndex) → containing_at s ≡ Run r → s ≡ in_run r.0
told-run (in_run k) r q = ap (λ (a : Containing). in_run (run_of a)) q
  where
    run_of : Containing → ℕ
    run_of (Run n) = n.0
    run_of Before = 0
    run_of Unknown = 0
told-run before r q = absurd (let z : ◌≡◌ {A = ℕ} 0 1 = cc in omega arith)
told-run unknown r q = absurd (let z : ◌≡◌ {A = ℕ} 0 1 = cc in omega arith)

pub told-unknown : (s : Side) → containing_at s ≡ Unknown → s ≡ unknown
told-unknown (in_run k) q = absurd (let z : ◌≡◌ {A = ℕ} 0 1 = cc in omega arith)
told-unknown before q = absurd (let z : ◌≡◌ {A = ℕ} 0 1 = cc in omega arith)
told-unknown unknown q = refl

pub found : (xs : List ℕ) (n e : ℕ) {a : Containing} (r : EventRunIndex) → a ≡ containing_at (side_in xs n e) → a ≡ Run r → Found xs n e r.0
found xs n e r q t = found_in xs n e r.0 (told-run (side_in xs n e) r (sym q ∙ t))

pub told-out : (s : Side) {a : Containing} → a ≡ containing_at s → ((x : EventRunIndex) → a ≡ Run x → ⊥) → is_held s ≡ false
unfolding is_held
told-out (in_run r) q o = absurd (o (record { 0 = r }) q)
told-out before q o = refl
told-out unknown q o = refl

pub told-before : (s : Side) {a : Containing} → a ≡ containing_at s → a ≡ Before → s ≡ before
told-before (in_run r) q z = absurd (let w : ◌≡◌ {A = ℕ} 0 1 = cc in omega arith)
told-before before q o = refl
told-before unknown q z = absurd (let w : ◌≡◌ {A = ℕ} 0 1 = cc in omega arith)

-- The side by the arrays of a record that is held is the graph's
pub side-view : (g : CausalGraph) → Held g → (e : ℕ) → side_in g.starts g.run_count e ≡ side (view g) e
side-view g good e = go (lt_or_le e (first_held (view g))) (lt_or_le e (len (view g)))
  where
    go : (e < first_held (view g)) ⊎ (first_held (view g) ≤ e) → (e < len (view g)) ⊎ (len (view g) ≤ e) →
        side_in g.starts g.run_count e ≡ side (view g) e
    go (inl h) k = in_before g.starts g.run_count e (omega (arith, first-view g good)) ∙ sym (side_before (view g) e h)
    go (inr h) (inl k) =
        in_run_lem g.starts g.run_count e (omega (arith, first-view g good)) (omega (arith, len-view g good)) ∙
        ap in_run (sym (containing-view g good e h k)) ∙ sym (side-run (view g) e h k)
    go (inr h) (inr k) =
        in_unknown g.starts g.run_count e (omega (arith, first-view g good)) (omega (arith, len-view g good)) ∙ sym (side-unknown (view g) e h k)

-- so an answer by the graph is one by the arrays
pub by_starts : (g : CausalGraph) → Held g → (e : ℕ) → {a : Containing} → a ≡ containing_at (side (view g) e) → a ≡ containing_at (side_in g.starts g.run_count e)
by_starts g good e q = q ∙ ap containing_at (sym (side-view g good e))
