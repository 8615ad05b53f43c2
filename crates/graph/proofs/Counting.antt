-- A push's parents counted by where they lie: one more, and the loop over all. Assumes nothing.
use Rattle.std.proofs.Common.{◌≡◌, sym, ap, ◌∙◌, Bool, false, not, List, ℕ, ◌+◌, ◌≤◌, ◌<◌, zero-add, arith, length, drop, get_or, eqb}
use Rattle.lists.specs.Lists.{bit, count}
use Rattle.lists.proofs.Truth.{bit_le}
use Rattle.lists.proofs.Counts.{count_next, count_end}
use Rattle.model.specs.Answers.{containing_at}
use Rattle.model.specs.Graph.{Side, in_run, before, unknown, is_held, is_known}
use Rattle.graph.specs.declared.pushing.ParentCounts.{ParentCounts}
use Rattle.graph.specs.Loops.{side_in, needs_in, count_parent, count_parents}
use Rattle.graph.proofs.Placing.{Found, told-unknown, told-before}
use Rattle.graph.proofs.SplitParts.{needs_not, needs_found}
use Rattle.model.specs.declared.answers.Containing.{Containing}
use Rattle.model.specs.declared.answers.Containing.TheVariants.{Before, Unknown}

-- Counts with one parent more that lies on side s, and splits its run or not
abbrev counted : ParentCounts → Side → Bool → ParentCounts
counted t s splits = record { unknown = t.unknown + bit (not (is_known s)); held = t.held + bit (is_held s); splits = t.splits + bit splits }

-- One parent more
module _ (xs : List ℕ) (n : ℕ) (t : ParentCounts) (p : ℕ) where
  is-counted : (s : Side) (b : Bool) → side_in xs n p ≡ s → needs_in xs n p ≡ b → counted t s b ≡ count_parent xs n t p
  unfolding count_parent
  is-counted s b e f = λ i. counted t (sym e i) (sym f i)

  same : (k : ℕ) → k ≡ k + 0
  same k = omega arith

  -- in run r
  pub count-run : (r : ℕ) → Found xs n p r → {ended : Bool} {o : ℕ} → ended ≡ eqb (p + 1) (get_or xs (r + 1) 0) → o ≡ bit (not ended) →
      ◌≡◌ {A = ParentCounts} (record { unknown = t.unknown; held = t.held + 1; splits = t.splits + o }) (count_parent xs n t p)
  unfolding is_held is_known
  count-run r f {ended} e q =
      (λ i. record { unknown = same t.unknown i; held = t.held + 1; splits = t.splits + q i })
      ∙ is-counted (in_run r) (not ended) f.there (needs_found xs n p r f ∙ ap not (sym e))

  -- not yet known
  pub count-unknown : {a : Containing} → a ≡ containing_at (side_in xs n p) → a ≡ Unknown →
      ◌≡◌ {A = ParentCounts} (record { unknown = t.unknown + 1; held = t.held; splits = t.splits }) (count_parent xs n t p)
  unfolding is_held is_known
  count-unknown e q =
      let s = told-unknown (side_in xs n p) (sym e ∙ q) in
      (λ i. record { unknown = t.unknown + 1; held = same t.held i; splits = same t.splits i })
      ∙ is-counted unknown false s (needs_not xs n p (ap is_held s))

  -- before the graph
  pub count-before : {a : Containing} → a ≡ containing_at (side_in xs n p) → a ≡ Before → t ≡ count_parent xs n t p
  unfolding is_held is_known
  count-before e o =
      let s = told-before (side_in xs n p) e o in
      (λ i. record { unknown = same t.unknown i; held = same t.held i; splits = same t.splits i })
      ∙ is-counted before false s (needs_not xs n p (ap is_held s))

  -- each count grows by one at most
  pub count_most : ((count_parent xs n t p).unknown ≤ t.unknown + 1) × (((count_parent xs n t p).held ≤ t.held + 1) × ((count_parent xs n t p).splits ≤ t.splits + 1))
  unfolding count_parent
  count_most = (
    omega (arith, bit_le (not (is_known (side_in xs n p)))),
    (omega (arith, bit_le (is_held (side_in xs n p))), omega (arith, bit_le (needs_in xs n p))),
  )

-- The counts so far and those of the rest
unfoldable pub plus_counts : ParentCounts → ParentCounts → ParentCounts
plus_counts a b = record { unknown = a.unknown + b.unknown; held = a.held + b.held; splits = a.splits + b.splits }

module _ (xs : List ℕ) (n : ℕ) (ps : List ℕ) where
  pub counts_start : plus_counts (record { unknown = 0; held = 0; splits = 0 }) (count_parents xs n ps) ≡ count_parents xs n ps
  unfolding plus_counts
  counts_start =
      let c = count_parents xs n ps in
      λ i. record { unknown = zero-add c.unknown i; held = zero-add c.held i; splits = zero-add c.splits i }

  pub counts-next : (t : ParentCounts) (i : ℕ) → i < length ps →
      plus_counts (count_parent xs n t (get_or ps i 0)) (count_parents xs n (drop (i + 1) ps)) ≡ plus_counts t (count_parents xs n (drop i ps))
  unfolding plus_counts count_parent count_parents
  counts-next t i h =
      let u : t.unknown + bit (not (is_known (side_in xs n (get_or ps i 0)))) + count (λ p. not (is_known (side_in xs n p))) (drop (i + 1) ps) ≡
      t.unknown + count (λ p. not (is_known (side_in xs n p))) (drop i ps) = omega (arith, count_next (λ p. not (is_known (side_in xs n p))) ps i h) in
      let v : t.held + bit (is_held (side_in xs n (get_or ps i 0))) + count (λ p. is_held (side_in xs n p)) (drop (i + 1) ps) ≡
      t.held + count (λ p. is_held (side_in xs n p)) (drop i ps) = omega (arith, count_next (λ p. is_held (side_in xs n p)) ps i h) in
      let w : t.splits + bit (needs_in xs n (get_or ps i 0)) + count (λ p. needs_in xs n p) (drop (i + 1) ps) ≡
      t.splits + count (λ p. needs_in xs n p) (drop i ps) = omega (arith, count_next (λ p. needs_in xs n p) ps i h) in
      λ j. record { unknown = u j; held = v j; splits = w j }

  pub counts_end : (t : ParentCounts) (i : ℕ) → length ps ≤ i → plus_counts t (count_parents xs n (drop i ps)) ≡ t
  unfolding plus_counts count_parents
  counts_end t i h =
      let u : t.unknown + count (λ p. not (is_known (side_in xs n p))) (drop i ps) ≡ t.unknown = omega (arith, count_end (λ p. not (is_known (side_in xs n p))) ps i h) in
      let v : t.held + count (λ p. is_held (side_in xs n p)) (drop i ps) ≡ t.held = omega (arith, count_end (λ p. is_held (side_in xs n p)) ps i h) in
      let w : t.splits + count (λ p. needs_in xs n p) (drop i ps) ≡ t.splits = omega (arith, count_end (λ p. needs_in xs n p) ps i h) in
      λ j. record { unknown = u j; held = v j; splits = w j }
