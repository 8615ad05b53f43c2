-- Each way out of the test of a range. Assumes nothing.
use Rattle.std.proofs.Common.{◌≡◌, true, false, ℕ, ◌-◌, ◌<◌, ◌≤◌, lt-ltb, le-ltb}
use Rattle.model.specs.declared.record.CausalGraph.{CausalGraph}
use Rattle.model.specs.declared.answers.Refusal.TheVariants.{Broken, Outside, KnownTooLong}
use Rattle.model.specs.Refusals.{first_of}
use Rattle.model.specs.Broken.{broken, Held}
use Rattle.model.specs.Walk.{range_outcome}
use Rattle.graph.proofs.Views.{runs-view}
use Rattle.std.specs.Prelude.{Ok, Err}

module _ (g : CausalGraph) (a b known : ℕ) where
  pub range_broken : broken g ≡ true → Err Broken ≡ range_outcome g a b known
  unfolding range_outcome first_of
  range_broken e = rw e

  pub range_reversed : broken g ≡ false → b < a → Err Outside ≡ range_outcome g a b known
  unfolding range_outcome first_of
  range_reversed e p = rw (e, lt-ltb b a p)

  pub range_past : broken g ≡ false → Held g → a ≤ b → g.run_count < b → Err Outside ≡ range_outcome g a b known
  unfolding range_outcome first_of
  range_past e h p q = rw (e, le-ltb b a p, runs-view g h, lt-ltb g.run_count b q)

  pub range_known : broken g ≡ false → Held g → a ≤ b → b ≤ g.run_count → b - a < known → Err KnownTooLong ≡ range_outcome g a b known
  unfolding range_outcome first_of
  range_known e h p q k = rw (e, le-ltb b a p, runs-view g h, le-ltb g.run_count b q, lt-ltb (b - a) known k)

  pub range_inside : broken g ≡ false → Held g → a ≤ b → b ≤ g.run_count → known ≤ b - a → (Ok tt) ≡ range_outcome g a b known
  unfolding range_outcome first_of
  range_inside e h p q k = rw (e, le-ltb b a p, runs-view g h, le-ltb g.run_count b q, le-ltb (b - a) known k)
