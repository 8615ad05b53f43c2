-- A run's parents among the entries of a record that is held. Assumes nothing.
use Rattle.std.proofs.Common.{◌≡◌, refl, sym, true, List, [], ◌∷◌, ℕ, zero, suc, ◌<◌, arith}
use Rattle.lists.specs.Lists.{rising}
use Rattle.lists.specs.Scans.{groups_fit}
use Rattle.lists.proofs.Bounds.{below_of}
use Rattle.model.specs.declared.record.CausalGraph.{CausalGraph}
use Rattle.model.specs.Record.{view}
use Rattle.model.specs.Broken.{Held}
use Rattle.model.specs.History.{at}
use Rattle.model.proofs.Histories.{Below, fit_below}
use Rattle.model.proofs.FormedReads.{parents-first}
use Rattle.graph.specs.Rows.{row, Rows}
use Rattle.graph.proofs.Views.{facts}
use Rattle.graph.proofs.Looking.{group_bounds, group_end, group_view}

-- Groups that fit rise
groups-rise : (k : ℕ) (pss : List (List ℕ)) → groups_fit k pss ≡ true → (r : ℕ) → rising (at pss r) ≡ true
unfolding at
groups-rise k [] h r = unfold rising in refl
groups-rise k (ps ∷ pss) h zero = (parents-first k ps pss h).0
groups-rise k (ps ∷ pss) h (suc r) = groups-rise (suc k) pss (parents-first k ps pss h).2 r

module _ (g : CausalGraph) (held : Held g) where
  -- Each run's parents are below it, and rise
  pub parents-below : Below (view g).parents
  parents-below = fit_below (view g).parents held.formed.parents

  pub parents-rise : (r : ℕ) → rising (at (view g).parents r) ≡ true
  parents-rise r = groups-rise 0 (view g).parents held.formed.parents r

  pub row-view : (run : ℕ) → run < g.run_count → row g.parent_starts g.parents run ≡ at (view g).parents run
  unfolding row at
  row-view run lt = sym (group_view g held run lt)

  -- The rows of all its runs
  pub rows_of : Rows g.parent_starts g.parents g.run_count
  rows_of = record {
    few = (facts g held).runs;
    fits = omega (arith, (facts g held).runs, (facts g held).sized.parent_starts);
    climb = λ r h. (group_bounds g held r h).0;
    inside = λ r h. group_end g held r h;
    low = λ r h. rw (row-view r h) (below_of r (at (view g).parents r) (λ x m. parents-below r x m));
  }
