-- 02, F-4, of two run starts that were made with a list of calls between them. Assumes nothing.
use Rattle.std.specs.Prelude.{◌≡◌, true, List, ◌∷◌, ◌++◌, ℕ, Ok}
use Rattle.model.specs.declared.record.CausalGraph.{CausalGraph}
use Rattle.model.specs.Start.{start_run_at_of}
use Rattle.model.specs.Log.{start_run_at, made_by}
use Rattle.calls.specs.declared.StartedAgain.{StartedAgain}
use Rattle.calls.specs.Words.{calls_after, fresh_in, calls_in, called_by}

-- The graph after the calls that `ws` says, a run start at `at`, and the calls that `between` says
abbrev pub called_again : List ℕ → ℕ → List ℕ → CausalGraph
called_again ws at between = (made_by (fresh_in ws) (calls_in ws ++ start_run_at at ∷ calls_after 0 between)).0

-- Both run starts are those of 01, the first on the graph that the calls of `ws` left, the later on the one above; and "a position that was
-- once told true is told true by any later run start at it, and that later call leaves the graph unchanged"
pub record StartsAgain (ws : List ℕ) (at : ℕ) (between : List ℕ) (r : StartedAgain) : Type 0 where
  pub first : r.first ≡ (start_run_at_of (called_by ws).0 at).answer
  pub given : r.given ≡ called_again ws at between
  pub again : r.again ≡ (start_run_at_of r.given at).answer
  pub left : r.left ≡ (start_run_at_of r.given at).graph
  pub stays : r.first ≡ Ok true → (r.again ≡ Ok true) × (r.left ≡ r.given)
