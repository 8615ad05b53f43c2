-- One visit by its parts: what they leave together. Assumes nothing.
use Rattle.std.proofs.Common.{◌≡◌, ap, ◌∙◌, subst, ℕ, ◌-◌, get_or}
use Rattle.std.specs.Prelude.{Some}
use Rattle.tables.specs.Reached.{arrived, Holds}
use Rattle.moves.specs.Moves.{visit_of}
use Rattle.walk.specs.declared.visiting.Progress.{Progress}
use Rattle.walk.specs.Given.{Given, chains_in, places_in, begins_in, members_in, row_for, children_for}
use Rattle.walk.specs.Choose.{index_of}
use Rattle.walk.specs.Readiness.{woken_of, left_after, taken_out}
use Rattle.walk.specs.Turns.{best_in, run_at, visited, Turned}

module _ (g : Given) (t : Progress) (at run : ℕ) (p : at ≡ index_of (best_in g t)) (q : run ≡ get_or t.waits.2 at 0) where
  run_is : run ≡ run_at g t
  unfolding run_at
  run_is = q ∙ ap (λ (i : ℕ). get_or t.waits.2 i 0) p

  -- The steps of its visit
  pub visited_is : visit_of g.starts g.base (members_in g) (begins_in g) t.version (row_for g run) g.chains run ≡ visited g t
  unfolding visited
  visited_is = ap (λ (r : ℕ). visit_of g.starts g.base (members_in g) (begins_in g) t.version (row_for g r) g.chains r) run_is

  pub turned : {u : Progress} →
      Holds (arrived (row_for g run) (get_or (chains_in g) run 0) (get_or (places_in g) run 0)) g.chains u.version →
      u.waits ≡ woken_of (t.waits.0 - 1, t.waits.1, taken_out t.waits.2 t.waits.0 at) (children_for g run) run g.known g.first g.runs t.left →
      u.left ≡ left_after run g.known g.first t.left → u.last ≡ Some run → Turned g t u
  turned {u} b e f l = record {
    version = subst (λ (r : ℕ). Holds (arrived (row_for g r) (get_or (chains_in g) r 0) (get_or (places_in g) r 0)) g.chains u.version) run_is b;
    woken = subst (λ (r : ℕ). u.waits ≡ woken_of (t.waits.0 - 1, t.waits.1, taken_out t.waits.2 t.waits.0 (index_of (best_in g t))) (children_for g r) r g.known g.first g.runs t.left) run_is
        (subst (λ (i : ℕ). u.waits ≡ woken_of (t.waits.0 - 1, t.waits.1, taken_out t.waits.2 t.waits.0 i) (children_for g run) run g.known g.first g.runs t.left) p e);
    left = f ∙ ap (λ (r : ℕ). left_after r g.known g.first t.left) run_is;
    last = l ∙ ap Some run_is;
  }
