-- The rows of a held graph's parents, by as many starts as it has runs, and one. Assumes nothing.
use Rattle.std.proofs.Common.{◌≡◌, ◌∙◌, List, ℕ, ◌+◌, ◌-◌, ◌<◌, ◌≤◌, arith, length, get_or, take, length-take, get_or-take}
use Rattle.model.specs.declared.record.CausalGraph.{CausalGraph}
use Rattle.model.specs.Record.{view}
use Rattle.model.specs.Broken.{Held}
use Rattle.model.specs.History.{at}
use Rattle.graph.specs.Rows.{row, Rows}
use Rattle.graph.proofs.Views.{facts}
use Rattle.graph.proofs.Entries.{row-view, rows_of}

-- Of so many starts as reach past a run, its row is the same
row_taken : (starts items : List ℕ) (m r : ℕ) → r + 1 < m → row (take m starts) items r ≡ row starts items r
unfolding row
row_taken starts items m r h = rw (get_or-take m starts r 0 (omega arith), get_or-take m starts (r + 1) 0 h)

module _ (g : CausalGraph) (held : Held g) where
  abbrev starts : List ℕ
  starts = take (g.run_count + 1) g.parent_starts

  pub count_starts : length starts ≡ g.run_count + 1
  count_starts = omega (arith, length-take (g.run_count + 1) g.parent_starts, (rows_of g held).fits)

  pub rows_taken : Rows starts g.parents (length starts - 1)
  rows_taken =
      let n : length starts - 1 ≡ g.run_count = omega (arith, count_starts) in
      let rows : Rows g.parent_starts g.parents g.run_count = rows_of g held in
      let same : (r : ℕ) → r < g.run_count + 1 → get_or starts r 0 ≡ get_or g.parent_starts r 0 = λ r h. get_or-take (g.run_count + 1) g.parent_starts r 0 h in
      rw n (record {
        few = rows.few;
        fits = omega (arith, count_starts);
        climb = λ r h. rw (same r (omega arith), same (r + 1) (omega arith)) (rows.climb r h);
        inside = λ r h. rw (same (r + 1) (omega arith)) (rows.inside r h);
        low = λ r h. rw (row_taken g.parent_starts g.parents (g.run_count + 1) r (omega arith)) (rows.low r h);
      })

  pub taken_view : (r : ℕ) → r < g.run_count → row starts g.parents r ≡ at (view g).parents r
  taken_view r h = row_taken g.parent_starts g.parents (g.run_count + 1) r (omega arith) ∙ row-view g held r h

-- A held graph's runs are within the limit
pub few_runs : (g : CausalGraph) → Held g → g.run_count ≤ 512
few_runs g held = (facts g held).runs
