-- A run split in the record's arrays: one item put into each, and the marks made anew, is the split of the graph that the record holds.
-- Assumes nothing.
use Rattle.std.proofs.Common.{◌≡◌, sym, ap, ◌∙◌, ◌⊎◌, inl, inr, true, cond, List, [], ◌∷◌, ◌++◌, map, ℕ, zero, suc, ◌+◌, ◌≤◌, ◌<◌, min, add-one, arith, length, take, drop, get_or, leb, eqb}
use Rattle.std.proofs.Common.{le-leb}
use mathlib.Core.Path.{fun_ext}
use borrow.Author.Tests.{lt-leb}
use Rattle.lists.specs.Lists.{concat, insert_at, mem, below}
use Rattle.lists.specs.Areas.{pad, group_starts}
use Rattle.lists.specs.Scans.{grow, insert_in, groups_fit}
use Rattle.lists.proofs.Truth.{lt_or_le, false_true, or_cases}
use Rattle.lists.proofs.Members.{get_d_mem, mem-append}
use Rattle.lists.proofs.Bounds.{below_of, below_at}
use Rattle.lists.proofs.Members.{map_leaves}
use Rattle.lists.proofs.Pads.{take-pad, get_pad}
use Rattle.lists.proofs.Groups.{length_group_starts, group_start-low}
use Rattle.lists.proofs.Inserts.{insert-length}
use Rattle.lists.proofs.Inserting.{insert_keep, insert_area, starts-insert, items-insert}
use Rattle.model.specs.declared.record.CausalGraph.{CausalGraph}
use Rattle.model.specs.Graph.{runs, entries, marks}
use Rattle.model.specs.Record.{view, store}
use Rattle.model.specs.Broken.{Held}
use Rattle.model.specs.Split.{renumber, second_seen, split}
use Rattle.model.proofs.Stored.{entries-flat}
use Rattle.model.proofs.FormedSplits.{renumber-below, renumber-from, split_runs, split-entries}
use Rattle.model.proofs.FormedReads.{parents-first}
use Rattle.graph.specs.Loops.{marks_of}
use Rattle.graph.proofs.Views.{runs-view, entries-view, tips_view, seen_count, starts_count, start-view, seen-view, changed-view, starts-pad, heads-pad, parents-pad, frontier-pad, seen-pad}
use Rattle.graph.proofs.Marking.{marks_of_lem}

-- Runs are renumbered as the code shifts them
renumber-grow : (r p : ℕ) → renumber r p ≡ grow r 1 p
unfolding grow
renumber-grow r p = go (lt_or_le p r)
  where
    go : (p < r) ⊎ (r ≤ p) → renumber r p ≡ cond (leb r p) (p + 1) p
    go (inl h) = renumber-below r p h ∙ sym (rw (lt-leb r p h))
    go (inr h) = renumber-from r p h ∙ sym (rw (le-leb r p h) (add-one p))

renumber-is : (r : ℕ) → renumber r ≡ grow r 1
renumber-is r = fun_ext (renumber-grow r)

-- Rows up to the split run name none that moves
row_stays : (r k : ℕ) (ps : List ℕ) → k ≤ r → below k ps ≡ true → map (renumber r) ps ≡ ps
row_stays r k ps h b = map_leaves (renumber r) ps (λ x m. renumber-below r x (omega (arith, below_at k ps b x m)))

rows_split : (k i r : ℕ) (pss : List (List ℕ)) → i < length pss → r ≡ k + i → groups_fit k pss ≡ true →
    insert_at (suc i) (r ∷ []) (map (map (renumber r)) pss) ≡ take (suc i) pss ++ (r ∷ []) ∷ map (map (grow r 1)) (drop (suc i) pss)
unfolding insert_at
rows_split k i r [] h q e = absurd (omega arith)
rows_split k zero r (ps ∷ pss) h q e =
    let w = parents-first k ps pss e in
    rw (row_stays r k ps (omega arith) w.1) (ap (λ (f : ℕ → ℕ). ps ∷ (r ∷ []) ∷ map (map f) pss) (renumber-is r))
rows_split k (suc i) r (ps ∷ pss) h q e =
    let w = parents-first k ps pss e in
    rw (row_stays r k ps (omega arith) w.1) (ap (λ (l : List (List ℕ)). ps ∷ l) (rows_split (suc k) i r pss (omega arith) (omega arith) w.2))

-- Parents name runs below their own, so below the run count
rows-below : (k : ℕ) (pss : List (List ℕ)) → groups_fit k pss ≡ true → below (k + length pss) (concat pss) ≡ true
unfolding concat
rows-below k [] e = below_of (k + 0) [] (λ x m. false_true (unfold mem in m))
rows-below k (ps ∷ pss) e =
    let w = parents-first k ps pss e in
    below_of (k + suc (length pss)) (ps ++ concat pss) (one w.1 (rows-below (suc k) pss w.2))
  where
    one : below k ps ≡ true → below (suc k + length pss) (concat pss) ≡ true → (x : ℕ) → mem x (ps ++ concat pss) ≡ true → x < k + suc (length pss)
    one b c x m = go (or_cases (mem x ps) (mem x (concat pss)) (sym (mem-append x ps (concat pss)) ∙ m))
      where
        go : (mem x ps ≡ true) ⊎ (mem x (concat pss) ≡ true) → x < k + suc (length pss)
        go (inl h) = omega (arith, below_at k ps b x h)
        go (inr h) = omega (arith, below_at (suc k + length pss) (concat pss) c x h)

module _ (g : CausalGraph) (held : Held g) where
  rows-count : length (view g).parents ≡ g.run_count
  rows-count = unfold runs in runs-view g held

  -- A group's start is a place among the entries
  pub head_in : (k : ℕ) → k ≤ g.run_count → get_or g.parent_starts k 0 ≤ g.entry_count
  head_in k h =
      let e : get_or g.parent_starts k 0 ≡ get_or (group_starts 0 (view g).parents) k 0 = ap (λ (x : List ℕ). get_or x k 0) (heads-pad g held) ∙ get_pad 513 (group_starts 0 (view g).parents) k in
      omega (arith, e, group_start-low k (view g).parents (omega (arith, rows-count)), entries-flat (view g), entries-view g held)

  -- An entry is a run
  pub parent_in : (k : ℕ) → k < g.entry_count → get_or g.parents k 0 < g.run_count
  parent_in k h =
      let b = rows-below 0 (view g).parents held.formed.parents in
      let l : k < length (concat (view g).parents) = omega (arith, entries-flat (view g), entries-view g held) in
      let e : get_or g.parents k 0 ≡ get_or (concat (view g).parents) k 0 = ap (λ (x : List ℕ). get_or x k 0) (parents-pad g held) ∙ get_pad 2048 (concat (view g).parents) k in
      omega (arith, e, below_at (0 + length (view g).parents) (concat (view g).parents) b _ (get_d_mem (concat (view g).parents) k 0 l), rows-count)

-- The split in the code's words, with the marks k
abbrev pub split_in : CausalGraph → ℕ → ℕ → List ℕ → CausalGraph
split_in g r at k =
    record {
      starts = insert_in (g.run_count + 1) (r + 1) at (grow 0 0) g.starts;
      parent_starts = insert_in (g.run_count + 1) (r + 1) (get_or g.parent_starts (r + 1) 0) (grow 0 1) g.parent_starts;
      parents = insert_in g.entry_count (get_or g.parent_starts (r + 1) 0) r (grow r 1) g.parents;
      frontier = g.frontier;
      seen_prefix_len = insert_in g.run_count (r + 1) (cond (eqb (get_or g.seen_prefix_len r 0) (get_or g.starts r 0)) at (get_or g.seen_prefix_len r 0)) (grow 0 0) g.seen_prefix_len;
      critical_versions = pad 512 k;
      run_count = g.run_count + 1;
      entry_count = g.entry_count + 1;
      frontier_count = g.frontier_count;
      mark_count = length k;
      changed_from = record { 0 = min r g.changed_from.0 };
    }

module _ (g : CausalGraph) (held : Held g) (r at : ℕ) (in_runs_lem : r < g.run_count) where
  second_is : cond (eqb (get_or g.seen_prefix_len r 0) (get_or g.starts r 0)) at (get_or g.seen_prefix_len r 0) ≡ second_seen (view g) r at
  unfolding second_seen
  second_is = rw (seen-view g held r in_runs_lem, start-view g held r (omega arith))

  starts-put : insert_in (g.run_count + 1) (r + 1) at (grow 0 0) g.starts ≡ pad 513 (insert_at (suc r) at (view g).starts)
  starts-put =
      insert_area 513 (g.run_count + 1) (r + 1) at (grow 0 0) g.starts (view g).starts (starts-pad g held) (omega (arith, starts_count g held)) (omega arith)
      ∙ ap (pad 513) (insert_keep (r + 1) at (view g).starts)
      ∙ rw (add-one r)

  seen-put :
      insert_in g.run_count (r + 1) (cond (eqb (get_or g.seen_prefix_len r 0) (get_or g.starts r 0)) at (get_or g.seen_prefix_len r 0)) (grow 0 0) g.seen_prefix_len ≡
      pad 512 (insert_at (suc r) (second_seen (view g) r at) (view g).seen)
  seen-put =
      ap (λ (v : ℕ). insert_in g.run_count (r + 1) v (grow 0 0) g.seen_prefix_len) second_is
      ∙ insert_area 512 g.run_count (r + 1) (second_seen (view g) r at) (grow 0 0) g.seen_prefix_len (view g).seen (seen-pad g held) (omega (arith, seen_count g held)) (omega arith)
      ∙ ap (pad 512) (insert_keep (r + 1) (second_seen (view g) r at) (view g).seen)
      ∙ rw (add-one r)

  -- the rows of the split graph
  new-rows : List (List ℕ)
  new-rows = insert_at (suc r) (r ∷ []) (map (map (renumber r)) (view g).parents)

  new-rows_are : new-rows ≡ take (r + 1) (view g).parents ++ (r ∷ []) ∷ map (map (grow r 1)) (drop (r + 1) (view g).parents)
  unfolding new-rows
  new-rows_are = rw (add-one r) (rows_split 0 r r (view g).parents (omega (arith, rows-count g held)) (omega arith) held.formed.parents)

  later : ℕ
  later = get_or (group_starts 0 (view g).parents) (r + 1) 0

  later-is : get_or g.parent_starts (r + 1) 0 ≡ later
  unfolding later
  later-is = ap (λ (x : List ℕ). get_or x (r + 1) 0) (heads-pad g held) ∙ get_pad 513 (group_starts 0 (view g).parents) (r + 1)

  heads-put : insert_in (g.run_count + 1) (r + 1) (get_or g.parent_starts (r + 1) 0) (grow 0 1) g.parent_starts ≡ pad 513 (group_starts 0 new-rows)
  unfolding later
  heads-put =
      ap (λ (v : ℕ). insert_in (g.run_count + 1) (r + 1) v (grow 0 1) g.parent_starts) later-is
      ∙ insert_area 513 (g.run_count + 1) (r + 1) later (grow 0 1) g.parent_starts (group_starts 0 (view g).parents) (heads-pad g held)
      (omega (arith, rows-count g held, length_group_starts 0 (view g).parents)) (omega arith)
      ∙ ap (pad 513) (sym (starts-insert (r + 1) r 0 (grow r 1) (view g).parents (omega (arith, rows-count g held))))
      ∙ ap (λ (x : List (List ℕ)). pad 513 (group_starts 0 x)) (sym new-rows_are)

  parents-put : insert_in g.entry_count (get_or g.parent_starts (r + 1) 0) r (grow r 1) g.parents ≡ pad 2048 (concat new-rows)
  unfolding later
  parents-put =
      ap (λ (v : ℕ). insert_in g.entry_count v r (grow r 1) g.parents) later-is
      ∙ insert_area 2048 g.entry_count later r (grow r 1) g.parents (concat (view g).parents) (parents-pad g held)
      (omega (arith, entries-flat (view g), entries-view g held)) (omega (arith, head_in g held (r + 1) (omega arith), later-is))
      ∙ ap (pad 2048) (sym (items-insert (r + 1) r (grow r 1) (view g).parents (omega (arith, rows-count g held))))
      ∙ ap (λ (x : List (List ℕ)). pad 2048 (concat x)) (sym new-rows_are)

  -- the marks that the code makes anew
  marks-put :
      (k : List ℕ) →
      k ≡ marks_of 0 (take (g.run_count + 1 + 1) (split_in g r at k).starts) (take (g.run_count + 1) (split_in g r at k).seen_prefix_len) →
      k ≡ marks (split (view g) r at)
  unfolding split new-rows
  marks-put k e =
      let n₁ : g.run_count + 1 + 1 ≡ length (insert_at (suc r) at (view g).starts) = omega (arith, insert-length (suc r) at (view g).starts, starts_count g held) in
      let n₂ : g.run_count + 1 ≡ length (insert_at (suc r) (second_seen (view g) r at) (view g).seen) =
      omega (arith, insert-length (suc r) (second_seen (view g) r at) (view g).seen, seen_count g held) in
      let n₃ : length (split (view g) r at).parents ≡ suc g.run_count = unfold runs in (split_runs (view g) r at ∙ ap suc (runs-view g held)) in
      let m = marks_of_lem (split (view g) r at) (omega (arith, n₁, n₂)) (omega (arith, n₂, n₃)) in
      e ∙
      rw (
        starts-put,
        seen-put,
        take-pad (g.run_count + 1 + 1) 513 (insert_at (suc r) at (view g).starts) n₁,
        take-pad (g.run_count + 1) 512 (insert_at (suc r) (second_seen (view g) r at) (view g).seen) n₂,
      ) (sym m)

  -- A split in the record's arrays is a split of the graph
  pub split-stored :
      (k : List ℕ) →
      k ≡ marks_of 0 (take (g.run_count + 1 + 1) (split_in g r at k).starts) (take (g.run_count + 1) (split_in g r at k).seen_prefix_len) →
      split_in g r at k ≡ store (split (view g) r at)
  unfolding store split new-rows
  split-stored k e =
      let m = marks-put k e in
      let n : g.run_count + 1 ≡ runs (split (view g) r at) = omega (arith, split_runs (view g) r at, runs-view g held) in
      let l : g.entry_count + 1 ≡ entries (split (view g) r at) = omega (arith, split-entries (view g) r at, entries-view g held) in
      λ i.
      record {
        starts = starts-put i;
        parent_starts = heads-put i;
        parents = parents-put i;
        frontier = frontier-pad g held i;
        seen_prefix_len = seen-put i;
        critical_versions = pad 512 (m i);
        run_count = n i;
        entry_count = l i;
        frontier_count = sym (tips_view g held) i;
        mark_count = length (m i);
        changed_from = record { 0 = min r (sym (changed-view g held) i) };
      }
