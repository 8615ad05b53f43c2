-- What a record that is held is, place by place: plain bounds, and the reads of the code as reads of its graph. Assumes nothing.
use Rattle.std.proofs.Common.{◌≡◌, refl, sym, ap, ◌∙◌, false, List, ℕ, suc, ◌+◌, ◌-◌, ◌<◌, ◌≤◌, arith, length, take, get_or, get_or-take, leb}
use borrow.Author.Tests.{lt-leb}
use Rattle.lists.specs.Lists.{concat}
use Rattle.lists.specs.Areas.{pad, group_starts}
use Rattle.lists.specs.Scans.{last_at_most}
use Rattle.lists.proofs.Pads.{take-pad}
use Rattle.lists.proofs.Scanning.{last_step, last-count}
use Rattle.model.specs.declared.record.CausalGraph.{CausalGraph}
use Rattle.model.specs.Graph.{runs, start, first_held, len, entries, containing, marks}
use Rattle.model.specs.Record.{view, store, Sized}
use Rattle.model.specs.Broken.{Held}
use Rattle.model.proofs.Stored.{sized_held, marks-length}

-- The counts are within the limits, and the arrays have their lengths
pub record Facts (g : CausalGraph) : Type 0 where
  pub runs : g.run_count ≤ 512
  pub entries : g.entry_count ≤ 2048
  pub tips : g.frontier_count ≤ 512
  pub marked : g.mark_count ≤ 512
  pub sized : Sized g

module _ (g : CausalGraph) (held : Held g) where
  pub runs-view : runs (view g) ≡ g.run_count
  unfolding store
  runs-view = sym (ap (λ (x : CausalGraph). x.run_count) held.stored)

  pub entries-view : entries (view g) ≡ g.entry_count
  unfolding store
  entries-view = sym (ap (λ (x : CausalGraph). x.entry_count) held.stored)

  pub tips_view : length (view g).frontier ≡ g.frontier_count
  unfolding store
  tips_view = sym (ap (λ (x : CausalGraph). x.frontier_count) held.stored)

  pub marks-view : length (marks (view g)) ≡ g.mark_count
  unfolding store
  marks-view = sym (ap (λ (x : CausalGraph). x.mark_count) held.stored)

  pub seen_count : length (view g).seen ≡ g.run_count
  seen_count = held.formed.seen_count ∙ runs-view

  pub starts_count : length (view g).starts ≡ suc g.run_count
  starts_count = held.formed.starts_count ∙ ap suc runs-view

  pub facts : Facts g
  facts = record {
    runs = omega (arith, held.limits.runs, runs-view);
    entries = omega (arith, held.limits.entries, entries-view);
    tips = omega (arith, held.limits.frontier, tips_view);
    marked = omega (arith, marks-length (view g), marks-view, held.limits.runs);
    sized = sized_held g held;
  }

  -- Reads
  pub start-view : (r : ℕ) → r ≤ g.run_count → start (view g) r ≡ get_or g.starts r 0
  unfolding view start
  start-view r h = get_or-take (g.run_count + 1) g.starts r 0 (omega arith)

  pub seen-view : (r : ℕ) → r < g.run_count → get_or (view g).seen r 0 ≡ get_or g.seen_prefix_len r 0
  unfolding view
  seen-view r h = get_or-take g.run_count g.seen_prefix_len r 0 h

  pub first-view : first_held (view g) ≡ get_or g.starts 0 0
  unfolding first_held
  first-view = start-view 0 (omega arith)

  pub len-view : len (view g) ≡ get_or g.starts g.run_count 0
  unfolding len
  len-view = ap (λ (r : ℕ). start (view g) r) runs-view ∙ start-view g.run_count (omega arith)

  -- The run that the scan of the starts finds is the one that holds the event
  pub containing-view : (e : ℕ) → first_held (view g) ≤ e → e < len (view g) → containing (view g) e ≡ last_at_most g.starts e g.run_count
  unfolding containing view
  containing-view e lo hi =
      let n : ℕ = g.run_count in
      let fits : n + 1 ≤ length g.starts = omega (arith, facts.runs, facts.sized.starts) in
      let low : get_or g.starts 0 0 ≤ e = omega (arith, first-view) in
      let found = last-count g.starts (n + 1) e held.formed.starts fits (omega arith) low in
      let before : n + 1 - 1 ≡ n = omega arith in
      let past : leb (get_or g.starts n 0) e ≡ false = lt-leb (get_or g.starts n 0) e (omega (arith, len-view)) in
      let stop : last_at_most g.starts e (n + 1) ≡ last_at_most g.starts e n = rw (last_step g.starts e (n + 1) (omega arith), before, past) in
      omega (arith, found, stop)

  -- The used parts of the arrays
  pub starts_list : (view g).starts ≡ take (g.run_count + 1) g.starts
  unfolding view
  starts_list = refl

  pub frontier_list : (view g).frontier ≡ take g.frontier_count g.frontier
  unfolding view
  frontier_list = refl

  pub seen_list : (view g).seen ≡ take g.run_count g.seen_prefix_len
  unfolding view
  seen_list = refl

  pub changed-view : (view g).changed ≡ g.changed_from.0
  unfolding view
  changed-view = refl

  -- The arrays
  pub starts-pad : g.starts ≡ pad 513 (view g).starts
  unfolding store
  starts-pad = ap (λ (x : CausalGraph). x.starts) held.stored

  pub heads-pad : g.parent_starts ≡ pad 513 (group_starts 0 (view g).parents)
  unfolding store
  heads-pad = ap (λ (x : CausalGraph). x.parent_starts) held.stored

  pub parents-pad : g.parents ≡ pad 2048 (concat (view g).parents)
  unfolding store
  parents-pad = ap (λ (x : CausalGraph). x.parents) held.stored

  pub frontier-pad : g.frontier ≡ pad 512 (view g).frontier
  unfolding store
  frontier-pad = ap (λ (x : CausalGraph). x.frontier) held.stored

  pub seen-pad : g.seen_prefix_len ≡ pad 512 (view g).seen
  unfolding store
  seen-pad = ap (λ (x : CausalGraph). x.seen_prefix_len) held.stored

  pub marks-pad : g.critical_versions ≡ pad 512 (marks (view g))
  unfolding store
  marks-pad = ap (λ (x : CausalGraph). x.critical_versions) held.stored

  pub marks_list : marks (view g) ≡ take g.mark_count g.critical_versions
  marks_list =
      sym (ap (λ (x : List ℕ). take g.mark_count x) marks-pad ∙ take-pad g.mark_count 512 (marks (view g)) (sym marks-view))
