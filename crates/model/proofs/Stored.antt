-- Between the record and the graph without padding: what is stored comes back, and a record is not broken exactly if it holds a
-- well-formed graph within the limits. Assumes nothing.
use Rattle.std.proofs.Common.{◌≡◌, refl, sym, ap, ◌∙◌, subst, ◌↔◌, Bool, true, false, ◌&&◌, ◌||◌, ◌+◌, ◌≤◌, ◌<◌, arith, length, take, drop, get_or, get_or-take, length-take-le, ltb, eqb}
use Rattle.std.proofs.Common.{ltb-false, eqb-true, le-ltb, eq-eqb}
use borrow.Author.Tests.{not-false}
use Rattle.lists.specs.Lists.{upto, same, rising, concat, sum}
use Rattle.lists.specs.Areas.{zeros, pad, group_starts, groups, climbs}
use Rattle.lists.proofs.Truth.{and_left, and_right, or-first, or-last}
use Rattle.lists.proofs.Members.{same_eq, same_self}
use Rattle.lists.proofs.Counts.{from-length, filter-length}
use Rattle.lists.proofs.Pads.{length-pad, take-pad, zeros-past-pad, get_pad, padded}
use Rattle.lists.proofs.Groups.{length-concat, length_group_starts, first_group_start, climbs-whole, groups-concat, grouped_of}
use Rattle.model.specs.declared.record.CausalGraph.{CausalGraph}
use Rattle.model.specs.Graph.{Graph, runs, start, first_held, len, entries, marked, marks}
use Rattle.model.specs.Record.{view, store, Sized}
use Rattle.lists.specs.Scans.{groups_fit, between}
use Rattle.model.specs.Broken.{frontier_fits, over_limit, bad_starts, bad_groups, bad_parents, bad_frontier, bad_seen, bad_marks, bad_changed, bad_padding, broken, WellFormed, WithinLimits, Held}

-- The marks are no more than the runs
pub marks-length : (g : Graph) → length (marks g) ≤ runs g
unfolding marks upto
marks-length g = omega (arith, filter-length (marked g) (upto (runs g)), from-length 0 (runs g))

starts-whole : (g : Graph) → WellFormed g → runs g + 1 ≡ length g.starts
starts-whole g formed = omega (arith, formed.starts_count)

group_starts-whole : (g : Graph) → runs g + 1 ≡ length (group_starts 0 g.parents)
unfolding runs
group_starts-whole g = omega (arith, length_group_starts 0 g.parents)

-- The entries are as many as the items of the flat list of parents
pub entries-flat : (g : Graph) → entries g ≡ length (concat g.parents)
unfolding entries
entries-flat g = sym (length-concat g.parents)

-- The view of a stored graph is the graph
pub view-store : (g : Graph) → WellFormed g → view (store g) ≡ g
unfolding view store
view-store g formed =
    let p : groups (take (runs g + 1) (pad 513 (group_starts 0 g.parents))) (take (entries g) (pad 2048 (concat g.parents))) ≡ g.parents =
    rw (take-pad (runs g + 1) 513 (group_starts 0 g.parents) (group_starts-whole g), take-pad (entries g) 2048 (concat g.parents) (entries-flat g)) (groups-concat g.parents) in
    λ i.
    record {
      starts = take-pad (runs g + 1) 513 g.starts (starts-whole g formed) i;
      parents = p i;
      frontier = take-pad (length g.frontier) 512 g.frontier refl i;
      seen = take-pad (runs g) 512 g.seen (sym formed.seen_count) i;
      changed = g.changed;
    }

-- A stored graph within the limits has arrays of their lengths
pub sized_store : (g : Graph) → WellFormed g → WithinLimits g → Sized (store g)
unfolding store
sized_store g formed limits = record {
  starts = length-pad 513 g.starts (omega (arith, starts-whole g formed, limits.runs));
  parent_starts = length-pad 513 (group_starts 0 g.parents) (omega (arith, group_starts-whole g, limits.runs));
  parents = length-pad 2048 (concat g.parents) (omega (arith, entries-flat g, limits.entries));
  frontier = length-pad 512 g.frontier limits.frontier;
  seen_prefix_len = length-pad 512 g.seen (omega (arith, formed.seen_count, limits.runs));
  critical_versions = length-pad 512 (marks g) (omega (arith, marks-length g, limits.runs));
}

-- A stored graph within the limits is held
pub held-store : (g : Graph) → WellFormed g → WithinLimits g → Held (store g)
held-store g formed limits =
    let v = view-store g formed in
    record { stored = rw v; formed = rw v formed; limits = rw v limits }

-- A record that is held has arrays of their lengths
pub sized_held : (g : CausalGraph) → Held g → Sized g
sized_held g held = subst Sized (sym held.stored) (sized_store (view g) held.formed held.limits)

-- Each clause of `broken` denied
pub record Clauses (g : CausalGraph) : Type 0 where
  pub run_count_lem : g.run_count ≤ 512
  pub entry_count : g.entry_count ≤ 2048
  pub frontier_count : g.frontier_count ≤ 512
  pub mark_count : g.mark_count ≤ 512
  pub starts : rising (view g).starts ≡ true
  pub first_group : get_or g.parent_starts 0 0 ≡ 0
  pub groups_climb : climbs g.entry_count (take (g.run_count + 1) g.parent_starts) ≡ true
  pub parents : groups_fit 0 (view g).parents ≡ true
  pub frontier : frontier_fits g.run_count (get_or g.starts g.run_count 0) (view g).frontier ≡ true
  pub seen : between (get_or g.starts 0 0) (view g).starts (view g).seen ≡ true
  pub the_marks : take g.mark_count g.critical_versions ≡ marks (view g)
  pub changed : g.changed_from.0 ≤ g.run_count
  pub past_starts : zeros (drop (g.run_count + 1) g.starts) ≡ true
  pub past_groups : zeros (drop (g.run_count + 1) g.parent_starts) ≡ true
  pub past_parents : zeros (drop g.entry_count g.parents) ≡ true
  pub past_frontier : zeros (drop g.frontier_count g.frontier) ≡ true
  pub past_seen : zeros (drop g.run_count g.seen_prefix_len) ≡ true
  pub past_marks : zeros (drop g.mark_count g.critical_versions) ≡ true

none_of_four : (a b c d : Bool) → a || b || c || d ≡ false → (a ≡ false) × (b ≡ false) × (c ≡ false) × (d ≡ false)
none_of_four a b c d e =
    let e₃ = or-first (a || b || c) d e in
    let e₂ = or-first (a || b) c e₃ in
    (or-first a b e₂, or-last a b e₂, or-last (a || b) c e₃, or-last (a || b || c) d e)

all_of_six :
    (a b c d e f : Bool) → a && b && c && d && e && f ≡ true → (a ≡ true) × (b ≡ true) × (c ≡ true) × (d ≡ true) × (e ≡ true) × (f ≡ true)
all_of_six a b c d e f h =
    let h₅ = and_left (a && b && c && d && e) f h in
    let h₄ = and_left (a && b && c && d) e h₅ in
    let h₃ = and_left (a && b && c) d h₄ in
    let h₂ = and_left (a && b) c h₃ in
    (and_left a b h₂, and_right a b h₂, and_right (a && b) c h₃, and_right (a && b && c) d h₄, and_right (a && b && c && d) e h₅, and_right (a && b && c && d && e) f h)

-- A record that is not broken passes each clause
pub clauses_of : (g : CausalGraph) → broken g ≡ false → Clauses g
unfolding broken over_limit bad_starts bad_groups bad_parents bad_frontier bad_seen bad_marks bad_changed bad_padding
clauses_of g e =
    let early = over_limit g || bad_starts g || bad_groups g || bad_parents g || bad_frontier g in
    let others = early || bad_seen g || bad_marks g || bad_changed g in
    let a = none_of_four early (bad_seen g) (bad_marks g) (bad_changed g) (or-first others (bad_padding g) e) in
    let b = none_of_four (over_limit g || bad_starts g) (bad_groups g) (bad_parents g) (bad_frontier g) a.0 in
    let n = none_of_four (ltb 512 g.run_count) (ltb 2048 g.entry_count) (ltb 512 g.frontier_count) (ltb 512 g.mark_count) (or-first (over_limit g) (bad_starts g) b.0) in
    let o = not-false (eqb (get_or g.parent_starts 0 0) 0 && climbs g.entry_count (take (g.run_count + 1) g.parent_starts)) b.1 in
    let z = all_of_six _ _ _ _ _ _ (not-false _ (or-last others (bad_padding g) e)) in
    record {
      run_count_lem = ltb-false _ _ n.0;
      entry_count = ltb-false _ _ n.1;
      frontier_count = ltb-false _ _ n.2;
      mark_count = ltb-false _ _ n.3;
      starts = not-false _ (or-last (over_limit g) (bad_starts g) b.0);
      first_group = eqb-true _ _ (and_left (eqb (get_or g.parent_starts 0 0) 0) _ o);
      groups_climb = and_right (eqb (get_or g.parent_starts 0 0) 0) _ o;
      parents = not-false _ b.2;
      frontier = not-false _ b.3;
      seen = not-false _ a.1;
      the_marks = same_eq _ _ (not-false _ a.2);
      changed = ltb-false _ _ a.3;
      past_starts = z.0;
      past_groups = z.1;
      past_parents = z.2;
      past_frontier = z.3;
      past_seen = z.4;
      past_marks = z.5;
    }

-- A record that passes each clause is not broken
pub clauses_unbroken : (g : CausalGraph) → Clauses g → broken g ≡ false
unfolding broken over_limit bad_starts bad_groups bad_parents bad_frontier bad_seen bad_marks bad_changed bad_padding
clauses_unbroken g w =
    let m : same (take g.mark_count g.critical_versions) (marks (view g)) ≡ true = rw w.the_marks (same_self _) in
    rw (
      le-ltb 512 g.run_count w.run_count_lem,
      le-ltb 2048 g.entry_count w.entry_count,
      le-ltb 512 g.frontier_count w.frontier_count,
      le-ltb 512 g.mark_count w.mark_count,
      w.starts,
      eq-eqb _ _ w.first_group,
      w.groups_climb,
      w.parents,
      w.frontier,
      w.seen,
      m,
      le-ltb g.run_count g.changed_from.0 w.changed,
      w.past_starts,
      w.past_groups,
      w.past_parents,
      w.past_frontier,
      w.past_seen,
      w.past_marks,
    )

-- A record that is not broken is held
pub held_of : (g : CausalGraph) → Sized g → broken g ≡ false → Held g
unfolding view store runs entries len first_held start
held_of g sized e =
    let w = clauses_of g e in
    let n = g.run_count in
    let runs₁ : n + 1 ≤ 513 = omega (arith, w.run_count_lem) in
    let h₀ : 0 < n + 1 = omega arith in
    let h₁ : n < n + 1 = omega arith in
    let l₁ = length-take-le (n + 1) g.starts (omega (arith, sized.starts)) in
    let l₂ = length-take-le (n + 1) g.parent_starts (omega (arith, sized.parent_starts)) in
    let l₃ = length-take-le g.entry_count g.parents (omega (arith, sized.parents, w.entry_count)) in
    let l₄ = length-take-le g.frontier_count g.frontier (omega (arith, sized.frontier, w.frontier_count)) in
    let l₅ = length-take-le n g.seen_prefix_len (omega (arith, sized.seen_prefix_len, w.run_count_lem)) in
    let l₆ = length-take-le g.mark_count g.critical_versions (omega (arith, sized.critical_versions, w.mark_count)) in
    let b = grouped_of (take (n + 1) g.parent_starts) (take g.entry_count g.parents) (get_or-take (n + 1) g.parent_starts 0 0 h₀ ∙ w.first_group) (rw l₃ w.groups_climb) in
    let r : length (view g).parents ≡ n = omega (arith, b.count) in
    let s : sum (λ ps. length ps) (view g).parents ≡ g.entry_count = sym (length-concat (view g).parents) ∙ ap length b.items ∙ l₃ in
    record {
      stored =
          λ i.
          record {
            starts = padded 513 (n + 1) g.starts _ sized.starts runs₁ w.past_starts refl i;
            parent_starts = padded 513 (n + 1) g.parent_starts _ sized.parent_starts runs₁ w.past_groups (sym b.starts) i;
            parents = padded 2048 g.entry_count g.parents _ sized.parents w.entry_count w.past_parents (sym b.items) i;
            frontier = padded 512 g.frontier_count g.frontier _ sized.frontier w.frontier_count w.past_frontier refl i;
            seen_prefix_len = padded 512 n g.seen_prefix_len _ sized.seen_prefix_len w.run_count_lem w.past_seen refl i;
            critical_versions = padded 512 g.mark_count g.critical_versions _ sized.critical_versions w.mark_count w.past_marks w.the_marks i;
            run_count = sym r i;
            entry_count = sym s i;
            frontier_count = sym l₄ i;
            mark_count = (sym l₆ ∙ ap length w.the_marks) i;
            changed_from = g.changed_from;
          };
      formed =
          record {
            starts_count = omega (arith, l₁, r);
            seen_count = l₅ ∙ sym r;
            starts = w.starts;
            parents = w.parents;
            frontier = rw (r, get_or-take (n + 1) g.starts n 0 h₁) w.frontier;
            seen = rw (get_or-take (n + 1) g.starts 0 0 h₀) w.seen;
            changed = omega (arith, w.changed, r);
          };
      limits = record { runs = omega (arith, w.run_count_lem, r); entries = omega (arith, w.entry_count, s); frontier = omega (arith, w.frontier_count, l₄) };
    }

-- A stored graph within the limits passes each clause
clauses_store : (g : Graph) → WellFormed g → WithinLimits g → Clauses (store g)
unfolding store len first_held start
clauses_store g formed limits =
    let v = view-store g formed in
    record {
      run_count_lem = limits.runs;
      entry_count = limits.entries;
      frontier_count = limits.frontier;
      mark_count = omega (arith, marks-length g, limits.runs);
      starts = rw v formed.starts;
      first_group = get_pad 513 (group_starts 0 g.parents) 0 ∙ first_group_start 0 g.parents;
      groups_climb = rw (take-pad (runs g + 1) 513 (group_starts 0 g.parents) (group_starts-whole g), entries-flat g) (climbs-whole g.parents);
      parents = rw v formed.parents;
      frontier = rw (v, get_pad 513 g.starts (runs g)) formed.frontier;
      seen = rw (v, get_pad 513 g.starts 0) formed.seen;
      the_marks = rw v (take-pad (length (marks g)) 512 (marks g) refl);
      changed = formed.changed;
      past_starts = zeros-past-pad (runs g + 1) 513 g.starts (starts-whole g formed);
      past_groups = zeros-past-pad (runs g + 1) 513 (group_starts 0 g.parents) (group_starts-whole g);
      past_parents = zeros-past-pad (entries g) 2048 (concat g.parents) (entries-flat g);
      past_frontier = zeros-past-pad (length g.frontier) 512 g.frontier refl;
      past_seen = zeros-past-pad (runs g) 512 g.seen (sym formed.seen_count);
      past_marks = zeros-past-pad (length (marks g)) 512 (marks g) refl;
    }

-- A record that is held is not broken
pub not-broken : (g : CausalGraph) → Held g → broken g ≡ false
not-broken g held = ap broken held.stored ∙ clauses_unbroken (store (view g)) (clauses_store (view g) held.formed held.limits)

-- Just the records that are held are not broken
pub unbroken_iff : (g : CausalGraph) → Sized g → (broken g ≡ false) ↔ Held g
unbroken_iff g sized = (held_of g sized, not-broken g)

-- Just the stored graphs that are well-formed and within the limits are not broken
pub unbroken-stored : (g : CausalGraph) → Sized g → (broken g ≡ false) ↔ ((a : Graph) × WellFormed a × WithinLimits a × (g ≡ store a))
unbroken-stored g sized = (there, back)
  where
    there : broken g ≡ false → (a : Graph) × WellFormed a × WithinLimits a × (g ≡ store a)
    there e =
        let held = held_of g sized e in
        (view g, held.formed, held.limits, held.stored)

    back : (a : Graph) × WellFormed a × WithinLimits a × (g ≡ store a) → broken g ≡ false
    back s = ap broken s.3 ∙ not-broken (store s.0) (held-store s.0 s.1 s.2)
