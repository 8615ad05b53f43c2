-- What the loops behind pushes and splits compute, turn by turn, and what they need. The calls are defined in the model crate. Assumes
-- nothing.
use Rattle.std.specs.Prelude.{◌≡◌, Bool, true, cond, not, ◌&&◌, List, [], ◌∷◌, ℕ, ◌+◌, ◌≤◌, ◌<◌, min, max, length, get_or, take, set, leb, ltb, eqb}
use Rattle.lists.specs.Lists.{bit, all, count, rising}
use Rattle.lists.specs.Areas.{pad}
use Rattle.lists.specs.Scans.{insert_in, grow, last_at_most}
use Rattle.model.specs.declared.record.CausalGraph.{CausalGraph}
use Rattle.model.specs.Limits.{max_entries, max_frontier, max_len, max_runs, max_starts}
use Rattle.model.specs.Graph.{Graph, runs, entries, Side, side_by, is_held, is_known, held}
use Rattle.model.specs.Split.{splits}
use Rattle.model.specs.Push.{staying}
use Rattle.graph.specs.declared.growth.Own.{Own}
use Rattle.graph.specs.declared.pushing.ParentCounts.{ParentCounts}

-- the least number, and the largest u32 of none
unfoldable pub lowest : List ℕ → ℕ
lowest [] = max_len
lowest (x ∷ xs) = min x (lowest xs)

-- the runs, the first being run r, of which every run from it on has seen at least its start
unfoldable pub marks_of : ℕ → List ℕ → List ℕ → List ℕ
marks_of r [] ss = []
marks_of r (x ∷ xs) [] = []
marks_of r (x ∷ xs) (s ∷ ss) = cond (all (λ t. leb x t) (s ∷ ss)) (r ∷ marks_of (r + 1) xs ss) (marks_of (r + 1) xs ss)

-- what splits change of a record beside its arrays: the counts of runs and entries, and the first run that may have changed
pub record Counts : Type 0 where
  pub runs : ℕ
  pub entries : ℕ
  pub changed : ℕ

-- the arrays of a record that a split changes, and its counts
pub record Parts : Type 0 where
  pub starts : List ℕ
  pub heads : List ℕ
  pub parents : List ℕ
  pub seen : List ℕ
  pub counts : Counts

abbrev pub parts : List ℕ → List ℕ → List ℕ → List ℕ → Counts → Parts
parts starts heads parents seen c = record { starts = starts; heads = heads; parents = parents; seen = seen; counts = c }

abbrev pub parts_of : CausalGraph → Parts
parts_of g =
    parts g.starts g.parent_starts g.parents g.seen_prefix_len
    (record { runs = g.run_count; entries = g.entry_count; changed = g.changed_from.0 })

-- a run split at an event: one place taken up in each array
abbrev pub split_in : Parts → ℕ → ℕ → Parts
split_in p r at =
    parts
    (insert_in (p.counts.runs + 1) (r + 1) at (grow 0 0) p.starts)
    (insert_in (p.counts.runs + 1) (r + 1) (get_or p.heads (r + 1) 0) (grow 0 1) p.heads)
    (insert_in p.counts.entries (get_or p.heads (r + 1) 0) r (grow r 1) p.parents)
    (insert_in p.counts.runs (r + 1) (cond (eqb (get_or p.seen r 0) (get_or p.starts r 0)) at (get_or p.seen r 0)) (grow 0 0) p.seen)
    (record { runs = p.counts.runs + 1; entries = p.counts.entries + 1; changed = min r p.counts.changed })

-- where event e lies, by the starts of n runs in their array
unfoldable pub side_in : List ℕ → ℕ → ℕ → Side
side_in starts n e = side_by (get_or starts 0 0) (get_or starts n 0) (last_at_most starts e n) e

-- event p is held, and no run, nor the graph, ends in it
unfoldable pub needs_in : List ℕ → ℕ → ℕ → Bool
needs_in starts n p = is_held (side_in starts n p) && not (eqb (p + 1) (get_or starts (last_at_most starts p n + 1) 0))

-- of some parents, how many are not yet known, how many are held, and how many of these split their run; and with one more
unfoldable pub count_parents : List ℕ → ℕ → List ℕ → ParentCounts
count_parents starts n ps = record {
  unknown = count (λ p. not (is_known (side_in starts n p))) ps;
  held = count (λ p. is_held (side_in starts n p)) ps;
  splits = count (λ p. needs_in starts n p) ps;
}

unfoldable pub count_parent : List ℕ → ℕ → ParentCounts → ℕ → ParentCounts
count_parent starts n t p = record {
  unknown = t.unknown + bit (not (is_known (side_in starts n p)));
  held = t.held + bit (is_held (side_in starts n p));
  splits = t.splits + bit (needs_in starts n p);
}

-- then its run is split after it
unfoldable pub after_in : Parts → ℕ → Parts
after_in x p = cond (needs_in x.starts x.counts.runs p) (split_in x (last_at_most x.starts p x.counts.runs) (p + 1)) x

-- the arrays' lengths
pub record Long (x : Parts) : Type 0 where
  pub starts : length x.starts ≡ max_starts
  pub heads : length x.heads ≡ max_starts
  pub parents : length x.parents ≡ max_entries
  pub seen : length x.seen ≡ max_runs
  pub runs : x.counts.runs ≤ max_runs

-- what a split needs: a run, room, and entries that are places and runs
pub record SplitFits (x : Parts) (run : ℕ) : Type 0 where
  pub long : Long x
  pub inside : run < x.counts.runs
  pub more_runs : x.counts.runs < max_runs
  pub more_entries : x.counts.entries < max_entries
  pub heads_inside : (k : ℕ) → k ≤ x.counts.runs → get_or x.heads k 0 ≤ x.counts.entries
  pub parents_inside : (k : ℕ) → k < x.counts.entries → get_or x.parents k 0 < x.counts.runs

pub record AfterFits (x : Parts) (p : ℕ) : Type 0 where
  pub long : Long x
  pub rises : rising (take (x.counts.runs + 1) x.starts) ≡ true
  pub fits : needs_in x.starts x.counts.runs p ≡ true → SplitFits x (last_at_most x.starts p x.counts.runs)

-- a record with other such arrays and counts, its marks left as they were
unfoldable pub with_arrays : CausalGraph → Parts → CausalGraph
with_arrays g x = record {
  starts = x.starts;
  parent_starts = x.heads;
  parents = x.parents;
  frontier = g.frontier;
  seen_prefix_len = x.seen;
  critical_versions = g.critical_versions;
  run_count = x.counts.runs;
  entry_count = x.counts.entries;
  frontier_count = g.frontier_count;
  mark_count = g.mark_count;
  changed_from = record { 0 = x.counts.changed };
}

-- a record with other such arrays and counts, and their marks
unfoldable pub with_parts : CausalGraph → Parts → CausalGraph
with_parts g x =
    let marks : List ℕ = marks_of 0 (take (x.counts.runs + 1) x.starts) (take x.counts.runs x.seen) in
    record {
      starts = x.starts;
      parent_starts = x.heads;
      parents = x.parents;
      frontier = g.frontier;
      seen_prefix_len = x.seen;
      critical_versions = pad max_runs marks;
      run_count = x.counts.runs;
      entry_count = x.counts.entries;
      frontier_count = g.frontier_count;
      mark_count = length marks;
      changed_from = record { 0 = x.counts.changed };
    }

-- a record with the marks that its starts and seen lengths give
unfoldable pub marked : CausalGraph → CausalGraph
marked g = with_parts g (parts_of g)

-- rising parents, and room for their splits and a run more
pub record Room (g : Graph) (ps : List ℕ) : Type 0 where
  pub rises : rising ps ≡ true
  pub for_runs : runs g + splits g ps + 1 ≤ max_runs
  pub for_entries : entries g + splits g ps ≤ max_entries

-- what a new run needs of the graph after the splits
pub record Joins (g : Graph) (ps : List ℕ) (n : ℕ) : Type 0 where
  pub for_runs : runs g < max_runs
  pub for_entries : entries g + length (held g ps) ≤ max_entries
  pub for_frontier : length (staying g ps) < max_frontier
  pub some_events : 0 < n

-- entries in their array with what is known of them, for a list of entries and what has been seen so far
abbrev pub own_in : List ℕ → ℕ → List ℕ × Own
own_in l s = (pad max_entries l, record { count = length l; seen = record { 0 = s } })

-- a parent: its run joins the entries if it is held
unfoldable pub add_own : List ℕ → List ℕ → ℕ → List ℕ × Own → ℕ → List ℕ × Own
add_own starts seen n t p =
    let r : ℕ = last_at_most starts p n in
    let after : ℕ = cond (eqb (get_or seen r 0) (get_or starts r 0)) (get_or starts (r + 1) 0) (get_or seen r 0) in
    cond (is_held (side_in starts n p)) (set t.0 t.1.count r, record { count = t.1.count + 1; seen = record { 0 = max t.1.seen.0 after } }) t

unfoldable pub own_all : List ℕ → List ℕ → ℕ → List ℕ × Own → List ℕ → List ℕ × Own
own_all starts seen n t [] = t
own_all starts seen n t (p ∷ ps) = own_all starts seen n (add_own starts seen n t p) ps

-- the lowest of d and the runs of a list that start past s
unfoldable pub lower_all : List ℕ → ℕ → ℕ → List ℕ → ℕ
lower_all starts s d [] = d
lower_all starts s d (m ∷ ms) = lower_all starts s (cond (ltb s (get_or starts m 0)) (min d m) d) ms

-- the record with one run more
unfoldable pub assembled : CausalGraph → ℕ → List ℕ × Own → List ℕ → ℕ → ℕ → CausalGraph
assembled g end t tips s changed =
    let starts : List ℕ = set g.starts (g.run_count + 1) end in
    let seen : List ℕ = set g.seen_prefix_len g.run_count s in
    let marks : List ℕ = marks_of 0 (take (g.run_count + 1 + 1) starts) (take (g.run_count + 1) seen) in
    record {
      starts = starts;
      parent_starts = set g.parent_starts (g.run_count + 1) t.1.count;
      parents = t.0;
      frontier = pad max_frontier tips;
      seen_prefix_len = seen;
      critical_versions = pad max_runs marks;
      run_count = g.run_count + 1;
      entry_count = t.1.count;
      frontier_count = length tips;
      mark_count = length marks;
      changed_from = record { 0 = changed };
    }
