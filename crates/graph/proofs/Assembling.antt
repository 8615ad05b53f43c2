-- A new run in the record: what the assembled record holds, and what its parts are. Assumes nothing.
use Rattle.std.proofs.Common.{◌≡◌, refl, sym, ap, ◌∙◌, not, cond, List, [], ◌∷◌, ◌++◌, append_assoc, append-nil, ℕ, suc, ◌+◌, ◌-◌, ◌<◌, ◌≤◌, min, arith, length, take, set, replicate}
use Rattle.std.proofs.Common.{length-append}
use lib.ListN.{length-map}
use lib.Seq.{set_at}
use Rattle.lists.specs.Lists.{filter, mem, same, concat}
use Rattle.lists.specs.Areas.{pad, group_starts}
use Rattle.lists.proofs.Counts.{length_snoc}
use Rattle.lists.proofs.Pads.{take-pad}
use Rattle.lists.proofs.Groups.{concat-append, length_group_starts}
use Rattle.model.specs.declared.record.CausalGraph.{CausalGraph}
use Rattle.model.specs.Graph.{Graph, runs, len, first_held, entries, marks}
use Rattle.model.specs.Record.{view, store}
use Rattle.model.specs.Broken.{Held}
use Rattle.model.specs.Push.{staying, parent_runs, new_seen, joined, lowered}
use Rattle.model.proofs.Stored.{entries-flat}
use Rattle.graph.specs.Loops.{marks_of, Joins, own_in, own_all, lower_all, assembled}
use Rattle.graph.proofs.Views.{runs-view, starts_count, seen_count, starts-pad, heads-pad, seen-pad, changed-view}
use Rattle.graph.proofs.Marking.{marks_of_lem}
use Rattle.graph.proofs.Owning.{Owned, own_runs, all-view, own-items, own-seen}
use Rattle.graph.proofs.Lowering.{lower_lost}

-- One more number in an area
add_area : (m k : ℕ) (x l : List ℕ) (v : ℕ) → x ≡ pad m l → k ≡ length l → k < m → set x k v ≡ pad m (l ++ v ∷ [])
unfolding pad
add_area m k x l v e f h =
    let n : m - length l ≡ suc (m - suc (length l)) = omega arith in
    rw (e, n, set_at l 0 (replicate (m - suc (length l)) 0) v k (sym f), length_snoc l v, append_assoc)

-- One more group
starts_snoc : (n : ℕ) (xs : List (List ℕ)) (x : List ℕ) → group_starts n (xs ++ x ∷ []) ≡ group_starts n xs ++ (n + length (concat xs ++ x)) ∷ []
unfolding group_starts concat
starts_snoc n [] x = refl
starts_snoc n (y ∷ xs) x =
    let q : n + length y + length (concat xs ++ x) ≡ n + length ((y ++ concat xs) ++ x) = simp length-append (omega arith) in
    ap (n ∷◌) (starts_snoc (n + length y) xs x ∙ ap (λ (k : ℕ). group_starts (n + length y) xs ++ k ∷ []) q)

concat_snoc : (xs : List (List ℕ)) (x : List ℕ) → concat (xs ++ x ∷ []) ≡ concat xs ++ x
concat_snoc xs x = concat-append xs (x ∷ []) ∙ ap (λ (l : List ℕ). concat xs ++ l) (unfold concat in append-nil x)

-- The assembled record stores a graph with one run more
module _
    (g : CausalGraph)
    (holds : Held g)
    (b : Graph)
    (end s changed : ℕ)
    (own : List ℕ)
    (t : Owned)
    (tips : List ℕ)
    (room : g.run_count < 512)
    (starts : b.starts ≡ (view g).starts ++ end ∷ [])
    (parents : b.parents ≡ (view g).parents ++ own ∷ [])
    (seen : b.seen ≡ (view g).seen ++ s ∷ [])
    (items : t.0 ≡ pad 2048 (concat (view g).parents ++ own))
    (count : t.1.count ≡ length (concat (view g).parents ++ own))
    (frontier : tips ≡ b.frontier)
    (lowest : changed ≡ b.changed) where
  new-starts : set g.starts (g.run_count + 1) end ≡ pad 513 b.starts
  new-starts =
      add_area 513 (g.run_count + 1) g.starts (view g).starts end (starts-pad g holds) (omega (arith, starts_count g holds)) (omega arith)
      ∙ ap (pad 513) (sym starts)

  new-seen : set g.seen_prefix_len g.run_count s ≡ pad 512 b.seen
  new-seen =
      add_area 512 g.run_count g.seen_prefix_len (view g).seen s (seen-pad g holds) (sym (seen_count g holds)) room ∙ ap (pad 512) (sym seen)

  runs_more : g.run_count + 1 ≡ length b.parents
  unfolding runs
  runs_more = omega (arith, runs-view g holds, length_snoc (view g).parents own, ap length parents)

  new-heads : set g.parent_starts (g.run_count + 1) t.1.count ≡ pad 513 (group_starts 0 b.parents)
  unfolding runs
  new-heads =
      let l : g.run_count + 1 ≡ length (group_starts 0 (view g).parents) = omega (arith, runs-view g holds, length_group_starts 0 (view g).parents) in
      let k : t.1.count ≡ 0 + length (concat (view g).parents ++ own) = omega arith in
      add_area 513 (g.run_count + 1) g.parent_starts (group_starts 0 (view g).parents) t.1.count (heads-pad g holds) l (omega arith)
      ∙ ap (pad 513) (ap (λ (m : ℕ). group_starts 0 (view g).parents ++ m ∷ []) k ∙ sym (starts_snoc 0 (view g).parents own) ∙ ap (group_starts 0) (sym parents))

  new_items : concat (view g).parents ++ own ≡ concat b.parents
  new_items = sym (concat_snoc (view g).parents own) ∙ ap concat (sym parents)

  starts_more : g.run_count + 1 + 1 ≡ length b.starts
  starts_more = omega (arith, starts_count g holds, length_snoc (view g).starts end, ap length starts)

  seen_more : g.run_count + 1 ≡ length b.seen
  seen_more = omega (arith, seen_count g holds, length_snoc (view g).seen s, ap length seen)

  new-marks :
      marks_of 0 (take (g.run_count + 1 + 1) (set g.starts (g.run_count + 1) end)) (take (g.run_count + 1) (set g.seen_prefix_len g.run_count s)) ≡
      marks b
  new-marks =
      rw (new-starts, new-seen, take-pad (g.run_count + 1 + 1) 513 b.starts starts_more, take-pad (g.run_count + 1) 512 b.seen seen_more)
      (sym (marks_of_lem b (omega (arith, starts_more, seen_more)) (omega (arith, runs_more, seen_more))))

  pub assembled-stored : assembled g end t tips s changed ≡ store b
  unfolding assembled store runs
  assembled-stored =
      let n : t.1.count ≡ entries b = count ∙ ap length new_items ∙ sym (entries-flat b) in
      let i₂ : t.0 ≡ pad 2048 (concat b.parents) = items ∙ ap (pad 2048) new_items in
      λ i.
      record {
        starts = new-starts i;
        parent_starts = new-heads i;
        parents = i₂ i;
        frontier = pad 512 (frontier i);
        seen_prefix_len = new-seen i;
        critical_versions = pad 512 (new-marks i);
        run_count = runs_more i;
        entry_count = n i;
        frontier_count = length (frontier i);
        mark_count = length (new-marks i);
        changed_from = record { 0 = lowest i };
      }

-- A new run: its parts are what the definition says
module _
    {g : CausalGraph}
    {ps : List ℕ}
    {n start : ℕ}
    {first t : Owned}
    (holds : Held g)
    (at_end : start ≡ len (view g))
    (j : Joins (view g) ps n)
    (begun : first ≡ own_in (concat (view g).parents) (first_held (view g)))
    (done : t ≡ own_all g.starts g.seen_prefix_len g.run_count first ps) where
  own-all : t ≡ own_runs (view g) (own_in (concat (view g).parents) (first_held (view g))) ps
  own-all = done ∙ all-view g holds first ps ∙ ap (λ (x : Owned). own_runs (view g) x ps) begun

  own-count : t.1.count ≡ length (concat (view g).parents ++ parent_runs (view g) ps)
  own-count = ap (λ (x : Owned). x.1.count) own-all ∙ (own-items (view g) ps j.for_entries).1

  pub own-fits : t.1.count ≤ 2048
  unfolding parent_runs
  own-fits =
      omega (arith, simp (length-append, length-map) at own-count, entries-flat (view g), j.for_entries)

  seen-is : {s : ℕ} → s ≡ cond (same ps (view g).frontier) start t.1.seen.0 → s ≡ new_seen (view g) ps
  unfolding new_seen
  seen-is e = e ∙ rw (at_end, own-all, own-seen (view g) holds.formed ps)

  module _ {left : List ℕ} (stay : left ≡ filter (λ e. not (mem e ps)) (view g).frontier) where
    left_is : left ≡ staying (view g) ps
    unfolding staying
    left_is = stay

    pub left-room : length left < 512
    left-room = rw left_is j.for_frontier

    tips_are : {tips : List ℕ} → tips ≡ left ++ (start + n - 1) ∷ [] → tips ≡ staying (view g) ps ++ (len (view g) + n - 1) ∷ []
    tips_are e = e ∙ rw (left_is, at_end)

    -- The record with the new run
    pub joined-stored : {tips : List ℕ} {s from changed : ℕ} {h : CausalGraph} → tips ≡ left ++ (start + n - 1) ∷ [] →
        s ≡ cond (same ps (view g).frontier) start t.1.seen.0 →
        from ≡ min g.run_count g.changed_from.0 →
        changed ≡ lower_all (view g).starts s from (marks (view g)) →
        h ≡ assembled g (start + n) t tips s changed →
        h ≡ store (lowered (view g) (joined (view g) ps n))
    unfolding lowered joined
    joined-stored {tips} {s} {from} {changed} e f q d w =
        let seen = seen-is f in
        let low : from ≡ min (runs (view g)) (view g).changed = q ∙ rw (runs-view g holds, changed-view g holds) in
        let lost : changed ≡ (lowered (view g) (joined (view g) ps n)).changed =
        d
        ∙ ap (λ (x : ℕ). lower_all (view g).starts x from (marks (view g))) seen
        ∙ ap (λ (x : ℕ). lower_all (view g).starts (new_seen (view g) ps) x (marks (view g))) low
        ∙ lower_lost (view g) holds.formed ps n in
        w
        ∙ assembled-stored
        g
        holds
        (lowered (view g) (joined (view g) ps n))
        (start + n)
        s
        changed
        (parent_runs (view g) ps)
        t
        tips
        (omega (arith, runs-view g holds, j.for_runs))
        (ap (λ (x : ℕ). (view g).starts ++ (x + n) ∷ []) (sym at_end))
        refl
        (ap (λ (x : ℕ). (view g).seen ++ x ∷ []) (sym seen))
        (ap (λ (x : Owned). x.0) own-all ∙ (own-items (view g) ps j.for_entries).0)
        own-count
        (tips_are e)
        lost
