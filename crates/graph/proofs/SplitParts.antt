-- Splits in a record's lent arrays: the code's test for a split and its count are the graph's, a turn of the loop over the parents is a
-- split of the graph that the arrays hold, and what that needs. Assumes nothing.
use Rattle.std.proofs.Common.{◌≡◌, refl, sym, ap, ◌∙◌, ◌⊎◌, inl, inr, Bool, true, false, cond, not, List, [], ◌∷◌, ℕ, suc, ◌+◌, ◌≤◌, ◌<◌, ◌^◌, add-one, arith, length, take, get_or, eqb, eq-eqb, ne_eqb}
use Rattle.lists.specs.Lists.{bit, count, filter, rising}
use Rattle.lists.specs.Areas.{pad}
use Rattle.lists.specs.Scans.{last_at_most}
use Rattle.lists.proofs.Truth.{lt_or_le}
use Rattle.lists.proofs.Members.{mem_index}
use Rattle.model.specs.declared.record.CausalGraph.{CausalGraph}
use Rattle.model.specs.Graph.{Graph, runs, start, first_held, len, containing, side, is_held, held}
use Rattle.model.specs.Record.{view, store}
use Rattle.model.specs.Broken.{WellFormed, Held}
use Rattle.model.specs.Split.{split, ends, split_after, splits}
use Rattle.model.proofs.FormedReads.{start_mono, containing_in}
use Rattle.model.proofs.Siding.{side-run, held-between}
use Rattle.model.proofs.FormedSplitAll.{ends-inside}
use Rattle.graph.specs.Loops.{Room, Parts, parts_of, split_in, side_in, needs_in, after_in, Long, SplitFits, AfterFits, with_arrays, with_parts, marked}
use Rattle.graph.proofs.Views.{facts, runs-view, marks-view, start-view, containing-view, marks-pad}
use Rattle.graph.proofs.Placing.{Found, found_in, side-view}
use Rattle.graph.proofs.Testing.{marks-used}
use Rattle.graph.proofs.Parting.{head_in, parent_in, split-stored}
use Rattle.graph.proofs.PartingAll.{needs_split, splits-first, after-stays, Placed, placed, none-split, Going, going_start, going_one, going_on}

-- The test for a split in the code's words: of an event that lies in no run, and of one in run r
pub needs_not : (xs : List ℕ) (n p : ℕ) → is_held (side_in xs n p) ≡ false → needs_in xs n p ≡ false
unfolding needs_in
needs_not xs n p h = rw h

module _ (xs : List ℕ) (n p r : ℕ) (f : Found xs n p r) where
  pub needs_found : needs_in xs n p ≡ not (eqb (p + 1) (get_or xs (r + 1) 0))
  unfolding needs_in is_held
  needs_found = rw (f.there, ← f.is)

  pub needs_ended : {ended : Bool} → ended ≡ eqb (p + 1) (get_or xs (r + 1) 0) → ended ≡ true → needs_in xs n p ≡ false
  needs_ended e q = needs_found ∙ ap not (sym e ∙ q)

  pub needs_inside : {ended : Bool} → ended ≡ eqb (p + 1) (get_or xs (r + 1) 0) → ended ≡ false → needs_in xs n p ≡ true
  needs_inside e q = needs_found ∙ ap not (sym e ∙ q)

-- what is done where it says no, and where yes
pub after_no : (x : Parts) (p : ℕ) → needs_in x.starts x.counts.runs p ≡ false → x ≡ after_in x p
unfolding after_in
after_no x p e = rw e

pub after_yes : (x y : Parts) (p r : ℕ) → r ≡ last_at_most x.starts p x.counts.runs → needs_in x.starts x.counts.runs p ≡ true →
    y ≡ split_in x r (p + 1) → y ≡ after_in x p
unfolding after_in
after_yes x y p r f e q = q ∙ ap (λ (k : ℕ). split_in x k (p + 1)) f ∙ rw e

-- A held event ends a run or the graph exactly if the next run starts after it
ends_next : (a : Graph) → WellFormed a → (p : ℕ) → first_held a ≤ p → p < len a →
    eqb (suc p) (start a (suc (containing a p))) ≡ ends a p
ends_next a f p lo hi = go (ends a p) refl
  where
    go : (t : Bool) → ends a p ≡ t → eqb (suc p) (start a (suc (containing a p))) ≡ t
    go false e = ne_eqb (suc p) (start a (suc (containing a p))) (λ q. omega (arith, ends-inside a f p lo hi e, q))
    go true e =
        let w = containing_in a f p lo hi in
        let j = mem_index (suc p) 0 a.starts (unfold ends in e) in
        eq-eqb (suc p) (start a (suc (containing a p))) (at j.0 (omega (arith, j.1, f.starts_count)) (unfold start in j.2) (lt_or_le (containing a p) j.0) w.0 w.1 w.2)
      where
        at : (j : ℕ) → j ≤ runs a → start a j ≡ suc p → (containing a p < j) ⊎ (j ≤ containing a p) → containing a p < runs a → start a (containing a p) ≤ p →
            p < start a (suc (containing a p)) → suc p ≡ start a (suc (containing a p))
        at j h q (inl l) c u v = omega (arith, start_mono a f (suc (containing a p)) j l h, q, v)
        at j h q (inr l) c u v = absurd (omega (arith, start_mono a f j (containing a p) l (omega arith), q, u))

module _ (g : CausalGraph) (good : Held g) where
  -- the test is the graph's
  pub needs_in_lem : (p : ℕ) → needs_in g.starts g.run_count p ≡ needs_split (view g) p
  needs_in_lem p = go (is_held (side (view g) p)) refl
    where
      go : (t : Bool) → is_held (side (view g) p) ≡ t → needs_in g.starts g.run_count p ≡ needs_split (view g) p
      go false h = needs_not g.starts g.run_count p (ap is_held (side-view g good p) ∙ h) ∙ sym (rw h)
      go true h =
          let b = held-between (view g) p h in
          let c = containing-view g good p b.0 b.1 in
          let w = containing_in (view g) good.formed p b.0 b.1 in
          let s : start (view g) (suc (containing (view g) p)) ≡ get_or g.starts (containing (view g) p + 1) 0 =
          rw (add-one (containing (view g) p)) (start-view g good (suc (containing (view g) p)) (omega (arith, w.0, runs-view g good))) in
          let e : eqb (p + 1) (get_or g.starts (containing (view g) p + 1) 0) ≡ ends (view g) p =
          rw (add-one p, ← s) (ends_next (view g) good.formed p b.0 b.1) in
          needs_found g.starts g.run_count p (containing (view g) p) (found_in g.starts g.run_count p _ (side-view g good p ∙ side-run (view g) p b.0 b.1))
          ∙ ap not e ∙ sym (rw h)

  -- and so is their count
  pub splits_in : (ps : List ℕ) → count (λ p. needs_in g.starts g.run_count p) ps ≡ splits (view g) ps
  unfolding count
  splits_in [] = unfold splits held filter in refl
  splits_in (p ∷ ps) = rw (needs_in_lem p, splits_in ps, one (needs_split (view g) p)) (sym (splits-first (view g) p ps))
    where
      one : (t : Bool) → bit t ≡ cond t 1 0
      one true = refl
      one false = refl

  -- the lengths, and what a split needs
  pub long_of : Long (parts_of g)
  long_of =
      let f = facts g good in
      record { starts = f.sized.starts; heads = f.sized.parent_starts; parents = f.sized.parents; seen = f.sized.seen_prefix_len; runs = f.runs }

  pub fits_of : (r : ℕ) → r < g.run_count → g.run_count < 512 → g.entry_count < 2048 → SplitFits (parts_of g) r
  fits_of r h m n = record { long = long_of; inside = h; more_runs = m; more_entries = n; heads_inside = head_in g good; parents_inside = parent_in g good }

  -- A split in the arrays is a split of the graph
  pub split_parts : (r at : ℕ) → r < g.run_count → with_parts g (split_in (parts_of g) r at) ≡ store (split (view g) r at)
  unfolding with_parts
  split_parts r at h = split-stored g good r at h _ refl

  -- The arrays of a record are its own
  pub with_own : with_parts g (parts_of g) ≡ g
  unfolding with_parts
  with_own =
      let m = sym (marks-used g (facts g good).sized (facts g good).runs) in
      λ i.
      record {
        starts = g.starts;
        parent_starts = g.parent_starts;
        parents = g.parents;
        frontier = g.frontier;
        seen_prefix_len = g.seen_prefix_len;
        critical_versions = (ap (pad 512) m ∙ sym (marks-pad g good)) i;
        run_count = g.run_count;
        entry_count = g.entry_count;
        frontier_count = g.frontier_count;
        mark_count = (ap length m ∙ marks-view g good) i;
        changed_from = g.changed_from;
      }

-- With no splits the record stays
pub none-stored : (g : CausalGraph) → Held g → (ps : List ℕ) → {n : ℕ} → n ≡ splits (view g) ps → n ≡ 0 → g ≡ store (split_after (view g) (held (view g) ps))
none-stored g good ps e z = good.stored ∙ ap store (sym (none-split (view g) ps (sym e ∙ z)))

-- A turn, over the record that the arrays make
module _ (g : CausalGraph) (x : Parts) (good : Held (with_parts g x)) where
  pub with_long : Long x
  unfolding with_parts
  with_long = long_of (with_parts g x) good

  with_rises : rising (take (x.counts.runs + 1) x.starts) ≡ true
  unfolding with_parts view
  with_rises = good.formed.starts

  with_needs : (p : ℕ) → needs_in x.starts x.counts.runs p ≡ needs_split (view (with_parts g x)) p
  unfolding with_parts
  with_needs p = needs_in_lem (with_parts g x) good p

  with_fits : (p : ℕ) → Placed (with_parts g x) p → SplitFits x (last_at_most x.starts p x.counts.runs)
  unfolding with_parts
  with_fits p w = fits_of (with_parts g x) good (last_at_most x.starts p x.counts.runs) w.here w.more_runs w.more_entries

  with_split : (p : ℕ) → Placed (with_parts g x) p →
      with_parts g (split_in x (last_at_most x.starts p x.counts.runs) (p + 1)) ≡ store (split_after (view (with_parts g x)) (held (view (with_parts g x)) (p ∷ [])))
  unfolding with_parts
  with_split p w = split_parts (with_parts g x) good (last_at_most x.starts p x.counts.runs) (p + 1) w.here ∙ ap store (sym w.done)

  module _ (p : ℕ) (room : Room (view (with_parts g x)) (p ∷ [])) where
    needs_here : needs_in x.starts x.counts.runs p ≡ needs_split (view (with_parts g x)) p
    needs_here = with_needs p

    pub after-fits : AfterFits x p
    after-fits = record { long = with_long; rises = with_rises; fits = λ e. with_fits p (placed (with_parts g x) good p room (sym needs_here ∙ e)) }

    pub after-stored : with_parts g (after_in x p) ≡ store (split_after (view (with_parts g x)) (held (view (with_parts g x)) (p ∷ [])))
    after-stored = go (needs_in x.starts x.counts.runs p) refl
      where
        go : (t : Bool) → needs_in x.starts x.counts.runs p ≡ t →
            with_parts g (after_in x p) ≡ store (split_after (view (with_parts g x)) (held (view (with_parts g x)) (p ∷ [])))
        go false e =
            ap (with_parts g) (sym (after_no x p e)) ∙ good.stored ∙ ap store (sym (after-stays (view (with_parts g x)) p (sym needs_here ∙ e)))
        go true e =
            ap (with_parts g) (sym (after_yes x _ p _ refl e refl)) ∙ with_split p (placed (with_parts g x) good p room (sym needs_here ∙ e))

-- `changed_from` of a record that is held fits
pub changed-fits : (g : CausalGraph) (x : Parts) → Held (with_parts g x) → x.counts.changed < 2 ^ 32
unfolding with_parts view
changed-fits g x good = omega (arith, good.formed.changed, runs-view (with_parts g x) good, (facts (with_parts g x) good).runs)

-- The record itself as the arrays

-- its own arrays are no change
pub own_arrays : (g : CausalGraph) → g ≡ with_arrays g (parts_of g)
unfolding with_arrays
own_arrays g = refl

marked-arrays : (g : CausalGraph) (x : Parts) → marked (with_arrays g x) ≡ with_parts g x
unfolding marked with_arrays with_parts
marked-arrays g x = refl

-- one split
pub split-marked : (g : CausalGraph) → Held g → (r at : ℕ) → r < g.run_count → {h : CausalGraph} → h ≡ with_arrays g (split_in (parts_of g) r at) →
    marked h ≡ store (split (view g) r at)
split-marked g good r at h e = ap marked e ∙ marked-arrays g (split_in (parts_of g) r at) ∙ split_parts g good r at h

-- the loop over the parents
pub marked-start : (g : CausalGraph) → Held g → (ps : List ℕ) → Room (view g) ps → Going ps g (marked g) 0
unfolding marked
marked-start g good ps room = rw (with_own g good) (going_start ps g good room)

pub marked-runs : (h : CausalGraph) → Held (marked h) → h.run_count ≤ 512
unfolding marked
marked-runs h good = (with_long h (parts_of h) good).runs

pub marked-fits : (ps : List ℕ) (g h : CausalGraph) (i : ℕ) → i < length ps → Going ps g (marked h) i → AfterFits (parts_of h) (get_or ps i 0)
unfolding marked
marked-fits ps g h i b s = after-fits h (parts_of h) s.is_held_lem (get_or ps i 0) (going_one ps g (with_parts h (parts_of h)) i b s)

marked-after : (ps : List ℕ) (g h : CausalGraph) (i : ℕ) → i < length ps → Going ps g (marked h) i →
    with_parts h (after_in (parts_of h) (get_or ps i 0)) ≡ store (split_after (view (marked h)) (held (view (marked h)) (get_or ps i 0 ∷ [])))
unfolding marked
marked-after ps g h i b s = after-stored h (parts_of h) s.is_held_lem (get_or ps i 0) (going_one ps g (with_parts h (parts_of h)) i b s)

pub marked_on : (ps : List ℕ) (g h k : CausalGraph) (i : ℕ) → i < length ps → Going ps g (marked h) i →
    k ≡ with_arrays h (after_in (parts_of h) (get_or ps i 0)) → Going ps g (marked k) (i + 1)
marked_on ps g h k i b s e =
    going_on ps g (marked h) (marked k) i b s (ap marked e ∙ marked-arrays h (after_in (parts_of h) (get_or ps i 0)) ∙ marked-after ps g h i b s)
