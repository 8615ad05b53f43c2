-- What the definitions mean: histories, ready runs, and all of it together. Assumes nothing.
use Rattle.std.proofs.Common.{◌≡◌, subst, ◌⊎◌, inl, inr, ◌↔◌, Bool, true, false, not, ◌&&◌, ◌||◌, List, [], ℕ, ◌+◌, ◌-◌, ◌≤◌, ◌<◌, arith, length, get_or, ltb, ltb-true, ltb-false, lt-ltb, le-ltb}
use lib.ListN.{get_or-eq_default}
use borrow.Author.Tests.{not-true}
use Rattle.lists.specs.Lists.{mem, rising, largest}
use Rattle.lists.proofs.Truth.{lt_or_le, false_true, and_left, and_right, or_cases, or-first, or-last, or_left, or_right}
use Rattle.lists.proofs.Members.{mem_index}
use Rattle.lists.proofs.Counts.{mem-from, from-mem}
use Rattle.lists.proofs.Passing.{passing, passing_rises}
use Rattle.lists.proofs.Bounds.{largest_has, largest_get}
use Rattle.model.specs.EventGraph.{HappenedBefore, parent, further, Lower}
use Rattle.model.specs.Graph.{Graph, runs, start, len}
use Rattle.model.specs.Record.{view}
use Rattle.model.specs.Broken.{WellFormed}
use Rattle.model.specs.History.{at, run_graph, histories}
use Rattle.model.specs.Range.{parents_in}
use Rattle.model.specs.Choice.{Range, range_of, passed, is_ready, newly_ready}
use Rattle.model.specs.Log.{made_by}
use Rattle.model.specs.Meaning.{RunBefore, Ready, Meaning}
use Rattle.model.proofs.Stored.{unbroken_iff}
use Rattle.model.proofs.FormedReads.{start-len}
use Rattle.model.proofs.Sides.{sides}
use Rattle.model.proofs.Ancestry.{ancestor_iff}
use Rattle.model.proofs.Histories.{fit_below, history-length, history_rises, history_iff, history-is}
use Rattle.model.proofs.Kahn.{ready_when, ready_due, ready-parents, ready-firsts, due}
use Rattle.model.proofs.Chains.{range_chains}
use Rattle.model.proofs.Rows.{range_rows}
use Rattle.model.proofs.Keeping.{lower_of}
use Rattle.model.proofs.Good.{made_good}
use Rattle.model.proofs.ConcurrencyList.{in_run-order, listed-runs}
use Rattle.model.proofs.Concurrency.{concurrent_runs}
use Rattle.model.proofs.Told.{walk_told, replay_told}

-- A number that is no run has no history and no ancestors, so the law holds of every number
history : (ps : List (List ℕ)) → Lower (run_graph ps) → (q r : ℕ) → (mem q (at (histories ps) r) ≡ true) ↔ HappenedBefore (run_graph ps) q r
unfolding at mem
history ps b q r = go (lt_or_le r (length ps))
  where
    none : length ps ≤ r → HappenedBefore (run_graph ps) q r → mem q (at (histories ps) r) ≡ true
    none le (parent h) = false_true (rw (get_or-eq_default ps [] le) at h)
    none le (further h k) = false_true (rw (get_or-eq_default ps [] le) at h)

    go : (r < length ps) ⊎ (length ps ≤ r) → (mem q (at (histories ps) r) ≡ true) ↔ HappenedBefore (run_graph ps) q r
    go (inl lt) = history_iff ps b q r lt
    go (inr le) =
        let out : length (histories ps) ≤ r = omega (arith, history-length ps) in
        ((λ h. false_true (rw (get_or-eq_default (histories ps) [] out) at h)), none le)

-- A well-formed graph's largest start is its last
last : (g : Graph) → WellFormed g → largest 0 g.starts ≡ len g
unfolding len start
last g formed =
    let most : largest 0 g.starts ≤ len g = largest_has (λ x. x ≤ len g) 0 g.starts (omega arith) (λ x m.
    let w : (j : ℕ) × (j < length g.starts) × (get_or g.starts j 0 ≡ x) = mem_index x 0 g.starts m in
    omega (arith, w.2, start-len g formed w.0 (omega (arith, w.1, formed.starts_count)))) in
    omega (arith, most, largest_get g.starts (runs g))

-- The history of a range
range_history : (g : Graph) → WellFormed g → (a b : ℕ) → a ≤ b → b ≤ runs g → (q r : ℕ) → r < b - a →
    (mem q (at (range_of g a b).history r) ≡ true) ↔ RunBefore g (a + q) (a + r)
unfolding range_of runs
range_history g formed a b le fits q r lt =
    let z : a + (b - a) ≡ b = omega arith in
    subst (λ (c : ℕ). (mem q (at (histories (parents_in g a c)) r) ≡ true) ↔ RunBefore g (a + q) (a + r)) z
    (history-is g a (b - a) (omega arith) (fit_below g.parents formed.parents) q r lt)

module _ (w : Range) (known first : ℕ) (visited : List ℕ) where
  -- What is passed is known or visited
  is-passed : (p : ℕ) → (passed known visited p ≡ true) ↔ ((p < known) ⊎ (mem p visited ≡ true))
  unfolding passed
  is-passed p = ((λ h. there (or_cases (ltb p known) (mem p visited) h)), back)
    where
      there : (ltb p known ≡ true) ⊎ (mem p visited ≡ true) → (p < known) ⊎ (mem p visited ≡ true)
      there (inl h) = inl (ltb-true p known h)
      there (inr h) = inr h

      back : (p < known) ⊎ (mem p visited ≡ true) → ltb p known || mem p visited ≡ true
      back (inl h) = or_left (mem p visited) (lt-ltb p known h)
      back (inr h) = or_right (ltb p known) h

  -- A ready run is available, and has waited for the first ones
  ready_there : (r : ℕ) → is_ready w known first visited r ≡ true → Ready w known first visited r
  unfolding due passed
  ready_there r h =
      let d = not-true (ltb r known || mem r visited) (ready_due w known first 0 visited r h) in
      record {
        unknown = ltb-false r known (or-first (ltb r known) (mem r visited) d);
        unvisited = or-last (ltb r known) (mem r visited) d;
        parents = λ p m. (is-passed p).0 (ready-parents w known first 0 visited r h p m);
        firsts = λ le k p q. ready-firsts w known first 0 visited r h le k (from-mem k known (first - known) p (omega arith));
      }

  -- and such a run is ready
  ready_back : (r : ℕ) → Ready w known first visited r → is_ready w known first visited r ≡ true
  unfolding due passed
  ready_back r R =
      ready_when w known first 0 visited r
      (rw (le-ltb r known R.unknown, R.unvisited))
      (λ p m. (is-passed p).1 (R.parents p m))
      (λ le k m. let b = mem-from k known (first - known) m in R.firsts le k b.0 (omega (arith, b.0, b.1)))

  -- Ready runs are Kahn's available ones, with the rule of `first`
  ready : (r : ℕ) → (is_ready w known first visited r ≡ true) ↔ Ready w known first visited r
  ready r = (ready_there r, ready_back r)

  -- The newly ready are the ready runs that are not listed yet, in run order
  newly : (listed : List ℕ) (r : ℕ) →
      (mem r (newly_ready w known first visited listed) ≡ true) ↔ ((r < length w.parents) × Ready w known first visited r × (mem r listed ≡ false))
  unfolding newly_ready
  newly listed r = (there, back)
    where
      test : ℕ → Bool
      test x = is_ready w known first visited x && not (mem x listed)

      there : mem r (newly_ready w known first visited listed) ≡ true → (r < length w.parents) × Ready w known first visited r × (mem r listed ≡ false)
      there m =
          let f = (passing test (length w.parents) r).0 m in (
            f.0,
            ready_there r (and_left (is_ready w known first visited r) (not (mem r listed)) f.1),
            not-true (mem r listed) (and_right (is_ready w known first visited r) (not (mem r listed)) f.1),
          )

      back : (r < length w.parents) × Ready w known first visited r × (mem r listed ≡ false) → mem r (newly_ready w known first visited listed) ≡ true
      back h = (passing test (length w.parents) r).1 (h.0, rw (ready_back r h.1, h.2))

  -- They rise
  newly_rises : (listed : List ℕ) → rising (newly_ready w known first visited listed) ≡ true
  unfolding newly_ready
  newly_rises listed = passing_rises (λ r. is_ready w known first visited r && not (mem r listed)) (length w.parents)

-- What the definitions mean
pub meaning : Meaning
meaning = record {
  unbroken = unbroken_iff;
  lower = λ g formed. fit_below g.parents formed.parents;
  last = last;
  ancestors = ancestor_iff;
  sides = sides;
  history = history;
  history_rises = history_rises;
  range_history = range_history;
  concurrency_order = in_run-order;
  concurrency_runs = λ g formed r q lt. listed-runs g (fit_below g.parents formed.parents) r lt q;
  concurrency_log = λ f cs.
      let G = made_good f cs in
      concurrent_runs (made_by f cs).0 (made_by f cs).1 G.fact.inv.tied (lower_of (view (made_by f cs).0) (made_by f cs).1 G.fact.inv);
  chains = range_chains;
  rows = range_rows;
  ready = ready;
  newly = newly;
  newly_rises = newly_rises;
  walk_told = walk_told;
  replay_told = replay_told;
}
