-- The concurrency list of a run: its members, and that it is in run order. Assumes nothing.
use Rattle.std.proofs.Common.{◌≡◌, refl, sym, ap, ◌∙◌, ◌↔◌, Bool, true, false, not, cond, ◌&&◌, List, ℕ, ◌<◌, ltb, eqb, ltb-true, lt-ltb, eq-eqb, ne_eqb}
use borrow.Author.Tests.{not-true}
use Rattle.lists.specs.Lists.{bit, upto, mem, occurs, rising}
use Rattle.lists.proofs.Truth.{false_true, not_so, bool_iff, and_left, and_right}
use Rattle.lists.proofs.Counts.{occurs-filter, occurs-upto}
use Rattle.lists.proofs.Rising.{rising-only}
use Rattle.lists.proofs.Passing.{passing, passing_rises}
use Rattle.model.specs.EventGraph.{Concurrent}
use Rattle.model.specs.Graph.{Graph, runs}
use Rattle.model.specs.History.{at, run_graph, histories}
use Rattle.model.specs.Beside.{concurrent_run, concurrency_list}
use Rattle.model.specs.Meaning.{InRunOrder}
use Rattle.model.proofs.Histories.{Below, Reach, history_iff}

-- "neither ancestor nor descendant nor itself", by computing
record Tests (g : Graph) (r q : ℕ) : Type 0 where
  run : q < runs g
  not_ancestor : mem q (at (histories g.parents) r) ≡ false
  not_descendant : mem r (at (histories g.parents) q) ≡ false
  not_itself : eqb q r ≡ false

module _ (g : Graph) (r : ℕ) where
  tests : (q : ℕ) → concurrent_run g r q ≡ true → Tests g r q
  unfolding concurrent_run
  tests q h =
      let hs : List (List ℕ) = histories g.parents in
      let abc = and_left (ltb q (runs g) && not (mem q (at hs r)) && not (mem r (at hs q))) (not (eqb q r)) h in
      let ab = and_left (ltb q (runs g) && not (mem q (at hs r))) (not (mem r (at hs q))) abc in
      record {
        run = ltb-true q (runs g) (and_left (ltb q (runs g)) (not (mem q (at hs r))) ab);
        not_ancestor = not-true (mem q (at hs r)) (and_right (ltb q (runs g)) (not (mem q (at hs r))) ab);
        not_descendant = not-true (mem r (at hs q)) (and_right (ltb q (runs g) && not (mem q (at hs r))) (not (mem r (at hs q))) abc);
        not_itself = not-true (eqb q r) (and_right (ltb q (runs g) && not (mem q (at hs r)) && not (mem r (at hs q))) (not (eqb q r)) h);
      }

  -- The list holds just the concurrent runs
  listed : (q : ℕ) → mem q (concurrency_list g r) ≡ concurrent_run g r q
  unfolding concurrency_list
  listed q = bool_iff (mem q (concurrency_list g r)) (concurrent_run g r q)
      (λ m. ((passing (concurrent_run g r) (runs g) q).0 m).1)
      (λ h. (passing (concurrent_run g r) (runs g) q).1 ((tests q h).run, h))

  -- each once
  once : (q : ℕ) → occurs q (concurrency_list g r) ≡ bit (concurrent_run g r q)
  unfolding concurrency_list
  once q =
      occurs-filter (concurrent_run g r) q (upto (runs g)) ∙
      (ap (λ (n : ℕ). cond (concurrent_run g r q) n 0) (occurs-upto q (runs g)) ∙ go (concurrent_run g r q) refl)
    where
      go : (t : Bool) → concurrent_run g r q ≡ t → cond t (bit (ltb q (runs g))) 0 ≡ bit t
      go true h = ap bit (lt-ltb q (runs g) (tests q h).run)
      go false h = refl

  -- lowest first
  rises : rising (concurrency_list g r) ≡ true
  unfolding concurrency_list
  rises = passing_rises (concurrent_run g r) (runs g)

  pub in_run-order : InRunOrder g r
  in_run-order = record { once = once; rises = rises; only = λ qs e same. rising-only qs (concurrency_list g r) e rises (λ q. same q ∙ sym (listed q)) }

-- With each parent below its run, the concurrent runs are the paper's, in the graph of runs
module _ (g : Graph) (below : Below g.parents) (r : ℕ) (lt : r < runs g) where
  abbrev hs : List (List ℕ)
  hs = histories g.parents

  -- a history holds the runs that happened before
  in_history : (q s : ℕ) → s < runs g → (mem q (at hs s) ≡ true) ↔ Reach g.parents q s
  unfolding runs
  in_history q s h = history_iff g.parents below q s h

  there : (q : ℕ) → concurrent_run g r q ≡ true → (q < runs g) × Concurrent (run_graph g.parents) r q
  there q h =
      let T : Tests g r q = tests g r q h in (
        T.run,
        record {
          other = λ e. false_true (sym T.not_itself ∙ eq-eqb q r (sym e));
          not_before = λ k. false_true (sym T.not_descendant ∙ (in_history r q T.run).1 k);
          not_after = λ k. false_true (sym T.not_ancestor ∙ (in_history q r lt).1 k);
        },
      )

  back : (q : ℕ) → (q < runs g) × Concurrent (run_graph g.parents) r q → concurrent_run g r q ≡ true
  unfolding concurrent_run
  back q h = rw (
    lt-ltb q (runs g) h.0,
    not_so (mem q (at hs r)) (λ k. h.1.not_after ((in_history q r lt).0 k)),
    not_so (mem r (at hs q)) (λ k. h.1.not_before ((in_history r q h.0).0 k)),
    ne_eqb q r (λ e. h.1.other (sym e)),
  )

  pub listed-runs : (q : ℕ) → (mem q (concurrency_list g r) ≡ true) ↔ ((q < runs g) × Concurrent (run_graph g.parents) r q)
  listed-runs q = ((λ m. there q (sym (listed g r q) ∙ m)), (λ h. listed g r q ∙ back q h))
