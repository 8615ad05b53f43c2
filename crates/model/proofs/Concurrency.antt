-- The concurrency list of a graph tied to a log is the paper's: the runs whose events are concurrent with the run's. Assumes nothing.
use Rattle.std.proofs.Common.{◌≡◌, sym, ap, ◌∙◌, subst, inl, inr, ◌↔◌, true, ℕ, suc, ◌≤◌, ◌<◌, arith, length}
use Rattle.lists.specs.Lists.{mem}
use Rattle.model.specs.declared.record.CausalGraph.{CausalGraph}
use Rattle.model.specs.EventGraph.{HappenedBefore, Concurrent, Lower}
use Rattle.model.specs.Graph.{Graph, runs}
use Rattle.model.specs.Record.{view}
use Rattle.model.specs.History.{run_graph}
use Rattle.model.specs.Beside.{concurrency_list}
use Rattle.model.specs.Log.{Log, run_count, run_start, in_runs, event_graph}
use Rattle.model.specs.Meaning.{ConcurrentRuns}
use Rattle.model.proofs.Ancestry.{path_reaches, ancestor_iff}
use Rattle.model.proofs.Histories.{Reach}
use Rattle.model.proofs.ConcurrencyList.{listed-runs}
use Rattle.model.proofs.Exact.{ancestors}
use Rattle.model.proofs.Runs.{in_is, in_bounds}
use Rattle.model.proofs.Tied.{Tied, step, start-held, Led, led, run_is, ancestors_are}

module _ (g : Graph) (l : Log) (t : Tied g l) (lower : Lower (event_graph l)) where
  -- Events d of run r and e of another run q: d happened before e only if r happened before q
  pub before-runs : (r q d e : ℕ) → q < length l.edges → ¬ (r ≡ q) → in_runs l r (suc r) d ≡ true → in_runs l q (suc q) e ≡ true →
      HappenedBefore (event_graph l) d e → Reach g.parents r q
  before-runs r q d e lt ne m n h =
      let i : (run_start l r ≤ d) × (d < run_start l (suc r)) = in_bounds l r (suc r) d m in
      let j : (run_start l q ≤ e) × (e < run_start l (suc q)) = in_bounds l q (suc q) e n in
      go i j (led g l t e q e d lt j.0 j.1 (path_reaches (event_graph l) lower h e (omega arith)))
    where
      go : (run_start l r ≤ d) × (d < run_start l (suc r)) → (run_start l q ≤ e) × (e < run_start l (suc q)) → Led g l t q e d → Reach g.parents r q
      go i j (inl w) = absurd (ne (sym (run_is g l t r d i.0 i.1) ∙ run_is g l t q d w.0 (omega (arith, w.1, j.1))))
      go i j (inr w) = subst (λ (k : ℕ). Reach g.parents k q) (sym (run_is g l t w.0 d w.2 w.3) ∙ run_is g l t r d i.0 i.1) w.1

  -- and if r happened before q, its first event happened before q's first
  before-starts : (r q : ℕ) → r < length l.edges → q < length l.edges → Reach g.parents r q →
      HappenedBefore (event_graph l) (run_start l r) (run_start l q)
  unfolding ancestors
  before-starts r q ltr lt h =
      let same = run_is g l t r (run_start l r) (omega arith) (step g l t r ltr) in
      (ancestor_iff (event_graph l) lower (run_start l q) (run_start l r)).1
      ((ancestors_are g l t q (run_start l r) lt (start-held g l t r ltr)).1 (subst (λ (k : ℕ). Reach g.parents k q) (sym same) h))

  -- The members of r's list are runs that are concurrent with r in the graph of runs
  members : (r q : ℕ) → r < length l.edges → (mem q (concurrency_list g r) ≡ true) ↔ ((q < length l.edges) × Concurrent (run_graph g.parents) r q)
  unfolding runs
  members r q lt = subst (λ (n : ℕ). (mem q (concurrency_list g r) ≡ true) ↔ ((q < n) × Concurrent (run_graph g.parents) r q)) t.rows
      (listed-runs g t.below r (omega (arith, t.rows)) q)

  -- All events of the two runs are concurrent
  events-apart : (r q d e : ℕ) → r < length l.edges → mem q (concurrency_list g r) ≡ true → in_runs l r (suc r) d ≡ true →
      in_runs l q (suc q) e ≡ true → Concurrent (event_graph l) d e
  events-apart r q d e lt h m n =
      let c = (members r q lt).0 h in
      let i = in_bounds l r (suc r) d m in
      let j = in_bounds l q (suc q) e n in
      record {
        other = λ z. c.1.other (sym (run_is g l t r d i.0 i.1) ∙ rw z (run_is g l t q e j.0 j.1));
        not_before = λ k. c.1.not_before (before-runs r q d e c.0 c.1.other m n k);
        not_after = λ k. c.1.not_after (before-runs q r e d lt (λ z. c.1.other (sym z)) n m k);
      }

  -- and just those runs are listed
  starts_apart : (r q : ℕ) → r < length l.edges →
      (mem q (concurrency_list g r) ≡ true) ↔ ((q < length l.edges) × Concurrent (event_graph l) (run_start l r) (run_start l q))
  starts_apart r q lt = (
    (λ h.
        let run : q < length l.edges = ((members r q lt).0 h).0 in (
          run,
          events-apart r q (run_start l r) (run_start l q) lt h (in_is l r (suc r) (run_start l r) (omega arith) (step g l t r lt))
              (in_is l q (suc q) (run_start l q) (omega arith) (step g l t q run)),
        )),
    (λ h. (members r q lt).1 (
      h.0,
      record {
        other = λ e. h.1.other (ap (run_start l) e);
        not_before = λ k. h.1.not_before (before-starts r q lt h.0 k);
        not_after = λ k. h.1.not_after (before-starts q r h.0 lt k);
      },
    )),
  )

-- The concurrency list on the log
pub concurrent_runs : (g : CausalGraph) (l : Log) → Tied (view g) l → Lower (event_graph l) → ConcurrentRuns g l
unfolding run_count
concurrent_runs g l t lower = record { starts = starts_apart (view g) l t lower; events = events-apart (view g) l t lower }
