-- What the definitions compute, said in the papers' words: reachability, sets and counts. Assumes nothing.
use Rattle.std.specs.Prelude.{◌≡◌, ◌⊎◌, ◌↔◌, Bool, true, false, ◌&&◌, List, [], ◌∷◌, ℕ, suc, ◌+◌, ◌-◌, ◌*◌, ◌≤◌, ◌<◌, length, get_or, take, drop, leb, ltb}
use Rattle.lists.specs.Lists.{bit, count, sum, concat, upto, mem, occurs, rising, largest}
use Rattle.model.specs.declared.record.CausalGraph.{CausalGraph}
use Rattle.model.specs.EventGraph.{EventGraph, HappenedBefore, Concurrent, Lower, ancestor}
use Rattle.model.specs.Graph.{Graph, runs, start, len}
use Rattle.model.specs.Record.{view, Sized}
use Rattle.model.specs.Broken.{broken, WellFormed, Held}
use Rattle.model.specs.Sides.{Sides}
use Rattle.model.specs.History.{at, run_graph, histories}
use Rattle.model.specs.Beside.{concurrent_run, concurrency_list}
use Rattle.model.specs.Choice.{Range, range_of, is_ready, newly_ready}
use Rattle.model.specs.Steps.{Step, retreat, advance, opened, apply, words}
use Rattle.model.specs.Walk.{WalkResult, walk_of}
use Rattle.model.specs.Replay.{replay_of}
use Rattle.model.specs.Log.{Fresh, Call, Log, made_by, run_count, run_start, in_runs, event_graph}

-- Run q happened before run r, along the graph's parents
abbrev pub RunBefore : Graph → ℕ → ℕ → Type 0
RunBefore g q r = HappenedBefore (run_graph g.parents) q r

-- 02, F-2: the concurrency list of run r "shall rise by run number. Its members do not change": each run that is concurrent with r stands in
-- it once, no other number does, and it rises; so it is the only such list
pub record InRunOrder (g : Graph) (r : ℕ) : Type 0 where
  pub once : (q : ℕ) → occurs q (concurrency_list g r) ≡ bit (concurrent_run g r q)
  pub rises : rising (concurrency_list g r) ≡ true
  pub only : (qs : List ℕ) → rising qs ≡ true → ((q : ℕ) → mem q qs ≡ concurrent_run g r q) → qs ≡ concurrency_list g r

-- The concurrency list on the log: q stands in that of run r exactly if it is a run whose first event is concurrent with r's first, in the
-- paper's sense; and then all events of the one are concurrent with all events of the other
pub record ConcurrentRuns (g : CausalGraph) (l : Log) : Type 0 where
  pub starts : (r q : ℕ) → r < run_count l →
      (mem q (concurrency_list (view g) r) ≡ true) ↔ ((q < run_count l) × Concurrent (event_graph l) (run_start l r) (run_start l q))
  pub events : (r q d e : ℕ) → r < run_count l → mem q (concurrency_list (view g) r) ≡ true → in_runs l r (suc r) d ≡ true →
      in_runs l q (suc q) e ≡ true → Concurrent (event_graph l) d e

-- The chains of runs a to b-1, numbered from 0 within the range
pub record Chains (g : Graph) (a b : ℕ) (chains : List (List ℕ)) : Type 0 where
  -- they part the range: each run of it stands in one chain, once, no other number does, and no chain is empty
  pub part : (r : ℕ) → occurs r (concat chains) ≡ bit (ltb r (b - a))
  pub some : (k : ℕ) → k < length chains → 0 < length (at chains k)
  -- each chain rises, and of two runs of a chain the lower happened before the other
  pub rise : (k : ℕ) → rising (at chains k) ≡ true
  pub along : (k q r : ℕ) → mem q (at chains k) ≡ true → mem r (at chains k) ≡ true → q < r → RunBefore g (a + q) (a + r)
  -- "the first chain whose runs it has all seen": of each chain before its own, a run has not seen some lower run
  pub first : (j k r : ℕ) → j < k → mem r (at chains k) ≡ true → (q : ℕ) × (mem q (at chains j) ≡ true) × (q < r) × ¬ RunBefore g (a + q) (a + r)

-- The row of run r of a range: along each chain, how many of its runs are in r's history; an entry for each chain begun with r or before
pub record Row (w : Range) (r : ℕ) : Type 0 where
  pub counts : (k : ℕ) → get_or (at w.rows r) k 0 ≡ count (λ q. mem q (at w.history r)) (at w.chains k)
  pub wide : length (at w.rows r) ≡ count (λ c. leb (get_or c 0 0) r) w.chains

-- Kahn's available run, where the runs below `known` count as visited; and "for runs from `first` on, all of known..first visited". A
-- `first` below `known` asks nothing, as `known` does
pub record Ready (w : Range) (known first : ℕ) (visited : List ℕ) (r : ℕ) : Type 0 where
  pub unknown : known ≤ r
  pub unvisited : mem r visited ≡ false
  pub parents : (p : ℕ) → mem p (at w.parents r) ≡ true → (p < known) ⊎ (mem p visited ≡ true)
  pub firsts : first ≤ r → (k : ℕ) → known ≤ k → k < first → mem k visited ≡ true

-- Event e is one of runs a to b-1
unfoldable pub in_span : Graph → ℕ → ℕ → ℕ → Bool
in_span g a b e = leb (start g a) e && ltb e (start g b)

-- In how many retreats and advances event e is
unfoldable pub times_moved : Graph → List Step → ℕ → ℕ
times_moved g [] e = 0
times_moved g (retreat a b ∷ ss) e = bit (in_span g a b e) + times_moved g ss e
times_moved g (advance a b ∷ ss) e = bit (in_span g a b e) + times_moved g ss e
times_moved g (apply r ∷ ss) e = times_moved g ss e
times_moved g (opened a b ∷ ss) e = times_moved g ss e

-- What a walk or a full replay tells is what it wrote into the lent list: so many steps from its start, the rest as it was. `moved`
-- counts the events in the written retreats and advances: of all events up to the last run's end, in how many of them each is
pub record Told (g : Graph) (lent : List ℕ) (result : WalkResult) : Type 0 where
  pub steps : List Step
  pub counted : result.0.count ≡ length steps
  pub written : take (3 * length steps) result.2 ≡ words steps
  pub rest : drop (3 * length steps) result.2 ≡ drop (3 * length steps) lent
  pub long : length result.2 ≡ length lent
  pub moved : result.0.moved ≡ sum (times_moved g steps) (upto (largest 0 g.starts))

pub record Meaning : Type 0 where
  -- a graph value is broken, or it holds a well-formed graph within the limits, every place past a count 0
  pub unbroken : (g : CausalGraph) → Sized g → (broken g ≡ false) ↔ Held g
  -- a well-formed graph's parents are lower run numbers, and its last run ends at `len`
  pub lower : (g : Graph) → WellFormed g → Lower (run_graph g.parents)
  pub last : (g : Graph) → WellFormed g → largest 0 g.starts ≡ len g
  -- ancestors by computing are the paper's
  pub ancestors : (G : EventGraph) → Lower G → (e p : ℕ) → HappenedBefore G p e ↔ (ancestor G e p ≡ true)
  -- where an event is told to lie
  pub sides : (g : Graph) → WellFormed g → Sides g
  -- a run's history is exactly the runs that happened before it, each once, rising
  pub history : (ps : List (List ℕ)) → Lower (run_graph ps) → (q r : ℕ) → (mem q (at (histories ps) r) ≡ true) ↔ HappenedBefore (run_graph ps) q r
  pub history_rises : (ps : List (List ℕ)) → Lower (run_graph ps) → (r : ℕ) → rising (at (histories ps) r) ≡ true
  -- in a range it is exactly the runs of the range that happened before it in the whole graph: no path leads out of the range and back
  pub range_history : (g : Graph) → WellFormed g → (a b : ℕ) → a ≤ b → b ≤ runs g → (q r : ℕ) → r < b - a →
      (mem q (at (range_of g a b).history r) ≡ true) ↔ RunBefore g (a + q) (a + r)
  -- the concurrency list rises; in a well-formed graph it holds "all runs neither ancestor nor descendant nor itself"
  pub concurrency_order : (g : Graph) (r : ℕ) → InRunOrder g r
  pub concurrency_runs : (g : Graph) → WellFormed g → (r q : ℕ) → r < runs g →
      (mem q (concurrency_list g r) ≡ true) ↔ ((q < runs g) × Concurrent (run_graph g.parents) r q)
  -- and it is the paper's, on the log of the calls that made the graph
  pub concurrency_log : (f : Fresh) (cs : List Call) → ConcurrentRuns (made_by f cs).0 (made_by f cs).1
  -- the chains and the rows of a range
  pub chains : (g : Graph) → WellFormed g → (a b : ℕ) → a ≤ b → b ≤ runs g → Chains g a b (range_of g a b).chains
  pub rows : (g : Graph) → WellFormed g → (a b : ℕ) → a ≤ b → b ≤ runs g → (r : ℕ) → r < b - a → Row (range_of g a b) r
  -- the ready runs, and those that join the ready list, "in run order"
  pub ready : (w : Range) (known first : ℕ) (visited : List ℕ) (r : ℕ) → (is_ready w known first visited r ≡ true) ↔ Ready w known first visited r
  pub newly : (w : Range) (known first : ℕ) (visited listed : List ℕ) (r : ℕ) →
      (mem r (newly_ready w known first visited listed) ≡ true) ↔ ((r < length w.parents) × Ready w known first visited r × (mem r listed ≡ false))
  pub newly_rises : (w : Range) (known first : ℕ) (visited listed : List ℕ) → rising (newly_ready w known first visited listed) ≡ true
  -- what is told, of every graph value, refused or not, whatever room is lent
  pub walk_told : (g : CausalGraph) (a b known first : ℕ) (rows steps : List ℕ) → Told (view g) steps (walk_of g a b known first rows steps)
  pub replay_told : (g : CausalGraph) (rows steps : List ℕ) → Told (view g) steps (replay_of g rows steps)
