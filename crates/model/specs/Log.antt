-- 01, "Full replay and the plain set": demand 3's calls, and the plain log, which is fed them and their answers and never reads the
-- graph. Assumes nothing.
use Rattle.std.specs.Prelude.{Bool, true, false, cond, ◌&&◌, List, [], ◌∷◌, map, ℕ, suc, ◌+◌, ◌-◌, length, get_or, leb, ltb, eqb, Ok, Err}
use Rattle.lists.specs.Lists.{filter, same}
use Rattle.model.specs.declared.record.CausalGraph.{CausalGraph}
use Rattle.model.specs.EventGraph.{EventGraph}
use Rattle.model.specs.Fresh.{new_of, after_of}
use Rattle.model.specs.Push.{push_of}
use Rattle.model.specs.Start.{start_run_at_of, take_changed_from_of}
use Rattle.model.specs.Refusals.{OrRefusal, Outcome}
use Rattle.model.specs.declared.record.EventIndex.{EventIndex}
use Rattle.model.specs.declared.record.EventRunIndex.{EventRunIndex}

-- "Fresh: `new`, or `after(events, frontier)`"
pub data Fresh : Type 0 where
  new : Fresh
  after : ℕ → List ℕ → Fresh

-- "pushes, run starts and change takes"
pub data Call : Type 0 where
  push : List ℕ → ℕ → Call
  start_run_at : ℕ → Call
  take_changed_from : Call

-- what each call answers
abbrev pub Answer : Call → Type 0
Answer (push ps n) = OrRefusal (EventIndex × EventIndex)
Answer (start_run_at at) = OrRefusal Bool
Answer take_changed_from = OrRefusal EventRunIndex

-- a fresh graph, and how `after` ended
unfoldable pub begin : Fresh → Outcome × CausalGraph
begin new = (Ok tt, new_of)
begin (after events frontier) = let r = after_of events frontier in (r.answer, r.graph)

-- a call made on a graph: its answer, and the graph it leaves
unfoldable pub answer : CausalGraph → (c : Call) → Answer c × CausalGraph
answer g (push ps n) = let r = push_of g ps n in (r.answer, r.graph)
answer g (start_run_at at) = let r = start_run_at_of g at in (r.answer, r.graph)
answer g take_changed_from = let r = take_changed_from_of g in (r.answer, r.graph)

-- The plain log: "the first held event f, the next event n, the parents of each held event, and edges", which stand rising
pub record Log : Type 0 where
  pub first_held : ℕ
  pub next : ℕ
  pub parents : ℕ → List ℕ
  pub edges : List ℕ

-- "f and n are 0, from an accepted one `events`; there are no edges"
unfoldable pub empty_log : ℕ → Log
empty_log f = record { first_held = f; next = f; parents = λ e. []; edges = [] }

unfoldable pub begin_log : Fresh → Outcome → Log
begin_log new o = empty_log 0
begin_log (after events frontier) (Ok _) = empty_log events
begin_log (after events frontier) (Err r) = empty_log 0

-- an edge put in its place; one that is there stays
unfoldable pub edge : ℕ → List ℕ → List ℕ
edge e [] = e ∷ []
edge e (x ∷ xs) = elim (eqb e x) [ true ↦ x ∷ xs | false ↦ elim (ltb e x) [ true ↦ e ∷ x ∷ xs | false ↦ x ∷ edge e xs ] ]

unfoldable pub edges_at : List ℕ → List ℕ → List ℕ
edges_at [] xs = xs
edges_at (e ∷ es) xs = edges_at es (edge e xs)

-- of a list of events, those that are held
unfoldable pub held_of : Log → List ℕ → List ℕ
held_of l ps = filter (λ p. leb l.first_held p) ps

-- "n is above f and the parents are just n-1"
unfoldable pub goes_on : Log → List ℕ → Bool
goes_on l ps = ltb l.first_held l.next && same ps ((l.next - 1) ∷ [])

-- "gives event n the call's parents and each later one just the event before it. Unless n is above f and the parents are just n-1, it
-- makes edges of n and of p+1 for each held parent p. Then n grows by `len`"
unfoldable pub log_push : Log → List ℕ → ℕ → Log
log_push l ps n = record {
  first_held = l.first_held;
  next = l.next + n;
  parents = λ e. cond (eqb e l.next) ps (cond (ltb l.next e && ltb e (l.next + n)) ((e - 1) ∷ []) (l.parents e));
  edges = elim (goes_on l ps) [ true ↦ l.edges | false ↦ edges_at (map suc (held_of l ps)) (edge l.next l.edges) ];
}

-- "A run start told true makes its `at` an edge"
unfoldable pub log_start : Log → ℕ → Log
log_start l at = record { first_held = l.first_held; next = l.next; parents = l.parents; edges = edge at l.edges }

-- "A refused call, a run start told false and a take change nothing"
unfoldable pub note : Log → (c : Call) → Answer c → Log
note l (push ps n) (Ok (a, b)) = log_push l ps n
note l (push ps n) (Err r) = l
note l (start_run_at at) (Ok true) = log_start l at
note l (start_run_at at) (Ok false) = l
note l (start_run_at at) (Err r) = l
note l take_changed_from a = l

-- "Each call .. gets the graph that the last one gave back or left": the graph and the log after a list of calls
unfoldable pub after_calls : CausalGraph → Log → List Call → CausalGraph × Log
after_calls g l [] = (g, l)
after_calls g l (c ∷ cs) = let r = answer g c in after_calls r.1 (note l c r.0) cs

unfoldable pub made_by : Fresh → List Call → CausalGraph × Log
made_by f cs = let b = begin f in after_calls b.1 (begin_log f b.0) cs

-- "A run goes from an edge to the next, the last one to n, numbered from 0 in rising order"
unfoldable pub run_count : Log → ℕ
run_count l = length l.edges

unfoldable pub run_start : Log → ℕ → ℕ
run_start l r = get_or l.edges r l.next

-- the events of runs a to b-1
unfoldable pub in_runs : Log → ℕ → ℕ → ℕ → Bool
in_runs l a b e = leb (run_start l a) e && ltb e (run_start l b)

-- the held events before event e
unfoldable pub held_before : Log → ℕ → ℕ → Bool
held_before l n e = leb l.first_held e && ltb e n

-- The log as the paper's graph: "the held events (f to n-1)", and "following parents" among them
abbrev pub event_graph : Log → EventGraph
event_graph l = record { is_event = held_before l l.next; parents = λ e. held_of l (l.parents e) }
