-- The cases of document 02's change requests, by computing. Assumes nothing.
use Rattle.std.specs.Prelude.{◌≡◌, false, List, [], ◌∷◌, ◌++◌, map, ℕ, replicate}
use Rattle.model.specs.declared.record.CausalGraph.{CausalGraph}
use Rattle.model.specs.declared.answers.Written.{Written}
use Rattle.model.specs.Answers.{outcome_number, containing_numbers, bool_numbers, book_numbers}
use Rattle.model.specs.Graph.{marks}
use Rattle.model.specs.Record.{view, store}
use Rattle.model.specs.Broken.{broken}
use Rattle.model.specs.Fresh.{new_of, after_of}
use Rattle.model.specs.Start.{start_run_at_of}
use Rattle.model.specs.Lookups.{containing_of}
use Rattle.model.specs.Beside.{concurrency_list_of}
use Rattle.model.specs.Archive.{archive_points, archive_points_of}
use Rattle.model.specs.Wanted.{wanted_parents_of}
use Rattle.model.specs.Book.{book_of}
use Rattle.model.specs.Print.{ascii, replay_text}
use Rattle.model.specs.Log.{new, after, Call, push, start_run_at, take_changed_from, made_by}
use Rattle.model.specs.TooWeak.{calls_c1}
use Rattle.model.specs.Cases.{branches}

-- What a call wrote into a lent list: the refusal's number, the count, the list afterwards
unfoldable pub written_numbers : Written × List ℕ → ℕ × ℕ × List ℕ
written_numbers w = (outcome_number w.0.outcome, w.0.count, w.1)

-- Three runs of one event: 0 and 1 with no parents, then 2 after 0
unfoldable pub writers : CausalGraph
writers = (made_by new (push [] 1 ∷ push [] 1 ∷ push (0 ∷ []) 1 ∷ [])).0

-- The concurrency list of a run, into so many words
unfoldable pub concurrent_with : CausalGraph → ℕ → ℕ → ℕ × ℕ × List ℕ
concurrent_with g r room = written_numbers (concurrency_list_of g r (replicate room 9))

-- What a run start answers after calls from `new`, in numbers
unfoldable pub started_after : List Call → ℕ → List ℕ
started_after cs at = bool_numbers (start_run_at_of (made_by new cs).0 at).answer

-- A record that no calls make: run 1 has seen up to event 1, at which no run starts
unfoldable pub by_hand : CausalGraph
by_hand = store (record { starts = 0 ∷ 2 ∷ 3 ∷ []; parents = [] ∷ [] ∷ []; frontier = 1 ∷ 2 ∷ []; seen = 0 ∷ 1 ∷ []; changed = 0 })

-- Where events lie, each in numbers: refusal, side (0 the run, 1 before the graph, 2 not yet known), run
unfoldable pub sides_of : CausalGraph → List ℕ → List (List ℕ)
sides_of g es = map (λ e. containing_numbers (containing_of g e)) es

-- After three earlier events: events 3 and 4 on event 2, then event 5 on event 3
unfoldable pub later : CausalGraph
later = (made_by (after 3 (2 ∷ [])) (push (2 ∷ []) 2 ∷ push (3 ∷ []) 1 ∷ [])).0

-- A broken graph: its starts fall
unfoldable pub falling : CausalGraph
falling = store (record { starts = 2 ∷ 1 ∷ []; parents = [] ∷ []; frontier = 0 ∷ []; seen = 2 ∷ []; changed = 0 })

-- The archive points of a graph, into so many words
unfoldable pub archived_in : CausalGraph → ℕ → ℕ × ℕ × List ℕ
archived_in g room = written_numbers (archive_points_of g (replicate room 9))

-- The archive points after calls from `new`
unfoldable pub points_after : List Call → List ℕ
points_after cs = archive_points (view (made_by new cs).0)

-- A record that no calls make: run 1 is marked, by a seen length that is not true, since it has no parents
unfoldable pub untrue : CausalGraph
untrue = store (record { starts = 0 ∷ 1 ∷ 2 ∷ []; parents = [] ∷ [] ∷ []; frontier = 0 ∷ 1 ∷ []; seen = 0 ∷ 1 ∷ []; changed = 0 })

-- Events 0 to 4, a run, and then 5 and 6 on event 1, which splits it
unfoldable pub forked : CausalGraph
forked = (made_by new (push [] 5 ∷ push (1 ∷ []) 2 ∷ [])).0

-- Five events, the last of which is the last that any graph can hold
unfoldable pub farthest : CausalGraph
farthest = (made_by (after 4294967290 []) (push [] 5 ∷ [])).0

-- The parents that give the events of some ranges, into so many words
unfoldable pub wanted_in : CausalGraph → List ℕ → ℕ → ℕ × ℕ × List ℕ
wanted_in g ws room = written_numbers (wanted_parents_of g ws (replicate room 9))

pub record Changes : Type 0 where
  -- F-1: "a book of length 0" is whole, "a fresh graph from `new`"; "the program then prints `moved 0` alone"
  pub F1 : book_numbers (book_of []).answer ≡ 0 ∷ 0 ∷ 0 ∷ []
  pub f1_graph : (book_of []).graph ≡ new_of
  pub f1_text : replay_text [] ≡ ascii "moved 0\n"
  -- "Books of one to eleven bytes keep refusal 14", with `new`
  pub f1_one : book_numbers (book_of (0 ∷ [])).answer ≡ 14 ∷ 0 ∷ 0 ∷ []
  pub f1_eleven : book_numbers (book_of (replicate 11 0)).answer ≡ 14 ∷ 0 ∷ 0 ∷ []
  pub f1_eleven_text : replay_text (replicate 11 0) ≡ ascii "refused 14\n"
  -- twelve zero bytes are a header with no events, no frontier and no pushes: the same graph
  pub f1_twelve : book_of (replicate 12 0) ≡ book_of []
  -- F-2: "the list of runs concurrent with a run shall rise by run number"; what lies behind it keeps its value
  pub F2 : concurrent_with branches 1 3 ≡ (0, 2, 2 ∷ 4 ∷ 9 ∷ [])
  pub f2_both_sides : concurrent_with writers 1 2 ≡ (0, 2, 0 ∷ 2 ∷ [])
  pub f2_none : concurrent_with branches 0 0 ≡ (0, 0, [])
  -- refusals as they were: too short a list stays untouched, and run 5 is none
  pub f2_short : concurrent_with branches 1 1 ≡ (11, 0, 9 ∷ [])
  pub f2_outside : concurrent_with branches 5 1 ≡ (9, 0, 9 ∷ [])
  -- F-3: events 0 to 2 of C1, by "the rising list of held events, none an ancestor of another"; what lies behind it keeps its value
  pub F3 : wanted_in (made_by new calls_c1).0 (0 ∷ 3 ∷ []) 3 ≡ (0, 2, 1 ∷ 2 ∷ 9 ∷ [])
  pub f3_ranges : wanted_in (made_by new calls_c1).0 (0 ∷ 1 ∷ 2 ∷ 3 ∷ []) 1 ≡ (0, 1, 2 ∷ [])
  -- all events give the frontier; "the empty mark gives the empty list"
  pub f3_all : wanted_in (made_by new calls_c1).0 (0 ∷ 5 ∷ []) 2 ≡ (0, 2, 3 ∷ 4 ∷ [])
  pub f3_nothing : wanted_in (made_by new calls_c1).0 [] 1 ≡ (0, 0, 9 ∷ [])
  -- partway along runs: a run's first events are marked, and all of its parent run or no event behind those
  pub f3_partway : wanted_in forked (0 ∷ 3 ∷ 5 ∷ 6 ∷ []) 2 ≡ (0, 2, 2 ∷ 5 ∷ [])
  -- 17: event 0, a parent of event 1, is not marked; the event before 1 in its run is not; event 1, where the run of 5 branched off, is not
  pub f3_unmarked : wanted_in (made_by new calls_c1).0 (1 ∷ 3 ∷ []) 2 ≡ (17, 0, 9 ∷ 9 ∷ [])
  pub f3_inside : wanted_in forked (1 ∷ 2 ∷ []) 1 ≡ (17, 0, 9 ∷ [])
  pub f3_branch : wanted_in forked (0 ∷ 1 ∷ 5 ∷ 6 ∷ []) 2 ≡ (17, 0, 9 ∷ 9 ∷ [])
  -- 3: ranges that touch, fall or are empty, "a first without its end too"
  pub f3_touching : wanted_in (made_by new calls_c1).0 (0 ∷ 1 ∷ 1 ∷ 2 ∷ []) 1 ≡ (3, 0, 9 ∷ [])
  pub f3_falling : wanted_in (made_by new calls_c1).0 (9 ∷ 10 ∷ 3 ∷ 4 ∷ []) 1 ≡ (3, 0, 9 ∷ [])
  pub f3_empty : wanted_in (made_by new calls_c1).0 (2 ∷ 2 ∷ []) 1 ≡ (3, 0, 9 ∷ [])
  pub f3_odd : wanted_in (made_by new calls_c1).0 (0 ∷ 3 ∷ 4 ∷ []) 1 ≡ (3, 0, 9 ∷ [])
  -- 4, "after 4" 17: events that are not yet known, and one before the graph; an earlier event that no range has is no matter
  pub f3_unknown : wanted_in (made_by new calls_c1).0 (3 ∷ 4 ∷ 9 ∷ 10 ∷ []) 1 ≡ (4, 0, 9 ∷ [])
  pub f3_earlier : wanted_in later (2 ∷ 4 ∷ []) 1 ≡ (4, 0, 9 ∷ [])
  pub f3_later : wanted_in later (3 ∷ 4 ∷ 5 ∷ 6 ∷ []) 2 ≡ (0, 1, 5 ∷ 9 ∷ [])
  pub f3_farthest : wanted_in farthest (4294967290 ∷ 4294967295 ∷ []) 1 ≡ (0, 1, 4294967294 ∷ [])
  -- 11, "a short list .. stays untouched", after 17; 1 before all
  pub f3_short : wanted_in (made_by new calls_c1).0 (0 ∷ 3 ∷ []) 1 ≡ (11, 0, 9 ∷ [])
  pub f3_short_too : wanted_in (made_by new calls_c1).0 (1 ∷ 3 ∷ []) 0 ≡ (17, 0, [])
  pub f3_broken : wanted_in falling (2 ∷ 2 ∷ []) 1 ≡ (1, 0, 9 ∷ [])
  -- F-4: "a position that was once told true is told true by any later run start at it, and that later call leaves the graph unchanged". Event 1
  -- of a marked run, by a split; told true after a push that has seen all and a take, with no run more; event 2 of an unmarked run likewise
  pub F4 : started_after (push [] 2 ∷ push [] 1 ∷ []) 1 ≡ 0 ∷ 1 ∷ []
  pub f4_again : started_after (push [] 2 ∷ push [] 1 ∷ start_run_at 1 ∷ push (1 ∷ 2 ∷ []) 1 ∷ take_changed_from ∷ []) 1 ≡ 0 ∷ 1 ∷ []
  pub f4_starts : (view (made_by new (push [] 2 ∷ push [] 1 ∷ start_run_at 1 ∷ push (1 ∷ 2 ∷ []) 1 ∷ start_run_at 1 ∷ [])).0).starts ≡ 0 ∷ 1 ∷ 2 ∷ 3 ∷ 4 ∷ []
  pub f4_unmarked : started_after (push [] 1 ∷ push [] 2 ∷ start_run_at 2 ∷ []) 2 ≡ 0 ∷ 1 ∷ []
  -- false does not last: before the second push event 1 is told false
  pub f4_false : started_after (push [] 2 ∷ []) 1 ≡ 0 ∷ 0 ∷ []
  -- a run that a push's split makes may be marked, and is told false
  pub f4_marked : started_after (push [] 2 ∷ push (0 ∷ 1 ∷ []) 1 ∷ []) 1 ≡ 0 ∷ 0 ∷ []
  -- and the law is one of graphs that calls make: of this record, which is not broken, event 1 is told true and then false
  pub f4_by_hand : broken by_hand ≡ false
  pub f4_by_hand_true : bool_numbers (start_run_at_of by_hand 1).answer ≡ 0 ∷ 1 ∷ []
  pub f4_by_hand_false : bool_numbers (start_run_at_of (start_run_at_of by_hand 1).graph 1).answer ≡ 0 ∷ 0 ∷ []
  -- F-6: "C1 then has the points 0, 1 and 3", though "run 3 carries no mark"; what lies behind them keeps its value
  pub F6 : archived_in (made_by new calls_c1).0 4 ≡ (0, 3, 0 ∷ 1 ∷ 3 ∷ 9 ∷ [])
  pub f6_marks : marks (view (made_by new calls_c1).0) ≡ 0 ∷ 1 ∷ []
  -- one event more: on event 3 alone it is no point, on both heads it is one; on nothing it leaves the first event's point alone
  pub f6_one : points_after (calls_c1 ++ push (3 ∷ []) 1 ∷ []) ≡ 0 ∷ 1 ∷ 3 ∷ []
  pub f6_both : points_after (calls_c1 ++ push (3 ∷ 4 ∷ []) 1 ∷ []) ≡ 0 ∷ 1 ∷ 3 ∷ 5 ∷ []
  pub f6_root : points_after (calls_c1 ++ push [] 1 ∷ []) ≡ 0 ∷ []
  -- parents that stand for the frontier and are not its list: a point without a mark
  pub f6_joined : points_after (push [] 1 ∷ push [] 2 ∷ push (0 ∷ 1 ∷ 2 ∷ []) 1 ∷ []) ≡ 0 ∷ 3 ∷ []
  -- a critical version partway along a run is none until a run starts there
  pub f6_partway : points_after (push [] 1 ∷ push [] 2 ∷ push (0 ∷ 1 ∷ 2 ∷ []) 3 ∷ []) ≡ 0 ∷ 3 ∷ []
  pub f6_started : points_after (push [] 1 ∷ push [] 2 ∷ push (0 ∷ 1 ∷ 2 ∷ []) 3 ∷ start_run_at 4 ∷ []) ≡ 0 ∷ 3 ∷ 4 ∷ []
  -- after earlier events: the first held event, 3, and event 4; event 5 has not seen event 4
  pub f6_later : archived_in later 3 ≡ (0, 2, 3 ∷ 4 ∷ 9 ∷ [])
  -- refusals as they were: of a list that is too short the points that fit are written; no runs, no points; 1 of a broken graph
  pub f6_short : archived_in (made_by new calls_c1).0 2 ≡ (11, 2, 0 ∷ 1 ∷ [])
  pub f6_none : archived_in new_of 1 ≡ (0, 0, 9 ∷ [])
  pub f6_broken : archived_in falling 1 ≡ (1, 0, 9 ∷ [])
  -- that marked runs start at points is a law of graphs that calls make: of this record, which is not broken, run 1 is marked and starts at none
  pub f6_by_hand : archived_in untrue 2 ≡ (0, 1, 0 ∷ 9 ∷ [])
  pub f6_by_hand_marks : marks (view untrue) ≡ 0 ∷ 1 ∷ []
  -- F-11: "one of: the run, before the graph, or not yet known". Event 4 lies in the last run, run 4; event 5, which is `len`, in none
  pub F11 : sides_of branches (0 ∷ 4 ∷ 5 ∷ 4294967295 ∷ []) ≡ (0 ∷ 0 ∷ 0 ∷ []) ∷ (0 ∷ 0 ∷ 4 ∷ []) ∷ (0 ∷ 2 ∷ 0 ∷ []) ∷ (0 ∷ 2 ∷ 0 ∷ []) ∷ []
  -- the last event before the graph, the first held one, run by run up to `len`
  pub f11_later : sides_of later (2 ∷ 3 ∷ 4 ∷ 5 ∷ 6 ∷ []) ≡ (0 ∷ 1 ∷ 0 ∷ []) ∷ (0 ∷ 0 ∷ 0 ∷ []) ∷ (0 ∷ 0 ∷ 1 ∷ []) ∷ (0 ∷ 0 ∷ 2 ∷ []) ∷ (0 ∷ 2 ∷ 0 ∷ []) ∷ []
  -- with no runs: below the first held event before the graph, all others not yet known
  pub f11_none : sides_of (after_of 3 (2 ∷ [])).graph (2 ∷ 3 ∷ []) ≡ (0 ∷ 1 ∷ 0 ∷ []) ∷ (0 ∷ 2 ∷ 0 ∷ []) ∷ []
  pub f11_new : sides_of new_of (0 ∷ []) ≡ (0 ∷ 2 ∷ 0 ∷ []) ∷ []
  -- "1 does": of a broken graph, whose starts fall
  pub f11_broken : sides_of falling (0 ∷ 3 ∷ []) ≡ (1 ∷ 0 ∷ 0 ∷ []) ∷ (1 ∷ 0 ∷ 0 ∷ []) ∷ []
