-- 01, "Contracts and cases": C1 to C11 in a single statement, with facts from the Rust that they leave open. Assumes nothing.
use Rattle.std.specs.Prelude.{◌≡◌, List, [], ◌∷◌, map, ℕ, suc, ◌*◌, ◌/◌, ◌%◌, take, replicate}
use Rattle.lists.specs.Lists.{concat, from, upto}
use Rattle.model.specs.declared.record.CausalGraph.{CausalGraph}
use Rattle.model.specs.Answers.{outcome_number, events_numbers, bool_numbers, run_numbers}
use Rattle.model.specs.Record.{store}
use Rattle.model.specs.Fresh.{new_of}
use Rattle.model.specs.Walk.{WalkResult, walk_of}
use Rattle.model.specs.Book.{book_of}
use Rattle.model.specs.Print.{ascii, replay_text}
use Rattle.model.specs.Log.{new, Call, push, start_run_at, take_changed_from, Answer, answer, made_by}

-- A word as four bytes, the lowest first
unfoldable pub word_bytes : ℕ → List ℕ
word_bytes w = w % 256 ∷ w / 256 % 256 ∷ w / 65536 % 256 ∷ w / 16777216 % 256 ∷ []

unfoldable pub bytes_of : List ℕ → List ℕ
bytes_of ws = concat (map word_bytes ws)

-- The book of C1
unfoldable pub book : List ℕ
book = bytes_of (0 ∷ 0 ∷ 5 ∷ 1 ∷ 0 ∷ 1 ∷ 1 ∷ 0 ∷ 1 ∷ 1 ∷ 0 ∷ 1 ∷ 2 ∷ 1 ∷ 2 ∷ 1 ∷ 2 ∷ 1 ∷ 2 ∷ [])

-- What a list of calls answers, each in numbers
unfoldable pub answer_numbers : (c : Call) → Answer c → List ℕ
answer_numbers (push ps n) a = events_numbers a
answer_numbers (start_run_at at) a = bool_numbers a
answer_numbers take_changed_from a = run_numbers a

unfoldable pub answers : CausalGraph → List Call → List (List ℕ)
answers g [] = []
answers g (c ∷ cs) = let r = answer g c in answer_numbers c r.0 ∷ answers r.1 cs

-- A walk's whole result: the refusal's number, the count, `moved`, the row area, the step list
unfoldable pub result : WalkResult → ℕ × ℕ × ℕ × List ℕ × List ℕ
result r = (outcome_number r.0.outcome, r.0.count, r.0.moved, r.1, r.2)

-- The same without the row area, and of the step list the words counted
unfoldable pub steps : WalkResult → ℕ × ℕ × ℕ × List ℕ
steps r = (outcome_number r.0.outcome, r.0.count, r.0.moved, take (3 * r.0.count) r.2)

-- A walk of C1's graph
unfoldable pub walked : ℕ → ℕ → ℕ → ℕ → ℕ × ℕ × ℕ × List ℕ
walked a b known first = steps (walk_of (book_of book).graph a b known first (replicate 7 9) (replicate 60 9))

-- The walk of its range 1..5 with so many row words and so many step words
unfoldable pub roomed : ℕ → ℕ → ℕ × ℕ × ℕ × List ℕ × List ℕ
roomed rows list = result (walk_of (book_of book).graph 1 5 0 0 (replicate rows 9) (replicate list 8))

-- A walk of another graph, with room enough
unfoldable pub walked_in : CausalGraph → ℕ → ℕ → ℕ → ℕ → ℕ × ℕ × ℕ × List ℕ
walked_in g a b known first = steps (walk_of g a b known first (replicate 2400 9) (replicate 600 9))

-- Five runs of one event: 0, then 1 and 2 after it, then 3 after 1 and 4 after 2
unfoldable pub branches : CausalGraph
branches = (made_by new (push [] 1 ∷ push (0 ∷ []) 1 ∷ push (0 ∷ []) 1 ∷ push (1 ∷ []) 1 ∷ push (2 ∷ []) 1 ∷ [])).0

-- 67 runs of one event: 0, 1, then 2 after both and 3 after 0, then 63 with no parents, as pushes in this order make it
unfoldable pub crowd : CausalGraph
crowd = store (record {
  starts = upto 68;
  parents = [] ∷ [] ∷ (0 ∷ 1 ∷ []) ∷ (0 ∷ []) ∷ replicate 63 [];
  frontier = from 2 65;
  seen = 0 ∷ 0 ∷ 2 ∷ 1 ∷ replicate 63 0;
  changed = 0;
})

-- Six runs with no parents but the last, which comes after run 2. Range 1..6 starts at event 1 and has `n` + 9 events
unfoldable pub lengths : ℕ → CausalGraph
lengths n = (made_by new (push [] 1 ∷ push [] n ∷ push [] 1 ∷ push [] 3 ∷ push [] 4 ∷ push (suc n ∷ []) 1 ∷ [])).0

-- Facts from the Rust beyond 01's cases
pub record Beyond : Type 0 where
  -- `known` 1, range 1..5: with `first` 0 the walk goes on to run 3; with `first` 2 it visits run 2 before 3 and 4
  pub first_0 : walked_in branches 1 5 1 0 ≡ (0, 5, 2, 2 ∷ 3 ∷ 4 ∷ 0 ∷ 1 ∷ 2 ∷ 0 ∷ 3 ∷ 4 ∷ 2 ∷ 2 ∷ 3 ∷ 2 ∷ 4 ∷ 5 ∷ [])
  pub first_2 : walked_in branches 1 5 1 2 ≡
      (0, 7, 4, 0 ∷ 1 ∷ 2 ∷ 2 ∷ 2 ∷ 3 ∷ 2 ∷ 4 ∷ 5 ∷ 0 ∷ 2 ∷ 3 ∷ 0 ∷ 4 ∷ 5 ∷ 1 ∷ 1 ∷ 2 ∷ 2 ∷ 3 ∷ 4 ∷ [])
  -- 65 runs ready: the oldest, run 2 at cost 0, is not weighed; of the 64 that are, the oldest, run 3 at cost 1, comes first
  pub ready_65 : take 6 (walked_in crowd 0 67 2 0).3 ≡ 0 ∷ 1 ∷ 2 ∷ 2 ∷ 3 ∷ 4 ∷ []
  -- runs 2, 3 and 4 tie in cost. 128 events, per_bit 2: weights 2, 2 and 3, run 3 comes first; 127, per_bit 1: 2, 3 and 4, run 2 does
  pub per_bit_2 : walked_in (lengths 119) 1 6 1 0 ≡
      (0, 8, 124, 0 ∷ 1 ∷ 2 ∷ 2 ∷ 3 ∷ 4 ∷ 0 ∷ 3 ∷ 4 ∷ 2 ∷ 2 ∷ 3 ∷ 2 ∷ 5 ∷ 6 ∷ 0 ∷ 2 ∷ 3 ∷ 0 ∷ 5 ∷ 6 ∷ 2 ∷ 4 ∷ 5 ∷ [])
  pub per_bit_1 : walked_in (lengths 118) 1 6 1 0 ≡
      (0, 8, 123, 0 ∷ 1 ∷ 2 ∷ 2 ∷ 2 ∷ 3 ∷ 2 ∷ 5 ∷ 6 ∷ 0 ∷ 2 ∷ 3 ∷ 0 ∷ 5 ∷ 6 ∷ 2 ∷ 3 ∷ 4 ∷ 0 ∷ 3 ∷ 4 ∷ 2 ∷ 4 ∷ 5 ∷ [])

pub record Cases : Type 0 where
  -- the book prints eleven lines
  pub C1 : replay_text book ≡
      ascii "open 0 1\napply 0\nopen 1 5\napply 2\nretreat 2 3\napply 1\nadvance 2 3\napply 4\nretreat 4 5\napply 3\nmoved 3\n"
  -- range 1..5 fits into 7 row words; given 6: 13, five words written, the rest and the steps untouched
  pub C2 : roomed 7 22 ≡
      (0, 7, 3, 0 ∷ 0 ∷ 0 ∷ 1 ∷ 1 ∷ 1 ∷ 1 ∷ [], 2 ∷ 2 ∷ 3 ∷ 0 ∷ 2 ∷ 3 ∷ 2 ∷ 1 ∷ 2 ∷ 1 ∷ 2 ∷ 3 ∷ 2 ∷ 4 ∷ 5 ∷ 0 ∷ 4 ∷ 5 ∷ 2 ∷ 3 ∷ 4 ∷ 8 ∷ [])
  pub c2_short : roomed 6 22 ≡ (13, 0, 0, 0 ∷ 0 ∷ 0 ∷ 1 ∷ 1 ∷ 9 ∷ [], replicate 22 8)
  -- with 7 and a list of one step: 11, the rows and that step written
  pub c2_list : roomed 7 3 ≡ (11, 1, 0, 0 ∷ 0 ∷ 0 ∷ 1 ∷ 1 ∷ 1 ∷ 1 ∷ [], 2 ∷ 2 ∷ 3 ∷ [])
  -- `known` 1, `first` 0: retreat 1 2, apply 2, advance 1 2, apply 4, retreat 4 5, apply 3
  pub C3 : walked 1 5 1 0 ≡ (0, 6, 3, 0 ∷ 1 ∷ 2 ∷ 2 ∷ 2 ∷ 3 ∷ 1 ∷ 1 ∷ 2 ∷ 2 ∷ 4 ∷ 5 ∷ 0 ∷ 4 ∷ 5 ∷ 2 ∷ 3 ∷ 4 ∷ [])
  -- `known` 4: no steps; 5: 12
  pub C4 : walked 1 5 4 0 ≡ (0, 0, 0, [])
  pub c4_known : walked 1 5 5 0 ≡ (12, 0, 0, [])
  -- range 2..2: none; 0..6: 9
  pub C5 : walked 2 2 0 0 ≡ (0, 0, 0, [])
  pub c5_outside : walked 0 6 0 0 ≡ (9, 0, 0, [])
  -- fresh, [] with 0: 2; [0] with 1: 4
  pub C6 : answers new_of (push [] 0 ∷ push (0 ∷ []) 1 ∷ []) ≡ (2 ∷ 0 ∷ 0 ∷ []) ∷ (4 ∷ 0 ∷ 0 ∷ []) ∷ []
  -- [] with 4,294,967,295 taken; then [4,294,967,294] with 1: 5
  pub C7 : answers new_of (push [] 4294967295 ∷ push (4294967294 ∷ []) 1 ∷ []) ≡ (0 ∷ 0 ∷ 4294967295 ∷ []) ∷ (5 ∷ 0 ∷ 0 ∷ []) ∷ []
  -- [] 3, then [1,0] or [0,0]: 3
  pub C8 : answers new_of (push [] 3 ∷ push (1 ∷ 0 ∷ []) 1 ∷ push (0 ∷ 0 ∷ []) 1 ∷ []) ≡ (0 ∷ 0 ∷ 3 ∷ []) ∷ (3 ∷ 0 ∷ 0 ∷ []) ∷ (3 ∷ 0 ∷ 0 ∷ []) ∷ []
  -- [] 4, [1] 1: start 3 true, twice; 2, 1, 0 and 5 false
  pub C9 : answers new_of (
      push [] 4 ∷ push (1 ∷ []) 1 ∷ start_run_at 3 ∷ start_run_at 3 ∷ start_run_at 2 ∷ start_run_at 1 ∷ start_run_at 0 ∷ start_run_at 5 ∷ []
      ) ≡
      (0 ∷ 0 ∷ 4 ∷ []) ∷ (0 ∷ 4 ∷ 5 ∷ []) ∷ (0 ∷ 1 ∷ []) ∷ (0 ∷ 1 ∷ []) ∷ (0 ∷ 0 ∷ []) ∷ (0 ∷ 0 ∷ []) ∷ (0 ∷ 0 ∷ []) ∷ (0 ∷ 0 ∷ []) ∷ []
  -- [] 5, take 0, [4] 2, [4] 1: take 0
  pub C10 : answers new_of (push [] 5 ∷ take_changed_from ∷ push (4 ∷ []) 2 ∷ push (4 ∷ []) 1 ∷ take_changed_from ∷ []) ≡
      (0 ∷ 0 ∷ 5 ∷ []) ∷ (0 ∷ 0 ∷ []) ∷ (0 ∷ 5 ∷ 7 ∷ []) ∷ (0 ∷ 7 ∷ 8 ∷ []) ∷ (0 ∷ 0 ∷ []) ∷ []
  -- fresh, range 0..0: no steps, both lists as they were
  pub C11 : result (walk_of new_of 0 0 0 0 (9 ∷ []) (9 ∷ 9 ∷ 9 ∷ [])) ≡ (0, 0, 0, 9 ∷ [], 9 ∷ 9 ∷ 9 ∷ [])
  -- what the Rust gives beyond them
  pub beyond : Beyond
