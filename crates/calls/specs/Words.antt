-- Calls given as words, as in the trace program's scripts: which start and which calls a list of words is. Every list of words is read,
-- up to its end, to an operation that is none of these, or to a call that is cut off. Assumes nothing.
use Rattle.std.specs.Prelude.{◌≡◌, Bool, cond, List, [], ◌∷◌, ◌++◌, map, ℕ, zero, suc, ◌+◌, ◌-◌, length, get_or, take, drop, leb, eqb}
use Rattle.model.specs.declared.record.CausalGraph.{CausalGraph}
use Rattle.model.specs.Log.{Fresh, new, after, Call, push, start_run_at, take_changed_from, Log, answer, made_by}

-- the first word, which says the operation; 0 where there is no word
unfoldable pub operation : List ℕ → ℕ
operation ws = get_or ws 0 0

-- the list that ends a call: word 2 is its count K, the K words after that are the list
unfoldable pub list_in : List ℕ → List ℕ
list_in ws = take (get_or ws 2 0) (drop 3 ws)

-- n, the size of a call, where so many words are there; 0 where it is cut off
unfoldable pub whole : ℕ → List ℕ → ℕ
whole n ws = cond (leb n (length ws)) n 0

-- the size of a call that ends in a list, or 0
unfoldable pub listed : List ℕ → ℕ
listed ws = whole (3 + get_or ws 2 0) ws

-- the size of the start, `0` or `1 events K frontier..`; 0 where it is missing, unknown or cut off
unfoldable pub start_size : List ℕ → ℕ
start_size ws = cond (eqb (operation ws) 0) (whole 1 ws) (cond (eqb (operation ws) 1) (listed ws) 0)

-- the start whose words these are
unfoldable pub start_of : List ℕ → Fresh
start_of ws = cond (eqb (operation ws) 0) new (after (get_or ws 1 0) (list_in ws))

-- the operation of a call: 16, 17 and 18 say the calls that 2, 3 and 4 say, lent
unfoldable pub call_operation : List ℕ → ℕ
call_operation ws = cond (leb 16 (operation ws)) (operation ws - 14) (operation ws)

-- the size of a call, `2 length K parents..`, `3 event` or `4`, or of the same lent, `16 length K parents..`, `17 event` or `18`; 0 where
-- it is missing, unknown or cut off
unfoldable pub call_size : List ℕ → ℕ
call_size ws =
    let op = call_operation ws in
    cond (eqb op 2) (listed ws) (cond (eqb op 3) (whole 2 ws) (cond (eqb op 4) (whole 1 ws) 0))

-- the call whose words these are, by value or lent
unfoldable pub call_of : List ℕ → Call
call_of ws =
    let op = call_operation ws in
    cond (eqb op 2) (push (list_in ws) (get_or ws 1 0)) (cond (eqb op 3) (start_run_at (get_or ws 1 0)) take_changed_from)

-- the calls that stand after the first n words; a call of n + 1 words is w and n more
unfoldable pub calls_after : ℕ → List ℕ → List Call
calls_after n [] = []
calls_after zero (w ∷ ws) = elim (call_size (w ∷ ws)) [ zero ↦ [] | suc n ↦ call_of (w ∷ ws) ∷ calls_after n ws ]
calls_after (suc n) (w ∷ ws) = calls_after n ws

-- how a list of words starts: where its start is missing, unknown or cut off, by `new`
unfoldable pub fresh_in : List ℕ → Fresh
fresh_in ws = elim (start_size ws) [ zero ↦ new | suc n ↦ start_of ws ]

-- the calls after the start: none where it is missing, unknown or cut off
unfoldable pub calls_in : List ℕ → List Call
calls_in ws = elim (start_size ws) [ zero ↦ [] | suc n ↦ calls_after (suc n) ws ]

-- the graph that the calls of a list of words leave, and the plain log that is fed these calls and their answers
abbrev pub called_by : List ℕ → CausalGraph × Log
called_by ws = made_by (fresh_in ws) (calls_in ws)

-- the graph after a list of calls: `after_calls` without the log
unfoldable pub graph_after : CausalGraph → List Call → CausalGraph
graph_after g [] = g
graph_after g (c ∷ cs) = graph_after (answer g c).1 cs

-- the words of a start, and of a call by value or lent
unfoldable pub start_words : Fresh → List ℕ
start_words new = 0 ∷ []
start_words (after events frontier) = 1 ∷ events ∷ length frontier ∷ frontier

unfoldable pub call_words : Bool → Call → List ℕ
call_words lent (push ps n) = cond lent 16 2 ∷ n ∷ length ps ∷ ps
call_words lent (start_run_at at) = cond lent 17 3 ∷ at ∷ []
call_words lent take_changed_from = cond lent 18 4 ∷ []

-- the words of calls, of which each is lent or not
unfoldable pub mixed_words : List (Bool × Call) → List ℕ
mixed_words [] = []
mixed_words (c ∷ cs) = call_words c.0 c.1 ++ mixed_words cs

-- "every list" of demand 3 and of 02: every start with every list of calls, each by value or lent, is what some words say, and so is every list
-- of further calls
pub record EveryList : Type 0 where
  pub from_start : (f : Fresh) (cs : List (Bool × Call)) → let ws : List ℕ = start_words f ++ mixed_words cs in
      (fresh_in ws ≡ f) × (calls_in ws ≡ map (λ c. c.1) cs)
  pub further : (cs : List (Bool × Call)) → calls_after 0 (mixed_words cs) ≡ map (λ c. c.1) cs
