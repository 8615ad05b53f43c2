-- The start and the calls that words begin with, one after another, and the graph that they make. Assumes nothing.
use Rattle.std.proofs.Common.{◌≡◌, refl, sym, ◌∙◌, ap, List, [], ◌∷◌, ◌++◌, ℕ, zero, suc, ◌+◌, ◌<◌, length, length-append, arith, Bool, true, false, drop}
use lib.Seq.{take-append_seam, drop-append_seam}
use Rattle.model.specs.declared.record.CausalGraph.{CausalGraph}
use Rattle.model.specs.Fresh.{new_of}
use Rattle.model.specs.Log.{Fresh, new, after, Call, push, start_run_at, take_changed_from, Log, begin, begin_log, answer, note, after_calls, made_by}
use Rattle.calls.specs.Words.{operation, list_in, listed, start_size, start_of, call_operation, call_size, call_of, calls_after, fresh_in, calls_in, graph_after, start_words, call_words}
use Rattle.calls.proofs.Reading.{whole-all, call_in}

-- A call that ends in a list is whole where other words follow it
listed_front : (op n : ℕ) (ps ws : List ℕ) → listed (op ∷ n ∷ length ps ∷ (ps ++ ws)) ≡ 3 + length ps
unfolding listed
listed_front op n ps ws =
    sym (whole-all (3 + length ps) (op ∷ n ∷ length ps ∷ (ps ++ ws)) (simp length-append (omega arith)))

-- The call whose words stand at the front
size_front : (lent : Bool) (c : Call) (ws : List ℕ) → call_size (call_words lent c ++ ws) ≡ length (call_words lent c)
unfolding call_size call_words call_operation operation
size_front true (push ps n) ws = let e : 3 + length ps ≡ suc (suc (suc (length ps))) = omega arith in listed_front 16 n ps ws ∙ e
size_front false (push ps n) ws = let e : 3 + length ps ≡ suc (suc (suc (length ps))) = omega arith in listed_front 2 n ps ws ∙ e
size_front true (start_run_at at) ws = sym (whole-all 2 (17 ∷ at ∷ ws) (omega arith))
size_front false (start_run_at at) ws = sym (whole-all 2 (3 ∷ at ∷ ws) (omega arith))
size_front true take_changed_from ws = sym (whole-all 1 (18 ∷ ws) (omega arith))
size_front false take_changed_from ws = sym (whole-all 1 (4 ∷ ws) (omega arith))

call_front : (lent : Bool) (c : Call) (ws : List ℕ) → call_of (call_words lent c ++ ws) ≡ c
unfolding call_of call_words call_operation operation list_in
call_front true (push ps n) ws = ap (λ l. push l n) (take-append_seam ps ws)
call_front false (push ps n) ws = ap (λ l. push l n) (take-append_seam ps ws)
call_front true (start_run_at at) ws = refl
call_front false (start_run_at at) ws = refl
call_front true take_changed_from ws = refl
call_front false take_changed_from ws = refl

size-some : (lent : Bool) (c : Call) → 0 < length (call_words lent c)
unfolding call_words
size-some lent (push ps n) = omega arith
size-some lent (start_run_at at) = omega arith
size-some lent take_changed_from = omega arith

-- The calls after n words and m more
pub after-add : (n m : ℕ) (ws : List ℕ) → calls_after (n + m) ws ≡ calls_after m (drop n ws)
unfolding calls_after
after-add zero m ws = let e : 0 + m ≡ m = omega arith in ap (λ k. calls_after k ws) e
after-add (suc n) m [] = refl
after-add (suc n) m (w ∷ ws) =
    let e : suc n + m ≡ suc (n + m) = omega arith in
    ap (λ k. calls_after k (w ∷ ws)) e ∙ after-add n m ws

after_front : (front ws : List ℕ) → calls_after (length front) (front ++ ws) ≡ calls_after 0 ws
after_front front ws =
    let plus : length front ≡ length front + 0 = omega arith in
    ap (λ k. calls_after k (front ++ ws)) plus ∙ after-add (length front) 0 (front ++ ws) ∙ ap (calls_after 0) (drop-append_seam front ws)

-- The call at the front, and those after it
pub front_next : (ws : List ℕ) → 0 < call_size ws → calls_after 0 ws ≡ call_of ws ∷ calls_after (call_size ws) ws
unfolding calls_after
front_next [] h = absurd (omega (arith, call_in []))
front_next (w ∷ ws) h = go (call_size (w ∷ ws)) h
  where
    go : (s : ℕ) → 0 < s → elim s [ zero ↦ [] | suc n ↦ call_of (w ∷ ws) ∷ calls_after n ws ] ≡ call_of (w ∷ ws) ∷ calls_after s (w ∷ ws)
    go zero h = absurd (omega arith)
    go (suc n) h = refl

module _ (lent : Bool) (c : Call) (ws : List ℕ) where
  pub words_shorter : length ws < length (call_words lent c ++ ws)
  words_shorter = omega (arith, length-append (call_words lent c) ws, size-some lent c)

  pub calls_next : calls_after 0 (call_words lent c ++ ws) ≡ c ∷ calls_after 0 ws
  calls_next =
      front_next (call_words lent c ++ ws) (omega (arith, size_front lent c ws, size-some lent c)) ∙
      ap (λ d. d ∷ calls_after (call_size (call_words lent c ++ ws)) (call_words lent c ++ ws)) (call_front lent c ws) ∙
      ap (λ k. c ∷ calls_after k (call_words lent c ++ ws)) (size_front lent c ws) ∙ ap (λ ds. c ∷ ds) (after_front (call_words lent c) ws)

-- and none
pub calls_none : (ws : List ℕ) → call_size ws ≡ 0 → calls_after 0 ws ≡ []
unfolding calls_after
calls_none [] e = refl
calls_none (w ∷ ws) e = go (call_size (w ∷ ws)) e
  where
    go : (s : ℕ) → s ≡ 0 → ◌≡◌ {A = List Call} (elim s [ zero ↦ [] | suc n ↦ call_of (w ∷ ws) ∷ calls_after n ws ]) []
    go zero e = refl
    go (suc n) e = absurd (omega arith)

-- A turn of the loop, and its end
pub graph_next : (lent : Bool) (c : Call) (ws rest : List ℕ) (g h : CausalGraph) → ws ≡ call_words lent c ++ rest → h ≡ (answer g c).1 →
    graph_after h (calls_after 0 rest) ≡ graph_after g (calls_after 0 ws)
unfolding graph_after
graph_next lent c ws rest g h e q =
    ap (λ (x : CausalGraph). graph_after x (calls_after 0 rest)) q ∙ sym (ap (graph_after g) (ap (calls_after 0) e ∙ calls_next lent c rest))

pub graph_end : (ws : List ℕ) (g : CausalGraph) → call_size ws ≡ 0 → g ≡ graph_after g (calls_after 0 ws)
unfolding graph_after
graph_end ws g e = sym (ap (graph_after g) (calls_none ws e))

-- The same of the start
start-size : (f : Fresh) (ws : List ℕ) → start_size (start_words f ++ ws) ≡ length (start_words f)
unfolding start_size start_words operation
start-size new ws = sym (whole-all 1 (0 ∷ ws) (omega arith))
start-size (after events frontier) ws =
    let e : 3 + length frontier ≡ suc (suc (suc (length frontier))) = omega arith in
    listed_front 1 events frontier ws ∙ e

start_front : (f : Fresh) (ws : List ℕ) → start_of (start_words f ++ ws) ≡ f
unfolding start_of start_words operation list_in
start_front new ws = refl
start_front (after events frontier) ws = ap (after events) (take-append_seam frontier ws)

start-some : (f : Fresh) → 0 < length (start_words f)
unfolding start_words
start-some new = omega arith
start-some (after events frontier) = omega arith

said : (ws : List ℕ) → 0 < start_size ws → (fresh_in ws ≡ start_of ws) × (calls_in ws ≡ calls_after (start_size ws) ws)
unfolding fresh_in calls_in
said ws h = go (start_size ws) h
  where
    go : (s : ℕ) → 0 < s →
        (elim s [ zero ↦ new | suc n ↦ start_of ws ] ≡ start_of ws) ×
        (elim s [ zero ↦ [] | suc n ↦ calls_after (suc n) ws ] ≡ calls_after s ws)
    go zero h = absurd (omega arith)
    go (suc n) h = (refl, refl)

pub start_next : (f : Fresh) (ws : List ℕ) → (fresh_in (start_words f ++ ws) ≡ f) × (calls_in (start_words f ++ ws) ≡ calls_after 0 ws)
start_next f ws =
    let s = said (start_words f ++ ws) (omega (arith, start-size f ws, start-some f)) in (
      s.0 ∙ start_front f ws,
      s.1 ∙ ap (λ k. calls_after k (start_words f ++ ws)) (start-size f ws) ∙ after_front (start_words f) ws,
    )

unsaid : (ws : List ℕ) → start_size ws ≡ 0 → (fresh_in ws ≡ new) × ◌≡◌ {A = List Call} (calls_in ws) []
unfolding fresh_in calls_in
unsaid ws h = go (start_size ws) h
  where
    go : (s : ℕ) → s ≡ 0 →
        (elim s [ zero ↦ new | suc n ↦ start_of ws ] ≡ new) × ◌≡◌ {A = List Call} (elim s [ zero ↦ [] | suc n ↦ calls_after (suc n) ws ]) []
    go zero h = (refl, refl)
    go (suc n) h = absurd (omega arith)

-- The graph does not hang on the log
pub log_free : (g : CausalGraph) (l : Log) (cs : List Call) → (after_calls g l cs).0 ≡ graph_after g cs
unfolding after_calls graph_after
log_free g l [] = refl
log_free g l (c ∷ cs) = log_free (answer g c).1 (note l c (answer g c).0) cs

pub made_by_lem : (f : Fresh) (cs : List Call) → (made_by f cs).0 ≡ graph_after (begin f).1 cs
unfolding made_by
made_by_lem f cs = log_free (begin f).1 (begin_log f (begin f).0) cs

-- The graph of words with no start, and of words with one
pub none_made : (ws : List ℕ) → start_size ws ≡ 0 → new_of ≡ (made_by (fresh_in ws) (calls_in ws)).0
unfolding made_by after_calls begin
none_made ws h = sym (ap (λ f. (made_by f (calls_in ws)).0) (unsaid ws h).0 ∙ ap (λ cs. (made_by new cs).0) (unsaid ws h).1)

pub started : (ws : List ℕ) → 0 < start_size ws → graph_after (begin (start_of ws)).1 (calls_after (start_size ws) ws) ≡ (made_by (fresh_in ws) (calls_in ws)).0
unfolding fresh_in calls_in
started ws h = go (start_size ws) h
  where
    go : (s : ℕ) → 0 < s →
        graph_after (begin (start_of ws)).1 (calls_after s ws) ≡
        (made_by (elim s [ zero ↦ new | suc n ↦ start_of ws ]) (elim s [ zero ↦ [] | suc n ↦ calls_after (suc n) ws ])).0
    go zero h = absurd (omega arith)
    go (suc n) h = sym (made_by_lem (start_of ws) (calls_after (suc n) ws))

start_made : (f : Fresh) (ws : List ℕ) →
    graph_after (begin f).1 (calls_after 0 ws) ≡ (made_by (fresh_in (start_words f ++ ws)) (calls_in (start_words f ++ ws))).0
unfolding made_by
start_made f ws =
    sym (ap (λ x. (made_by x (calls_in (start_words f ++ ws))).0) (start_next f ws).0 ∙ ap (λ cs. (made_by f cs).0) (start_next f ws).1 ∙
    log_free (begin f).1 (begin_log f (begin f).0) (calls_after 0 ws))

pub start_made_by : (f : Fresh) (ws rest : List ℕ) (g : CausalGraph) → ws ≡ start_words f ++ rest → g ≡ (begin f).1 →
    graph_after g (calls_after 0 rest) ≡ (made_by (fresh_in ws) (calls_in ws)).0
start_made_by f ws rest g e q =
    ap (λ (x : CausalGraph). graph_after x (calls_after 0 rest)) q ∙ start_made f rest ∙ sym (ap (λ (l : List ℕ). (made_by (fresh_in l) (calls_in l)).0) e)
