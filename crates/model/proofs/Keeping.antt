-- A fresh graph is tied to its log, and each call keeps the two tied: runs, seen lengths, frontier, and parents that are lower numbers.
-- Assumes nothing.
use Rattle.std.proofs.Common.{◌≡◌, refl, sym, ap, ◌∙◌, subst, ◌⊎◌, inl, inr, Bool, true, false, List, [], ◌∷◌, ◌++◌, map, ℕ, suc, ◌-◌, ◌≤◌, ◌<◌, arith, length, get_or, leb, ltb, eqb, ltb-true}
use Rattle.std.proofs.Common.{leb-true, eqb-true, lt-ltb, le-ltb, le-leb, eq-eqb, ne_eqb}
use lib.ListN.{get_or-eq_default}
use Rattle.lists.specs.Lists.{mem, count}
use Rattle.lists.proofs.Truth.{lt_or_le, false_true, bool_iff}
use Rattle.lists.proofs.Members.{mem_index, get_d_mem, mem-filter}
use Rattle.lists.proofs.Counts.{count_le}
use Rattle.lists.proofs.Rising.{up_count}
use Rattle.lists.proofs.Bounds.{below_at}
use Rattle.model.specs.EventGraph.{Lower}
use Rattle.model.specs.Graph.{Graph, start, runs, len, first_held, containing, held, extends}
use Rattle.model.specs.Broken.{WellFormed}
use Rattle.model.specs.History.{at}
use Rattle.model.specs.Fresh.{fresh}
use Rattle.model.specs.Split.{split, split_after}
use Rattle.model.specs.Push.{grown, joined, lowered, push, push_outcome}
use Rattle.model.specs.Start.{answers, splitting, starting, taken}
use Rattle.model.specs.Log.{Log, empty_log, run_start, held_of, event_graph, edge, edges_at, goes_on, log_push, log_start}
use Rattle.model.proofs.FormedPush.{accepted, extends-runs, extends-parents}
use Rattle.model.proofs.FormedCalls.{starting-inside, starting-told}
use Rattle.model.proofs.Runs.{first_next}
use Rattle.model.proofs.Tied.{Tied, high, step, mono}
use Rattle.model.proofs.Seen.{Inv, start_is, len_tied, first_tied, held_tied, containing-is, lower_tied}
use Rattle.model.proofs.Edges.{edge-member, edge-last, edges_in}
use Rattle.model.proofs.Ending.{split_inv, with_edges, splits_keep}
use Rattle.model.proofs.Adding.{added}
use Rattle.model.proofs.Growing.{grown_inv}
use Rattle.model.proofs.Pushing.{joined_inv}
use Rattle.std.specs.Prelude.{Ok}

-- Graph and log have the same next event
pub len_is : (g : Graph) (l : Log) → Inv g l → len g ≡ l.next
len_is g l v = len_tied g l v.tied

-- Graph and log have the same first held event
pub first-is : (g : Graph) (l : Log) → Inv g l → first_held g ≡ l.first_held
first-is g l v = first_tied g l v.tied

-- The log's parents are lower numbers
pub lower_of : (g : Graph) (l : Log) → Inv g l → Lower (event_graph l)
lower_of g l v = lower_tied l v.lower

-- A fresh graph is tied to its log
pub fresh_inv : (f : ℕ) (fr : List ℕ) → ((q : ℕ) → mem q fr ≡ true → q < f) → Inv (fresh f fr) (empty_log f)
unfolding fresh empty_log at mem run_start
fresh_inv f fr h = record {
  tied = record {
    edged = record { up = omega arith; first = refl };
    starts = refl;
    rows = refl;
    below = λ r p m. false_true m;
    parents = λ r lt. absurd (omega arith);
    inside = λ e p q m. absurd (omega arith);
  };
  seen = record { size = refl; least = λ r lt. absurd (omega arith); most = λ r lt. absurd (omega arith); sound = λ r e lt p q. absurd (omega arith) };
  front = record { below = h; covers = λ e p q. absurd (omega arith) };
  lower = λ e p m. false_true m;
}

-- `changed_from` plays no part
changed_inv : (g : Graph) (l : Log) (k : ℕ) → Inv g l →
    Inv (record { starts = g.starts; parents = g.parents; frontier = g.frontier; seen = g.seen; changed = k }) l
changed_inv g l k v = record {
  tied = record { edged = v.tied.edged; starts = v.tied.starts; rows = v.tied.rows; below = v.tied.below; parents = v.tied.parents; inside = v.tied.inside };
  seen = record { size = v.seen.size; least = v.seen.least; most = v.seen.most; sound = v.seen.sound };
  front = record { below = v.front.below; covers = v.front.covers };
  lower = v.lower;
}

-- A take keeps the two tied
pub taken_inv : (g : Graph) (l : Log) → Inv g l → Inv (taken g) l
unfolding taken
taken_inv g l v = changed_inv g l (runs g) v

lowered_inv : (g h : Graph) (l : Log) → Inv h l → Inv (lowered g h) l
unfolding lowered
lowered_inv g h l v = changed_inv h l (lowered g h).changed v

module _ (g : Graph) (l : Log) (v : Inv g l) where
  abbrev t : Tied g l
  t = v.tied

  some_runs : ltb 0 (runs g) ≡ ltb l.first_held l.next
  unfolding runs run_start
  some_runs = rw t.rows (go (lt_or_le 0 (length l.edges)))
    where
      none_yet : length l.edges ≤ 0 → l.next ≡ l.first_held
      none_yet h = sym (get_or-eq_default l.edges l.next h) ∙ t.edged.first

      go : (0 < length l.edges) ⊎ (length l.edges ≤ 0) → ltb 0 (length l.edges) ≡ ltb l.first_held l.next
      go (inl z) = lt-ltb 0 (length l.edges) z ∙ sym (lt-ltb l.first_held l.next (omega (arith, t.edged.first, step g l t 0 z, high g l t 1)))
      go (inr z) = le-ltb 0 (length l.edges) z ∙ sym (le-ltb l.first_held l.next (omega (arith, none_yet z)))

  -- Graph and log agree on which pushes grow the last run
  pub extends-is : (ps : List ℕ) → extends g ps ≡ goes_on l ps
  unfolding extends goes_on
  extends-is ps = rw (len_tied g l t, some_runs)

  grows_inv : (ps : List ℕ) (n : ℕ) → 0 < n → extends g ps ≡ true → Inv (grown g ps n) (added l ps n l.edges)
  unfolding runs
  grows_inv ps n pos x =
      grown_inv g l v ps n pos (omega (arith, t.rows, extends-runs g ps x)) (extends-parents g ps x ∙ ap (λ k. (k - 1) ∷ []) (len_tied g l t))

  joins_inv : (ps : List ℕ) (n : ℕ) → 0 < n → ((p : ℕ) → mem p ps ≡ true → p < l.next) →
      Inv (lowered (split_after g (held g ps)) (joined (split_after g (held g ps)) ps n)) (added l ps n (edges_at (map suc (held_of l ps)) (edge l.next l.edges)))
  unfolding held_of
  joins_inv ps n pos known =
      let hs : List ℕ = held_of l ps in
      let K : (es : List ℕ) × Inv (split_after g hs) (with_edges l es) × (es ++ l.next ∷ [] ≡ edges_at (map suc hs) (l.edges ++ l.next ∷ [])) =
      splits_keep hs g l v (λ p m. let q : (mem p ps ≡ true) × (leb l.first_held p ≡ true) = mem-filter (λ p. leb l.first_held p) p ps m in
      (leb-true l.first_held p q.1, known p q.0)) in
      let J : Inv (joined (split_after g hs) ps n) (added l ps n (K.0 ++ l.next ∷ [])) =
      joined_inv (split_after g hs) (with_edges l K.0) K.1 ps n pos known
      (λ p m. subst (λ (xs : List ℕ). mem (suc p) xs ≡ true) (sym K.2) (edges_in p hs (l.edges ++ l.next ∷ []) m)) in
      let q : K.0 ++ l.next ∷ [] ≡ edges_at (map suc hs) (edge l.next l.edges) =
      K.2 ∙ ap (λ (xs : List ℕ). edges_at (map suc hs) xs) (sym (edge-last l.first_held l.edges l.next t.edged.up)) in
      subst (λ (xs : List ℕ). Inv (lowered (split_after g xs) (joined (split_after g xs) ps n)) (added l ps n (edges_at (map suc hs) (edge l.next l.edges)))) (sym (held_tied g l t ps known))
      (lowered_inv (split_after g hs) (joined (split_after g hs) ps n) (added l ps n (edges_at (map suc hs) (edge l.next l.edges)))
      (subst (λ (xs : List ℕ). Inv (joined (split_after g hs) ps n) (added l ps n xs)) q J))

  -- Whether a run starts at an event
  starts-at : (a : ℕ) → l.first_held < a → a < l.next → eqb (start g (containing g a)) a ≡ mem a l.edges
  unfolding run_start
  starts-at a p q =
      let r : suc (containing g a) ≡ count (λ s. leb s a) l.edges = containing-is g l t a q (omega arith) in
      let lt : containing g a < length l.edges = omega (arith, count_le (λ s. leb s a) l.edges) in
      bool_iff (eqb (start g (containing g a)) a) (mem a l.edges) (forth lt) (back lt r)
    where
      forth : containing g a < length l.edges → eqb (start g (containing g a)) a ≡ true → mem a l.edges ≡ true
      forth lt e = subst (λ (k : ℕ). mem k l.edges ≡ true) (sym (start_is g l t (containing g a) (omega arith)) ∙ eqb-true (start g (containing g a)) a e)
          (get_d_mem l.edges (containing g a) l.next lt)

      reached : (x : ℕ) → leb (get_or l.edges x l.next) a ≡ ltb x (count (λ s. leb s a) l.edges)
      reached x = up_count l.first_held l.edges l.next t.edged.up x a q

      back : containing g a < length l.edges → suc (containing g a) ≡ count (λ s. leb s a) l.edges → mem a l.edges ≡ true → eqb (start g (containing g a)) a ≡ true
      back lt r m =
          let i : (j : ℕ) × (j < length l.edges) × (get_or l.edges j l.next ≡ a) = mem_index a l.next l.edges m in
          let u : i.0 < count (λ s. leb s a) l.edges = ltb-true i.0 (count (λ s. leb s a) l.edges) (sym (reached i.0) ∙ le-leb (get_or l.edges i.0 l.next) a (omega (arith, i.2))) in
          let w : get_or l.edges (containing g a) l.next ≤ a = leb-true (get_or l.edges (containing g a) l.next) a
          (reached (containing g a) ∙ lt-ltb (containing g a) (count (λ s. leb s a) l.edges) (omega arith)) in
          eq-eqb (start g (containing g a)) a (omega (arith, start_is g l t (containing g a) (omega arith), mono g l t i.0 (containing g a) (omega (arith, u)), i.2))

-- So does an accepted push
pub push_inv : (g : Graph) (l : Log) → Inv g l → (ps : List ℕ) (n : ℕ) → push_outcome g ps n ≡ Ok tt → Inv (push g ps n) (log_push l ps n)
unfolding push log_push
push_inv g l v ps n e =
    let a = accepted g (omega (arith, first-is g l v, len_is g l v, first_next l v.tied.edged)) ps n e in
    go (extends g ps) refl (goes_on l ps) refl a.some (λ p m. omega (arith, below_at (len g) ps a.known p m, len_is g l v))
  where
    go : (x : Bool) → extends g ps ≡ x → (y : Bool) → goes_on l ps ≡ y → 0 < n → ((p : ℕ) → mem p ps ≡ true → p < l.next) →
        Inv (elim x as (λ _. Graph) [ true ↦ grown g ps n | false ↦ lowered (split_after g (held g ps)) (joined (split_after g (held g ps)) ps n) ])
        (added l ps n (elim y as (λ _. List ℕ) [ true ↦ l.edges | false ↦ edges_at (map suc (held_of l ps)) (edge l.next l.edges) ]))
    go true x false y pos k = false_true (sym y ∙ (sym (extends-is g l v ps) ∙ x))
    go false x true y pos k = false_true (sym x ∙ (extends-is g l v ps ∙ y))
    go true x true y pos k = grows_inv g l v ps n pos x
    go false x false y pos k = joins_inv g l v ps n pos k

-- So does a run start that splits a run
pub start-split : (g : Graph) (l : Log) → WellFormed g → Inv g l → (at : ℕ) → starting g at ≡ splitting → Inv (split g (containing g at) at) (log_start l at)
start-split g l formed v a e =
    let w = starting-inside g formed a e in
    let lo : l.first_held < a = omega (arith, first_tied g l v.tied, w.0) in
    let hi : a < l.next = omega (arith, len_tied g l v.tied, w.1) in
    split_inv g l v a (containing g a) lo hi (sym (starts-at g l v a lo hi) ∙ ne_eqb (start g (containing g a)) a w.2)
    (containing-is g l v.tied a hi (omega arith))

-- and one told true at a run's start: the event is an edge already
pub start-told : (g : Graph) (l : Log) → WellFormed g → Inv g l → (at : ℕ) → starting g at ≡ answers true → Inv g (log_start l at)
unfolding log_start
start-told g l formed v a e =
    let w = starting-told g formed a e in
    let lo : l.first_held < a = omega (arith, first_tied g l v.tied, w.0) in
    let hi : a < l.next = omega (arith, len_tied g l v.tied, w.1) in
    let m : mem a l.edges ≡ true = sym (starts-at g l v a lo hi) ∙ eq-eqb (start g (containing g a)) a w.2 in
    subst (λ (xs : List ℕ). Inv g (with_edges l xs)) (sym (edge-member l.first_held l.edges l.next a v.tied.edged.up m)) v
