-- The loop over a new run's parents: the run of each held one joins the entries, and what it has seen is kept if it is the most. Assumes
-- nothing.
use Rattle.std.proofs.Common.{◌≡◌, refl, sym, ap, ◌∙◌, Bool, true, false, cond, List, [], ◌∷◌, ◌++◌, map, append_assoc, append-nil, ℕ, suc, ◌+◌, ◌<◌, ◌≤◌, max, arith, add-one, length, drop}
use Rattle.std.proofs.Common.{get_or, set, length-append, length-set, drop_of_length-le, drop-cons, eqb}
use Rattle.lists.specs.Lists.{bit, filter, count, mem, largest, concat}
use Rattle.lists.specs.Areas.{pad}
use Rattle.lists.specs.Scans.{last_at_most}
use Rattle.lists.proofs.Pads.{add-pad}
use Rattle.lists.proofs.Members.{map-mem}
use Rattle.lists.proofs.Counts.{count_same, filter-count}
use Rattle.lists.proofs.Bounds.{largest_has}
use Rattle.model.specs.declared.record.CausalGraph.{CausalGraph}
use Rattle.model.specs.declared.record.EventIndex.{EventIndex}
use Rattle.model.specs.Graph.{Graph, first_held, entries, containing, side, is_held, held}
use Rattle.model.specs.Record.{view}
use Rattle.model.specs.Broken.{WellFormed, Held}
use Rattle.model.specs.Push.{parent_runs, seen_after}
use Rattle.model.proofs.FormedReads.{seen_after-within}
use Rattle.model.proofs.FormedJoins.{parent_runs-below}
use Rattle.model.proofs.Siding.{side-run, held-between}
use Rattle.model.proofs.Stored.{entries-flat}
use Rattle.graph.specs.declared.growth.Own.{Own}
use Rattle.graph.specs.Loops.{side_in, own_in, add_own, own_all}
use Rattle.graph.proofs.Views.{entries-view, first-view, start-view, seen-view, parents-pad}
use Rattle.graph.proofs.Placing.{Found, found_in, side-view}

-- entries in their array, and what is known of them
abbrev pub Owned : Type 0
Owned = List ℕ × Own

-- A parent in the graph's words: its run joins the entries if it is held
unfoldable pub add_run : Graph → Owned → ℕ → Owned
add_run g t p =
    cond (is_held (side g p))
    (set t.0 t.1.count (containing g p), record { count = t.1.count + 1; seen = record { 0 = max t.1.seen.0 (seen_after g (containing g p)) } }) t

unfoldable pub own_runs : Graph → Owned → List ℕ → Owned
own_runs g t [] = t
own_runs g t (p ∷ ps) = own_runs g (add_run g t p) ps

-- Turns

own_skip : (a : Graph) (t : Owned) (p : ℕ) → is_held (side a p) ≡ false → add_run a t p ≡ t
unfolding add_run
own_skip a t p e = rw e

own_held : (a : Graph) (t : Owned) (p : ℕ) → is_held (side a p) ≡ true →
    add_run a t p ≡ (set t.0 t.1.count (containing a p), record { count = t.1.count + 1; seen = record { 0 = max t.1.seen.0 (seen_after a (containing a p)) } })
unfolding add_run
own_held a t p e = rw e

own-add : (a : Graph) (l : List ℕ) (s p : ℕ) → is_held (side a p) ≡ true → length l < 2048 →
    add_run a (own_in l s) p ≡ own_in (l ++ containing a p ∷ []) (max s (seen_after a (containing a p)))
unfolding add_run
own-add a l s p e h =
    let q : length l + 1 ≡ length (l ++ containing a p ∷ []) = simp length-append (omega arith) in
    rw e (λ i. (add-pad 2048 l (containing a p) h i, record { count = q i; seen = record { 0 = max s (seen_after a (containing a p)) } }))

-- in the code's words: the count grows by one for a held parent
pub own-count : (xs ss : List ℕ) (n : ℕ) (t : Owned) (p : ℕ) → (add_own xs ss n t p).1.count ≡ t.1.count + bit (is_held (side_in xs n p))
unfolding add_own
own-count xs ss n t p = go (is_held (side_in xs n p)) _
  where
    go : (b : Bool) (u : EventIndex) →
        (cond b (set t.0 t.1.count (last_at_most xs p n), record { count = t.1.count + 1; seen = u }) t).1.count
        ≡ t.1.count + bit b
    go true u = refl
    go false u = omega arith

-- and the array keeps its length
pub own-long : (xs ss : List ℕ) (n : ℕ) (t : Owned) (p : ℕ) → length (add_own xs ss n t p).0 ≡ length t.0
unfolding add_own
own-long xs ss n t p = go (is_held (side_in xs n p)) _
  where
    go : (b : Bool) (u : Own) → length (cond b (set t.0 t.1.count (last_at_most xs p n), u) t).0 ≡ length t.0
    go true u = length-set t.0 t.1.count (last_at_most xs p n)
    go false u = refl

pub own-step : (xs ss : List ℕ) (n : ℕ) (t : Owned) (ps : List ℕ) (i : ℕ) → i < length ps →
    own_all xs ss n t (drop i ps) ≡ own_all xs ss n (add_own xs ss n t (get_or ps i 0)) (drop (i + 1) ps)
unfolding own_all
own-step xs ss n t ps i h = rw (add-one i, drop-cons ps i 0 h)

pub own_end : (xs ss : List ℕ) (n : ℕ) (t : Owned) (ps : List ℕ) (i : ℕ) → length ps ≤ i → own_all xs ss n t (drop i ps) ≡ t
unfolding own_all
own_end xs ss n t ps i h = rw (drop_of_length-le ps h)

-- a parent that is not held, and one that is
pub own_no : (xs ss : List ℕ) (n : ℕ) (t : Owned) (p : ℕ) → is_held (side_in xs n p) ≡ false → t ≡ add_own xs ss n t p
unfolding add_own
own_no xs ss n t p h = rw h

pub own_yes :
    (xs ss : List ℕ) (n : ℕ) (items : List ℕ) (t u : Own) (p r after : ℕ) →
    Found xs n p r →
    after ≡ cond (eqb (get_or ss r 0) (get_or xs r 0)) (get_or xs (r + 1) 0) (get_or ss r 0) →
    u ≡ record { count = t.count + 1; seen = record { 0 = max t.seen.0 after } } →
    (set items t.count r, u) ≡ add_own xs ss n (items, t) p
unfolding add_own is_held
own_yes xs ss n items t u p r after d f q = rw (q, f, d.there, ← d.is)

-- A record's entries and the first held event begin it
module _ (g : CausalGraph) (good : Held g) where
  pub own-begun : (g.parents, record { count = g.entry_count; seen = record { 0 = get_or g.starts 0 0 } }) ≡ own_in (concat (view g).parents) (first_held (view g))
  own-begun = λ i. (parents-pad g good i, record { count = (sym (entries-view g good) ∙ entries-flat (view g)) i; seen = record { 0 = sym (first-view g good) i } })

  -- a turn is the graph's
  after-view : (r : ℕ) → r < g.run_count →
      cond (eqb (get_or g.seen_prefix_len r 0) (get_or g.starts r 0)) (get_or g.starts (r + 1) 0) (get_or g.seen_prefix_len r 0) ≡ seen_after (view g) r
  unfolding seen_after
  after-view r h =
      let n : suc r ≡ r + 1 = omega arith in
      rw (seen-view g good r h, start-view g good r (omega arith), n, start-view g good (r + 1) (omega arith))

  add-view : (t : Owned) (p : ℕ) → add_own g.starts g.seen_prefix_len g.run_count t p ≡ add_run (view g) t p
  add-view t p = go (is_held (side (view g) p)) refl
    where
      go : (b : Bool) → is_held (side (view g) p) ≡ b → add_own g.starts g.seen_prefix_len g.run_count t p ≡ add_run (view g) t p
      go false h =
          sym (own_no g.starts g.seen_prefix_len g.run_count t p (ap is_held (side-view g good p) ∙ h)) ∙ sym (own_skip (view g) t p h)
      go true h =
          let b = held-between (view g) p h in
          let d = found_in g.starts g.run_count p (containing (view g) p) (side-view g good p ∙ side-run (view g) p b.0 b.1) in
          sym (own_yes g.starts g.seen_prefix_len g.run_count t.0 t.1 _ p (containing (view g) p) (seen_after (view g) (containing (view g) p)) d
          (sym (after-view (containing (view g) p) d.low)) refl)
          ∙ sym (own_held (view g) t p h)

  pub all-view : (t : Owned) (ps : List ℕ) → own_all g.starts g.seen_prefix_len g.run_count t ps ≡ own_runs (view g) t ps
  unfolding own_all own_runs
  all-view t [] = refl
  all-view t (p ∷ ps) =
      ap (λ (u : Owned). own_all g.starts g.seen_prefix_len g.run_count u ps) (add-view t p) ∙ all-view (add_run (view g) t p) ps

  -- as many join as are held
  pub held-counted : (ps : List ℕ) → count (λ p. is_held (side_in g.starts g.run_count p)) ps ≡ length (held (view g) ps)
  unfolding held
  held-counted ps =
      count_same (λ p. is_held (side_in g.starts g.run_count p)) (λ p. is_held (side (view g) p)) ps (λ p m. ap is_held (side-view g good p)) ∙
      sym (filter-count (λ p. is_held (side (view g) p)) ps)

-- What the whole loop leaves

own_is : (a : Graph) (l : List ℕ) (s : ℕ) (ps : List ℕ) → length l + length (held a ps) ≤ 2048 →
    (s' : ℕ) × (own_runs a (own_in l s) ps ≡ own_in (l ++ parent_runs a ps) s')
unfolding own_runs parent_runs held filter
own_is a l s [] h = (s, rw append-nil)
own_is a l s (p ∷ ps) h =
    go (is_held (side a p)) refl (own_is a l s ps) (own_is a (l ++ containing a p ∷ []) (max s (seen_after a (containing a p))) ps) h
  where
    rest : List ℕ
    rest = filter (λ e. is_held (side a e)) ps

    go :
        (b : Bool) →
        is_held (side a p) ≡ b →
        (length l + length rest ≤ 2048 → (s' : ℕ) × (own_runs a (own_in l s) ps ≡ own_in (l ++ map (containing a) rest) s')) →
        (length (l ++ containing a p ∷ []) + length rest ≤ 2048 →
        (s' : ℕ) × (own_runs a (own_in (l ++ containing a p ∷ []) (max s (seen_after a (containing a p)))) ps ≡ own_in ((l ++ containing a p ∷ []) ++ map (containing a) rest) s')) →
        length l + length (cond b (p ∷ rest) rest) ≤ 2048 →
        (s' : ℕ) × (own_runs a (add_run a (own_in l s) p) ps ≡ own_in (l ++ map (containing a) (cond b (p ∷ rest) rest)) s')
    go true e f k m =
        let n : length (l ++ containing a p ∷ []) ≡ length l + 1 = simp length-append (omega arith) in
        let w = k (omega arith) in (
          w.0,
          ap (λ (t : Owned). own_runs a t ps) (own-add a l s p e (omega arith)) ∙ w.1
              ∙ ap (λ (x : List ℕ). own_in x w.0) (append_assoc l (containing a p ∷ []) (map (containing a) rest)),
        )
    go false e f k m = let w = f (omega arith) in (w.0, ap (λ (t : Owned). own_runs a t ps) (own_skip a (own_in l s) p e) ∙ w.1)

-- The entries are those of the graph and then the parents' runs
pub own-items : (a : Graph) (ps : List ℕ) → entries a + length (held a ps) ≤ 2048 →
    ((own_runs a (own_in (concat a.parents) (first_held a)) ps).0 ≡ pad 2048 (concat a.parents ++ parent_runs a ps)) ×
    ((own_runs a (own_in (concat a.parents) (first_held a)) ps).1.count ≡ length (concat a.parents ++ parent_runs a ps))
own-items a ps h =
    let w = own_is a (concat a.parents) (first_held a) ps (omega (arith, entries-flat a)) in
    (ap (λ (t : Owned). t.0) w.1, ap (λ (t : Owned). t.1.count) w.1)

-- What has been seen is the most of where the loop began and what the parents' runs have seen

largest-any : (d e x : ℕ) (xs : List ℕ) → largest d (x ∷ xs) ≡ largest e (x ∷ xs)
unfolding largest
largest-any d e x [] = refl
largest-any d e x (y ∷ ys) = ap (max x) (largest-any d e y ys)

largest_more : (s x : ℕ) (xs : List ℕ) → max (max s x) (largest (max s x) xs) ≡ max s (largest s (x ∷ xs))
unfolding largest
largest_more s x [] = omega arith
largest_more s x (y ∷ ys) = rw (largest-any (max s x) s y ys) (omega arith)

own_most : (a : Graph) (t : Owned) (ps : List ℕ) → (own_runs a t ps).1.seen.0 ≡ max t.1.seen.0 (largest t.1.seen.0 (map (seen_after a) (parent_runs a ps)))
unfolding own_runs parent_runs held filter
own_most a t [] = unfold largest in omega arith
own_most a t (p ∷ ps) = go (is_held (side a p)) refl (own_most a t ps) (own_most a (add_run a t p) ps)
  where
    rest : List ℕ
    rest = filter (λ e. is_held (side a e)) ps

    go :
        (b : Bool) →
        is_held (side a p) ≡ b →
        (own_runs a t ps).1.seen.0 ≡ max t.1.seen.0 (largest t.1.seen.0 (map (seen_after a) (map (containing a) rest))) →
        (own_runs a (add_run a t p) ps).1.seen.0 ≡ max (add_run a t p).1.seen.0 (largest (add_run a t p).1.seen.0 (map (seen_after a) (map (containing a) rest))) →
        (own_runs a (add_run a t p) ps).1.seen.0 ≡ max t.1.seen.0 (largest t.1.seen.0 (map (seen_after a) (map (containing a) (cond b (p ∷ rest) rest))))
    go true e f k =
        let q : (add_run a t p).1.seen.0 ≡ max t.1.seen.0 (seen_after a (containing a p)) = unfold add_run in rw e in
        k ∙ ap (λ (s : ℕ). max s (largest s (map (seen_after a) (map (containing a) rest)))) q
        ∙ largest_more t.1.seen.0 (seen_after a (containing a p)) (map (seen_after a) (map (containing a) rest))
    go false e f k = ap (λ (u : Owned). (own_runs a u ps).1.seen.0) (own_skip a t p e) ∙ f

-- and for a well-formed graph it is the most that those have seen, or the first held event
pub own-seen : (a : Graph) → WellFormed a → (ps : List ℕ) →
    (own_runs a (own_in (concat a.parents) (first_held a)) ps).1.seen.0 ≡ largest (first_held a) (map (seen_after a) (parent_runs a ps))
own-seen a formed ps =
    let most = largest_has (λ x. first_held a ≤ x) (first_held a) (map (seen_after a) (parent_runs a ps)) (omega arith) one in
    own_most a (own_in (concat a.parents) (first_held a)) ps ∙ omega (arith, most)
  where
    one : (x : ℕ) → mem x (map (seen_after a) (parent_runs a ps)) ≡ true → first_held a ≤ x
    one x m =
        let w : (r : ℕ) × (mem r (parent_runs a ps) ≡ true) × (x ≡ seen_after a r) = map-mem (seen_after a) x (parent_runs a ps) m in
        let s = seen_after-within a formed w.0 (parent_runs-below a formed ps w.0 w.1) in
        omega (arith, w.2, s.0)
