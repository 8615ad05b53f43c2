-- What a well-formed graph has: starts that rise to `len`, the run of each held event, parents below their run, bounds on what runs have
-- seen, and when a run is marked. Assumes nothing.
use Rattle.std.proofs.Common.{◌≡◌, refl, sym, ◌∙◌, ◌⊎◌, inl, inr, true, ◌&&◌, List, [], ◌∷◌, ℕ, zero, suc, ◌+◌, ◌-◌, ◌≤◌, ◌<◌, arith, length, get_or, drop, length-drop, get_or-drop, leb, ltb, eqb}
use Rattle.std.proofs.Common.{ltb-true, ltb-false, leb-true, leb-false, eqb-true, lt-ltb, le-ltb, le-leb, ne_eqb}
use borrow.Author.Tests.{lt-leb}
use Rattle.lists.specs.Lists.{count, mem, rising, below}
use Rattle.lists.proofs.Truth.{lt_eq_gt, false_true, and_left, and_right, and_both}
use Rattle.lists.proofs.Members.{mem_index, get_d_mem, get_d_all}
use Rattle.lists.proofs.Rising.{rising_get_d, rising-less, rising-count}
use Rattle.lists.proofs.Bounds.{below_at}
use Rattle.model.specs.Graph.{Graph, runs, start, first_held, len, containing, marked}
use Rattle.lists.specs.Scans.{between, groups_fit}
use Rattle.model.specs.Broken.{WellFormed, frontier_fits}
use Rattle.model.specs.Split.{ends}
use Rattle.model.specs.Push.{seen_after}
use Rattle.model.proofs.SeenFrom.{after_has}

-- Each seen length that fits lies between its bounds
pub between-at : (f : ℕ) (xs ss : List ℕ) → between f xs ss ≡ true → (i : ℕ) → i < length ss → (f ≤ get_or ss i 0) × (get_or ss i 0 ≤ get_or xs i 0)
unfolding between
between-at f xs [] e i h = absurd (omega arith)
between-at f [] (s ∷ ss) e i h = false_true e
between-at f (x ∷ xs) (s ∷ ss) e zero h =
    let p : leb f s && leb s x ≡ true = and_left (leb f s && leb s x) (between f xs ss) e in
    (leb-true f s (and_left (leb f s) (leb s x) p), leb-true s x (and_right (leb f s) (leb s x) p))
between-at f (x ∷ xs) (s ∷ ss) e (suc i) h = between-at f xs ss (and_right (leb f s && leb s x) (between f xs ss) e) i (omega arith)

-- A run's parents before those of the later runs: both fit, or neither
pub parents-row : (k : ℕ) (ps : List ℕ) (pss : List (List ℕ)) → rising ps ≡ true → below k ps ≡ true → groups_fit (suc k) pss ≡ true →
    groups_fit k (ps ∷ pss) ≡ true
unfolding groups_fit
parents-row k ps pss a b e = and_both (rising ps && below k ps) (groups_fit (suc k) pss) (and_both (rising ps) (below k ps) a b) e

pub parents-first : (k : ℕ) (ps : List ℕ) (pss : List (List ℕ)) → groups_fit k (ps ∷ pss) ≡ true →
    (rising ps ≡ true) × (below k ps ≡ true) × (groups_fit (suc k) pss ≡ true)
unfolding groups_fit
parents-first k ps pss e =
    let q : rising ps && below k ps ≡ true = and_left (rising ps && below k ps) (groups_fit (suc k) pss) e in
    (and_left (rising ps) (below k ps) q, and_right (rising ps) (below k ps) q, and_right (rising ps && below k ps) (groups_fit (suc k) pss) e)

-- Parents that fit are below their run
pub groups_fit-at : (k : ℕ) (pss : List (List ℕ)) → groups_fit k pss ≡ true → (i p : ℕ) → mem p (get_or pss i []) ≡ true → p < k + i
unfolding mem
groups_fit-at k [] e i p m = false_true m
groups_fit-at k (ps ∷ pss) e zero p m = omega (arith, below_at k ps (parents-first k ps pss e).1 p m)
groups_fit-at k (ps ∷ pss) e (suc i) p m = omega (arith, groups_fit-at (suc k) pss (parents-first k ps pss e).2 i p m)

module _ (g : Graph) (formed : WellFormed g) where
  -- Starts never fall, from the first held event to `len`
  pub start_mono : (r q : ℕ) → r ≤ q → q ≤ runs g → start g r ≤ start g q
  unfolding start
  start_mono r q h k = rising_get_d g.starts formed.starts r q h (omega (arith, formed.starts_count))

  -- and each is above the one before
  pub start-less : (r q : ℕ) → r < q → q ≤ runs g → start g r < start g q
  unfolding start
  start-less r q h k = rising-less g.starts formed.starts r q h (omega (arith, formed.starts_count))

  pub start-len : (r : ℕ) → r ≤ runs g → start g r ≤ len g
  unfolding len
  start-len r h = start_mono r (runs g) h (omega arith)

  pub first-start : (r : ℕ) → r ≤ runs g → first_held g ≤ start g r
  unfolding first_held
  first-start r h = start_mono 0 r (omega arith) h

  pub first-len : first_held g ≤ len g
  first-len = unfold len in first-start (runs g) (omega arith)

  -- How many starts are at most e tells which are
  pub start-count : (r e : ℕ) → r ≤ runs g → leb (start g r) e ≡ ltb r (count (λ s. leb s e) g.starts)
  unfolding start
  start-count r e h = rising-count g.starts formed.starts r e (omega (arith, formed.starts_count))

  count-first : (e : ℕ) → first_held g ≤ e → 0 < count (λ s. leb s e) g.starts
  unfolding first_held
  count-first e h = ltb-true 0 (count (λ s. leb s e) g.starts) (sym (start-count 0 e (omega arith)) ∙ le-leb (start g 0) e h)

  count-last : (e : ℕ) → e < len g → count (λ s. leb s e) g.starts ≤ runs g
  unfolding len
  count-last e h = ltb-false (runs g) (count (λ s. leb s e) g.starts) (sym (start-count (runs g) e (omega arith)) ∙ lt-leb (start g (runs g)) e h)

  -- A held event lies in the run that contains it
  pub containing_in : (e : ℕ) → first_held g ≤ e → e < len g →
      (containing g e < runs g) × (start g (containing g e) ≤ e) × (e < start g (suc (containing g e)))
  unfolding containing
  containing_in e f l = go (count (λ s. leb s e) g.starts) refl (count-first e f) (count-last e l)
    where
      go : (n : ℕ) → count (λ s. leb s e) g.starts ≡ n → 0 < n → n ≤ runs g →
          (n - 1 < runs g) × (start g (n - 1) ≤ e) × (e < start g (suc (n - 1)))
      go n q h k = (
        omega arith,
        leb-true (start g (n - 1)) e (start-count (n - 1) e (omega arith) ∙ lt-ltb (n - 1) (count (λ s. leb s e) g.starts) (omega arith)),
        leb-false (start g (suc (n - 1))) e (start-count (suc (n - 1)) e (omega arith) ∙ le-ltb (suc (n - 1)) _ (omega arith)),
      )

  -- and in no other
  pub containing-only : (e r : ℕ) → r < runs g → start g r ≤ e → e < start g (suc r) → containing g e ≡ r
  containing-only e r lt from to =
      let c = containing_in e (omega (arith, first-start r (omega arith))) (omega (arith, start-len (suc r) lt)) in
      same (containing g e) c.0 c.1 c.2 (lt_eq_gt (containing g e) r)
    where
      same : (q : ℕ) → q < runs g → start g q ≤ e → e < start g (suc q) → (q < r) ⊎ ((q ≡ r) ⊎ (r < q)) → q ≡ r
      same q b lo hi (inl c) = absurd (omega (arith, start_mono (suc q) r c (omega arith)))
      same q b lo hi (inr (inl c)) = c
      same q b lo hi (inr (inr c)) = absurd (omega (arith, start_mono (suc r) q c (omega arith)))

  -- A run's first event lies in it
  pub containing-start : (r : ℕ) → r < runs g → containing g (start g r) ≡ r
  containing-start r lt = containing-only (start g r) r lt (omega arith) (start-less r (suc r) (omega arith) lt)

  -- Where a run ends after p, a later event lies in a later run
  pub containing-less : (p q : ℕ) → first_held g ≤ p → p < q → q < len g → ends g p ≡ true → containing g p < containing g q
  unfolding containing ends start
  containing-less p q f l h e =
      let w : (j : ℕ) × (j < length g.starts) × (get_or g.starts j 0 ≡ suc p) = mem_index (suc p) 0 g.starts e in
      let i : w.0 ≤ runs g = omega (arith, w.1, formed.starts_count) in
      let v : start g w.0 ≡ suc p = w.2 in
      let above = ltb-false w.0 (count (λ s. leb s p) g.starts) (sym (start-count w.0 p i) ∙ lt-leb (start g w.0) p (omega (arith, v))) in
      let under = ltb-true w.0 (count (λ s. leb s q) g.starts) (sym (start-count w.0 q i) ∙ le-leb (start g w.0) q (omega (arith, v))) in
      omega (arith, above, under, count-first p f)

  -- What a run has seen lies between the first held event and its start
  pub seen-within : (r : ℕ) → r < runs g → (first_held g ≤ get_or g.seen r 0) × (get_or g.seen r 0 ≤ start g r)
  seen-within r h = unfold start in between-at (first_held g) g.starts g.seen formed.seen r (omega (arith, formed.seen_count))

  -- and "seen after" it between the first held event and `len`
  pub seen_after-within : (r : ℕ) → r < runs g → (first_held g ≤ seen_after g r) × (seen_after g r ≤ len g)
  seen_after-within r h =
      let s = seen-within r h in
      after_has (λ k. (first_held g ≤ k) × (k ≤ len g)) g r (first-start (suc r) (omega arith), start-len (suc r) (omega arith))
      (s.0, omega (arith, s.1, start-len r (omega arith)))

  -- A run that starts where every run from it on has seen to, or before, is marked
  pub marked_of : (r : ℕ) → ((q : ℕ) → r ≤ q → q < runs g → start g r ≤ get_or g.seen q 0) → marked g r ≡ true
  unfolding marked
  marked_of r h = get_d_all (λ s. leb (start g r) s) (drop r g.seen) (λ i lt.
      rw (get_or-drop r g.seen i 0)
      (le-leb (start g r) (get_or g.seen (r + i) 0) (h (r + i) (omega arith) (omega (arith, length-drop r g.seen, formed.seen_count)))))

  -- so one that starts at the first held event, or before, is
  pub marked-first : (r : ℕ) → start g r ≤ first_held g → marked g r ≡ true
  marked-first r h = marked_of r (λ q le lt. omega (arith, (seen-within q lt).0))

  -- The frontier rises, below `len`
  frontier-order : rising g.frontier && below (len g) g.frontier ≡ true
  unfolding frontier_fits
  frontier-order = and_left (rising g.frontier && below (len g) g.frontier) _ formed.frontier

  pub frontier-rising : rising g.frontier ≡ true
  frontier-rising = and_left (rising g.frontier) (below (len g) g.frontier) frontier-order

  pub frontier-below : below (len g) g.frontier ≡ true
  frontier-below = and_right (rising g.frontier) (below (len g) g.frontier) frontier-order

  -- Where there are runs the last event is in it
  pub frontier-last : 0 < runs g → mem (len g - 1) g.frontier ≡ true
  unfolding frontier_fits
  frontier-last h =
      let f : List ℕ = g.frontier in
      let e = and_right (rising f && below (len g) f) _ formed.frontier in
      let q : ltb 0 (length f) && eqb (suc (get_or f (length f - 1) 0)) (len g) ≡ true = rw (ne_eqb (runs g) 0 (λ z. omega arith)) at e in
      let n = ltb-true 0 (length f) (and_left (ltb 0 (length f)) (eqb (suc (get_or f (length f - 1) 0)) (len g)) q) in
      let l = eqb-true (suc (get_or f (length f - 1) 0)) (len g) (and_right (ltb 0 (length f)) (eqb (suc (get_or f (length f - 1) 0)) (len g)) q) in
      let v : len g - 1 ≡ get_or f (length f - 1) 0 = omega arith in
      rw v (get_d_mem f (length f - 1) 0 (omega arith))
