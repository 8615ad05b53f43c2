-- A split keeps a graph well-formed, with one run and one entry more. Assumes nothing.
use Rattle.std.proofs.Common.{◌≡◌, refl, ap, ◌∙◌, ◌⊎◌, inl, inr, true, ◌&&◌, List, [], ◌∷◌, map, ℕ, zero, suc, ◌+◌, ◌≤◌, ◌<◌, arith, length, leb, lt-ltb, le-ltb, le-leb, ne_eqb}
use lib.ListN.{length-map}
use Rattle.lists.specs.Lists.{sum, insert_at, mem, rising, below}
use Rattle.lists.proofs.Truth.{lt_or_le, and_left, and_right, and_both}
use Rattle.lists.proofs.Members.{mem_one, map-mem}
use Rattle.lists.proofs.Rising.{rising-map}
use Rattle.lists.proofs.Bounds.{below_of, below_at}
use Rattle.lists.proofs.Inserts.{insert-length, insert-before, insert-after, insert-sum, insert-new, insert-other, insert_keeps, insert-rising}
use Rattle.model.specs.Graph.{Graph, runs, start, first_held, len, entries}
use Rattle.lists.specs.Scans.{groups_fit, between}
use Rattle.model.specs.Broken.{WellFormed, frontier_fits}
use Rattle.model.specs.Split.{renumber, second_seen, split, ends}
use Rattle.model.proofs.SeenFrom.{second_has}
use Rattle.model.proofs.FormedReads.{parents-row, parents-first, seen-within}

-- Runs from the split one on move up one, the others stay
pub renumber-below : (r p : ℕ) → p < r → renumber r p ≡ p
unfolding renumber
renumber-below r p h = rw (lt-ltb p r h)

pub renumber-from : (r p : ℕ) → r ≤ p → renumber r p ≡ suc p
unfolding renumber
renumber-from r p h = rw (le-ltb p r h)

pub renumber_le : (r p : ℕ) → renumber r p ≤ suc p
renumber_le r p = go (lt_or_le p r)
  where
    go : (p < r) ⊎ (r ≤ p) → renumber r p ≤ suc p
    go (inl h) = omega (arith, renumber-below r p h)
    go (inr h) = omega (arith, renumber-from r p h)

pub renumber-less : (r p q : ℕ) → p < q → renumber r p < renumber r q
renumber-less r p q h = go (lt_or_le p r) (lt_or_le q r)
  where
    go : (p < r) ⊎ (r ≤ p) → (q < r) ⊎ (r ≤ q) → renumber r p < renumber r q
    go (inl a) (inl b) = omega (arith, renumber-below r p a, renumber-below r q b)
    go (inl a) (inr b) = omega (arith, renumber-below r p a, renumber-from r q b)
    go (inr a) (inl b) = absurd (omega arith)
    go (inr a) (inr b) = omega (arith, renumber-from r p a, renumber-from r q b)

renumber-rising : (r : ℕ) (ps : List ℕ) → rising ps ≡ true → rising (map (renumber r) ps) ≡ true
renumber-rising r ps e = rising-map (renumber r) ps (λ x y m n l. renumber-less r x y l) e

-- The parents of a run up to the split one stay below it
renumber_stay : (r k : ℕ) (ps : List ℕ) → k ≤ r → below k ps ≡ true → below k (map (renumber r) ps) ≡ true
renumber_stay r k ps h b = below_of k (map (renumber r) ps) one
  where
    one : (y : ℕ) → mem y (map (renumber r) ps) ≡ true → y < k
    one y m =
        let w : (x : ℕ) × (mem x ps ≡ true) × (y ≡ renumber r x) = map-mem (renumber r) y ps m in
        let l = below_at k ps b w.0 w.1 in
        omega (arith, w.2, renumber-below r w.0 (omega arith))

-- and those of a later run below it where it stands now
renumber_up : (r k : ℕ) (ps : List ℕ) → below k ps ≡ true → below (suc k) (map (renumber r) ps) ≡ true
renumber_up r k ps b = below_of (suc k) (map (renumber r) ps) one
  where
    one : (y : ℕ) → mem y (map (renumber r) ps) ≡ true → y < suc k
    one y m =
        let w : (x : ℕ) × (mem x ps ≡ true) × (y ≡ renumber r x) = map-mem (renumber r) y ps m in
        omega (arith, w.2, renumber_le r w.0, below_at k ps b w.0 w.1)

parents_up : (r k : ℕ) (pss : List (List ℕ)) → groups_fit k pss ≡ true → groups_fit (suc k) (map (map (renumber r)) pss) ≡ true
parents_up r k [] e = unfold groups_fit in refl
parents_up r k (ps ∷ pss) e =
    let q = parents-first k ps pss e in
    parents-row (suc k) (map (renumber r) ps) (map (map (renumber r)) pss) (renumber-rising r ps q.0) (renumber_up r k ps q.1)
    (parents_up r (suc k) pss q.2)

-- The parents with the second part put in after the first
parents-insert : (k i r : ℕ) (pss : List (List ℕ)) → i < length pss → r ≡ k + i → groups_fit k pss ≡ true →
    groups_fit k (insert_at (suc i) (r ∷ []) (map (map (renumber r)) pss)) ≡ true
unfolding insert_at
parents-insert k i r [] h q e = absurd (omega arith)
parents-insert k zero r (ps ∷ pss) h q e =
    let w = parents-first k ps pss e in
    parents-row
    k
    (map (renumber r) ps)
    ((r ∷ []) ∷ map (map (renumber r)) pss)
    (renumber-rising r ps w.0)
    (renumber_stay r k ps (omega arith) w.1)
    second
  where
    one : (x : ℕ) → mem x (r ∷ []) ≡ true → x < suc k
    one x m = omega (arith, mem_one x r m)

    second : groups_fit (suc k) ((r ∷ []) ∷ map (map (renumber r)) pss) ≡ true
    second =
        let later = parents_up r (suc k) pss (parents-first k ps pss e).2 in
        parents-row (suc k) (r ∷ []) (map (map (renumber r)) pss) (unfold rising in refl) (below_of (suc k) (r ∷ []) one) later
parents-insert k (suc i) r (ps ∷ pss) h q e =
    let w = parents-first k ps pss e in
    parents-row
    k
    (map (renumber r) ps)
    (insert_at (suc i) (r ∷ []) (map (map (renumber r)) pss))
    (renumber-rising r ps w.0)
    (renumber_stay r k ps (omega arith) w.1)
    (parents-insert (suc k) i r pss (omega arith) (omega arith) w.2)

-- Seen lengths with that of the second part put in
seen-insert : (f i at s : ℕ) (xs ss : List ℕ) → i < length xs → i < length ss → between f xs ss ≡ true → (f ≤ s) × (s ≤ at) →
    between f (insert_at (suc i) at xs) (insert_at (suc i) s ss) ≡ true
unfolding between insert_at
seen-insert f i at s [] ss h k e b = absurd (omega arith)
seen-insert f i at s (x ∷ xs) [] h k e b = absurd (omega arith)
seen-insert f zero at s (x ∷ xs) (y ∷ ss) h k e b =
    let p : leb f y && leb y x ≡ true = and_left (leb f y && leb y x) (between f xs ss) e in
    let q : leb f s && leb s at ≡ true = and_both (leb f s) (leb s at) (le-leb f s b.0) (le-leb s at b.1) in
    and_both (leb f y && leb y x) _ p (and_both (leb f s && leb s at) (between f xs ss) q (and_right (leb f y && leb y x) (between f xs ss) e))
seen-insert f (suc i) at s (x ∷ xs) (y ∷ ss) h k e b =
    and_both (leb f y && leb y x) _ (and_left (leb f y && leb y x) (between f xs ss) e)
    (seen-insert f i at s xs ss (omega arith) (omega arith) (and_right (leb f y && leb y x) (between f xs ss) e) b)

-- The frontier's clause asks only whether there are runs
frontier-runs : (n m l : ℕ) (f : List ℕ) → 0 < n → 0 < m → frontier_fits n l f ≡ frontier_fits m l f
unfolding frontier_fits
frontier-runs n m l f h k = rw (ne_eqb n 0 (λ z. omega arith), ne_eqb m 0 (λ z. omega arith))

-- One run more, one entry more, the same frontier
pub split_runs : (g : Graph) (r at : ℕ) → runs (split g r at) ≡ suc (runs g)
unfolding runs split
split_runs g r at = insert-length (suc r) (r ∷ []) (map (map (renumber r)) g.parents) ∙ ap suc (length-map g.parents (map (renumber r)))

renumber-sizes : (r : ℕ) (pss : List (List ℕ)) → sum (λ ps. length ps) (map (map (renumber r)) pss) ≡ sum (λ ps. length ps) pss
unfolding sum
renumber-sizes r [] = refl
renumber-sizes r (ps ∷ pss) = omega (arith, length-map ps (renumber r), renumber-sizes r pss)

pub split-entries : (g : Graph) (r at : ℕ) → entries (split g r at) ≡ suc (entries g)
unfolding entries split
split-entries g r at =
    insert-sum (λ ps. length ps) (suc r) (r ∷ []) (map (map (renumber r)) g.parents) ∙ omega (arith, renumber-sizes r g.parents)

pub split-frontier : (g : Graph) (r at : ℕ) → (split g r at).frontier ≡ g.frontier
unfolding split
split-frontier g r at = refl

module _ (g : Graph) (formed : WellFormed g) (r at : ℕ) (inside : r < runs g) where
  -- The events stay
  pub split-len : len (split g r at) ≡ len g
  unfolding len start split
  split-len = rw (split_runs g r at) (insert-after (suc r) (runs g) at 0 g.starts inside (omega (arith, formed.starts_count)))

  pub split-first : first_held (split g r at) ≡ first_held g
  unfolding first_held start split
  split-first = insert-before (suc r) 0 at 0 g.starts (omega arith) (omega (arith, formed.starts_count))

  split-seen : length (split g r at).seen ≡ suc (length g.seen)
  unfolding split
  split-seen = insert-length (suc r) (second_seen g r at) g.seen

  split-frontier-fits : frontier_fits (runs (split g r at)) (len g) (split g r at).frontier ≡ true
  unfolding split
  split-frontier-fits = frontier-runs (runs (split g r at)) (runs g) (len g) g.frontier (omega (arith, split_runs g r at)) (omega arith)
      ∙ formed.frontier

  split-seen-fits : start g r < at → between (first_held g) (split g r at).starts (split g r at).seen ≡ true
  unfolding split
  split-seen-fits a =
      let o = seen-within g formed r inside in
      seen-insert (first_held g) r at (second_seen g r at) g.starts g.seen (omega (arith, formed.starts_count)) (omega (arith, formed.seen_count)) formed.seen
      (second_has (λ s. (first_held g ≤ s) × (s ≤ at)) g r at (omega (arith, o.0, o.1), omega arith) (o.0, omega (arith, o.1)))

  split-starts : start g r < at → at < start g (suc r) → rising (insert_at (suc r) at g.starts) ≡ true
  unfolding start
  split-starts a b = insert-rising r at g.starts (omega (arith, formed.starts_count)) formed.starts a b

  -- A split inside a run keeps the graph well-formed
  pub split-formed : start g r < at → at < start g (suc r) → WellFormed (split g r at)
  split-formed a b = record {
    starts_count = unfold split in omega (arith, insert-length (suc r) at g.starts, formed.starts_count, split_runs g r at);
    seen_count = omega (arith, split-seen, formed.seen_count, split_runs g r at);
    starts = unfold split in split-starts a b;
    parents = unfold split in parents-insert 0 r r g.parents (unfold runs in inside) (omega arith) formed.parents;
    frontier = rw split-len split-frontier-fits;
    seen = rw split-first (split-seen-fits a);
    changed = unfold split in omega (arith, formed.changed, split_runs g r at);
  }

-- After a split at p's end p ends a run, and for the other events nothing changes
pub split-ends : (g : Graph) (r p : ℕ) → ends (split g r (suc p)) p ≡ true
unfolding ends split
split-ends g r p = insert-new (suc r) (suc p) g.starts

pub split-ends-other : (g : Graph) (r p q : ℕ) → (q ≡ p → ⊥) → ends (split g r (suc p)) q ≡ ends g q
unfolding ends split
split-ends-other g r p q h = insert-other (suc r) (suc p) (suc q) g.starts (λ e. h (omega arith))

pub split-ends_keep : (g : Graph) (r at q : ℕ) → ends g q ≡ true → ends (split g r at) q ≡ true
unfolding ends split
split-ends_keep g r at q e = insert_keeps (suc r) at (suc q) g.starts e
