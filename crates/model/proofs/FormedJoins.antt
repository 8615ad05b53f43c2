-- A run that grows and a new run keep a graph well-formed. Assumes nothing.
use Rattle.std.proofs.Common.{◌≡◌, refl, ap, ◌∙◌, true, not, ◌&&◌, List, [], ◌∷◌, ◌++◌, map, ℕ, zero, suc, ◌+◌, ◌-◌, ◌≤◌, ◌<◌, min, arith, length, get_or, take, length-take, get_or-take}
use Rattle.std.proofs.Common.{length-take-le, leb, ltb, eqb, lt-ltb, le-leb, eq-eqb}
use lib.ListN.{length-map, get_or-append}
use lib.Seq.{get_or_at}
use Rattle.lists.specs.Lists.{mem, rising, below, filter}
use Rattle.lists.proofs.Truth.{and_left, and_right, and_both, or_right}
use Rattle.lists.proofs.Members.{mem-filter, map-mem}
use Rattle.lists.proofs.Counts.{length_snoc, sum_snoc}
use Rattle.lists.proofs.Rising.{rising_snoc, rising-filter, rising-map, rising-take}
use Rattle.lists.proofs.Bounds.{below_of, below_at, below_get_d, below_snoc, least_le}
use Rattle.model.specs.Graph.{Graph, runs, start, first_held, len, entries, containing, marks, held}
use Rattle.lists.specs.Scans.{groups_fit, between}
use Rattle.model.specs.Broken.{WellFormed, frontier_fits}
use Rattle.model.specs.Split.{ends}
use Rattle.model.specs.Push.{staying, grown, parent_runs, new_seen, joined, lowered}
use Rattle.model.proofs.SeenFrom.{new_has}
use Rattle.model.proofs.FormedReads.{parents-row, parents-first, start-len, first-len, containing_in, containing-less, seen_after-within, frontier-rising, frontier-below}
use Rattle.model.proofs.FormedSplitAll.{Inside}
use Rattle.model.proofs.Siding.{held-mem}

-- A frontier whose last is the last event
frontier_snoc : (n l v : ℕ) (f : List ℕ) → rising f ≡ true → below v f ≡ true → l ≡ suc v → frontier_fits n l (f ++ v ∷ []) ≡ true
unfolding frontier_fits
frontier_snoc n l v f r b e =
    let k : length (f ++ v ∷ []) - 1 ≡ length f = omega (arith, length_snoc f v) in
    let x : get_or (f ++ v ∷ []) (length (f ++ v ∷ []) - 1) 0 ≡ v = rw k (get_or_at f v [] 0 (length f) refl) in
    let under = below_snoc l v f (below_of l f (λ y m. omega (arith, below_at v f b y m))) (omega arith) in
    let filled = lt-ltb 0 (length (f ++ v ∷ [])) (omega (arith, length_snoc f v)) in
    let last = eq-eqb (suc (get_or (f ++ v ∷ []) (length (f ++ v ∷ []) - 1) 0)) l (omega arith) in
    and_both
    (rising (f ++ v ∷ []) && below l (f ++ v ∷ []))
    _
    (and_both (rising (f ++ v ∷ [])) (below l (f ++ v ∷ [])) (rising_snoc f v r b) under)
    (or_right (eqb n 0) (and_both (ltb 0 (length (f ++ v ∷ []))) _ filled last))

parents_snoc : (k : ℕ) (pss : List (List ℕ)) (ps : List ℕ) → groups_fit k pss ≡ true → rising ps ≡ true → below (k + length pss) ps ≡ true →
    groups_fit k (pss ++ ps ∷ []) ≡ true
parents_snoc k [] ps e r b =
    let z : k + 0 ≡ k = omega arith in
    parents-row k ps [] r (rw z at b) (unfold groups_fit in refl)
parents_snoc k (qs ∷ pss) ps e r b =
    let w = parents-first k qs pss e in
    let z : k + suc (length pss) ≡ suc k + length pss = omega arith in
    parents-row k qs (pss ++ ps ∷ []) w.0 w.1 (parents_snoc (suc k) pss ps w.2 r (rw z at b))

seen_snoc : (f v s : ℕ) (xs ss : List ℕ) → length xs ≡ suc (length ss) → between f xs ss ≡ true → f ≤ s → s ≤ get_or xs (length ss) 0 →
    between f (xs ++ v ∷ []) (ss ++ s ∷ []) ≡ true
unfolding between
seen_snoc f v s [] ss n e a b = absurd (omega arith)
seen_snoc f v s (x ∷ xs) [] n e a b = and_both (leb f s && leb s x) _ (and_both (leb f s) (leb s x) (le-leb f s a) (le-leb s x b)) refl
seen_snoc f v s (x ∷ xs) (t ∷ ss) n e a b =
    and_both (leb f t && leb t x) _ (and_left (leb f t && leb t x) (between f xs ss) e)
    (seen_snoc f v s xs ss (omega arith) (and_right (leb f t && leb t x) (between f xs ss) e) a b)

seen-grown : (f n v : ℕ) (xs ss : List ℕ) → length ss ≤ n → n ≤ length xs → between f (take n xs ++ v ∷ []) ss ≡ between f xs ss
unfolding between
seen-grown f n v xs [] h k = refl
seen-grown f zero v xs (s ∷ ss) h k = absurd (omega arith)
seen-grown f (suc n) v [] (s ∷ ss) h k = absurd (omega arith)
seen-grown f (suc n) v (x ∷ xs) (s ∷ ss) h k = rw (seen-grown f n v xs ss (omega arith) (omega arith))

-- A new run makes one run more, and as many entries as it has held parents
pub joined-runs : (g : Graph) (ps : List ℕ) (n : ℕ) → runs (joined g ps n) ≡ suc (runs g)
unfolding runs joined
joined-runs g ps n = length_snoc g.parents (parent_runs g ps)

pub joined-entries : (g : Graph) (ps : List ℕ) (n : ℕ) → entries (joined g ps n) ≡ entries g + length (held g ps)
unfolding entries joined parent_runs
joined-entries g ps n =
    omega (arith, sum_snoc (λ qs. length qs) g.parents (map (containing g) (held g ps)), length-map (held g ps) (containing g))

-- What a new run takes from its held parents
module _ (g : Graph) (formed : WellFormed g) (ps : List ℕ) where
  -- Its parent runs are below it
  pub parent_runs-below : (r : ℕ) → mem r (parent_runs g ps) ≡ true → r < runs g
  unfolding parent_runs
  parent_runs-below r m =
      let w : (e : ℕ) × (mem e (held g ps) ≡ true) × (r ≡ containing g e) = map-mem (containing g) r (held g ps) m in
      let h = held-mem g ps w.0 w.1 in
      omega (arith, w.2, (containing_in g formed w.0 h.1 h.2).0)

  -- What it has seen lies between the first held event and `len`
  pub new_seen-within : (first_held g ≤ new_seen g ps) × (new_seen g ps ≤ len g)
  new_seen-within =
      new_has (λ k. (first_held g ≤ k) × (k ≤ len g)) g ps (first-len g formed, omega arith) (omega arith, first-len g formed)
      (λ r m. seen_after-within g formed r (parent_runs-below r m))

-- What the frontier becomes, in either case
module _ (g : Graph) (formed : WellFormed g) (ps : List ℕ) (n : ℕ) (some : 0 < n) where
  staying-rising : rising (staying g ps) ≡ true
  unfolding staying
  staying-rising = rising-filter (λ e. not (mem e ps)) g.frontier (frontier-rising g formed)

  staying-below : below (len g + n - 1) (staying g ps) ≡ true
  unfolding staying
  staying-below =
      below_of (len g + n - 1) (filter (λ e. not (mem e ps)) g.frontier)
      (λ x m. omega (arith, below_at (len g) g.frontier (frontier-below g formed) x (mem-filter (λ e. not (mem e ps)) x g.frontier m).0))

  -- It rises, and its last is the new last event
  pub frontier-after : (k : ℕ) → frontier_fits k (len g + n) (staying g ps ++ (len g + n - 1) ∷ []) ≡ true
  frontier-after k = frontier_snoc k (len g + n) (len g + n - 1) (staying g ps) staying-rising staying-below (omega arith)

  -- Where the last run grows, so does `len`, and the first held event stays
  pub grown-len : len (grown g ps n) ≡ len g + n
  unfolding len start grown runs
  grown-len =
      let h : length g.parents ≤ length g.starts = omega (arith, formed.starts_count) in
      get_or_at (take (length g.parents) g.starts) (get_or g.starts (length g.parents) 0 + n) [] 0 (length g.parents)
      (length-take-le (length g.parents) g.starts h)

  pub grown-first : 0 < runs g → first_held (grown g ps n) ≡ first_held g
  unfolding first_held start grown
  grown-first h =
      let l : 0 < length (take (runs g) g.starts) = omega (arith, length-take (runs g) g.starts, formed.starts_count) in
      get_or-append (take (runs g) g.starts) ((len g + n) ∷ []) 0 0 l ∙ get_or-take (runs g) g.starts 0 0 h

  starts-len : (i : ℕ) → i ≤ runs g → get_or g.starts i 0 ≤ len g
  unfolding start
  starts-len i h = start-len g formed i h

  grown-starts : below (len g + n) (take (runs g) g.starts) ≡ true
  grown-starts = below_get_d (len g + n) (take (runs g) g.starts) under
    where
      under : (i : ℕ) → i < length (take (runs g) g.starts) → get_or (take (runs g) g.starts) i 0 < len g + n
      under i h =
          let l : i < runs g = omega (arith, length-take (runs g) g.starts) in
          rw (get_or-take (runs g) g.starts i 0 l) (omega (arith, starts-len i (omega arith)))

  -- and the graph stays well-formed
  pub grown-formed : 0 < runs g → WellFormed (grown g ps n)
  grown-formed h = record {
    starts_count = unfold grown runs in count-is;
    seen_count = unfold grown runs in formed.seen_count;
    starts = unfold grown in rising_snoc (take (runs g) g.starts) (len g + n) (rising-take (runs g) g.starts formed.starts) grown-starts;
    parents = unfold grown in formed.parents;
    frontier = rw grown-len (unfold grown in frontier-after (runs (grown g ps n)));
    seen = rw (grown-first h) (unfold grown in seen-is);
    changed = unfold grown runs in changed-is;
  }
    where
      count-is : length (take (runs g) g.starts ++ (len g + n) ∷ []) ≡ suc (runs g)
      count-is = omega (arith, length_snoc (take (runs g) g.starts) (len g + n), length-take (runs g) g.starts, formed.starts_count)

      seen-is : between (first_held g) (take (runs g) g.starts ++ (len g + n) ∷ []) g.seen ≡ true
      seen-is =
          seen-grown (first_held g) (runs g) (len g + n) g.starts g.seen (omega (arith, formed.seen_count)) (omega (arith, formed.starts_count))
          ∙ formed.seen

      changed-is : min (runs g - 1) g.changed ≤ runs g
      changed-is = omega arith

  -- So with a new run
  pub joined-len : len (joined g ps n) ≡ len g + n
  unfolding len start joined
  joined-len = rw (joined-runs g ps n) (get_or_at g.starts (get_or g.starts (runs g) 0 + n) [] 0 (suc (runs g)) formed.starts_count)

  pub joined-first : first_held (joined g ps n) ≡ first_held g
  unfolding first_held start joined
  joined-first = get_or-append g.starts ((len g + n) ∷ []) 0 0 (omega (arith, formed.starts_count))

  module _ (inside : Inside g (held g ps)) (ended : (p : ℕ) → mem p (held g ps) ≡ true → ends g p ≡ true) where
    -- Its parent runs rise
    pub parent_runs-rising : rising (parent_runs g ps) ≡ true
    unfolding parent_runs
    parent_runs-rising = rising-map (containing g) (held g ps) less inside.0
      where
        less : (x y : ℕ) → mem x (held g ps) ≡ true → mem y (held g ps) ≡ true → x < y → containing g x < containing g y
        less x y m k l = containing-less g formed x y (inside.1 x m).0 l (inside.1 y k).1 (ended x m)

    joined-parents : groups_fit 0 (g.parents ++ parent_runs g ps ∷ []) ≡ true
    joined-parents =
        let z : 0 + length g.parents ≡ runs g = unfold runs in omega arith in
        parents_snoc 0 g.parents (parent_runs g ps) formed.parents parent_runs-rising
        (rw z (below_of (runs g) (parent_runs g ps) (parent_runs-below g formed ps)))

    -- A new run keeps the graph well-formed
    pub joined-formed : WellFormed (joined g ps n)
    joined-formed = record {
      starts_count = rw (joined-runs g ps n) (unfold joined in length_snoc g.starts (len g + n) ∙ ap suc formed.starts_count);
      seen_count = rw (joined-runs g ps n) (unfold joined in length_snoc g.seen (new_seen g ps) ∙ ap suc formed.seen_count);
      starts = unfold joined in rising_snoc g.starts (len g + n) formed.starts starts-below;
      parents = unfold joined in joined-parents;
      frontier = rw joined-len (unfold joined in frontier-after (runs (joined g ps n)));
      seen = rw joined-first (unfold joined in seen-is);
      changed = rw (joined-runs g ps n) (unfold joined in changed-is);
    }
      where
        starts-below : below (len g + n) g.starts ≡ true
        starts-below = below_get_d (len g + n) g.starts (λ i h. omega (arith, some, starts-len i (omega (arith, formed.starts_count))))

        counts : length g.starts ≡ suc (length g.seen)
        counts = omega (arith, formed.starts_count, formed.seen_count)

        seen_end : new_seen g ps ≤ get_or g.starts (length g.seen) 0
        seen_end = rw formed.seen_count (unfold len start in (new_seen-within g formed ps).1)

        seen-is : between (first_held g) (g.starts ++ (len g + n) ∷ []) (g.seen ++ new_seen g ps ∷ []) ≡ true
        seen-is =
            seen_snoc (first_held g) (len g + n) (new_seen g ps) g.starts g.seen counts formed.seen (new_seen-within g formed ps).0 seen_end

        changed-is : min (runs g) g.changed ≤ suc (runs g)
        changed-is = omega arith

-- Lowering `changed_from` keeps the rest
pub lowered-formed : (g h : Graph) → WellFormed h → WellFormed (lowered g h)
lowered-formed g h f = record {
  starts_count = unfold lowered runs in f.starts_count;
  seen_count = unfold lowered runs in f.seen_count;
  starts = unfold lowered in f.starts;
  parents = unfold lowered in f.parents;
  frontier = unfold lowered runs len start in f.frontier;
  seen = unfold lowered first_held start in f.seen;
  changed = unfold lowered runs in below-runs;
}
  where
    below-runs : (lowered g h).changed ≤ runs h
    below-runs = unfold lowered in omega (arith, f.changed, least_le h.changed (filter (λ r. not (mem r (marks h))) (marks g)))

pub lowered-len : (g h : Graph) → len (lowered g h) ≡ len h
unfolding len start runs lowered
lowered-len g h = refl

pub lowered-first : (g h : Graph) → first_held (lowered g h) ≡ first_held h
unfolding first_held start lowered
lowered-first g h = refl
