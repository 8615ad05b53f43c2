-- A split keeps a graph tied to its log, and its seen lengths sound. Assumes nothing.
use Rattle.std.proofs.Common.{◌≡◌, refl, sym, ap, ◌∙◌, subst, ◌⊎◌, inl, inr, true, false, List, [], ◌∷◌, ◌++◌, map, ℕ, suc, ◌-◌, ◌≤◌, ◌<◌, arith, length, get_or, leb, leb-true, leb-false, lt-ltb}
use Rattle.std.proofs.Common.{le-ltb, le-leb}
use lib.ListN.{length-map, get_or-map}
use Rattle.lists.specs.Lists.{filter, mem, count, insert_at}
use Rattle.lists.proofs.Truth.{lt_or_le, eq_or-not, false_true}
use Rattle.lists.proofs.Members.{mem_one, get_d_mem, map-mem}
use Rattle.lists.proofs.Counts.{count_le}
use Rattle.lists.proofs.Rising.{up_count}
use Rattle.lists.proofs.Inserts.{insert-length, insert-before, insert-at, insert-after, insert-append}
use Rattle.model.specs.EventGraph.{reaches, ancestor}
use Rattle.model.specs.Graph.{Graph, start}
use Rattle.model.specs.History.{at}
use Rattle.model.specs.Split.{renumber, second_seen, split}
use Rattle.model.specs.Log.{Log, run_start, held_of, held_before, event_graph, edge, log_start}
use Rattle.model.proofs.SeenSecond.{Met, second_own}
use Rattle.model.proofs.SeenFrom.{second_has}
use Rattle.model.proofs.FormedSplits.{renumber-below, renumber-from, renumber_le}
use Rattle.model.proofs.Histories.{Below}
use Rattle.model.proofs.Exact.{ancestors}
use Rattle.model.proofs.Tied.{last_of, Tied, alone, down}
use Rattle.model.proofs.Seen.{Seen, start_is, reaches_more}
use Rattle.model.proofs.Edges.{edge-is, edge_up, mem-edge}

module _ (g : Graph) (l : Log) (t : Tied g l) (a r : ℕ) (lt : l.first_held < a) (hi : a < l.next) (new : mem a l.edges ≡ false)
    (run : suc r ≡ count (λ s. leb s a) l.edges) where
  -- The split lies inside run r
  pub inside-run : (run_start l r < a) × (a < run_start l (suc r)) × (r < length l.edges)
  unfolding run_start
  inside-run =
      let below : suc r ≤ length l.edges = omega (arith, count_le (λ s. leb s a) l.edges) in
      let p : get_or l.edges r l.next ≤ a = leb-true (get_or l.edges r l.next) a
      (up_count l.first_held l.edges l.next t.edged.up r a hi ∙ lt-ltb r (count (λ s. leb s a) l.edges) (omega arith)) in
      let q : a < get_or l.edges (suc r) l.next = leb-false (get_or l.edges (suc r) l.next) a
      (up_count l.first_held l.edges l.next t.edged.up (suc r) a hi ∙ le-ltb (suc r) (count (λ s. leb s a) l.edges) (omega arith)) in
      (strict p (eq_or-not (get_or l.edges r l.next) a) below, q, below)
    where
      strict : get_or l.edges r l.next ≤ a → (get_or l.edges r l.next ≡ a) ⊎ (get_or l.edges r l.next ≡ a → ⊥) → suc r ≤ length l.edges → get_or l.edges r l.next < a
      strict p (inl e) b = false_true (sym new ∙ subst (λ (k : ℕ). mem k l.edges ≡ true) e (get_d_mem l.edges r l.next b))
      strict p (inr e) b = omega arith

  edges_are : edge a l.edges ≡ insert_at (suc r) a l.edges
  edges_are = edge-is l.first_held l.edges l.next a t.edged.up new ∙ ap (λ k. insert_at k a l.edges) (sym run)

  abbrev l' : Log
  l' = log_start l a

  -- Where the runs before the second part start, it and those after it
  run-before : (x : ℕ) → x ≤ r → run_start l' x ≡ run_start l x
  unfolding run_start log_start
  run-before x le = rw edges_are (insert-before (suc r) x a l.next l.edges (omega arith) inside-run.2)

  run_here : run_start l' (suc r) ≡ a
  unfolding run_start log_start
  run_here = rw edges_are (insert-at (suc r) a l.next l.edges inside-run.2)

  run-after : (x : ℕ) → suc r ≤ x → run_start l' (suc x) ≡ run_start l x
  unfolding run_start log_start
  run-after x le = rw edges_are (insert-after (suc r) x a l.next l.edges le inside-run.2)

  -- The parents of the runs before the second part, of it and of those after it
  abbrev pub parents' : List (List ℕ)
  parents' = insert_at (suc r) (r ∷ []) (map (map (renumber r)) g.parents)

  renumber-length : length (map (map (renumber r)) g.parents) ≡ length l.edges
  renumber-length = length-map g.parents (map (renumber r)) ∙ t.rows

  renumber-at : (x : ℕ) → at (map (map (renumber r)) g.parents) x ≡ map (renumber r) (at g.parents x)
  unfolding at
  renumber-at x = get_or-map (map (renumber r)) g.parents x []

  pub parents-before : (x : ℕ) → x ≤ r → at parents' x ≡ map (renumber r) (at g.parents x)
  unfolding at
  parents-before x le = insert-before (suc r) x (r ∷ []) [] (map (map (renumber r)) g.parents) (omega arith) (omega (arith, renumber-length, inside-run.2)) ∙ renumber-at x

  pub parents_here : at parents' (suc r) ≡ r ∷ []
  unfolding at
  parents_here = insert-at (suc r) (r ∷ []) [] (map (map (renumber r)) g.parents) (omega (arith, renumber-length, inside-run.2))

  pub parents-after : (x : ℕ) → suc r ≤ x → at parents' (suc x) ≡ map (renumber r) (at g.parents x)
  unfolding at
  parents-after x le = insert-after (suc r) x (r ∷ []) [] (map (map (renumber r)) g.parents) le (omega (arith, renumber-length, inside-run.2)) ∙ renumber-at x

  last_renumbered : (p : ℕ) → last_of l' (renumber r p) ≡ last_of l p
  last_renumbered p = go (lt_or_le p r)
    where
      go : (p < r) ⊎ (r ≤ p) → last_of l' (renumber r p) ≡ last_of l p
      go (inl c) = rw (renumber-below r p c, run-before (suc p) c)
      go (inr c) = rw (renumber-from r p c, run-after (suc p) (omega arith))

  lasts_renumbered : (ps : List ℕ) → map (last_of l') (map (renumber r) ps) ≡ map (last_of l) ps
  lasts_renumbered [] = refl
  lasts_renumbered (p ∷ ps) = rw (last_renumbered p, lasts_renumbered ps)

  -- A run is before the second part, is it, or is after it
  pub place : (x : ℕ) → (x ≤ r) ⊎ ((x ≡ suc r) ⊎ ((y : ℕ) × (x ≡ suc y) × (suc r ≤ y)))
  place x = go (lt_or_le r x) (eq_or-not x (suc r))
    where
      go : (r < x) ⊎ (x ≤ r) → (x ≡ suc r) ⊎ (x ≡ suc r → ⊥) → (x ≤ r) ⊎ ((x ≡ suc r) ⊎ ((y : ℕ) × (x ≡ suc y) × (suc r ≤ y)))
      go (inr c) d = inl c
      go (inl c) (inl d) = inr (inl d)
      go (inl c) (inr d) = inr (inr (x - 1, omega arith, omega arith))

  below' : Below parents'
  below' x p m = go (place x)
    where
      moved : (y : ℕ) → mem p (map (renumber r) (at g.parents y)) ≡ true → (q : ℕ) × (q < y) × (p ≡ renumber r q)
      moved y k = let z : (q : ℕ) × (mem q (at g.parents y) ≡ true) × (p ≡ renumber r q) = map-mem (renumber r) p (at g.parents y) k in
          (z.0, t.below y z.0 z.1, z.2)

      go : (x ≤ r) ⊎ ((x ≡ suc r) ⊎ ((y : ℕ) × (x ≡ suc y) × (suc r ≤ y))) → p < x
      go (inl c) = let z : (q : ℕ) × (q < x) × (p ≡ renumber r q) = moved x (rw (parents-before x c) at m) in
          omega (arith, z.1, z.2, renumber-below r z.0 (omega (arith, z.1)))
      go (inr (inl c)) = omega (arith, mem_one p r (rw (c, parents_here) at m))
      go (inr (inr c)) = let z : (q : ℕ) × (q < c.0) × (p ≡ renumber r q) = moved c.0 (rw (c.1, parents-after c.0 c.2) at m) in
          omega (arith, z.1, z.2, renumber_le r z.0, c.1)

  held_one : (x : ℕ) → l.first_held ≤ x → held_of l (x ∷ []) ≡ x ∷ []
  unfolding held_of filter
  held_one x h = rw (le-leb l.first_held x h)

  held_same : (ps : List ℕ) → held_of l' ps ≡ held_of l ps
  unfolding held_of log_start
  held_same ps = refl

  parents_tied : (x : ℕ) → x < suc (length l.edges) → held_of l' (l.parents (run_start l' x)) ≡ map (last_of l') (at parents' x)
  parents_tied x b = held_same (l.parents (run_start l' x)) ∙ go (place x)
    where
      go : (x ≤ r) ⊎ ((x ≡ suc r) ⊎ ((y : ℕ) × (x ≡ suc y) × (suc r ≤ y))) → held_of l (l.parents (run_start l' x)) ≡ map (last_of l') (at parents' x)
      go (inl c) = rw (run-before x c, parents-before x c) (t.parents x (omega (arith, inside-run.2)) ∙ sym (lasts_renumbered (at g.parents x)))
      go (inr (inl c)) = rw (c, run_here, parents_here, alone g l t r a inside-run.0 inside-run.1) (held_one (a - 1) (omega arith) ∙ ap (λ k. (k - 1) ∷ []) (sym run_here))
      go (inr (inr c)) = rw (c.1, run-after c.0 c.2, parents-after c.0 c.2) (t.parents c.0 (omega (arith, c.1)) ∙ sym (lasts_renumbered (at g.parents c.0)))

  abbrev g' : Graph
  g' = split g r a

  edges-length : length (edge a l.edges) ≡ suc (length l.edges)
  edges-length = ap length edges_are ∙ insert-length (suc r) a l.edges

  -- A split keeps the graph tied
  pub split_tied : Tied g' l'
  unfolding split log_start
  split_tied = record {
    edged = record { up = edge_up l.first_held l.edges l.next a t.edged.up (omega arith) hi; first = run-before 0 (omega arith) ∙ t.edged.first };
    starts = ap (λ (xs : List ℕ). insert_at (suc r) a xs) t.starts ∙
        (insert-append (suc r) a l.edges (l.next ∷ []) inside-run.2 ∙ ap (λ (xs : List ℕ). xs ++ l.next ∷ []) (sym edges_are));
    rows = insert-length (suc r) (r ∷ []) (map (map (renumber r)) g.parents) ∙ (ap suc renumber-length ∙ sym edges-length);
    below = below';
    parents = λ x b. parents_tied x (omega (arith, edges-length));
    inside = λ e p q m. t.inside e p q (mem-edge e a l.edges m);
  }

  -- What the first part has seen, and the second
  abbrev own : ℕ
  own = get_or g.seen r 0

  abbrev second : ℕ
  second = second_seen g r a

  module _ (S : Seen g l) where
    abbrev seen' : List ℕ
    seen' = insert_at (suc r) second g.seen

    seen-before : (x : ℕ) → x ≤ r → get_or seen' x 0 ≡ get_or g.seen x 0
    seen-before x c = insert-before (suc r) x second 0 g.seen (omega arith) (omega (arith, S.size, inside-run.2))

    seen_here : get_or seen' (suc r) 0 ≡ second
    seen_here = insert-at (suc r) second 0 g.seen (omega (arith, S.size, inside-run.2))

    seen-after : (x : ℕ) → suc r ≤ x → get_or seen' (suc x) 0 ≡ get_or g.seen x 0
    seen-after x c = insert-after (suc r) x second 0 g.seen c (omega (arith, S.size, inside-run.2))

    second_bounds : (l.first_held ≤ second) × (second ≤ a)
    second_bounds = second_has (λ s. (l.first_held ≤ s) × (s ≤ a)) g r a (omega arith, omega arith)
        (S.least r inside-run.2, omega (arith, S.most r inside-run.2, inside-run.0))

    ancestors-same : (x e : ℕ) → ancestors l' x e ≡ ancestors l x e
    unfolding ancestors ancestor held_of held_before log_start
    ancestors-same x e = refl

    second_sound : (e : ℕ) → l.first_held ≤ e → e < second → ancestors l a e ≡ true
    unfolding ancestors ancestor
    second_sound e p q = down g l t (a - run_start l r) a r a e (omega (arith, inside-run.0)) inside-run.1 (omega arith) (go (lt_or_le e (run_start l r)))
      where
        before : e < run_start l r → e < own
        before c = cases (second_own g r a)
          where
            cases : ((second ≡ a) × Met own (start g r)) ⊎ (second ≡ own) → e < own
            cases (inl w) = omega (arith, w.1, start_is g l t r (omega (arith, inside-run.2)))
            cases (inr w) = omega (arith, w, q)

        go : (e < run_start l r) ⊎ (run_start l r ≤ e) → ((j : ℕ) → run_start l r ≤ j → reaches j (event_graph l) (run_start l r) e ≡ true) ⊎ ((run_start l r ≤ e) × (e < a))
        go (inl c) = inl (λ j k. reaches_more (run_start l r) j (event_graph l) (run_start l r) e k (S.sound r e inside-run.2 p (before c)))
        go (inr c) = inr (c, omega (arith, second_bounds.1))

    -- A split keeps the seen lengths sound
    pub split-seen : Seen g' l'
    unfolding split log_start
    split-seen = record {
      size = insert-length (suc r) second g.seen ∙ (ap suc S.size ∙ sym edges-length);
      least = λ x b. least' x (omega (arith, edges-length)) (place x);
      most = λ x b. most' x (omega (arith, edges-length)) (place x);
      sound = λ x e b p q. sound' x e (omega (arith, edges-length)) p q (place x);
    }
      where
        least' : (x : ℕ) → x < suc (length l.edges) → (x ≤ r) ⊎ ((x ≡ suc r) ⊎ ((y : ℕ) × (x ≡ suc y) × (suc r ≤ y))) → l.first_held ≤ get_or seen' x 0
        least' x b (inl c) = rw (seen-before x c) (S.least x (omega (arith, inside-run.2)))
        least' x b (inr (inl c)) = rw (c, seen_here) second_bounds.0
        least' x b (inr (inr c)) = rw (c.1, seen-after c.0 c.2) (S.least c.0 (omega (arith, c.1)))

        most' : (x : ℕ) → x < suc (length l.edges) → (x ≤ r) ⊎ ((x ≡ suc r) ⊎ ((y : ℕ) × (x ≡ suc y) × (suc r ≤ y))) → get_or seen' x 0 ≤ run_start l' x
        most' x b (inl c) = rw (seen-before x c, run-before x c) (S.most x (omega (arith, inside-run.2)))
        most' x b (inr (inl c)) = rw (c, seen_here, run_here) second_bounds.1
        most' x b (inr (inr c)) = rw (c.1, seen-after c.0 c.2, run-after c.0 c.2) (S.most c.0 (omega (arith, c.1)))

        sound' : (x e : ℕ) → x < suc (length l.edges) → l.first_held ≤ e → e < get_or seen' x 0 → (x ≤ r) ⊎ ((x ≡ suc r) ⊎ ((y : ℕ) × (x ≡ suc y) × (suc r ≤ y))) →
            ancestors l' (run_start l' x) e ≡ true
        sound' x e b p q (inl c) = ancestors-same (run_start l' x) e ∙ rw (run-before x c) (S.sound x e (omega (arith, inside-run.2)) p (rw (seen-before x c) at q))
        sound' x e b p q (inr (inl c)) = ancestors-same (run_start l' x) e ∙ rw (c, run_here) (second_sound e p (rw (c, seen_here) at q))
        sound' x e b p q (inr (inr c)) = ancestors-same (run_start l' x) e ∙
            rw (c.1, run-after c.0 c.2) (S.sound c.0 e (omega (arith, c.1)) p (rw (c.1, seen-after c.0 c.2) at q))
