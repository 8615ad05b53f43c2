-- What a graph keeps with its plain log: the runs, seen lengths that tell the truth, and a frontier above every held event. Assumes
-- nothing.
use Rattle.std.proofs.Common.{◌≡◌, refl, sym, ◌∙◌, ◌⊎◌, inl, inr, Bool, true, false, ◌||◌, List, [], ◌∷◌, ℕ, zero, suc, ◌≤◌, ◌<◌, arith, length, get_or, leb, eqb, ltb-true, le-leb, eq-eqb}
use lib.ListN.{get_or-eq_default}
use borrow.Author.Tests.{lt-leb}
use Rattle.lists.specs.Lists.{mem, count}
use Rattle.lists.proofs.Truth.{false_true, or_right}
use Rattle.lists.proofs.Members.{get_d_snoc, mem-filter, any_intro, any_elim}
use Rattle.lists.proofs.Counts.{count-append}
use Rattle.lists.proofs.Bounds.{below_of}
use Rattle.lists.proofs.Rising.{up_count}
use Rattle.model.specs.EventGraph.{EventGraph, reaches, Lower}
use Rattle.model.specs.Graph.{Graph, start, runs, len, first_held, containing, held}
use Rattle.model.specs.Log.{Log, run_start, held_of, event_graph}
use Rattle.model.proofs.Siding.{held_below}
use Rattle.model.proofs.Exact.{ancestors}
use Rattle.model.proofs.Runs.{Edged}
use Rattle.model.proofs.Tied.{Tied}

-- What the seen lengths say is so
pub record Seen (g : Graph) (l : Log) : Type 0 where
  pub size : length g.seen ≡ length l.edges
  pub least : (r : ℕ) → r < length l.edges → l.first_held ≤ get_or g.seen r 0
  pub most : (r : ℕ) → r < length l.edges → get_or g.seen r 0 ≤ run_start l r
  pub sound : (r e : ℕ) → r < length l.edges → l.first_held ≤ e → e < get_or g.seen r 0 → ancestors l (run_start l r) e ≡ true

-- Every held event is in the frontier or an ancestor of one that is
pub record Front (g : Graph) (l : Log) : Type 0 where
  pub below : (q : ℕ) → mem q g.frontier ≡ true → q < l.next
  pub covers : (e : ℕ) → l.first_held ≤ e → e < l.next →
      (q : ℕ) × (mem q g.frontier ≡ true) × (l.first_held ≤ q) × ((e ≡ q) ⊎ (ancestors l q e ≡ true))

-- The parents of an event are lower numbers, and only events of the log have any
abbrev pub ParentsLower : Log → Type 0
ParentsLower l = (e p : ℕ) → mem p (l.parents e) ≡ true → (p < e) × (e < l.next)

-- What every call keeps
pub record Inv (g : Graph) (l : Log) : Type 0 where
  pub tied : Tied g l
  pub seen : Seen g l
  pub front : Front g l
  pub lower : ParentsLower l

module _ (g : Graph) (l : Log) (t : Tied g l) where
  -- The graph's runs start where the log's do
  pub start_is : (r : ℕ) → r ≤ length l.edges → start g r ≡ run_start l r
  unfolding start run_start
  start_is r le = rw t.starts (get_d_snoc l.edges l.next 0 r le)

  -- They have the same next event and first held event, and of known parents the same are held
  pub len_tied : len g ≡ l.next
  unfolding len runs run_start
  len_tied = rw t.rows (start_is (length l.edges) (omega arith) ∙ get_or-eq_default l.edges l.next (omega arith))

  pub first_tied : first_held g ≡ l.first_held
  unfolding first_held
  first_tied = start_is 0 (omega arith) ∙ t.edged.first

  pub held_tied : (ps : List ℕ) → ((p : ℕ) → mem p ps ≡ true → p < l.next) → held g ps ≡ held_of l ps
  unfolding held_of
  held_tied ps known = held_below g ps (below_of (len g) ps (λ p m. omega (arith, len_tied, known p m))) ∙ rw first_tied

  -- The run of a held event, by the log's edges
  pub containing-is : (p : ℕ) → p < l.next → l.first_held ≤ p → suc (containing g p) ≡ count (λ s. leb s p) l.edges
  unfolding containing
  containing-is p lt le = rw (t.starts, count-append (λ s. leb s p) l.edges (l.next ∷ []))
      (omega (arith, count-last l.next p lt, some-edge l t.edged p lt le))
    where
      count-last : (n p : ℕ) → p < n → count (λ s. leb s p) (n ∷ []) ≡ 0
      count-last n p q = unfold count in rw (lt-leb n p q)

      some-edge : (l : Log) → Edged l → (p : ℕ) → p < l.next → l.first_held ≤ p → 0 < count (λ s. leb s p) l.edges
      some-edge l E p lt le = unfold run_start in ltb-true 0 (count (λ s. leb s p) l.edges)
          (sym (up_count l.first_held l.edges l.next E.up 0 p lt) ∙ le-leb (get_or l.edges 0 l.next) p (omega (arith, E.first)))

-- More room reaches as far
pub reaches_more : (k j : ℕ) (G : EventGraph) (x e : ℕ) → k ≤ j → reaches k G x e ≡ true → reaches j G x e ≡ true
unfolding reaches
reaches_more zero j G x e le h = false_true h
reaches_more (suc k) zero G x e le h = absurd (omega arith)
reaches_more (suc k) (suc j) G x e le h =
    let a : (y : ℕ) × (mem y (G.parents x) ≡ true) × (eqb e y || reaches k G y e ≡ true) = any_elim (λ q. eqb e q || reaches k G q e) (G.parents x) h in
    any_intro (λ q. eqb e q || reaches j G q e) (G.parents x) a.0 a.1
    (more (eqb e a.0) (reaches k G a.0 e) (reaches j G a.0 e) (λ z. reaches_more k j G a.0 e (omega arith) z) a.2)
  where
    more : (x y z : Bool) → (y ≡ true → z ≡ true) → x || y ≡ true → x || z ≡ true
    more true y z f h = refl
    more false y z f h = f h

-- One step along a parent
pub reach_step : (k j : ℕ) (G : EventGraph) (x e q : ℕ) → mem q (G.parents x) ≡ true → (e ≡ q) ⊎ (reaches k G q e ≡ true) → suc k ≤ j → reaches j G x e ≡ true
unfolding reaches
reach_step k j G x e q m c le = reaches_more (suc k) j G x e le (any_intro (λ y. eqb e y || reaches k G y e) (G.parents x) q m (go c))
  where
    go : (e ≡ q) ⊎ (reaches k G q e ≡ true) → eqb e q || reaches k G q e ≡ true
    go (inl z) = rw (eq-eqb e q z)
    go (inr z) = or_right (eqb e q) z

-- The parents that the log's ancestors go by are lower numbers
pub lower_tied : (l : Log) → ParentsLower l → Lower (event_graph l)
unfolding held_of
lower_tied l h e p m = (h e p (mem-filter (λ q. leb l.first_held q) p (l.parents e) m).0).0
