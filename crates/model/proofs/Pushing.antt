-- A push that begins a run keeps all that a graph keeps with its log, once its held parents end runs. Assumes nothing.
use Rattle.std.proofs.Common.{◌≡◌, refl, sym, ap, ◌∙◌, subst, ◌⊎◌, inl, inr, Bool, true, false, cond, List, [], ◌∷◌, ◌++◌, map, ℕ, suc, ◌-◌, ◌≤◌, ◌<◌, arith, length, get_or, length-append, leb}
use Rattle.std.proofs.Common.{eqb, leb-true, eqb-true}
use lib.ListN.{get_or-append}
use lib.Seq.{get_or-append_seam}
use Rattle.lists.specs.Lists.{mem, same, largest}
use Rattle.lists.proofs.Truth.{lt_or_le, eq_or-not, lt_of_ne, lt_eq_gt}
use Rattle.lists.proofs.Members.{mem-filter, map-mem, same_eq}
use Rattle.lists.proofs.Bounds.{largest-from}
use Rattle.model.specs.EventGraph.{reaches, ancestor}
use Rattle.model.specs.Graph.{Graph, start, len, first_held, containing, held}
use Rattle.model.specs.Push.{parent_runs, seen_after, new_seen, joined}
use Rattle.model.specs.Log.{Log, run_start, held_of, event_graph}
use Rattle.model.proofs.SeenFrom.{after_has, new_has}
use Rattle.model.proofs.Exact.{ancestors}
use Rattle.model.proofs.Runs.{first_next}
use Rattle.model.proofs.Tied.{Tied, low, high, step, down}
use Rattle.model.proofs.Seen.{Seen, Inv, start_is, len_tied, first_tied, held_tied, reaches_more}
use Rattle.model.proofs.Adding.{added, added_lower, old_reaches, from-own, added_front}
use Rattle.model.proofs.Joining as Joining

module _ (g : Graph) (l : Log) (v : Inv g l) (ps : List ℕ) (n : ℕ) (pos : 0 < n)
    (known : (p : ℕ) → mem p ps ≡ true → p < l.next)
    (ended : (p : ℕ) → mem p (held_of l ps) ≡ true → mem (suc p) (l.edges ++ l.next ∷ []) ≡ true) where
  abbrev t : Tied g l
  t = v.tied

  abbrev es₂ : List ℕ
  es₂ = l.edges ++ l.next ∷ []

  abbrev l₂ : Log
  l₂ = added l ps n es₂

  abbrev c : ℕ
  c = length l.edges

  old_start : (x : ℕ) → x ≤ c → run_start l₂ x ≡ run_start l x
  old_start x le = Joining.old_start g l t ps n pos known ended x le

  top_start : run_start l c ≡ l.next
  top_start = Joining.top_start g l t ps n pos known ended

  ends-run : (p : ℕ) → mem p (held_of l ps) ≡ true → (containing g p < c) × (run_start l (suc (containing g p)) ≡ suc p)
  ends-run p m = Joining.ends-run g l t ps n pos known ended p m

  edges-size : length es₂ ≡ suc c
  edges-size = Joining.edges-size g l t ps n pos known ended

  -- What a run's last event has seen
  last-sound : (p e : ℕ) → mem p (held_of l ps) ≡ true → l.first_held ≤ e → e < seen_after g (containing g p) → (e ≡ p) ⊎ (ancestors l p e ≡ true)
  unfolding seen_after ancestors ancestor
  last-sound p e m h q = go (eqb (get_or g.seen j 0) (start g j)) refl q (eq_or-not e p)
    where
      j : ℕ
      j = containing g p

      lt : j < c
      lt = (ends-run p m).0

      end : run_start l (suc j) ≡ suc p
      end = (ends-run p m).1

      begin : run_start l j ≤ p
      begin = omega (arith, step g l t j lt, end)

      deep : e < get_or g.seen j 0 → reaches p (event_graph l) p e ≡ true
      deep k = down g l t (p - run_start l j) p j p e (omega (arith, begin)) (omega (arith, end)) (omega arith)
          (inl (λ i z. reaches_more (run_start l j) i (event_graph l) (run_start l j) e z (v.seen.sound j e lt h k)))

      go : (b : Bool) → eqb (get_or g.seen j 0) (start g j) ≡ b → e < cond b (start g (suc j)) (get_or g.seen j 0) → (e ≡ p) ⊎ (e ≡ p → ⊥) → (e ≡ p) ⊎ (reaches p (event_graph l) p e ≡ true)
      go b z k (inl y) = inl y
      go false z k (inr y) = inr (deep k)
      go true z k (inr y) = inr (cases (lt_or_le e (run_start l j)))
        where
          under : e < p
          under = lt_of_ne e p (omega (arith, start_is g l t (suc j) lt, end)) y

          cases : (e < run_start l j) ⊎ (run_start l j ≤ e) → reaches p (event_graph l) p e ≡ true
          cases (inl a) = deep (omega (arith, eqb-true (get_or g.seen j 0) (start g j) z, start_is g l t j (omega (arith, lt))))
          cases (inr a) = down g l t (p - run_start l j) p j p e (omega (arith, begin)) (omega (arith, end)) (omega arith) (inr (a, under))

  abbrev own : List ℕ
  own = parent_runs g ps

  abbrev news : ℕ
  news = new_seen g ps

  abbrev seen₂ : List ℕ
  seen₂ = g.seen ++ news ∷ []

  seen_old : (x : ℕ) → x < c → get_or seen₂ x 0 ≡ get_or g.seen x 0
  seen_old x lt = get_or-append g.seen (news ∷ []) 0 x (omega (arith, v.seen.size))

  seen-new : get_or seen₂ c 0 ≡ news
  seen-new = subst (λ (k : ℕ). get_or seen₂ k 0 ≡ news) v.seen.size (get_or-append_seam g.seen news [] 0)

  -- The largest seen-after comes from a held parent
  from-parent : (e : ℕ) → l.first_held ≤ e → e < largest (first_held g) (map (seen_after g) own) → (p : ℕ) × (mem p (held_of l ps) ≡ true) × (e < seen_after g (containing g p))
  unfolding parent_runs
  from-parent e h q = go (largest-from (first_held g) e (map (seen_after g) own) q)
    where
      go : (e < first_held g) ⊎ ((x : ℕ) × (mem x (map (seen_after g) own) ≡ true) × (e < x)) → (p : ℕ) × (mem p (held_of l ps) ≡ true) × (e < seen_after g (containing g p))
      go (inl z) = absurd (omega (arith, first_tied g l t))
      go (inr z) =
          let a : (j : ℕ) × (mem j own ≡ true) × (z.0 ≡ seen_after g j) = map-mem (seen_after g) z.0 own z.1 in
          let b : (p : ℕ) × (mem p (held g ps) ≡ true) × (a.0 ≡ containing g p) = map-mem (containing g) a.0 (held g ps) a.1 in
          let k : z.0 ≡ seen_after g (containing g b.0) = a.2 ∙ ap (seen_after g) b.2 in
          (b.0, subst (λ (xs : List ℕ). mem b.0 xs ≡ true) (held_tied g l t ps known) b.1, omega (arith, z.2, k))

  -- What a parent run hands on lies between the first held event and the next one
  after_bounds : (j : ℕ) → j < c → (l.first_held ≤ seen_after g j) × (seen_after g j ≤ l.next)
  after_bounds j lt = after_has (λ s. (l.first_held ≤ s) × (s ≤ l.next)) g j
      (omega (arith, start_is g l t (suc j) lt, low g l t (suc j)), omega (arith, start_is g l t (suc j) lt, high g l t (suc j)))
      (v.seen.least j lt, omega (arith, v.seen.most j lt, high g l t j))

  own-run : (j : ℕ) → mem j own ≡ true → j < c
  unfolding parent_runs
  own-run j m =
      let b : (p : ℕ) × (mem p (held g ps) ≡ true) × (j ≡ containing g p) = map-mem (containing g) j (held g ps) m in
      omega (arith, b.2, (ends-run b.0 (subst (λ (xs : List ℕ). mem b.0 xs ≡ true) (held_tied g l t ps known) b.1)).0)

  -- and so does what the new run has seen
  news_bounds : (l.first_held ≤ news) × (news ≤ l.next)
  news_bounds = new_has (λ s. (l.first_held ≤ s) × (s ≤ l.next)) g ps
      (omega (arith, len_tied g l t, first_next l t.edged), omega (arith, len_tied g l t))
      (omega (arith, first_tied g l t), omega (arith, first_tied g l t, first_next l t.edged))
      (λ j m. after_bounds j (own-run j m))

  news_sound : (e : ℕ) → l.first_held ≤ e → e < news → ancestors l₂ l.next e ≡ true
  unfolding ancestors ancestor held_of new_seen
  news_sound e h q = go (same ps g.frontier) refl q
    where
      go : (b : Bool) → same ps g.frontier ≡ b → e < cond b (len g) (largest (first_held g) (map (seen_after g) own)) → reaches l.next (event_graph l₂) l.next e ≡ true
      go true z k =
          let a : (x : ℕ) × (mem x g.frontier ≡ true) × (l.first_held ≤ x) × ((e ≡ x) ⊎ (ancestors l x e ≡ true)) = v.front.covers e h (omega (arith, len_tied g l t)) in
          from-own g l v ps n pos known es₂ a.0 e (subst (λ (xs : List ℕ). mem a.0 xs ≡ true) (sym (same_eq ps g.frontier z)) a.1) a.2 a.3 l.next (omega arith)
      go false z k =
          let a : (p : ℕ) × (mem p (held_of l ps) ≡ true) × (e < seen_after g (containing g p)) = from-parent e h k in
          let m : (mem a.0 ps ≡ true) × (leb l.first_held a.0 ≡ true) = mem-filter (λ p. leb l.first_held p) a.0 ps a.1 in
          from-own g l v ps n pos known es₂ a.0 e m.0 (leb-true l.first_held a.0 m.1) (last-sound a.0 e a.1 h a.2) l.next (omega arith)

  -- The seen lengths stay sound
  joined-seen : Seen (joined g ps n) l₂
  unfolding joined ancestors ancestor
  joined-seen = record {
    size = length-append g.seen (news ∷ []) ∙ omega (arith, v.seen.size, edges-size);
    least = λ x lt. least' x (omega (arith, edges-size)) (lt_eq_gt x c);
    most = λ x lt. most' x (omega (arith, edges-size)) (lt_eq_gt x c);
    sound = λ x e lt h q. sound' x e (omega (arith, edges-size)) h q (lt_eq_gt x c);
  }
    where
      least' : (x : ℕ) → x < suc c → (x < c) ⊎ ((x ≡ c) ⊎ (c < x)) → l.first_held ≤ get_or seen₂ x 0
      least' x lt (inl a) = rw (seen_old x a) (v.seen.least x a)
      least' x lt (inr (inl a)) = rw (a, seen-new) news_bounds.0
      least' x lt (inr (inr a)) = absurd (omega arith)

      most' : (x : ℕ) → x < suc c → (x < c) ⊎ ((x ≡ c) ⊎ (c < x)) → get_or seen₂ x 0 ≤ run_start l₂ x
      most' x lt (inl a) = rw (seen_old x a, old_start x (omega arith)) (v.seen.most x a)
      most' x lt (inr (inl a)) = rw (a, seen-new, old_start c (omega arith), top_start) news_bounds.1
      most' x lt (inr (inr a)) = absurd (omega arith)

      sound' : (x e : ℕ) → x < suc c → l.first_held ≤ e → e < get_or seen₂ x 0 → (x < c) ⊎ ((x ≡ c) ⊎ (c < x)) → reaches (run_start l₂ x) (event_graph l₂) (run_start l₂ x) e ≡ true
      sound' x e lt h q (inl a) = rw (old_start x (omega arith))
          (old_reaches g l v ps n pos known es₂ (run_start l x) (run_start l x) e (omega (arith, step g l t x a, high g l t (suc x))) ∙ v.seen.sound x e a h (rw (seen_old x a) at q))
      sound' x e lt h q (inr (inl a)) = rw (a, old_start c (omega arith), top_start) (news_sound e h (rw (a, seen-new) at q))
      sound' x e lt h q (inr (inr a)) = absurd (omega arith)

  -- A new run of n events keeps all
  pub joined_inv : Inv (joined g ps n) l₂
  joined_inv = record {
    tied = Joining.joined_tied g l t ps n pos known ended;
    seen = joined-seen;
    front = added_front g l v ps n pos known es₂ (joined g ps n) (unfold joined in refl);
    lower = added_lower l ps n es₂ v.lower known pos;
  }
