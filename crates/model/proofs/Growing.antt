-- A push that grows the last run keeps all that a graph keeps with its log. Assumes nothing.
use Rattle.std.proofs.Common.{◌≡◌, refl, sym, ap, ◌∙◌, subst, ◌⊎◌, inl, inr, true, false, List, [], ◌∷◌, ◌++◌, map, ℕ, suc, ◌+◌, ◌-◌, ◌≤◌, ◌<◌, arith, length, take, take_at}
use Rattle.lists.specs.Lists.{mem}
use Rattle.lists.proofs.Truth.{lt_or_le, eq_or-not, lt_of_ne}
use Rattle.lists.proofs.Members.{mem_one, get_d_any, map_same}
use Rattle.lists.proofs.Rising.{up_more}
use Rattle.model.specs.EventGraph.{ancestor}
use Rattle.model.specs.Graph.{Graph, runs, len}
use Rattle.model.specs.History.{at}
use Rattle.model.specs.Push.{grown}
use Rattle.model.specs.Log.{Log, run_start, held_of}
use Rattle.model.proofs.Exact.{ancestors}
use Rattle.model.proofs.Tied.{last_of, Tied, high, step}
use Rattle.model.proofs.Seen.{Seen, Inv, len_tied}
use Rattle.model.proofs.Adding.{added, old_parents, own-parents, later-parents, added_lower, old_reaches, added_front}

module _ (g : Graph) (l : Log) (v : Inv g l) (ps : List ℕ) (n : ℕ) (pos : 0 < n) (some : 0 < length l.edges) (one : ps ≡ (l.next - 1) ∷ []) where
  abbrev t : Tied g l
  t = v.tied

  abbrev c : ℕ
  c = length l.edges

  abbrev l₂ : Log
  l₂ = added l ps n l.edges

  positive : l.first_held < l.next
  positive = omega (arith, t.edged.first, step g l t 0 some, high g l t 1)

  known : (p : ℕ) → mem p ps ≡ true → p < l.next
  known p m = omega (arith, positive, mem_one p (l.next - 1) (subst (λ (xs : List ℕ). mem p xs ≡ true) one m))

  old_start : (x : ℕ) → x < c → run_start l₂ x ≡ run_start l x
  unfolding run_start
  old_start x lt = get_d_any l.edges x (l.next + n) l.next lt

  new-parents : (e : ℕ) → l.next ≤ e → e < l.next + n → l₂.parents e ≡ (e - 1) ∷ []
  new-parents e p q = go (eq_or-not e l.next)
    where
      go : (e ≡ l.next) ⊎ (e ≡ l.next → ⊥) → l₂.parents e ≡ (e - 1) ∷ []
      go (inl z) = own-parents l ps n l.edges e z ∙ one ∙ ap (λ k. (k - 1) ∷ []) (sym z)
      go (inr z) = later-parents l ps n l.edges e (lt_of_ne l.next e p (λ x. z (sym x))) q

  lasts_old : (qs : List ℕ) → ((p : ℕ) → mem p qs ≡ true → suc p < c) → map (last_of l₂) qs ≡ map (last_of l) qs
  lasts_old qs h = map_same (last_of l₂) (last_of l) qs (λ p m. ap (λ k. k - 1) (old_start (suc p) (h p m)))

  starts_are : take (runs g) g.starts ++ (len g + n) ∷ [] ≡ l.edges ++ (l.next + n) ∷ []
  unfolding runs
  starts_are = rw (len_tied g l t, t.rows, t.starts, take_at l.edges (l.next ∷ []) c refl)

  -- The graph stays tied
  grown_tied : Tied (grown g ps n) l₂
  unfolding grown held_of
  grown_tied = record {
    edged = record { up = up_more l.first_held l.edges l.next (l.next + n) t.edged.up (omega arith); first = old_start 0 some ∙ t.edged.first };
    starts = starts_are;
    rows = t.rows;
    below = t.below;
    parents = λ x lt. rw (old_start x lt, old_parents l ps n l.edges (run_start l x) (omega (arith, step g l t x lt, high g l t (suc x))))
        (t.parents x lt ∙ sym (lasts_old (at g.parents x) (λ p m. omega (arith, t.below x p m))));
    inside = λ e p q m. inner e p q m (lt_or_le e l.next);
  }
    where
      inner : (e : ℕ) → l.first_held ≤ e → e < l.next + n → mem e l.edges ≡ false → (e < l.next) ⊎ (l.next ≤ e) → l₂.parents e ≡ (e - 1) ∷ []
      inner e p q m (inl a) = old_parents l ps n l.edges e a ∙ t.inside e p a m
      inner e p q m (inr a) = new-parents e a q

  -- and its seen lengths sound
  grown-seen : Seen (grown g ps n) l₂
  unfolding grown ancestors ancestor
  grown-seen = record {
    size = v.seen.size;
    least = v.seen.least;
    most = λ x lt. rw (old_start x lt) (v.seen.most x lt);
    sound = λ x e lt h q. rw (old_start x lt) (old_reaches g l v ps n pos known l.edges (run_start l x) (run_start l x) e (omega (arith, step g l t x lt, high g l t (suc x))) ∙
        v.seen.sound x e lt h q);
  }

  -- and so all is kept where the last run grows by n events
  pub grown_inv : Inv (grown g ps n) l₂
  grown_inv = record {
    tied = grown_tied;
    seen = grown-seen;
    front = added_front g l v ps n pos known l.edges (grown g ps n) (unfold grown in refl);
    lower = added_lower l ps n l.edges v.lower known pos;
  }
