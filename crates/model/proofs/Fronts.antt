-- The frontier's held events are the log's events with no child, the paper's version of the log: so of a fresh graph, and kept by splits
-- and pushes. Assumes nothing.
use Rattle.std.proofs.Common.{◌≡◌, refl, sym, ap, ◌∙◌, subst, ◌⊎◌, inl, inr, Bool, true, false, not, ◌||◌, List, [], ◌∷◌, ◌++◌, ℕ, suc, ◌+◌, ◌-◌, ◌≤◌, ◌<◌, arith, leb, le-leb, eq-eqb}
use borrow.Author.Tests.{not-true}
use Rattle.lists.specs.Lists.{filter, mem, below}
use Rattle.lists.proofs.Truth.{lt_or_le, false_true, not_so, or_cases, or_left, or_right}
use Rattle.lists.proofs.Members.{mem_one, mem-append, mem-filter, filter-mem}
use Rattle.lists.proofs.Bounds.{below_at}
use Rattle.model.specs.EventGraph.{VersionOf}
use Rattle.model.specs.Graph.{Graph, runs, first_held, len, start, held, extends}
use Rattle.model.specs.Fresh.{fresh}
use Rattle.model.specs.Split.{split, split_after}
use Rattle.model.specs.Push.{staying, grown, joined, lowered, push}
use Rattle.model.specs.Log.{Log, empty_log, held_of, held_before, log_push, log_start, event_graph}
use Rattle.model.proofs.Siding.{held-mem, mem-held, held_agree}
use Rattle.model.proofs.FormedSplitAll.{splits-frontier}
use Rattle.model.proofs.FormedPush.{push_grows, push_joins}
use Rattle.model.proofs.Runs.{held-is, held_bounds}
use Rattle.model.proofs.Seen.{ParentsLower}
use Rattle.model.proofs.Adding.{Stands, old, first, later, past, stands, old_parents, own-parents, later-parents, added_lower}

-- The frontier's held events are the paper's version of the log
abbrev pub Childless : Graph → Log → Type 0
Childless g l = VersionOf (event_graph l) (held g g.frontier)

-- An event with no child, in plain words
abbrev Bare : Log → ℕ → Type 0
Bare l e = (l.first_held ≤ e) × (e < l.next) × ((c : ℕ) → l.first_held ≤ c → c < l.next → mem e (l.parents c) ≡ true → ⊥)

abbrev Last : Log → ℕ → Type 0
Last l e = ((event_graph l).is_event e ≡ true) × ((c : ℕ) → (event_graph l).is_event c ≡ true → mem e ((event_graph l).parents c) ≡ false)

bare : (l : Log) (e : ℕ) → Last l e → Bare l e
unfolding held_of
bare l e h =
    let b = held_bounds l l.next e h.0 in (
      b.0,
      b.1,
      λ c lo hi m. false_true (sym (h.1 c (held-is l l.next c lo hi)) ∙
          filter-mem (λ p. leb l.first_held p) e (l.parents c) m (le-leb l.first_held e b.0)),
    )

unbare : (l : Log) (e : ℕ) → Bare l e → Last l e
unfolding held_of
unbare l e h = (
  held-is l l.next e h.0 h.1,
  λ c k. not_so (mem e (filter (λ p. leb l.first_held p) (l.parents c))) (λ m.
      let b = held_bounds l l.next c k in
      h.2 c b.0 b.1 (mem-filter (λ p. leb l.first_held p) e (l.parents c) m).0),
)

-- No held event has come to a fresh graph
pub fresh-childless : (events : ℕ) (frontier : List ℕ) → Childless (fresh events frontier) (empty_log events)
unfolding fresh empty_log first_held len runs start
fresh-childless events frontier e = (
  λ m. let k = held-mem (fresh events frontier) frontier e m in absurd (omega (arith, k.1, k.2)),
  λ h. let k : Bare (empty_log events) e = bare (empty_log events) e h in absurd (omega (arith, k.0, k.1)),
)

-- An edge leaves that as it is, and so does a split
pub edge-childless : (g : Graph) (l : Log) (at : ℕ) → Childless g l → Childless g (log_start l at)
unfolding held_of held_before log_start
edge-childless g l at h = h

pub split-childless : (g : Graph) (l : Log) (r at : ℕ) → first_held (split g r at) ≡ first_held g → len (split g r at) ≡ len g → Childless g l →
    Childless (split g r at) (log_start l at)
split-childless g l r at f n h = edge-childless (split g r at) l at (subst (VersionOf (event_graph l)) (sym same) h)
  where
    same : held (split g r at) (split g r at).frontier ≡ held g g.frontier
    same = held_agree g (split g r at) f n (split g r at).frontier ∙ unfold split in refl

-- Those not named stay
stays : (g : Graph) (ps : List ℕ) (x : ℕ) → mem x g.frontier ≡ true → mem x ps ≡ false → mem x (staying g ps) ≡ true
unfolding staying
stays g ps x m k = filter-mem (λ y. not (mem y ps)) x g.frontier m (ap not k)

stayed : (g : Graph) (ps : List ℕ) (x : ℕ) → mem x (staying g ps) ≡ true → (mem x g.frontier ≡ true) × (mem x ps ≡ false)
unfolding staying
stayed g ps x m =
    let k : (mem x g.frontier ≡ true) × (not (mem x ps) ≡ true) = mem-filter (λ y. not (mem y ps)) x g.frontier m in
    (k.0, not-true (mem x ps) k.1)

-- The frontier after a push: those not named stay, and the new last event joins
pub push-frontier : (g : Graph) (ps : List ℕ) (n : ℕ) → len (split_after g (held g ps)) ≡ len g → (push g ps n).frontier ≡ staying g ps ++ (len g + n - 1) ∷ []
push-frontier g ps n same = go (extends g ps) refl
  where
    joins : (s : Graph) → s.frontier ≡ g.frontier → len s ≡ len g → (lowered s (joined s ps n)).frontier ≡ staying g ps ++ (len g + n - 1) ∷ []
    joins s f e = unfold lowered joined staying in λ i. filter (λ e. not (mem e ps)) (f i) ++ (e i + n - 1) ∷ []

    go : (t : Bool) → extends g ps ≡ t → (push g ps n).frontier ≡ staying g ps ++ (len g + n - 1) ∷ []
    go true x = ap (λ (h : Graph). h.frontier) (push_grows g ps n x) ∙ unfold grown in refl
    go false x = ap (λ (h : Graph). h.frontier) (push_joins g ps n x) ∙ joins (split_after g (held g ps)) (splits-frontier g (held g ps)) same

-- The events with no child after a push: those with none before that it does not name, and its last
module _ (l : Log) (ps : List ℕ) (n : ℕ) (le : l.first_held ≤ l.next) (pos : 0 < n) (known : (p : ℕ) → mem p ps ≡ true → p < l.next)
    (low : ParentsLower l) where
  abbrev es : List ℕ
  es = (log_push l ps n).edges

  bare_stays : (x : ℕ) → Bare l x → mem x ps ≡ false → Bare (log_push l ps n) x
  unfolding log_push
  bare_stays x h m = (h.0, omega (arith, h.1), λ c lo hi k. go c lo hi k (stands l.next n c))
    where
      go : (c : ℕ) → l.first_held ≤ c → c < l.next + n → mem x ((log_push l ps n).parents c) ≡ true → Stands l.next n c → ⊥
      go c lo hi k (old y) = h.2 c lo y (sym (ap (mem x) (old_parents l ps n es c y)) ∙ k)
      go c lo hi k (first y) = false_true (sym m ∙ sym (ap (mem x) (own-parents l ps n es c y)) ∙ k)
      go c lo hi k (later y z) = omega (arith, h.1, mem_one x (c - 1) (sym (ap (mem x) (later-parents l ps n es c y z)) ∙ k))
      go c lo hi k (past y z) = omega arith

  bare_last : (x : ℕ) → x ≡ l.next + n - 1 → Bare (log_push l ps n) x
  unfolding log_push
  bare_last x e = (
    omega arith,
    omega arith,
    λ c lo hi k. let q : (x < c) × (c < l.next + n) = added_lower l ps n es low known pos c x k in omega (arith, q.0),
  )

  bare_before : (x : ℕ) → Bare (log_push l ps n) x → (Bare l x × (mem x ps ≡ false)) ⊎ (x ≡ l.next + n - 1)
  unfolding log_push
  bare_before x h = go (lt_or_le x l.next) (lt_or_le x (l.next + n - 1))
    where
      new_child : l.next ≤ x → x < l.next + n - 1 → ⊥
      new_child lo hi = h.2 (suc x) (omega (arith, h.0)) (omega arith) (ap (mem x) (later-parents l ps n es (suc x) (omega arith) (omega arith)) ∙ named)
        where
          named : mem x ((suc x - 1) ∷ []) ≡ true
          named = unfold mem in or_left false (eq-eqb x (suc x - 1) (omega arith))

      unnamed : mem x ps ≡ false
      unnamed = not_so (mem x ps) (λ e. h.2 l.next le (omega arith) (ap (mem x) (own-parents l ps n es l.next refl) ∙ e))

      go : (x < l.next) ⊎ (l.next ≤ x) → (x < l.next + n - 1) ⊎ (l.next + n - 1 ≤ x) → (Bare l x × (mem x ps ≡ false)) ⊎ (x ≡ l.next + n - 1)
      go (inl y) z = inl (
        (h.0, y, λ c lo hi m. h.2 c lo (omega arith) (ap (mem x) (old_parents l ps n es c hi) ∙ m)),
        unnamed,
      )
      go (inr y) (inl z) = absurd (new_child y z)
      go (inr y) (inr z) = inr (omega (arith, h.1))

-- A push takes its parents out of the version and puts its last event in
pub push-childless : (g : Graph) (l : Log) (ps : List ℕ) (n : ℕ) → first_held g ≡ l.first_held → len g ≡ l.next → l.first_held ≤ l.next →
    first_held (push g ps n) ≡ first_held g → len (push g ps n) ≡ len g + n → len (split_after g (held g ps)) ≡ len g → 0 < n → below (len g) ps ≡ true →
    ((q : ℕ) → mem q g.frontier ≡ true → q < l.next) → ParentsLower l → Childless g l → Childless (push g ps n) (log_push l ps n)
push-childless g l ps n f e le f₂ e₂ e₃ pos b under low h x = (into, λ k. back (bare_before l ps n le pos known low x (bare (log_push l ps n) x k)))
  where
    known : (p : ℕ) → mem p ps ≡ true → p < l.next
    known p m = omega (arith, e, below_at (len g) ps b p m)

    after : List ℕ
    after = staying g ps ++ (len g + n - 1) ∷ []

    named : mem x after ≡ mem x (staying g ps) || mem x ((len g + n - 1) ∷ [])
    named = mem-append x (staying g ps) ((len g + n - 1) ∷ [])

    into : mem x (held (push g ps n) (push g ps n).frontier) ≡ true → Last (log_push l ps n) x
    into m =
        let k = held-mem (push g ps n) (push g ps n).frontier x m in
        let i : mem x after ≡ true = sym (ap (mem x) (push-frontier g ps n e₃)) ∙ k.0 in
        unbare (log_push l ps n) x (cases (omega (arith, k.1, f₂)) (or_cases (mem x (staying g ps)) (mem x ((len g + n - 1) ∷ [])) (sym named ∙ i)))
      where
        cases : first_held g ≤ x → (mem x (staying g ps) ≡ true) ⊎ (mem x ((len g + n - 1) ∷ []) ≡ true) → Bare (log_push l ps n) x
        cases lo (inl s) =
            let k : (mem x g.frontier ≡ true) × (mem x ps ≡ false) = stayed g ps x s in
            bare_stays l ps n le pos known low x
            (bare l x ((h x).0 (mem-held g g.frontier x k.0 lo (omega (arith, e, under x k.0))))) k.1
        cases lo (inr s) = bare_last l ps n le pos known low x (mem_one x (len g + n - 1) s ∙ ap (λ (k : ℕ). k + n - 1) e)

    back : (Bare l x × (mem x ps ≡ false)) ⊎ (x ≡ l.next + n - 1) → mem x (held (push g ps n) (push g ps n).frontier) ≡ true
    back k = mem-held (push g ps n) (push g ps n).frontier x (ap (mem x) (push-frontier g ps n e₃) ∙ named ∙ found k) (omega (arith, f, f₂, low_of k)) (omega (arith, e, e₂, high_of k))
      where
        found : (Bare l x × (mem x ps ≡ false)) ⊎ (x ≡ l.next + n - 1) → mem x (staying g ps) || mem x ((len g + n - 1) ∷ []) ≡ true
        found (inl s) =
            or_left (mem x ((len g + n - 1) ∷ [])) (stays g ps x (held-mem g g.frontier x ((h x).1 (unbare l x s.0))).0 s.1)
        found (inr q) = or_right (mem x (staying g ps)) (unfold mem in or_left false (eq-eqb x (len g + n - 1) (omega arith)))

        low_of : (Bare l x × (mem x ps ≡ false)) ⊎ (x ≡ l.next + n - 1) → l.first_held ≤ x
        low_of (inl s) = s.0.0
        low_of (inr q) = omega arith

        high_of : (Bare l x × (mem x ps ≡ false)) ⊎ (x ≡ l.next + n - 1) → x < l.next + n
        high_of (inl s) = omega (arith, s.0.1)
        high_of (inr q) = omega arith
