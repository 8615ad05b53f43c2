-- Where an event lies, by comparisons with the first held event and `len`; so which events are held and which known. Assumes nothing.
use Rattle.std.proofs.Common.{◌≡◌, sym, ap, ◌∙◌, ◌⊎◌, inl, inr, true, ◌&&◌, List, ℕ, suc, ◌≤◌, ◌<◌, arith, leb, ltb, lt-ltb, le-ltb, le-leb, leb-true, ltb-true}
use borrow.Author.Tests.{lt-leb}
use Rattle.lists.specs.Lists.{filter, mem, below}
use Rattle.lists.proofs.Truth.{lt_or_le, and_left, and_right, and_true}
use Rattle.lists.proofs.Members.{mem-filter, filter-mem, all_same, filter_agree}
use Rattle.lists.proofs.Bounds.{below_at}
use Rattle.model.specs.Graph.{Graph, first_held, len, containing, Side, in_run, before, unknown, side_by, side, is_held, is_known, held, all_known}

-- The three sides, and what is known of an event that lies in a run
module _ (first len r e : ℕ) where
  pub by_before : e < first → side_by first len r e ≡ before
  unfolding side_by
  by_before h = rw (lt-ltb e first h)

  pub by_unknown : first ≤ e → len ≤ e → side_by first len r e ≡ unknown
  unfolding side_by
  by_unknown h k = rw (le-ltb e first h, le-ltb e len k)

  pub by_run : first ≤ e → e < len → side_by first len r e ≡ in_run r
  unfolding side_by
  by_run h k = rw (le-ltb e first h, lt-ltb e len k)

  pub by_told : (k : ℕ) → side_by first len r e ≡ in_run k → (first ≤ e) × (e < len) × (r ≡ k)
  by_told k q = go (lt_or_le e first) (lt_or_le e len)
    where
      number : Side → ℕ
      number (in_run n) = suc n
      number before = 0
      number unknown = 0

      go : (e < first) ⊎ (first ≤ e) → (e < len) ⊎ (len ≤ e) → (first ≤ e) × (e < len) × (r ≡ k)
      go (inl a) b = absurd (omega (arith, ap number (sym (by_before a) ∙ q)))
      go (inr a) (inl b) = (a, b, omega (arith, ap number (sym (by_run a b) ∙ q)))
      go (inr a) (inr b) = absurd (omega (arith, ap number (sym (by_unknown a b) ∙ q)))

module _ (g : Graph) (e : ℕ) where
  -- The same of a graph's events
  pub side_before : e < first_held g → side g e ≡ before
  unfolding side
  side_before h = by_before (first_held g) (len g) (containing g e) e h

  pub side-unknown : first_held g ≤ e → len g ≤ e → side g e ≡ unknown
  unfolding side
  side-unknown h k = by_unknown (first_held g) (len g) (containing g e) e h k

  pub side-run : first_held g ≤ e → e < len g → side g e ≡ in_run (containing g e)
  unfolding side
  side-run h k = by_run (first_held g) (len g) (containing g e) e h k

  pub run-told : (r : ℕ) → side g e ≡ in_run r → (first_held g ≤ e) × (e < len g) × (containing g e ≡ r)
  unfolding side
  run-told r q = by_told (first_held g) (len g) (containing g e) e r q

  -- A held event is one from the first held event on and before `len`
  pub is_held_lem : is_held (side g e) ≡ leb (first_held g) e && ltb e (len g)
  unfolding is_held
  is_held_lem = go (lt_or_le e (first_held g)) (lt_or_le e (len g))
    where
      go : (e < first_held g) ⊎ (first_held g ≤ e) → (e < len g) ⊎ (len g ≤ e) → is_held (side g e) ≡ leb (first_held g) e && ltb e (len g)
      go (inl h) k = rw (side_before h, lt-leb (first_held g) e h)
      go (inr h) (inl k) = rw (side-run h k, le-leb (first_held g) e h, lt-ltb e (len g) k)
      go (inr h) (inr k) = rw (side-unknown h k, le-leb (first_held g) e h, le-ltb e (len g) k)

  pub between-held : first_held g ≤ e → e < len g → is_held (side g e) ≡ true
  between-held h k = is_held_lem ∙ rw (le-leb (first_held g) e h, lt-ltb e (len g) k)

  pub held-between : is_held (side g e) ≡ true → (first_held g ≤ e) × (e < len g)
  held-between h =
      let q : leb (first_held g) e && ltb e (len g) ≡ true = sym is_held_lem ∙ h in
      (leb-true (first_held g) e (and_left _ _ q), ltb-true e (len g) (and_right (leb (first_held g) e) (ltb e (len g)) q))

  -- and a known one is any before `len`
  pub is_known_lem : first_held g ≤ len g → is_known (side g e) ≡ ltb e (len g)
  unfolding is_known
  is_known_lem le = go (lt_or_le e (first_held g)) (lt_or_le e (len g))
    where
      go : (e < first_held g) ⊎ (first_held g ≤ e) → (e < len g) ⊎ (len g ≤ e) → is_known (side g e) ≡ ltb e (len g)
      go (inl h) k = rw (side_before h, lt-ltb e (len g) (omega arith))
      go (inr h) (inl k) = rw (side-run h k, lt-ltb e (len g) k)
      go (inr h) (inr k) = rw (side-unknown h k, le-ltb e (len g) k)

-- The events of a list that are held
pub held-mem : (g : Graph) (es : List ℕ) (e : ℕ) → mem e (held g es) ≡ true → (mem e es ≡ true) × (first_held g ≤ e) × (e < len g)
unfolding held
held-mem g es e m =
    let w = mem-filter (λ x. is_held (side g x)) e es m in
    let b = held-between g e w.1 in
    (w.0, b.0, b.1)

pub mem-held : (g : Graph) (es : List ℕ) (e : ℕ) → mem e es ≡ true → first_held g ≤ e → e < len g → mem e (held g es) ≡ true
unfolding held
mem-held g es e m h k = filter-mem (λ x. is_held (side g x)) e es m (between-held g e h k)

pub held_below : (g : Graph) (es : List ℕ) → below (len g) es ≡ true → held g es ≡ filter (λ e. leb (first_held g) e) es
unfolding held
held_below g es b =
    filter_agree (λ e. is_held (side g e)) (λ e. leb (first_held g) e) es
    (λ e m. is_held_lem g e ∙ rw (lt-ltb e (len g) (below_at (len g) es b e m)) (and_true (leb (first_held g) e)))

-- Graphs with the same first held event and the same `len` hold the same events
pub held_agree : (g h : Graph) → first_held h ≡ first_held g → len h ≡ len g → (es : List ℕ) → held h es ≡ held g es
unfolding held
held_agree g h f l es = filter_agree (λ e. is_held (side h e)) (λ e. is_held (side g e)) es (λ e m. is_held_lem h e ∙ rw (f, l) (sym (is_held_lem g e)))

-- The events of a list are known exactly if they are below `len`
pub known-below : (g : Graph) → first_held g ≤ len g → (es : List ℕ) → all_known g es ≡ below (len g) es
unfolding all_known below
known-below g le es = all_same (λ e. is_known (side g e)) (λ e. ltb e (len g)) es (λ e m. is_known_lem g e le)
