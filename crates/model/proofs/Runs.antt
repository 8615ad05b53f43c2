-- The runs of a plain log, and the events that they and the log hold: the runs number the events. Assumes nothing.
use Rattle.std.proofs.Common.{◌≡◌, refl, sym, ap, ◌∙◌, ◌⊎◌, inl, inr, Bool, true, false, not, ◌&&◌, ℕ, zero, suc, ◌-◌, ◌≤◌, ◌<◌, arith, get_or, leb, ltb, lt-ltb, le-ltb}
use Rattle.lists.specs.Lists.{count}
use Rattle.lists.proofs.Truth.{lt_or_le, lt_not}
use Rattle.lists.proofs.Between.{within, within_in, within-before, within-after, within_true}
use Rattle.lists.proofs.Rising.{Up, up_le, up_high, up_count}
use Rattle.model.specs.Log.{Log, run_start, in_runs, held_before}

-- Which events a log holds before event n
pub held-is : (l : Log) (n e : ℕ) → l.first_held ≤ e → e < n → held_before l n e ≡ true
unfolding held_before
held-is l n e p q = within_in l.first_held n e p q

pub held-not : (l : Log) (n e : ℕ) → (e < l.first_held) ⊎ (n ≤ e) → held_before l n e ≡ false
unfolding held_before
held-not l n e (inl p) = within-before l.first_held n e p
held-not l n e (inr p) = within-after l.first_held n e p

pub held_bounds : (l : Log) (n e : ℕ) → held_before l n e ≡ true → (l.first_held ≤ e) × (e < n)
unfolding held_before
held_bounds l n e h = within_true l.first_held n e h

-- Which events runs x to y-1 hold
pub in_is : (l : Log) (x y e : ℕ) → run_start l x ≤ e → e < run_start l y → in_runs l x y e ≡ true
unfolding in_runs
in_is l x y e p q = within_in (run_start l x) (run_start l y) e p q

pub in_not : (l : Log) (x y e : ℕ) → (e < run_start l x) ⊎ (run_start l y ≤ e) → in_runs l x y e ≡ false
unfolding in_runs
in_not l x y e (inl p) = within-before (run_start l x) (run_start l y) e p
in_not l x y e (inr p) = within-after (run_start l x) (run_start l y) e p

pub in_bounds : (l : Log) (x y e : ℕ) → in_runs l x y e ≡ true → (run_start l x ≤ e) × (e < run_start l y)
unfolding in_runs
in_bounds l x y e h = within_true (run_start l x) (run_start l y) e h

falses : (x y z : Bool) → x && false ≡ y && false && z
falses true true z = refl
falses true false z = refl
falses false true z = refl
falses false false z = refl

counted : (a b c : ℕ) → ltb a c && not (ltb b c) ≡ ltb 0 c && true && within (a, b) (c - 1)
counted a b zero = rw (le-ltb a 0 (omega arith))
counted a b (suc k) = rw (lt-ltb 0 (suc k) (omega arith)) (go (lt_or_le k a) (lt_or_le k b))
  where
    same : suc k - 1 ≡ k
    same = omega arith

    go : (k < a) ⊎ (a ≤ k) → (k < b) ⊎ (b ≤ k) → ltb a (suc k) && not (ltb b (suc k)) ≡ within (a, b) (suc k - 1)
    go (inl p) q = rw (same, le-ltb a (suc k) (omega arith), within-before a b k p)
    go (inr p) (inl q) = rw (same, lt-ltb a (suc k) (omega arith), le-ltb b (suc k) (omega arith), within_in a b k p q)
    go (inr p) (inr q) = rw (same, lt-ltb a (suc k) (omega arith), lt-ltb b (suc k) (omega arith), within-after a b k q)

-- The run of an event
unfoldable pub run_of : Log → ℕ → ℕ
run_of l e = count (λ s. leb s e) l.edges - 1

-- The log's edges rise from its first held event, which is the first edge
pub record Edged (l : Log) : Type 0 where
  pub up : Up l.first_held l.edges l.next
  pub first : run_start l 0 ≡ l.first_held

module _ (l : Log) (E : Edged l) where
  -- The next event is not before the first held one
  pub first_next : l.first_held ≤ l.next
  first_next = up_le l.first_held l.edges l.next E.up

  -- An event is in runs a to b-1 if it is held and its run is one of them
  pub splits_of : (a b e : ℕ) → in_runs l a b e ≡ held_before l l.next e && within (a, b) (run_of l e)
  unfolding in_runs run_start held_before run_of
  splits_of a b e = go a b e (lt_or_le e l.next)
    where
      rest : (a b c e : ℕ) → leb (get_or l.edges a l.next) e ≡ ltb a c → leb (get_or l.edges b l.next) e ≡ ltb b c →
          leb l.first_held e ≡ ltb 0 c → e < l.next →
          leb (get_or l.edges a l.next) e && ltb e (get_or l.edges b l.next) ≡ leb l.first_held e && ltb e l.next && within (a, b) (c - 1)
      rest a b c e p q f lt = rw (p, lt_not e (get_or l.edges b l.next), q, f, lt-ltb e l.next lt) (counted a b c)

      go : (a b e : ℕ) → (e < l.next) ⊎ (l.next ≤ e) →
          leb (get_or l.edges a l.next) e && ltb e (get_or l.edges b l.next) ≡ leb l.first_held e && ltb e l.next && within (a, b) (count (λ s. leb s e) l.edges - 1)
      go a b e (inl lt) =
          rest a b (count (λ s. leb s e) l.edges) e (up_count l.first_held l.edges l.next E.up a e lt)
          (up_count l.first_held l.edges l.next E.up b e lt)
          (ap (λ k. leb k e) (sym E.first) ∙ up_count l.first_held l.edges l.next E.up 0 e lt) lt
      go a b e (inr ge) = rw (le-ltb e (get_or l.edges b l.next) (omega (arith, up_high l.first_held l.edges l.next E.up b)), le-ltb e l.next ge)
          (falses (leb (get_or l.edges a l.next) e) (leb l.first_held e) (within (a, b) (count (λ s. leb s e) l.edges - 1)))
