-- One candidate weighed, and the next: what a best so far passes over without measuring, and what a distance broken off changes.
-- Assumes nothing.
use Rattle.std.proofs.Common.{◌≡◌, sym, ap, subst, ◌∙◌, ◌⊎◌, inl, inr, Bool, true, false, ◌&&◌, List, ℕ, suc, ◌+◌, ◌-◌, ◌≤◌, ◌<◌, ◌^◌, arith, get_or, ltb, leb, eqb, le-ltb, eq-eqb, ne_eqb}
use Rattle.std.proofs.Common.{eqb-true, ltb-true, leb-true}
use Rattle.std.specs.Prelude.{Option, Some, None}
use Rattle.lists.proofs.Truth.{lt_or_le, false_true, and_left, and_right, or_cases}
use Rattle.tables.specs.Sizes.{Within, events_from}
use Rattle.tables.proofs.Gapping.{events-apart}
use Rattle.walk.specs.declared.choice.Best.{Best}
use Rattle.walk.specs.Given.{Given, begins_in, sums_in, row_for}
use Rattle.walk.specs.Choose.{try_of, free_c, beaten_c, limit_c, weigh_c, cost_c, scan_c}

-- A candidate
abbrev pub run_of : ℕ → ℕ → ℕ → Best
run_of c w i = record { cost = c; weight = w; at = i }

-- The three ways of weighing
pub weigh-last : (t : Bool) (d w i : ℕ) (b : Option Best) → t ≡ true → weigh_c t d w i b ≡ try_of b (run_of 0 w i)
unfolding weigh_c
weigh-last t d w i b e = rw e

pub weigh-free : (t : Bool) (d w i : ℕ) (b : Option Best) → t ≡ false → free_c b ≡ true → weigh_c t d w i b ≡ b
unfolding weigh_c
weigh-free t d w i b e f = rw (e, f)

pub weigh_cost : (t : Bool) (d w i : ℕ) (b : Option Best) → t ≡ false → free_c b ≡ false → weigh_c t d w i b ≡ try_of b (run_of d w i)
unfolding weigh_c
weigh_cost t d w i b e f = rw (e, f)

-- A run dearer than the best does not take over
try_dear : (b a : Best) → b.cost < a.cost → try_of (Some b) a ≡ Some b
unfolding try_of
try_dear b a l = rw (le-ltb a.cost b.cost (omega arith), ne_eqb a.cost b.cost (λ e. omega arith))

-- nor one at its cost that weighs no less
try_heavy : (b a : Best) → b.cost ≡ a.cost → b.weight ≤ a.weight → try_of (Some b) a ≡ Some b
unfolding try_of
try_heavy b a e l = rw (le-ltb a.cost b.cost (omega arith), eq-eqb a.cost b.cost (omega arith), le-ltb a.weight b.weight l)

-- A beaten run does not take over, whatever it costs from c on
pub beaten_keeps : (b : Option Best) (c d w i : ℕ) → beaten_c b c w ≡ true → c ≤ d → try_of b (run_of d w i) ≡ b
unfolding beaten_c
beaten_keeps None c d w i e le = false_true e
beaten_keeps (Some b) c d w i e le = go (or_cases (ltb b.cost c) (eqb b.cost c && leb b.weight w) e) (lt_or_le c d)
  where
    go : (ltb b.cost c ≡ true) ⊎ (eqb b.cost c && leb b.weight w ≡ true) → (c < d) ⊎ (d ≤ c) → try_of (Some b) (run_of d w i) ≡ Some b
    go (inl l) u = try_dear b (run_of d w i) (omega (arith, ltb-true b.cost c l))
    go (inr h) (inl u) = try_dear b (run_of d w i) (omega (arith, eqb-true b.cost c (and_left (eqb b.cost c) (leb b.weight w) h)))
    go (inr h) (inr u) = try_heavy b (run_of d w i) (omega (arith, eqb-true b.cost c (and_left (eqb b.cost c) (leb b.weight w) h))) (leb-true b.weight w (and_right (eqb b.cost c) (leb b.weight w) h))

-- A distance broken off past the best cost chooses as the full one does
pub cut_same : (b : Option Best) (d r w i : ℕ) → Within (limit_c b) d r → r ≤ 2 ^ 50 → try_of b (run_of r w i) ≡ try_of b (run_of d w i)
unfolding limit_c
cut_same b d r w i (inl e) le = ap (λ (x : ℕ). try_of b (run_of x w i)) e
cut_same None d r w i (inr h) le = absurd (omega arith)
cut_same (Some b) d r w i (inr h) le = try_dear b (run_of r w i) h.0 ∙ sym (try_dear b (run_of d w i) (omega (arith, h.0, h.1)))

pub within_same : (r : ℕ) {l l' f f' : ℕ} → l ≡ l' → f ≡ f' → Within l f r → Within l' f' r
within_same r {l} {l'} {f} {f'} p q h = subst (λ (x : ℕ). Within x f' r) p (subst (λ (x : ℕ). Within l x r) q h)

-- The sizes of the current version and of a run's history are no further apart than the run's cost
pub least_cost : (g : Given) (current : List ℕ) (run least here there : ℕ) → least ≡ (here - there) + (there - here) →
    here ≡ events_from (sums_in g) (begins_in g) current 0 g.chains → there ≡ events_from (sums_in g) (begins_in g) (row_for g run) 0 g.chains → least ≤ cost_c g current run
unfolding cost_c
least_cost g current run least here there e p q = rw (e, p, q) (events-apart (sums_in g) (begins_in g) current (row_for g run) 0 g.chains)

-- The next candidate, below place `at`, and none left
pub scan_next : (t : ℕ → Bool) (d w : ℕ → ℕ) (ready : List ℕ) (n at from run : ℕ) (b next : Option Best) → from < at → at ≤ n → run ≡ get_or ready (at - 1) 0 →
    next ≡ weigh_c (t run) (d run) (w run) (at - 1) b → scan_c t d w ready n (n - (at - 1)) (at - 1 - from) next ≡ scan_c t d w ready n (n - at) (at - from) b
unfolding scan_c
scan_next t d w ready n at from run b next h le p q =
    let f : at - 1 ≡ n - 1 - (n - at) = omega arith in
    let g : n - (at - 1) ≡ n - at + 1 = omega arith in
    let e : at - from ≡ suc (at - 1 - from) = omega arith in
    ap (scan_c t d w ready n (n - (at - 1)) (at - 1 - from)) (q ∙ ap (λ (r : ℕ). weigh_c (t r) (d r) (w r) (at - 1) b) p) ∙
    (ap (λ (i : ℕ). scan_c t d w ready n i (at - 1 - from) (one (at - 1))) g ∙
    (ap (λ (p : ℕ). scan_c t d w ready n (n - at + 1) (at - 1 - from) (one p)) f ∙
    sym (ap (λ (k : ℕ). scan_c t d w ready n (n - at) k b) e)))
  where
    one : ℕ → Option Best
    one p = weigh_c (t (get_or ready p 0)) (d (get_or ready p 0)) (w (get_or ready p 0)) p b

pub scan_none : (t : ℕ → Bool) (d w : ℕ → ℕ) (ready : List ℕ) (n i from : ℕ) (b : Option Best) → scan_c t d w ready n i (from - from) b ≡ b
unfolding scan_c
scan_none t d w ready n i from b = let e : from - from ≡ 0 = omega arith in rw e
