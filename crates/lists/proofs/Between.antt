-- Numbers between two bounds, and how many there are. Assumes nothing.
use Rattle.std.proofs.Common.{◌≡◌, ◌⊎◌, inl, inr, Bool, true, false, ◌&&◌, ℕ, zero, suc, ◌+◌, ◌-◌, ◌≤◌, ◌<◌, min, max, arith, leb, ltb, eqb, ltb-true, leb-true, lt-ltb, le-ltb, le-leb, eq-eqb}
use Rattle.std.proofs.Common.{ne_eqb}
use borrow.Author.Tests.{lt-leb}
use Rattle.lists.specs.Lists.{bit, count, from}
use Rattle.lists.proofs.Truth.{lt_or_le, eq_or-not, and_left, and_right, and_both, and_false}

-- From the first bound on, and below the second
abbrev pub within : ℕ × ℕ → ℕ → Bool
within s r = leb s.0 r && ltb r s.1

-- A number inside, before and behind
pub within_in : (a b r : ℕ) → a ≤ r → r < b → within (a, b) r ≡ true
within_in a b r p q = and_both (leb a r) (ltb r b) (le-leb a r p) (lt-ltb r b q)

pub within-before : (a b r : ℕ) → r < a → within (a, b) r ≡ false
within-before a b r p = rw (lt-leb a r p)

pub within-after : (a b r : ℕ) → b ≤ r → within (a, b) r ≡ false
within-after a b r p = rw (le-ltb r b p) (and_false (leb a r))

-- A number that lies inside
pub within_true : (a b r : ℕ) → within (a, b) r ≡ true → (a ≤ r) × (r < b)
within_true a b r h = (leb-true a r (and_left (leb a r) (ltb r b) h), ltb-true r b (and_right (leb a r) (ltb r b) h))

-- From 0 on
pub within-zero : (n r : ℕ) → within (0, n) r ≡ ltb r n
within-zero n r = rw (le-leb 0 r (omega arith))

-- No number lies between a bound and itself
pub none_within : (a r : ℕ) → within (a, a) r ≡ false
none_within a r = go (lt_or_le r a)
  where
    go : (r < a) ⊎ (a ≤ r) → within (a, a) r ≡ false
    go (inl p) = within-before a a r p
    go (inr p) = within-after a a r p

-- A stretch one longer in front
pub longer : (m y r : ℕ) → m < y → bit (within (m, y) r) ≡ bit (eqb m r) + bit (within (suc m, y) r)
longer m y r h = go (lt_or_le r m) (eq_or-not m r) (lt_or_le r y)
  where
    go : (r < m) ⊎ (m ≤ r) → (m ≡ r) ⊎ (m ≡ r → ⊥) → (r < y) ⊎ (y ≤ r) → bit (within (m, y) r) ≡ bit (eqb m r) + bit (within (suc m, y) r)
    go (inl p) q c = rw (within-before m y r p, within-before (suc m) y r (omega arith), ne_eqb m r (λ e. omega arith))
    go (inr p) (inl q) c = rw (within_in m y r p (omega arith), within-before (suc m) y r (omega arith), eq-eqb m r q)
    go (inr p) (inr q) (inl c) = rw (within_in m y r p c, within_in (suc m) y r (omega arith) c, ne_eqb m r q)
    go (inr p) (inr q) (inr c) = rw (within-after m y r c, within-after (suc m) y r c, ne_eqb m r q)

-- Two stretches, the second where the first ends
pub within_beside : (a b c q : ℕ) → a ≤ b → b ≤ c → bit (within (a, b) q) + bit (within (b, c) q) ≡ bit (within (a, c) q)
within_beside a b c q x y = go (lt_or_le q a) (lt_or_le q b) (lt_or_le q c)
  where
    go : (q < a) ⊎ (a ≤ q) → (q < b) ⊎ (b ≤ q) → (q < c) ⊎ (c ≤ q) → bit (within (a, b) q) + bit (within (b, c) q) ≡ bit (within (a, c) q)
    go (inl u) v w = rw (within-before a b q u, within-before b c q (omega arith), within-before a c q u)
    go (inr u) (inl v) w = rw (within_in a b q u v, within-before b c q v, within_in a c q u (omega arith))
    go (inr u) (inr v) (inl w) = rw (within-after a b q v, within_in b c q v w, within_in a c q u w)
    go (inr u) (inr v) (inr w) = rw (within-after a b q v, within-after b c q w, within-after a c q w)

-- How many of a stretch of numbers lie between two bounds
pub count-between : (p q a k : ℕ) → count (λ e. within (p, q) e) (from a k) ≡ min q (a + k) - max p a
unfolding count from
count-between p q a zero = omega arith
count-between p q a (suc k) = go (lt_or_le a p) (lt_or_le a q) (count-between p q (suc a) k)
  where
    go : (a < p) ⊎ (p ≤ a) → (a < q) ⊎ (q ≤ a) → count (λ e. within (p, q) e) (from (suc a) k) ≡ min q (suc a + k) - max p (suc a) →
        bit (within (p, q) a) + count (λ e. within (p, q) e) (from (suc a) k) ≡ min q (a + suc k) - max p a
    go (inl x) y ih = rw (within-before p q a x) (omega arith)
    go (inr x) (inl y) ih = rw (within_in p q a x y) (omega arith)
    go (inr x) (inr y) ih = rw (within-after p q a y) (omega arith)
