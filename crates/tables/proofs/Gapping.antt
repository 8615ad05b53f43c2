-- Gaps and events of versions, chain by chain, and the sizes of two versions beside their distance. Assumes nothing.
use Rattle.std.proofs.Common.{◌≡◌, List, ℕ, zero, suc, ◌+◌, ◌-◌, ◌≤◌, ◌<◌, arith, get_or}
use Rattle.tables.specs.Gaps.{gap_at, gaps_from}
use Rattle.tables.specs.Sizes.{share_at, events_from}

-- The first chain, and those after it
pub gaps_next : (b s cur row : List ℕ) (c n : ℕ) → c < n → gap_at b s cur row c + gaps_from b s cur row (c + 1) (n - (c + 1)) ≡ gaps_from b s cur row c (n - c)
unfolding gaps_from
gaps_next b s cur row c n h = let e : n - c ≡ suc (n - (c + 1)) = omega arith in rw e

pub gaps_none : (b s cur row : List ℕ) (c n : ℕ) → n ≤ c → gaps_from b s cur row c (n - c) ≡ 0
unfolding gaps_from
gaps_none b s cur row c n h = let e : n - c ≡ 0 = omega arith in rw e

pub events-next : (b s row : List ℕ) (c n : ℕ) → c < n → share_at b s row c + events_from b s row (c + 1) (n - (c + 1)) ≡ events_from b s row c (n - c)
unfolding events_from
events-next b s row c n h = let e : n - c ≡ suc (n - (c + 1)) = omega arith in rw e

pub events-none : (b s row : List ℕ) (c n : ℕ) → n ≤ c → events_from b s row c (n - c) ≡ 0
unfolding events_from
events-none b s row c n h = let e : n - c ≡ 0 = omega arith in rw e

-- The events of two versions differ by no more than their distance
pub events-apart : (b s x y : List ℕ) (c k : ℕ) → (events_from b s x c k - events_from b s y c k) + (events_from b s y c k - events_from b s x c k) ≤ gaps_from b s x y c k
unfolding events_from gaps_from
events-apart b s x y c zero = omega arith
events-apart b s x y c (suc k) =
    sides (get_or b (get_or s c 0 + get_or x c 0) 0) (get_or b (get_or s c 0 + get_or y c 0) 0) (get_or b (get_or s c 0) 0) (events_from b s x (c + 1) k)
    (events_from b s y (c + 1) k) (gaps_from b s x y (c + 1) k) (events-apart b s x y (c + 1) k)
  where
    both : (u v e f : ℕ) → (u + e) - (v + f) ≤ (u - v) + (e - f)
    both u v e f = omega arith

    cut : (p q o : ℕ) → (p - o) - (q - o) ≤ p - q
    cut p q o = omega arith

    add : (a b s t e f p q g : ℕ) → a ≤ s + e → b ≤ t + f → s ≤ p → t ≤ q → e + f ≤ g → a + b ≤ p + q + g
    add a b s t e f p q g h₁ h₂ h₃ h₄ h₅ = omega arith

    sides : (p q o e f g : ℕ) → (e - f) + (f - e) ≤ g → (((p - o) + e) - ((q - o) + f)) + (((q - o) + f) - ((p - o) + e)) ≤ (p - q) + (q - p) + g
    sides p q o e f g h =
        add (((p - o) + e) - ((q - o) + f)) (((q - o) + f) - ((p - o) + e)) ((p - o) - (q - o)) ((q - o) - (p - o)) (e - f) (f - e) (p - q) (q - p) g
        (both (p - o) (q - o) e f) (both (q - o) (p - o) f e) (cut p q o) (cut q p o) h
