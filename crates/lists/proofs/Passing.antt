-- The numbers below a bound that pass a test: just those, lowest first. Assumes nothing.
use Rattle.std.proofs.Common.{◌≡◌, ◌↔◌, Bool, true, ℕ, ◌<◌, arith}
use Rattle.lists.specs.Lists.{filter, upto, mem, rising}
use Rattle.lists.proofs.Truth.{bool_iff}
use Rattle.lists.proofs.Members.{mem-filter, filter-mem}
use Rattle.lists.proofs.Counts.{mem-from, upto-mem}
use Rattle.lists.proofs.Rising.{rising-filter, rising-from}

module _ (p : ℕ → Bool) (n : ℕ) where
  pub passing : (x : ℕ) → (mem x (filter p (upto n)) ≡ true) ↔ ((x < n) × (p x ≡ true))
  unfolding upto
  passing x = (
    (λ m. let f = mem-filter p x (upto n) m in (omega (arith, (mem-from x 0 n f.0).1), f.1)),
    (λ h. filter-mem p x (upto n) (upto-mem x n h.0) h.1),
  )

  -- Below the bound it is the test
  pub passing_test : (x : ℕ) → x < n → mem x (filter p (upto n)) ≡ p x
  passing_test x lt = bool_iff (mem x (filter p (upto n))) (p x) (λ m. ((passing x).0 m).1) (λ h. (passing x).1 (lt, h))

  pub passing_rises : rising (filter p (upto n)) ≡ true
  unfolding upto
  passing_rises = rising-filter p (upto n) (rising-from 0 n)
