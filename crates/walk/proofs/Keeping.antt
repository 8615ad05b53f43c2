-- Runs started and woken in lists by value, of which the first has room for more than the range's runs. Assumes nothing.
use Rattle.std.proofs.Common.{◌≡◌, sym, ap, ◌∙◌, ◌&&◌, List, ℕ, ◌+◌, ◌-◌, ◌≤◌, ◌<◌, arith, length, get_or, take, set, get_or-take, length-take-le, leb, ltb}
use lib.Seq.{take-set-lt}
use Rattle.lists.specs.Lists.{bit, count as count_of}
use Rattle.walk.specs.Readiness.{Wakes, start_of, wake_of}
use Rattle.walk.proofs.Starting.{waits_are, start-waits, start-known, start-ready}
use Rattle.walk.proofs.Waking.{wake_past, wake_zero, wake_more, wake_full, wake_push}

module _ (count runs : ℕ) (waiting ready : List ℕ) (few : runs ≤ length waiting) (c : ℕ) where
  abbrev kept : Wakes
  kept = (count, take runs waiting, ready)

  long : length (take runs waiting) ≡ runs
  long = length-take-le runs waiting few

  read : c < runs → get_or (take runs waiting) c 0 ≡ get_or waiting c 0
  read lt = get_or-take runs waiting c 0 lt

  written : (k : ℕ) → c < runs → take runs (set waiting c k) ≡ set (take runs waiting) c k
  written k lt = take-set-lt runs waiting c k lt

  less : c < runs → take runs (set waiting c (get_or waiting c 0 - 1)) ≡ set (take runs waiting) c (get_or (take runs waiting) c 0 - 1)
  less lt = written (get_or waiting c 0 - 1) lt ∙ ap (λ (k : ℕ). set (take runs waiting) c (k - 1)) (sym (read lt))

  pub kept_past : runs ≤ c → kept ≡ wake_of kept c
  kept_past h = sym (wake_past kept c (omega (arith, long, h)))

  pub kept_zero : c < runs → get_or waiting c 0 ≡ 0 → kept ≡ wake_of kept c
  kept_zero lt h = sym (wake_zero kept c (read lt ∙ h))

  pub kept_more : c < runs → (get_or waiting c 0 ≡ 0 → ⊥) → 1 < get_or waiting c 0 → (count, take runs (set waiting c (get_or waiting c 0 - 1)), ready) ≡ wake_of kept c
  kept_more lt z h = ap (λ (l : List ℕ). (count, l, ready)) (less lt) ∙ sym (wake_more kept c (omega (arith, long, lt)) (λ e. z (sym (read lt) ∙ e)) (omega (arith, read lt, h)))

  pub kept_full : c < runs → (get_or waiting c 0 ≡ 0 → ⊥) → length ready ≤ count → (count, take runs (set waiting c (get_or waiting c 0 - 1)), ready) ≡ wake_of kept c
  kept_full lt z h = ap (λ (l : List ℕ). (count, l, ready)) (less lt) ∙ sym (wake_full kept c (omega (arith, long, lt)) (λ e. z (sym (read lt) ∙ e)) h)

  pub kept_push : c < runs → (get_or waiting c 0 ≡ 0 → ⊥) → get_or waiting c 0 ≤ 1 → count < length ready →
      (count + 1, take runs (set waiting c (get_or waiting c 0 - 1)), set ready count c) ≡ wake_of kept c
  kept_push lt z h l = ap (λ (l : List ℕ). (count + 1, l, set ready count c)) (less lt) ∙
      sym (wake_push kept c (omega (arith, long, lt)) (λ e. z (sym (read lt) ∙ e)) (omega (arith, read lt, h)) l)

  module _ (known first : ℕ) (ps : List ℕ) (m h : ℕ) (p : m ≡ count_of (λ p. leb known p) ps) (q : h ≡ bit (ltb known first && leb first c)) (lt : c < runs) where
    pub kept-waits : (m + h ≡ 0 → ⊥) → (count, take runs (set waiting c (m + h)), ready) ≡ start_of known first kept c ps
    kept-waits n = ap (λ (l : List ℕ). (count, l, ready)) (written (m + h) lt) ∙ start-waits known first kept c ps (m + h) (waits_are known first c ps m h p q) n

    pub kept-known : c < known → (count, take runs (set waiting c (m + h)), ready) ≡ start_of known first kept c ps
    kept-known l = ap (λ (l : List ℕ). (count, l, ready)) (written (m + h) lt) ∙ start-known known first kept c ps (m + h) (waits_are known first c ps m h p q) l

    pub kept-ready : m + h ≡ 0 → known ≤ c → (count + 1, take runs (set waiting c (m + h)), set ready count c) ≡ start_of known first kept c ps
    kept-ready z l = ap (λ (l : List ℕ). (count + 1, l, set ready count c)) (written (m + h) lt) ∙ start-ready known first kept c ps (m + h) (waits_are known first c ps m h p q) z l
