-- How a reading goes on after a read's answer. Assumes nothing.
use Rattle.std.proofs.Common.{◌≡◌, ℕ, zero, suc, ◌+◌, ◌-◌, ◌<◌, ◌≤◌, List, ◌++◌, length, take, refl, sym, ◌∙◌, ap, arith}
use Rattle.std.specs.Prelude.{Result, Ok, Err, Option, MatchResult}
use Rattle.std.specs.Result.{IsErrAnd}
use Rattle.std.proofs.lemmas.Result.{err_from_is_err_and}
use Rattle.std.proofs.Math.Seq.{take-append_seam, take-append-add}
use Rattle.std.proofs.lemmas.List.{length-take-le, take-append-le}
use Rattle.std.specs.Io.{ReadsAtMost}
use Rattle.std.specs.Io.KnownBytes.{Consumes, ReadConsumes, IsAtEnd}
use Rattle.std.proofs.KnownBytes.{Consumes-trans, Consumes-kept}
use Rattle.std.specs.declared.io.Error.{Error}
use Rattle.stdio.specs.declared.reading.State.{State}
use Rattle.stdio.specs.declared.reading.State.TheVariants.{Open, Ended, Failed}
use Rattle.stdio.specs.declared.reading.Reading.{Reading}
use Rattle.stdio.specs.Reads.{after_read, left_of, filled_of, Came, On, Full}

-- Where more may come the reading is open, and the buffer is not full
open_by : (s : State) (m : ℕ) → 0 < elim s [ Open ↦ m | Ended ↦ 0 | Failed e ↦ 0 ] → (s ≡ Open) × (0 < m)
open_by Open m p = (refl, p)
open_by Ended m p = absurd (omega (arith, p))
open_by (Failed e) m p = absurd (omega (arith, p))

pub is_open : (r : Reading) (n : ℕ) → 0 < left_of r n → (r.state ≡ Open) × (0 < n - r.count)
unfolding left_of
is_open r n p = open_by r.state (n - r.count) p

-- A read leaves less, within the buffer
abbrev Within : Reading → ℕ → Reading → Type 0
Within r n s = (s.count ≤ n) × (left_of s n < left_of r n)

within_read : (r : Reading) (n : ℕ) (part : List ℕ) (got : Result ℕ Error) → 0 < left_of r n → r.count + length part ≤ n → ReadsAtMost got part →
    Within r n (after_read r got)
unfolding after_read left_of
within_read r n part (Ok zero) p h fits = (omega arith, p)
within_read r n part (Ok (suc k)) p h fits =
    let o = open_by r.state (n - r.count) p in
    (omega (arith, fits.0), rw o.0 (omega arith))
within_read r n part (Err e) p h fits = (omega arith, p)

-- what stands before a part is kept
before-kept : (at : ℕ) (xs zs : List ℕ) → at ≤ length xs → take at (take at xs ++ zs) ≡ take at xs
before-kept at xs zs h = ap (λ n. take n (take at xs ++ zs)) (sym (length-take-le at xs h)) ∙ take-append_seam (take at xs) zs

pub on_read : (r : Reading) (xs part rest : List ℕ) (got : Result ℕ Error) → 0 < left_of r (length xs) → r.count + length part ≤ length xs →
    ReadsAtMost got part → On r xs (take r.count xs ++ (part ++ rest)) (after_read r got)
on_read r xs part rest got p h fits =
    let w = within_read r (length xs) part got p h fits in
    record { kept = before-kept r.count xs (part ++ rest) (omega arith); within = w.0; less = w.1 }

-- What came are the input's next bytes
count_read : (r : Reading) (k : ℕ) → (after_read r (Ok k)).count ≡ r.count + k
unfolding after_read
count_read r zero = omega arith
count_read r (suc k) = refl

pub bytes_read : (a b c : Option (List ℕ)) (r : Reading) (xs part rest : List ℕ) (got : Result ℕ Error) → r.count ≤ length xs → ReadsAtMost got part →
    ReadConsumes b c got part → Consumes a b (take r.count xs) →
    Consumes a c (take (after_read r got).count (take r.count xs ++ (part ++ rest)))
bytes_read a b c r xs part rest (Ok n) h fits read before =
    let long = length-take-le r.count xs h in
    let seam : take (r.count + n) (take r.count xs ++ (part ++ rest)) ≡ take r.count xs ++ take n part =
    ap (λ k. take (k + n) (take r.count xs ++ (part ++ rest))) (sym long) ∙ take-append-add (take r.count xs) (part ++ rest) n ∙
    ap (λ zs. take r.count xs ++ zs) (take-append-le n part rest fits.0) in
    rw (count_read r n, seam) (Consumes-trans a b c _ _ before read.0)
bytes_read a b c r xs part rest (Err e) h fits read before =
    let count : (after_read r (Err e)).count ≡ r.count = unfold after_read in refl in
    rw (count, before-kept r.count xs (part ++ rest) h) (Consumes-kept a b c _ before read)

-- It ended only where no byte is left
pub end_read : (b c : Option (List ℕ)) (r : Reading) (part : List ℕ) (got : Result ℕ Error) → r.state ≡ Open → 0 < length part →
    ReadConsumes b c got part → (after_read r got).state ≡ Ended → IsAtEnd c
unfolding after_read
end_read b c r part (Ok zero) o some read e = read.1 refl some
end_read b c r part (Ok (suc k)) o some read e = cc
end_read b c r part (Err x) o some read e = cc

-- What a reading gave lies within a buffer that it filled
came_by : (s : State) (m k : ℕ) → ◌≡◌ {A = Result ℕ Error} (elim s [ Open ↦ Ok m | Ended ↦ Ok m | Failed e ↦ Err e ]) (Ok k) → m ≡ k
came_by Open m k h = cc
came_by Ended m k h = cc
came_by (Failed e) m k h = cc

pub came_count : (r : Reading) (k : ℕ) → Came r k → r.count ≡ k
unfolding filled_of
came_count r k h = came_by r.state r.count k h

pub came_fits : (r : Reading) (n k : ℕ) → Came r k → Full n r → k ≤ n
came_fits r n k h f = omega (arith, came_count r k h, f.within)

-- `map_err` gives an `Ok` of that `Ok` alone
ok_mapped : {D E : Type 0} (got : Result ℕ E) (s : Result ℕ D) (Q : E → D → Type 0) (k : ℕ) → MatchResult got (λ x. s ≡ Ok x) (λ e. IsErrAnd s (Q e)) →
    s ≡ Ok k → got ≡ Ok k
ok_mapped (Ok x) s Q k h e = cc
ok_mapped (Err x) s Q k h e =
    let w = err_from_is_err_and s h in
    let bad = w.1 in
    cc

-- of a reading whose failure was given another type
module _ {D : Type 0} (r : Reading) (got : Result ℕ Error) (s : Result ℕ D) (Q : Error → D → Type 0) (k : ℕ)
    (gave : got ≡ filled_of r) (mapped : MatchResult got (λ x. s ≡ Ok x) (λ e. IsErrAnd s (Q e))) (was : s ≡ Ok k) where
  pub came_mapped : Came r k
  came_mapped = sym gave ∙ ok_mapped got s Q k mapped was

  pub came_mapped_fits : (n : ℕ) → Full n r → k ≤ n
  came_mapped_fits n full = came_fits r n k came_mapped full
