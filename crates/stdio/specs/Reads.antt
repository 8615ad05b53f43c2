-- What reads give. Assumes nothing.
use Rattle.std.specs.Prelude.{ℕ, zero, suc, ◌+◌, ◌-◌, ◌<◌, ◌≤◌, Ok, Err, Result, ◌≡◌, List, length, take}
use Rattle.std.specs.declared.io.Error.{Error}
use Rattle.stdio.specs.declared.reading.State.TheVariants.{Open, Ended, Failed}
use Rattle.stdio.specs.declared.reading.Reading.{Reading}

-- a reading after one read more: bytes that came are at least one, none are the end of the input, and an error is a failure
unfoldable pub after_read : Reading → Result ℕ Error → Reading
after_read r (Ok zero) = record { count = r.count; state = Ended }
after_read r (Ok (suc k)) = record { count = r.count + suc k; state = r.state }
after_read r (Err e) = record { count = r.count; state = Failed e }

-- how many bytes of a buffer of n may still come: none after the end or a failure
unfoldable pub left_of : Reading → ℕ → ℕ
left_of r n = elim r.state [ Open ↦ n - r.count | Ended ↦ 0 | Failed e ↦ 0 ]

-- what a reading gave: so many bytes, or a failure, whatever came before it
unfoldable pub filled_of : Reading → Result ℕ Error
filled_of r = elim r.state [ Open ↦ Ok r.count | Ended ↦ Ok r.count | Failed e ↦ Err e ]

-- no read failed, and n bytes came
abbrev pub Came : Reading → ℕ → Type 0
Came r n = filled_of r ≡ Ok n

-- a read into the buffer xs took the reading r to s and left ys: what came before is as it was
pub record On (r : Reading) (xs ys : List ℕ) (s : Reading) : Type 0 where
  pub kept : take r.count ys ≡ take r.count xs
  pub within : s.count ≤ length xs
  pub less : left_of s (length xs) < left_of r (length xs)

-- a buffer of n bytes was read into until it was full, the input ended or a read failed
pub record Full (n : ℕ) (r : Reading) : Type 0 where
  pub within : r.count ≤ n
  pub whole : left_of r n ≡ 0
