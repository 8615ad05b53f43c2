-- What the code that keeps a version leaves. Assumes nothing.
use Rattle.std.specs.Prelude.{◌≡◌, cond, List, ℕ, zero, suc, ◌+◌, ◌<◌, get_or, eqb}
use Rattle.model.specs.Limits.{max_runs}

-- How far along chain c the first k runs reach: past the place of the last of them on it
unfoldable pub started : List ℕ → List ℕ → ℕ → ℕ → ℕ
started chain place zero c = 0
started chain place (suc k) c = cond (eqb (get_or chain k 0) c) (get_or place k 0 + 1) (started chain place k c)

-- How far along chain c a run reaches with its history: past its place on its own chain, else as its row says
unfoldable pub arrived : List ℕ → ℕ → ℕ → ℕ → ℕ
arrived row chain place c = cond (eqb chain c) (place + 1) (get_or row c 0)

-- The first n words are f's
abbrev pub Holds : (ℕ → ℕ) → ℕ → List ℕ → Type 0
Holds f n l = (c : ℕ) → c < n → get_or l c 0 ≡ f c

-- The first `known` runs stand on one of n chains, at places below 512
pub record Standing (chain place : List ℕ) (n known : ℕ) : Type 0 where
  pub chains : (r : ℕ) → r < known → get_or chain r 0 < n
  pub places : (r : ℕ) → r < known → get_or place r 0 < max_runs
