-- The distance of two versions, by prefix sums along the chains. Assumes nothing.
use Rattle.std.specs.Prelude.{List, ℕ, zero, suc, ◌+◌, ◌-◌, get_or}

-- The events in just one of two versions along one chain: b the prefix sums, s where each chain's members begin
abbrev pub gap_at : List ℕ → List ℕ → List ℕ → List ℕ → ℕ → ℕ
gap_at b s cur row c =
    (get_or b (get_or s c 0 + get_or cur c 0) 0 - get_or b (get_or s c 0 + get_or row c 0) 0) + (get_or b (get_or s c 0 + get_or row c 0) 0 - get_or b (get_or s c 0 + get_or cur c 0) 0)

-- along k chains, from the c-th on
unfoldable pub gaps_from : List ℕ → List ℕ → List ℕ → List ℕ → ℕ → ℕ → ℕ
gaps_from b s cur row c zero = 0
gaps_from b s cur row c (suc k) = gap_at b s cur row c + gaps_from b s cur row (c + 1) k
