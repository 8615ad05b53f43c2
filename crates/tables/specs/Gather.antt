-- The parents of a range's runs, gathered in groups: where the next parent goes, and the items. Assumes nothing.
use Rattle.std.specs.Prelude.{cond, List, [], ◌∷◌, ℕ, ◌+◌, ◌-◌, set, leb}

abbrev pub Gathered : Type 0
Gathered = ℕ × List ℕ

-- A parent from run a on, less a
unfoldable pub put_parent : ℕ → Gathered → ℕ → Gathered
put_parent a s p = cond (leb a p) (s.0 + 1, set s.1 s.0 (p - a)) s

unfoldable pub put_parents : ℕ → Gathered → List ℕ → Gathered
put_parents a s [] = s
put_parents a s (p ∷ ps) = put_parents a (put_parent a s p) ps
