-- What the second part of a split has seen is its own start only where the run had seen up to its own start. Assumes nothing.
use Rattle.std.proofs.Common.{◌≡◌, refl, ◌⊎◌, inl, inr, Bool, true, false, cond, ℕ, arith, get_or, eqb, eqb-true}
use Rattle.model.specs.Graph.{Graph, start}
use Rattle.model.specs.Split.{second_seen}

-- What the split's test tells, where it is met, of how far the run had seen
abbrev pub Met : ℕ → ℕ → Type 0
Met own first = own ≡ first

pub second_own : (g : Graph) (r at : ℕ) → ((second_seen g r at ≡ at) × Met (get_or g.seen r 0) (start g r)) ⊎ (second_seen g r at ≡ get_or g.seen r 0)
unfolding second_seen
second_own g r at = go (eqb own (start g r)) refl
  where
    own : ℕ
    own = get_or g.seen r 0

    go : (t : Bool) → eqb own (start g r) ≡ t → ((cond t at own ≡ at) × Met own (start g r)) ⊎ (cond t at own ≡ own)
    go true e = inl (refl, omega (arith, eqb-true own (start g r) e))
    go false e = inr refl
