-- Lists in areas of which the rest is zeros: the area is known by the list. It assumes nothing.
use Rattle.std.specs.Prelude.{◌≡◌, List, ℕ, ◌≤◌, length, take}
use Rattle.std.proofs.Common.{arith, ap, length-take, length-append}
use Rattle.std.proofs.lemmas.List.{length-replicate}
use Rattle.lists.specs.Areas.{pad}

-- the first n places of an area are n, where the rest is zeros
pub length-area : (m n : ℕ) (xs : List ℕ) → n ≤ m → xs ≡ pad m (take n xs) → length (take n xs) ≡ n
unfolding pad
length-area m n xs h e = grind (arith, ap (λ (l : List ℕ). length l) e, length-take, length-append, length-replicate)
