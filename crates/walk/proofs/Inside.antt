-- The parents of a range's runs, numbered within it, stand once each. Assumes nothing.
use Rattle.std.proofs.Common.{◌≡◌, refl, true, List, [], ◌∷◌, map, ℕ, zero, suc, ◌-◌, arith, get_or, take, drop, leb, leb-true}
use Rattle.lists.specs.Lists.{filter, rising}
use Rattle.lists.specs.Scans.{groups_fit}
use Rattle.lists.proofs.Members.{mem-filter}
use Rattle.lists.proofs.Rising.{rising-filter, rising-map}
use Rattle.model.specs.Graph.{Graph}
use Rattle.model.specs.History.{at}
use Rattle.model.specs.Range.{parents_in}
use Rattle.model.proofs.FormedReads.{parents-first}
use Rattle.walk.proofs.Distinct.{Once, rising-once}

-- Each group is rising; past the end a group is empty
abbrev Rise : List (List ℕ) → Type 0
Rise l = (i : ℕ) → rising (get_or l i []) ≡ true

nothing : rising [] ≡ true
unfolding rising
nothing = refl

groups-rise : (k : ℕ) (l : List (List ℕ)) → groups_fit k l ≡ true → Rise l
groups-rise k [] e i = nothing
groups-rise k (x ∷ xs) e zero = (parents-first k x xs e).0
groups-rise k (x ∷ xs) e (suc i) = groups-rise (suc k) xs (parents-first k x xs e).2 i

drop-rise : (a : ℕ) (l : List (List ℕ)) → Rise l → Rise (drop a l)
drop-rise zero l h i = h i
drop-rise (suc a) [] h i = nothing
drop-rise (suc a) (x ∷ xs) h i = drop-rise a xs (λ j. h (suc j)) i

take-rise : (n : ℕ) (l : List (List ℕ)) → Rise l → Rise (take n l)
take-rise zero l h i = nothing
take-rise (suc n) [] h i = nothing
take-rise (suc n) (x ∷ xs) h zero = h 0
take-rise (suc n) (x ∷ xs) h (suc i) = take-rise n xs (λ j. h (suc j)) i

map-rise : (f : List ℕ → List ℕ) → ((x : List ℕ) → rising x ≡ true → rising (f x) ≡ true) → (l : List (List ℕ)) → Rise l → Rise (map f l)
map-rise f k [] h i = nothing
map-rise f k (x ∷ xs) h zero = k x (h 0)
map-rise f k (x ∷ xs) h (suc i) = map-rise f k xs (λ j. h (suc j)) i

-- Numbered from a on, a group keeps its order
pub numbered_rise : (a : ℕ) (x : List ℕ) → rising x ≡ true → rising (map (λ p. p - a) (filter (λ p. leb a p) x)) ≡ true
numbered_rise a x e =
    let kept : List ℕ = filter (λ p. leb a p) x in
    rising-map (λ p. p - a) kept
    (λ p q m k l. omega (arith, l, leb-true a p (mem-filter (λ p. leb a p) p x m).1, leb-true a q (mem-filter (λ p. leb a p) q x k).1))
    (rising-filter (λ p. leb a p) x e)

pub parents-once : (g : Graph) (a b : ℕ) → groups_fit 0 g.parents ≡ true → (x : ℕ) → Once (at (parents_in g a b) x)
unfolding parents_in at
parents-once g a b e x =
    rising-once (get_or (map (λ ps. map (λ p. p - a) (filter (λ p. leb a p) ps)) (take (b - a) (drop a g.parents))) x [])
    (map-rise (λ ps. map (λ p. p - a) (filter (λ p. leb a p) ps)) (numbered_rise a) (take (b - a) (drop a g.parents))
    (take-rise (b - a) (drop a g.parents) (drop-rise a g.parents (groups-rise 0 g.parents e))) x)
