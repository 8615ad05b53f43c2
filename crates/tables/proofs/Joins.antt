-- Bits joined with the covers of runs, in whatever order, and in the lowest 127 bits alone. Assumes nothing.
use Rattle.std.proofs.Common.{◌≡◌, refl, ap, ◌∙◌, Bool, true, false, ◌||◌, List, [], ◌∷◌, ℕ, zero, suc, ◌+◌, ◌/◌, ◌≤◌, ◌<◌, arith, add-one, length, get_or, take, drop, drop_of_length-le}
use Rattle.std.proofs.Common.{drop-cons}
use Rattle.lists.specs.Lists.{count, mem, bit, from, upto, ceil}
use Rattle.lists.proofs.Members.{mem-first, mem-rest}
use Rattle.lists.proofs.Between.{within-after}
use Rattle.model.specs.Cover.{either, own_bits}
use Rattle.tables.specs.Covers.{join_of, range_bits}

or_comm : (a b : Bool) → a || b ≡ b || a
or_comm true true = refl
or_comm true false = refl
or_comm false true = refl
or_comm false false = refl

or_swap : (a b c : Bool) → a || (b || c) ≡ b || (a || c)
or_swap true true c = refl
or_swap true false c = refl
or_swap false true c = refl
or_swap false false c = refl

-- The order of a join does not matter
pub either_comm : (a b : List Bool) → either a b ≡ either b a
unfolding either
either_comm [] [] = refl
either_comm [] (y ∷ b) = refl
either_comm (x ∷ a) [] = refl
either_comm (x ∷ a) (y ∷ b) = ap (λ (t : Bool). t ∷ either a b) (or_comm x y) ∙ ap (λ (l : List Bool). (y || x) ∷ l) (either_comm a b)

either_swap : (a b c : List Bool) → either a (either b c) ≡ either b (either a c)
unfolding either
either_swap [] [] c = refl
either_swap [] (y ∷ b) [] = refl
either_swap [] (y ∷ b) (z ∷ c) = refl
either_swap (x ∷ a) [] [] = refl
either_swap (x ∷ a) [] (z ∷ c) = refl
either_swap (x ∷ a) (y ∷ b) [] = refl
either_swap (x ∷ a) (y ∷ b) (z ∷ c) =
    ap (λ (t : Bool). t ∷ either a (either b c)) (or_swap x y z) ∙ ap (λ (l : List Bool). (y || (x || z)) ∷ l) (either_swap a b c)

join_in : (d bits : List Bool) (cover : ℕ → List Bool) (xs : List ℕ) → join_of (either d bits) cover xs ≡ either d (join_of bits cover xs)
unfolding join_of
join_in d bits cover [] = refl
join_in d bits cover (x ∷ xs) = ap (either (cover x)) (join_in d bits cover xs) ∙ either_swap (cover x) d (join_of bits cover xs)

-- A turn: the run at place i joined
pub join_turn : (old new : List Bool) (cover : ℕ → List Bool) (xs : List ℕ) (i : ℕ) → i < length xs → new ≡ either (cover (get_or xs i 0)) old →
    join_of new cover (drop (i + 1) xs) ≡ join_of old cover (drop i xs)
unfolding join_of
join_turn old new cover xs i h e = rw (add-one i, drop-cons xs i 0 h) (ap (λ (b : List Bool). join_of b cover (drop (suc i) xs)) e ∙ join_in (cover (get_or xs i 0)) old cover (drop (suc i) xs))

pub join-none : (bits : List Bool) (cover : ℕ → List Bool) (xs : List ℕ) (i : ℕ) → length xs ≤ i → join_of bits cover (drop i xs) ≡ bits
unfolding join_of
join-none bits cover xs i h = rw (drop_of_length-le xs h)

-- The same covers give the same join
pub join-same : (bits : List Bool) (f g : ℕ → List Bool) (xs : List ℕ) → ((x : ℕ) → mem x xs ≡ true → f x ≡ g x) → join_of bits f xs ≡ join_of bits g xs
unfolding join_of
join-same bits f g [] s = refl
join-same bits f g (x ∷ xs) s =
    ap (λ (l : List Bool). either l (join_of bits f xs)) (s x (mem-first x xs)) ∙ ap (either (g x)) (join-same bits f g xs (λ y m. s y (mem-rest x y xs m)))

-- ---- the lowest m bits

take-either : (m : ℕ) (a b : List Bool) → take m (either a b) ≡ either (take m a) (take m b)
unfolding either
take-either zero a b = refl
take-either (suc m) [] b = refl
take-either (suc m) (x ∷ a) [] = refl
take-either (suc m) (x ∷ a) (y ∷ b) = ap (λ (l : List Bool). (x || y) ∷ l) (take-either m a b)

pub take-join : (m : ℕ) (bits : List Bool) (cover : ℕ → List Bool) (xs : List ℕ) → take m (join_of bits cover xs) ≡ join_of (take m bits) (λ x. take m (cover x)) xs
unfolding join_of
take-join m bits cover [] = refl
take-join m bits cover (x ∷ xs) = take-either m (cover x) (join_of bits cover xs) ∙ ap (either (take m (cover x))) (take-join m bits cover xs)

get_either : (k : ℕ) (a b : List Bool) → get_or a k false ≡ false → get_or b k false ≡ false → get_or (either a b) k false ≡ false
unfolding either
get_either k [] b p q = refl
get_either k (x ∷ a) [] p q = refl
get_either zero (x ∷ a) (y ∷ b) p q = rw (p, q)
get_either (suc k) (x ∷ a) (y ∷ b) p q = get_either k a b p q

-- A bit that no one has is not in the join
pub get_join : (k : ℕ) (bits : List Bool) (cover : ℕ → List Bool) (xs : List ℕ) → get_or bits k false ≡ false →
    ((x : ℕ) → mem x xs ≡ true → get_or (cover x) k false ≡ false) → get_or (join_of bits cover xs) k false ≡ false
unfolding join_of
get_join k bits cover [] p q = p
get_join k bits cover (x ∷ xs) p q =
    get_either k (cover x) (join_of bits cover xs) (q x (mem-first x xs)) (get_join k bits cover xs p (λ y m. q y (mem-rest x y xs m)))

-- Bits of which the one at m, if there is one, is the last and not set
pub count-take : (m : ℕ) (l : List Bool) → length l ≤ suc m → get_or l m false ≡ false → count (λ b. b) l ≡ count (λ b. b) (take m l)
unfolding count
count-take zero [] h p = refl
count-take zero (x ∷ []) h p = ap (λ (b : Bool). bit b + 0) p
count-take zero (x ∷ y ∷ l) h p = absurd (omega arith)
count-take (suc m) [] h p = refl
count-take (suc m) (x ∷ l) h p = ap (λ (n : ℕ). bit x + n) (count-take m l (omega arith) p)

-- ---- a run's own bits

pub own-take : (per first end : ℕ) → take 127 (range_bits (first / per) (ceil end per)) ≡ own_bits per first end
unfolding range_bits own_bits upto from
own-take per first end = refl

pub own_top : (low high : ℕ) → high ≤ 127 → get_or (range_bits low high) 127 false ≡ false
unfolding range_bits upto from
own_top low high h = within-after low high 127 h
