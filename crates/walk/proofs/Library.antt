-- Words of the definitions and of the library: how many numbers pass a test, and the same numbers in the same order.
use Rattle.std.proofs.Common.{◌≡◌, ℕ, ◌+◌, ◌&&◌, Bool, true, false, List, [], ◌∷◌, cond, count_by, eqb, refl, ap, arith}
use Rattle.std.proofs.lemmas.List.Recursion.{is_count_by}
use lib.Pointwise.{pointwise}
use Rattle.lists.specs.Lists.{bit, count, same}

bit_cond : (t : Bool) (n : ℕ) → bit t + n ≡ cond t (1 + n) n
bit_cond true n = refl
bit_cond false n = omega arith

pub count_is : (p : ℕ → Bool) (xs : List ℕ) → count p xs ≡ count_by p xs
count_is p = is_count_by (count p) p (unfold count in refl) (λ x xs. unfold count in bit_cond (p x) (count p xs))

pub same_is : (xs ys : List ℕ) → pointwise eqb xs ys ≡ same xs ys
unfolding same
same_is [] [] = refl
same_is [] (y ∷ ys) = refl
same_is (x ∷ xs) [] = refl
same_is (x ∷ xs) (y ∷ ys) = ap (λ t. eqb x y && t) (same_is xs ys)
