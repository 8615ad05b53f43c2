-- How many numbers of a list pass: all of them, with another test or without it, and those that it shares with another list. Assumes nothing.
use Rattle.std.proofs.Common.{◌≡◌, refl, sym, ap, ◌∙◌, Bool, true, false, not, cond, ◌&&◌, List, [], ◌∷◌, ℕ, suc, ◌+◌, arith, length, eqb, eqb-true, eq-eqb, ne_eqb}
use Rattle.lists.specs.Lists.{bit, all, filter, count, mem, rising}
use Rattle.lists.proofs.Truth.{bool_iff}
use Rattle.lists.proofs.Members.{mem-filter, filter-mem}
use Rattle.lists.proofs.Counts.{filter-count, count_le}
use Rattle.lists.proofs.Rising.{rising-filter, rising-only}

-- As many pass as there are exactly if all do
pub count-all : (p : ℕ → Bool) (xs : List ℕ) → eqb (count p xs) (length xs) ≡ all p xs
unfolding count all
count-all p [] = refl
count-all p (x ∷ xs) = go (p x) (count-all p xs)
  where
    go : (t : Bool) → eqb (count p xs) (length xs) ≡ all p xs → eqb (bit t + count p xs) (suc (length xs)) ≡ t && all p xs
    go true ih =
        bool_iff (eqb (1 + count p xs) (suc (length xs))) (eqb (count p xs) (length xs))
        (λ h. eq-eqb (count p xs) (length xs) (omega (arith, eqb-true (1 + count p xs) (suc (length xs)) h)))
        (λ h. eq-eqb (1 + count p xs) (suc (length xs)) (omega (arith, eqb-true (count p xs) (length xs) h))) ∙ ih
    go false ih = ne_eqb (0 + count p xs) (suc (length xs)) (λ e. omega (arith, count_le p xs))

-- Of those that pass one test, how many pass another
pub count-filter : (p q : ℕ → Bool) (xs : List ℕ) → count q (filter p xs) ≡ count (λ x. p x && q x) xs
unfolding count filter
count-filter p q [] = refl
count-filter p q (x ∷ xs) = go (p x) (count-filter p q xs)
  where
    go : (t : Bool) → count q (filter p xs) ≡ count (λ x. p x && q x) xs → count q (cond t (x ∷ filter p xs) (filter p xs)) ≡ bit (t && q x) + count (λ x. p x && q x) xs
    go true ih = omega arith
    go false ih = omega arith

-- Those that pass another test too, and those that do not
pub count_parted : (p q : ℕ → Bool) (xs : List ℕ) → count (λ x. p x && q x) xs + count (λ x. p x && not (q x)) xs ≡ count p xs
unfolding count
count_parted p q [] = refl
count_parted p q (x ∷ xs) = go (p x) (q x) (count_parted p q xs)
  where
    go : (s t : Bool) → count (λ x. p x && q x) xs + count (λ x. p x && not (q x)) xs ≡ count p xs →
        bit (s && t) + count (λ x. p x && q x) xs + (bit (s && not t) + count (λ x. p x && not (q x)) xs) ≡ bit s + count p xs
    go true true ih = omega arith
    go true false ih = omega arith
    go false t ih = omega arith

-- Of two rising lists, as many of the one are in the other as of the other in the one
pub count_shared : (xs ys : List ℕ) → rising xs ≡ true → rising ys ≡ true → count (λ x. mem x ys) xs ≡ count (λ y. mem y xs) ys
count_shared xs ys h k =
    sym (filter-count (λ x. mem x ys) xs) ∙ ap length (rising-only (filter (λ x. mem x ys) xs) (filter (λ y. mem y xs) ys)
    (rising-filter (λ x. mem x ys) xs h) (rising-filter (λ y. mem y xs) ys k) both) ∙ filter-count (λ y. mem y xs) ys
  where
    both : (z : ℕ) → mem z (filter (λ x. mem x ys) xs) ≡ mem z (filter (λ y. mem y xs) ys)
    both z = bool_iff (mem z (filter (λ x. mem x ys) xs)) (mem z (filter (λ y. mem y xs) ys))
        (λ m. let f = mem-filter (λ x. mem x ys) z xs m in filter-mem (λ y. mem y xs) z ys f.1 f.0)
        (λ m. let f = mem-filter (λ y. mem y xs) z ys m in filter-mem (λ x. mem x ys) z xs f.1 f.0)
