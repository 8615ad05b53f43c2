-- Filters of a list that grows at its end. Assumes nothing.
use Rattle.std.proofs.Common.{◌≡◌, refl, ap, ◌∙◌, Bool, true, false, not, cond, List, [], ◌∷◌, ◌++◌, ℕ, ◌+◌, ◌≤◌, ◌<◌, add-one, arith, length, take, get_or, length-take, take-suc, eqb}
use Rattle.std.specs.List.{list_any}
use Rattle.lists.specs.Lists.{mem, filter}
use Rattle.lists.proofs.Counts.{filter-length}
use Rattle.lists.proofs.Scanning.{mem-list_any}

-- A filter of a list with one more at its end
pub filter_snoc : (p : ℕ → Bool) (xs : List ℕ) (x : ℕ) → filter p (xs ++ x ∷ []) ≡ cond (p x) (filter p xs ++ x ∷ []) (filter p xs)
unfolding filter
filter_snoc p [] x = refl
filter_snoc p (y ∷ ys) x = rw (filter_snoc p ys x) (go (p y) (p x))
  where
    go : (s t : Bool) → cond s (y ∷ cond t (filter p ys ++ x ∷ []) (filter p ys)) (cond t (filter p ys ++ x ∷ []) (filter p ys)) ≡
        cond t (cond s (y ∷ filter p ys) (filter p ys) ++ x ∷ []) (cond s (y ∷ filter p ys) (filter p ys))
    go true true = refl
    go true false = refl
    go false true = refl
    go false false = refl

-- Of the first i at most i pass
pub filter-first : (p : ℕ → Bool) (a : List ℕ) (i : ℕ) → length (filter p (take i a)) ≤ i
filter-first p a i = omega (arith, filter-length p (take i a), length-take i a)

-- A turn of a filter: the next number is added where it passes
pub keep_turn : (p : ℕ → Bool) (a : List ℕ) (i : ℕ) (kept : List ℕ) (t : Bool) → i < length a →
    t ≡ p (get_or a i 0) → kept ≡ filter p (take i a) → cond t (kept ++ get_or a i 0 ∷ []) kept ≡ filter p (take (i + 1) a)
keep_turn p a i kept t h e q = rw (q, e, add-one i, take-suc a i 0 h, filter_snoc p (take i a) (get_or a i 0))

-- where it is asked whether it is not among the numbers `ps`
pub keep_other : (ps a : List ℕ) (i : ℕ) (kept : List ℕ) (found : Bool) → i < length a → kept ≡ filter (λ e. not (mem e ps)) (take i a) →
    found ≡ list_any (λ y. eqb y (get_or a i 0)) ps →
    cond (not found) (kept ++ get_or a i 0 ∷ []) kept ≡ filter (λ e. not (mem e ps)) (take (i + 1) a)
keep_other ps a i kept found h e f = keep_turn (λ e. not (mem e ps)) a i kept (not found) h (ap not (f ∙ mem-list_any (get_or a i 0) ps)) e
