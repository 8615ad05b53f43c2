-- What one set has of a chain and another has not is a piece of the chain. Assumes nothing.
use Rattle.std.proofs.Common.{◌≡◌, refl, sym, ap, ◌∙◌, Bool, true, false, not, cond, ◌&&◌, List, [], ◌∷◌, ℕ, suc, ◌+◌, ◌-◌, ◌≤◌, ◌<◌, arith, length, get_or, take, drop, length-take, length-drop}
use Rattle.std.proofs.Common.{get_or-take, get_or-drop, ext_get_or}
use lib.Seq.{drop-nil}
use Rattle.lists.specs.Lists.{bit, filter, count}
use Rattle.lists.specs.Areas.{part}
use Rattle.tables.proofs.Prefixes.{Falls, none_after, tail}

-- Two prefixes: what the longer has more
pub filter_falls : (p q : ℕ → Bool) (c : List ℕ) → Falls p c → Falls q c → filter (λ m. p m && not (q m)) c ≡ drop (count q c) (take (count p c) c)
unfolding filter count
filter_falls p q [] f g = refl
filter_falls p q (x ∷ xs) f g = go (p x) refl (q x) refl (filter_falls p q xs (tail p x xs f) (tail q x xs g))
  where
    more : (k : ℕ) → take (1 + k) (x ∷ xs) ≡ x ∷ take k xs
    more k = let e : 1 + k ≡ suc k = omega arith in rw e

    less : (k : ℕ) (l : List ℕ) → drop (1 + k) (x ∷ l) ≡ drop k l
    less k l = let e : 1 + k ≡ suc k = omega arith in rw e

    none : (k : ℕ) (l : List ℕ) → k ≡ 0 → take k l ≡ []
    none k l e = rw e

    whole : (k : ℕ) (l : List ℕ) → k ≡ 0 → drop k l ≡ l
    whole k l e = rw e

    go : (s : Bool) → p x ≡ s → (t : Bool) → q x ≡ t → filter (λ m. p m && not (q m)) xs ≡ drop (count q xs) (take (count p xs) xs) →
        cond (s && not t) (x ∷ filter (λ m. p m && not (q m)) xs) (filter (λ m. p m && not (q m)) xs) ≡ drop (bit t + count q xs) (take (bit s + count p xs) (x ∷ xs))
    go true e true d ih = ih ∙ sym (ap (drop (1 + count q xs)) (more (count p xs)) ∙ less (count q xs) (take (count p xs) xs))
    go true e false d ih =
        let z : count q xs ≡ 0 = none_after q x xs d g in
        let z₂ : 0 + count q xs ≡ 0 = omega arith in
        ap (λ (l : List ℕ). x ∷ l) (ih ∙ whole (count q xs) (take (count p xs) xs) z) ∙ sym (whole (0 + count q xs) (take (1 + count p xs) (x ∷ xs)) z₂ ∙ more (count p xs))
    go false e t d ih =
        let z : count p xs ≡ 0 = none_after p x xs e f in
        let z₂ : 0 + count p xs ≡ 0 = omega arith in
        ih ∙ (ap (drop (count q xs)) (none (count p xs) xs z) ∙ (drop-nil (count q xs) ∙ sym (ap (drop (bit t + count q xs)) (none (0 + count p xs) (x ∷ xs) z₂) ∙ drop-nil (bit t + count q xs))))

-- A piece of a chain, read among all members
pub piece : (members c : List ℕ) (s lo hi : ℕ) → ((i : ℕ) → i < length c → get_or members (s + i) 0 ≡ get_or c i 0) → hi ≤ length c → s + length c ≤ length members →
    part (s + lo) (s + hi) members ≡ drop lo (take hi c)
unfolding part
piece members c s lo hi m h fits = ext_get_or 0 read (drop lo (take hi c)) same at_i
  where
    read : List ℕ
    read = take (s + hi - (s + lo)) (drop (s + lo) members)

    left : length read ≡ hi - lo
    left = omega (arith, length-take (s + hi - (s + lo)) (drop (s + lo) members), length-drop (s + lo) members)

    same : length read ≡ length (drop lo (take hi c))
    same = omega (arith, left, length-drop lo (take hi c), length-take hi c)

    at_i : (i : ℕ) → i < length read → get_or read i 0 ≡ get_or (drop lo (take hi c)) i 0
    at_i i l =
        let q : i < hi - lo = omega (arith, left) in
        let e : s + lo + i ≡ s + (lo + i) = omega arith in
        get_or-take (s + hi - (s + lo)) (drop (s + lo) members) i 0 (omega arith) ∙ (get_or-drop (s + lo) members i 0 ∙ (ap (λ (j : ℕ). get_or members j 0) e ∙ (m (lo + i) (omega arith) ∙
        (sym (get_or-take hi c (lo + i) 0 (omega arith)) ∙ sym (get_or-drop lo (take hi c) i 0)))))
