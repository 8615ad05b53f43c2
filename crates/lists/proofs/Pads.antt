-- Lists with zeros after them, words written from the start of a lent list, and records that fit into it. Assumes nothing.
use Rattle.std.proofs.Common.{◌≡◌, refl, sym, ap, ◌∙◌, Bool, true, false, List, [], ◌∷◌, ◌++◌, append_assoc, ℕ, zero, suc, ◌+◌, ◌-◌, ◌≤◌, ◌<◌, arith, length, take, drop, get_or, set, replicate}
use Rattle.std.proofs.Common.{length-append, length-take, length-drop, take-append-drop, take_at, drop_at, leb, eqb, leb-true, eqb-true}
use Rattle.std.proofs.Math.Nat.{sub-zero}
use Rattle.std.proofs.lemmas.List.{drop-replicate}
use lib.ListN.{length-replicate, get_or-append}
use lib.Seq.{set_at, get_or-append-add, get_or-drop}
use Rattle.lists.specs.Lists.{all, concat}
use Rattle.lists.specs.Areas.{zeros, pad, over, fitting}
use Rattle.lists.specs.Padded.{length-area}
use Rattle.lists.proofs.Truth.{and_left, and_right}

-- A list of zeros is known by its length
pub zeros_are : (l : List ℕ) → zeros l ≡ true → l ≡ replicate (length l) 0
unfolding zeros all
zeros_are [] e = refl
zeros_are (x ∷ xs) e =
    let q = zeros_are xs (and_right (eqb x 0) (all (λ y. eqb y 0) xs) e) in
    rw (eqb-true x 0 (and_left (eqb x 0) (all (λ y. eqb y 0) xs) e), ← q)

pub zeros-replicate : (n : ℕ) → zeros (replicate n 0) ≡ true
unfolding zeros all
zeros-replicate zero = refl
zeros-replicate (suc n) = zeros-replicate n

-- A read of zeros gives 0, inside and past the end
pub zeros_get : (n k : ℕ) → get_or {A = ℕ} (replicate n 0) k 0 ≡ 0
zeros_get zero k = refl
zeros_get (suc n) zero = refl
zeros_get (suc n) (suc k) = zeros_get n k

-- A list with zeros after it: its length, the list in front, the zeros behind
pub length-pad : (m : ℕ) (l : List ℕ) → length l ≤ m → length (pad m l) ≡ m
unfolding pad
length-pad m l h = simp (length-append, length-replicate) (omega arith)

pub take-pad : (n m : ℕ) (l : List ℕ) → n ≡ length l → take n (pad m l) ≡ l
unfolding pad
take-pad n m l e = take_at l (replicate (m - length l) 0) n (sym e)

pub drop-pad : (n m : ℕ) (l : List ℕ) → n ≡ length l → drop n (pad m l) ≡ replicate (m - n) 0
unfolding pad
drop-pad n m l e = drop_at l (replicate (m - length l) 0) n (sym e) ∙ ap (λ (k : ℕ). replicate (m - k) 0) (sym e)

pub zeros-past-pad : (n m : ℕ) (l : List ℕ) → n ≡ length l → zeros (drop n (pad m l)) ≡ true
zeros-past-pad n m l e = rw (drop-pad n m l e) (zeros-replicate (m - n))

-- A read of the padded list is a read of the list
pub get_pad : (m : ℕ) (l : List ℕ) (k : ℕ) → get_or (pad m l) k 0 ≡ get_or l k 0
unfolding pad
get_pad m [] k = zeros_get (m - 0) k
get_pad m (x ∷ l) zero = refl
get_pad m (x ∷ l) (suc k) = past (m - suc (length l)) l k
  where
    past : (n : ℕ) (xs : List ℕ) (j : ℕ) → get_or (xs ++ replicate n 0) j 0 ≡ get_or xs j 0
    past n [] j = zeros_get n j
    past n (y ∷ xs) zero = refl
    past n (y ∷ xs) (suc j) = past n xs j

-- An area that holds zeros from place n on is its first n places with zeros after them
pub padded : (m n : ℕ) (a l : List ℕ) → length a ≡ m → n ≤ m → zeros (drop n a) ≡ true → take n a ≡ l → a ≡ pad m l
unfolding pad
padded m n a l q h e t =
    let k : length (drop n a) ≡ m - length l = rw (← t) (simp (length-take, length-drop) (omega arith)) in
    sym (take-append-drop n a) ∙ rw (← k, ← zeros_are (drop n a) e, t)

-- Words written from the start of a lent list: none, the length, the words in front, the rest behind
pub over_none : (lent : List ℕ) → over [] lent ≡ lent
unfolding over
over_none lent = refl

pub length_over : (words lent : List ℕ) → length words ≤ length lent → length (over words lent) ≡ length lent
unfolding over
length_over words lent h = simp (length-append, length-drop) (omega arith)

pub take-over : (words lent : List ℕ) (n : ℕ) → length words ≡ n → take n (over words lent) ≡ words
unfolding over
take-over words lent n e = take_at words (drop (length words) lent) n e

pub drop-over : (words lent : List ℕ) (n : ℕ) → length words ≡ n → drop n (over words lent) ≡ drop n lent
unfolding over
drop-over words lent n e = drop_at words (drop (length words) lent) n e ∙ ap (λ (k : ℕ). drop k lent) e

-- A read of what was written
pub get_over : (words lent : List ℕ) (k : ℕ) → k < length words → get_or (over words lent) k 0 ≡ get_or words k 0
unfolding over
get_over words lent k h = get_or-append words (drop (length words) lent) 0 k h

-- A read past what was written
pub get_past-over : (words lent : List ℕ) (k : ℕ) → length words ≤ k → get_or (over words lent) k 0 ≡ get_or lent k 0
unfolding over
get_past-over words lent k h =
    let e : length words + (k - length words) ≡ k = omega arith in
    ap (λ (j : ℕ). get_or (words ++ drop (length words) lent) j 0) (sym e) ∙ get_or-append-add words (drop (length words) lent) (k - length words) 0 ∙ get_or-drop (length words) lent (k - length words) 0 ∙ ap (λ (j : ℕ). get_or lent j 0) e

-- The whole records that fit take no more room than there is
pub fitting_fit : (room : ℕ) (rs : List (List ℕ)) → length (concat (fitting room rs)) ≤ room
unfolding fitting concat
fitting_fit room [] = omega arith
fitting_fit room (r ∷ rs) = go (leb (length r) room) refl (fitting_fit (room - length r) rs)
  where
    go : (t : Bool) → leb (length r) room ≡ t → length (concat (fitting (room - length r) rs)) ≤ room - length r →
        length {A = ℕ} (concat (elim t as (λ _. List (List ℕ)) [ true ↦ r ∷ fitting (room - length r) rs | false ↦ [] ])) ≤ room
    go true e ih = omega (arith, leb-true (length r) room e, ih, length-append r (concat (fitting (room - length r) rs)))
    go false e ih = omega arith

-- One number more
pub add-pad : (m : ℕ) (l : List ℕ) (v : ℕ) → length l < m → set (pad m l) (length l) v ≡ pad m (l ++ v ∷ [])
unfolding pad
add-pad m l v h =
    let n : m - length l ≡ suc (m - suc (length l)) = omega arith in
    let q : length (l ++ v ∷ []) ≡ suc (length l) = simp length-append (omega arith) in
    rw (n, set_at l 0 (replicate (m - suc (length l)) 0) v (length l) refl, q, append_assoc)

-- A list written over the first of so many zeros
pub over-zeros : (m : ℕ) (l : List ℕ) → l ++ drop (length l) (pad m []) ≡ pad m l
unfolding pad
over-zeros m l = rw (sub-zero, drop-replicate)

-- One number more at the end of the list in an area
pub set-area : (m n v : ℕ) (xs : List ℕ) → n < m → xs ≡ pad m (take n xs) → set xs n v ≡ pad m (take (n + 1) (set xs n v))
set-area m n v xs h e = one ∙ ap (pad m) (sym (ap (take (n + 1)) one ∙ take-pad (n + 1) m (take n xs ++ v ∷ []) long))
  where
    size : length (take n xs) ≡ n
    size = length-area m n xs (omega arith) e

    long : n + 1 ≡ length (take n xs ++ v ∷ [])
    long = simp length-append (omega (arith, size))

    one : set xs n v ≡ pad m (take n xs ++ v ∷ [])
    one =
        ap (λ (l : List ℕ). set l n v) e ∙ ap (λ (k : ℕ). set (pad m (take n xs)) k v) (sym size) ∙
        add-pad m (take n xs) v (omega (arith, size))
