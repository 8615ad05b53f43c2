-- One number put into a list or an area, the later ones changed: in an area by shifting, in a padded list, among groups. Assumes nothing.
use Rattle.std.proofs.Common.{◌≡◌, refl, sym, ap, List, [], ◌∷◌, ◌++◌, map, append_assoc, append-nil, ℕ, zero, suc, ◌+◌, ◌-◌, ◌≤◌, ◌<◌, add-one, sub-one, arith, length, take, drop, get_or}
use Rattle.std.proofs.Common.{replicate, set, drop_of_length-le, length-append, length-take, length-drop, take-append-drop, drop-cons, take-suc, get_or-take, take-take, take_at, drop_at}
use mathlib.Core.List.{map-append}
use lib.ListN.{length-map, get_or-append}
use lib.Dec.{leb-zero}
use lib.Seq.{set_at, drop-append-add}
use Rattle.lists.specs.Lists.{concat, insert_at}
use Rattle.lists.specs.Areas.{pad, group_starts}
use Rattle.lists.specs.Scans.{grow, insert, insert_in}
use Rattle.lists.proofs.Groups.{concat-append, concat-split, group_start-at}

-- One item more
pub length-insert : (at item : ℕ) (f : ℕ → ℕ) (l : List ℕ) → at ≤ length l → length (insert at item f l) ≡ suc (length l)
unfolding insert
length-insert at item f l h = simp (length-append, length-map, length-take, length-drop) (omega arith)

-- Growing by 0 changes nothing
pub insert_keep : (at item : ℕ) (l : List ℕ) → insert at item (grow 0 0) l ≡ insert_at at item l
unfolding insert insert_at
insert_keep at item l = ap (λ (ys : List ℕ). take at l ++ item ∷ ys) (keeps (drop at l))
  where
    keeps : (ys : List ℕ) → map (grow 0 0) ys ≡ ys
    keeps [] = refl
    keeps (y ∷ ys) =
        let z : grow 0 0 y ≡ y = unfold grow in rw (leb-zero y) (omega arith) in
        rw (z, keeps ys)

-- An area while the items from place i on have moved up by one, each changed by f
unfoldable pub shifted : List ℕ → ℕ → (ℕ → ℕ) → ℕ → List ℕ
shifted a n f i = take (suc i) a ++ (map f (drop i (take n a)) ++ drop (suc n) a)

module _ (a : List ℕ) (n : ℕ) (f : ℕ → ℕ) (fits : n < length a) where
  -- before the first turn nothing has moved
  pub shifted_start : a ≡ shifted a n f n
  unfolding shifted
  shifted_start =
      let l : length (take n a) ≤ n = simp length-take (omega arith) in
      rw (drop_of_length-le (take n a) l, take-append-drop)

  shifted_get : (j : ℕ) → j < n → get_or (shifted a n f (suc j)) j 0 ≡ get_or a j 0
  unfolding shifted
  shifted_get j h =
      let l : j < length (take (suc (suc j)) a) = simp length-take (omega arith) in
      let k : j < suc (suc j) = omega arith in
      rw (get_or-append, get_or-take)

  shifted_set : (j : ℕ) → j < n → set (shifted a n f (suc j)) (suc j) (f (get_or a j 0)) ≡ shifted a n f j
  unfolding shifted
  shifted_set j h =
      let l : suc j < length a = omega arith in
      let k : length (take (suc j) a) ≡ suc j = simp length-take (omega arith) in
      let m : j < length (take n a) = simp length-take (omega arith) in
      rw (take-suc a (suc j) 0, append_assoc, set_at, drop-cons (take n a) j 0, get_or-take)

  -- a turn reads an item that has not moved
  pub shifted_read : (b : List ℕ) (i : ℕ) → 0 < i → i ≤ n → b ≡ shifted a n f i → get_or b (i - 1) 0 ≡ get_or a (i - 1) 0
  shifted_read b zero z h e = absurd (omega arith)
  shifted_read b (suc j) z h e = rw (e, sub-one, shifted_get j h)

  -- and moves it
  pub shifted_turn : (b : List ℕ) (i : ℕ) → 0 < i → i ≤ n → b ≡ shifted a n f i → set b i (f (get_or b (i - 1) 0)) ≡ shifted a n f (i - 1)
  shifted_turn b zero z h e = absurd (omega arith)
  shifted_turn b (suc j) z h e = rw (e, sub-one, shifted_get j h, shifted_set j h)

  -- at the place of the new item, which is then stored there
  pub shifted_end : (b : List ℕ) (i at item : ℕ) → i ≡ at → at ≤ n → b ≡ shifted a n f i → set b at item ≡ insert_in n at item f a
  unfolding shifted insert_in insert
  shifted_end b i at item q h e =
      let l : at < length a = omega arith in
      let k : length (take at a) ≡ at = simp length-take (omega arith) in
      rw (e, q, take-suc a at 0, append_assoc, set_at, take-take, append_assoc)

-- The last place taken up
pub insert-last : (at item : ℕ) (f : ℕ → ℕ) (a : List ℕ) → 0 < length a → insert_in (length a - 1) at item f a ≡ insert at item f (take (length a - 1) a)
unfolding insert_in
insert-last at item f a h =
    let l : length a ≤ suc (length a - 1) = omega arith in
    rw (drop_of_length-le a l, append-nil)

-- and of the first m places of an area, of which all but one are in use
pub insert-front : (n m at item : ℕ) (f : ℕ → ℕ) (a : List ℕ) → m ≡ suc n → n < length a →
    insert at item f (take (length (take m a) - 1) (take m a)) ++ drop m a ≡ insert_in n at item f a
unfolding insert_in
insert-front n m at item f a e h =
    let k : length (take (suc n) a) - 1 ≡ n = simp length-take (omega arith) in
    rw (e, k, take-take n (suc n) a (omega arith))

-- In a padded list
drop_past : (m : ℕ) (l : List ℕ) → drop (suc (length l)) (pad m l) ≡ replicate (m - suc (length l)) 0
unfolding pad
drop_past m l =
    let e : m - length l - 1 ≡ m - suc (length l) = omega arith in
    rw (← add-one (length l), drop-append-add, tail (m - length l), add-one, e)
  where
    tail : (n : ℕ) → drop {A = ℕ} 1 (replicate n 0) ≡ replicate (n - 1) 0
    tail zero = refl
    tail (suc n) = rw sub-one

-- an insertion into the area of a padded list is one into the list
pub insert-pad : (m at item : ℕ) (f : ℕ → ℕ) (l : List ℕ) → at ≤ length l →
    insert_in (length l) at item f (pad m l) ≡ pad m (insert at item f l)
unfolding insert_in
insert-pad m at item f l h =
    let t : take (length l) (pad m l) ≡ l = unfold pad in take_at l (replicate (m - length l) 0) (length l) refl in
    rw (t, drop_past m l, ← length-insert at item f l h) (unfold pad in refl)

-- the same of an area and a count that are known to be those of the list
pub insert_area : (m n at item : ℕ) (f : ℕ → ℕ) (a l : List ℕ) → a ≡ pad m l → n ≡ length l → at ≤ n →
    insert_in n at item f a ≡ pad m (insert at item f l)
insert_area m n at item f a l e q h = rw (e, q) (insert-pad m at item f l (omega arith))

-- One group of one item among groups
grow_one : (n : ℕ) → grow 0 1 n ≡ n + 1
unfolding grow
grow_one n = rw (leb-zero n)

later-starts : (f : ℕ → ℕ) (n m : ℕ) (xs : List (List ℕ)) → m ≡ grow 0 1 n → group_starts m (map (map f) xs) ≡ map (grow 0 1) (group_starts n xs)
unfolding group_starts
later-starts f n m [] e = ap (λ (k : ℕ). k ∷ []) e
later-starts f n m (x ∷ xs) e =
    let q : m + length (map f x) ≡ grow 0 1 (n + length x) = omega (arith, grow_one (n + length x), grow_one n, e, length-map x f) in
    λ i. e i ∷ later-starts f (n + length x) (m + length (map f x)) xs q i

-- the starts: one more, those after it one later
pub starts-insert : (at item n : ℕ) (f : ℕ → ℕ) (xs : List (List ℕ)) → at ≤ length xs →
    group_starts n (take at xs ++ (item ∷ []) ∷ map (map f) (drop at xs)) ≡ insert at (get_or (group_starts n xs) at 0) (grow 0 1) (group_starts n xs)
unfolding group_starts insert
starts-insert zero item n f [] h = ap (λ (k : ℕ). n ∷ k ∷ []) (sym (grow_one n))
starts-insert zero item n f (x ∷ xs) h = ap (λ (l : List ℕ). n ∷ l) (later-starts f n (n + 1) (x ∷ xs) (sym (grow_one n)))
starts-insert (suc at) item n f [] h = absurd (omega arith)
starts-insert (suc at) item n f (x ∷ xs) h = ap (λ (l : List ℕ). n ∷ l) (starts-insert at item (n + length x) f xs (omega arith))

concat-map : (f : ℕ → ℕ) (xs : List (List ℕ)) → concat (map (map f) xs) ≡ map f (concat xs)
unfolding concat
concat-map f [] = refl
concat-map f (x ∷ xs) = rw (concat-map f xs, map-append)

-- the items: one more, at the start of its group
pub items-insert : (at item : ℕ) (f : ℕ → ℕ) (xs : List (List ℕ)) → at ≤ length xs →
    concat (take at xs ++ (item ∷ []) ∷ map (map f) (drop at xs)) ≡ insert (get_or (group_starts 0 xs) at 0) item f (concat xs)
unfolding insert
items-insert at item f xs h =
    let l : length (concat (take at xs)) ≡ get_or (group_starts 0 xs) at 0 = omega (arith, group_start-at 0 at xs h) in
    let t = take_at (concat (take at xs)) (concat (drop at xs)) _ l in
    let d = drop_at (concat (take at xs)) (concat (drop at xs)) _ l in
    rw (concat-append, one (drop at xs), concat-split at xs, t, d)
  where
    one : (ys : List (List ℕ)) → concat ((item ∷ []) ∷ map (map f) ys) ≡ item ∷ map f (concat ys)
    one ys = unfold concat in ap (λ (l : List ℕ). item ∷ l) (concat-map f ys)
