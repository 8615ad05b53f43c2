-- Lists with one item put in: their lengths, items, members, sums, tests and order. Assumes nothing.
use Rattle.std.proofs.Common.{◌≡◌, refl, ap, ◌∙◌, ◌⊎◌, inl, inr, Bool, true, false, ◌&&◌, ◌||◌, List, [], ◌∷◌, ◌++◌, ℕ, zero, suc, ◌+◌, ◌≤◌, ◌<◌, arith, length, get_or, drop, ltb, eqb, lt-ltb}
use Rattle.std.proofs.Common.{eq-eqb, ne_eqb}
use Rattle.lists.specs.Lists.{all, sum, insert_at, mem, rising}
use Rattle.lists.proofs.Truth.{false_true, and_left, and_right, and_both, and_swap, or_cases, or_left, or_right}

module _ {ℓ} {A : Type ℓ} where
  -- One item more
  pub insert-length : (i : ℕ) (x : A) (l : List A) → length (insert_at i x l) ≡ suc (length l)
  unfolding insert_at
  insert-length zero x l = refl
  insert-length (suc i) x [] = refl
  insert-length (suc i) x (y ∷ l) = ap suc (insert-length i x l)

  -- The items before it stay where they are
  pub insert-before : (i j : ℕ) (x d : A) (l : List A) → j < i → i ≤ length l → get_or (insert_at i x l) j d ≡ get_or l j d
  unfolding insert_at
  insert-before zero j x d l h k = absurd (omega arith)
  insert-before (suc i) j x d [] h k = absurd (omega arith)
  insert-before (suc i) zero x d (y ∷ l) h k = refl
  insert-before (suc i) (suc j) x d (y ∷ l) h k = insert-before i j x d l (omega arith) (omega arith)

  -- It stands at its place
  pub insert-at : (i : ℕ) (x d : A) (l : List A) → i ≤ length l → get_or (insert_at i x l) i d ≡ x
  unfolding insert_at
  insert-at zero x d l h = refl
  insert-at (suc i) x d [] h = absurd (omega arith)
  insert-at (suc i) x d (y ∷ l) h = insert-at i x d l (omega arith)

  -- and those from its place on move up one
  pub insert-after : (i j : ℕ) (x d : A) (l : List A) → i ≤ j → i ≤ length l → get_or (insert_at i x l) (suc j) d ≡ get_or l j d
  unfolding insert_at
  insert-after zero j x d l h k = refl
  insert-after (suc i) zero x d l h k = absurd (omega arith)
  insert-after (suc i) (suc j) x d [] h k = absurd (omega arith)
  insert-after (suc i) (suc j) x d (y ∷ l) h k = insert-after i j x d l (omega arith) (omega arith)

  -- so they are the items from the next place on
  pub insert-drop : (i j : ℕ) (x : A) (l : List A) → i ≤ j → i ≤ length l → drop (suc j) (insert_at i x l) ≡ drop j l
  unfolding insert_at
  insert-drop zero j x l h k = refl
  insert-drop (suc i) zero x l h k = absurd (omega arith)
  insert-drop (suc i) (suc j) x [] h k = absurd (omega arith)
  insert-drop (suc i) (suc j) x (y ∷ l) h k = insert-drop i j x l (omega arith) (omega arith)

  -- One put into the first of two lists
  pub insert-append : (i : ℕ) (x : A) (l r : List A) → i ≤ length l → insert_at i x (l ++ r) ≡ insert_at i x l ++ r
  unfolding insert_at
  insert-append zero x l r le = refl
  insert-append (suc i) x [] r le = absurd (omega arith)
  insert-append (suc i) x (y ∷ ys) r le = ap {B = List A} (λ t. y ∷ t) (insert-append i x ys r (omega arith))

  -- A sum over it
  pub insert-sum : (f : A → ℕ) (i : ℕ) (x : A) (l : List A) → sum f (insert_at i x l) ≡ f x + sum f l
  unfolding insert_at sum
  insert-sum f zero x l = refl
  insert-sum f (suc i) x [] = refl
  insert-sum f (suc i) x (y ∷ l) = omega (arith, insert-sum f i x l)

  -- A test of all its items from a place at or before the new one
  pub all_insert : (p : A → Bool) (q i : ℕ) (x : A) (l : List A) → q ≤ i → i ≤ length l → all p (drop q (insert_at i x l)) ≡ p x && all p (drop q l)
  unfolding all insert_at
  all_insert p zero zero x l h k = refl
  all_insert p zero (suc i) x [] h k = absurd (omega arith)
  all_insert p zero (suc i) x (y ∷ ys) h k =
      ap (λ (t : Bool). p y && t) (all_insert p zero i x ys (omega arith) (omega arith)) ∙ and_swap (p y) (p x) (all p ys)
  all_insert p (suc q) zero x l h k = absurd (omega arith)
  all_insert p (suc q) (suc i) x [] h k = absurd (omega arith)
  all_insert p (suc q) (suc i) x (y ∷ ys) h k = all_insert p q i x ys (omega arith) (omega arith)

-- The item put in is a member
pub insert-new : (i x : ℕ) (l : List ℕ) → mem x (insert_at i x l) ≡ true
unfolding insert_at mem
insert-new zero x l = or_left (mem x l) (eq-eqb x x refl)
insert-new (suc i) x [] = or_left false (eq-eqb x x refl)
insert-new (suc i) x (y ∷ l) = or_right (eqb x y) (insert-new i x l)

-- and changes nothing for the other numbers
pub insert-other : (i x z : ℕ) (l : List ℕ) → (z ≡ x → ⊥) → mem z (insert_at i x l) ≡ mem z l
unfolding insert_at mem
insert-other zero x z l h = rw (ne_eqb z x h)
insert-other (suc i) x z [] h = rw (ne_eqb z x h)
insert-other (suc i) x z (y ∷ l) h = ap (λ (b : Bool). eqb z y || b) (insert-other i x z l h)

-- Members stay members
pub insert_keeps : (i x z : ℕ) (l : List ℕ) → mem z l ≡ true → mem z (insert_at i x l) ≡ true
unfolding insert_at mem
insert_keeps zero x z l m = or_right (eqb z x) m
insert_keeps (suc i) x z [] m = false_true m
insert_keeps (suc i) x z (y ∷ l) m = go (or_cases (eqb z y) (mem z l) m) (λ k. insert_keeps i x z l k)
  where
    go : (eqb z y ≡ true) ⊎ (mem z l ≡ true) → (mem z l ≡ true → mem z (insert_at i x l) ≡ true) → eqb z y || mem z (insert_at i x l) ≡ true
    go (inl e) ih = or_left (mem z (insert_at i x l)) e
    go (inr k) ih = or_right (eqb z y) (ih k)

-- A number between its neighbours keeps a list rising
pub insert-rising : (i x : ℕ) (l : List ℕ) → suc i < length l → rising l ≡ true → get_or l i 0 < x → x < get_or l (suc i) 0 →
    rising (insert_at (suc i) x l) ≡ true
unfolding insert_at rising
insert-rising i x [] h e a b = absurd (omega arith)
insert-rising i x (y ∷ []) h e a b = absurd (omega arith)
insert-rising zero x (y ∷ z ∷ l) h e a b =
    and_both (ltb y x) _ (lt-ltb y x a) (and_both (ltb x z) _ (lt-ltb x z b) (and_right (ltb y z) (rising (z ∷ l)) e))
insert-rising (suc i) x (y ∷ z ∷ l) h e a b =
    and_both (ltb y z) _ (and_left (ltb y z) (rising (z ∷ l)) e)
    (insert-rising i x (z ∷ l) (omega arith) (and_right (ltb y z) (rising (z ∷ l)) e) a b)
