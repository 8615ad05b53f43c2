-- Lists that rise: between two bounds, and strictly. Assumes nothing.
use Rattle.std.proofs.Common.{◌≡◌, refl, sym, ap, ◌∙◌, subst, ◌⊎◌, inl, inr, Bool, true, false, cond, List, [], ◌∷◌, ◌++◌, map, ℕ, zero, suc, ◌+◌, ◌≤◌, ◌<◌, arith, length, get_or, take}
use Rattle.std.proofs.Common.{length-append, leb, ltb, eqb, ltb-true, eqb-true, lt-ltb, le-ltb, le-leb, eq-eqb}
use borrow.Author.Tests.{lt-leb}
use Rattle.lists.specs.Lists.{bit, all, filter, count, from, mem, rising, below}
use Rattle.lists.proofs.Truth.{lt_or_le, false_true, bool_iff, and_left, and_right, and_both, or_cases, or_left, or_right}
use Rattle.lists.proofs.Members.{mem-first, mem-rest, mem-append, get_d_mem, get_d_any, mem-filter}

-- The numbers rise from `lo` on, all below n
abbrev pub Up : ℕ → List ℕ → ℕ → Type 0
Up lo [] n = lo ≤ n
Up lo (x ∷ xs) n = (lo ≤ x) × Up (suc x) xs n

-- The bounds
pub up_le : (lo : ℕ) (xs : List ℕ) (n : ℕ) → Up lo xs n → lo ≤ n
up_le lo [] n h = h
up_le lo (x ∷ xs) n h = omega (arith, h.0, up_le (suc x) xs n h.1)

pub up_low : (lo : ℕ) (xs : List ℕ) (n : ℕ) → Up lo xs n → (r : ℕ) → lo ≤ get_or xs r n
up_low lo [] n h r = h
up_low lo (x ∷ xs) n h zero = h.0
up_low lo (x ∷ xs) n h (suc r) = omega (arith, h.0, up_low (suc x) xs n h.1 r)

pub up_high : (lo : ℕ) (xs : List ℕ) (n : ℕ) → Up lo xs n → (r : ℕ) → get_or xs r n ≤ n
up_high lo [] n h r = omega arith
up_high lo (x ∷ xs) n h zero = omega (arith, up_le (suc x) xs n h.1)
up_high lo (x ∷ xs) n h (suc r) = up_high (suc x) xs n h.1 r

-- Each number is below the next
pub up_step : (lo : ℕ) (xs : List ℕ) (n : ℕ) → Up lo xs n → (r : ℕ) → r < length xs → get_or xs r n < get_or xs (suc r) n
up_step lo [] n h r lt = absurd (omega arith)
up_step lo (x ∷ xs) n h zero lt = up_low (suc x) xs n h.1 0
up_step lo (x ∷ xs) n h (suc r) lt = up_step (suc x) xs n h.1 r (omega arith)

pub up_mono : (lo : ℕ) (xs : List ℕ) (n : ℕ) → Up lo xs n → (r s : ℕ) → r ≤ s → get_or xs r n ≤ get_or xs s n
up_mono lo [] n h r s q = omega arith
up_mono lo (x ∷ xs) n h zero zero q = omega arith
up_mono lo (x ∷ xs) n h zero (suc s) q = omega (arith, up_low (suc x) xs n h.1 s)
up_mono lo (x ∷ xs) n h (suc r) zero q = absurd (omega arith)
up_mono lo (x ∷ xs) n h (suc r) (suc s) q = up_mono (suc x) xs n h.1 r s (omega arith)

-- Other bounds
pub up_more : (lo : ℕ) (xs : List ℕ) (n m : ℕ) → Up lo xs n → n ≤ m → Up lo xs m
up_more lo [] n m h q = omega arith
up_more lo (x ∷ xs) n m h q = (h.0, up_more (suc x) xs n m h.1 q)

pub up_lower : (lo low : ℕ) (xs : List ℕ) (n : ℕ) → low ≤ lo → Up lo xs n → Up low xs n
up_lower lo low [] n q h = omega arith
up_lower lo low (x ∷ xs) n q h = (omega (arith, h.0), h.1)

-- What rises still: with the end behind it, filtered; and a stretch of numbers
pub up_append : (lo : ℕ) (xs : List ℕ) (n m : ℕ) → Up lo xs n → n < m → Up lo (xs ++ n ∷ []) m
up_append lo [] n m h q = (h, q)
up_append lo (x ∷ xs) n m h q = (h.0, up_append (suc x) xs n m h.1 q)

pub up_filter : (p : ℕ → Bool) (lo : ℕ) (xs : List ℕ) (n : ℕ) → Up lo xs n → Up lo (filter p xs) n
unfolding filter
up_filter p lo [] n h = h
up_filter p lo (x ∷ xs) n h = go (p x) (up_filter p (suc x) xs n h.1)
  where
    go : (t : Bool) → Up (suc x) (filter p xs) n → Up lo (cond t (x ∷ filter p xs) (filter p xs)) n
    go true ih = (h.0, ih)
    go false ih = up_lower (suc x) lo (filter p xs) n (omega (arith, h.0)) ih

pub up_from : (a k n : ℕ) → a + k ≤ n → Up a (from a k) n
unfolding from
up_from a zero n q = omega arith
up_from a (suc k) n q = (omega arith, up_from (suc a) k n (omega arith))

-- How many are at most e tells which are
pub none_below : (lo : ℕ) (xs : List ℕ) (n : ℕ) → Up lo xs n → (e : ℕ) → e < lo → count (λ s. leb s e) xs ≡ 0
unfolding count
none_below lo [] n h e lt = refl
none_below lo (x ∷ xs) n h e lt = rw (lt-leb x e (omega (arith, h.0))) (omega (arith, none_below (suc x) xs n h.1 e (omega (arith, h.0))))

pub up_count : (lo : ℕ) (xs : List ℕ) (n : ℕ) → Up lo xs n → (r e : ℕ) → e < n → leb (get_or xs r n) e ≡ ltb r (count (λ s. leb s e) xs)
unfolding count
up_count lo [] n h r e lt = lt-leb n e lt ∙ sym (le-ltb r 0 (omega arith))
up_count lo (x ∷ xs) n h zero e lt = go (lt_or_le e x)
  where
    go : (e < x) ⊎ (x ≤ e) → leb x e ≡ ltb 0 (bit (leb x e) + count (λ s. leb s e) xs)
    go (inl p) = rw (lt-leb x e p, none_below (suc x) xs n h.1 e (omega arith))
    go (inr p) = rw (le-leb x e p) (sym (lt-ltb 0 (1 + count (λ s. leb s e) xs) (omega arith)))
up_count lo (x ∷ xs) n h (suc r) e lt = up_count (suc x) xs n h.1 r e lt ∙ go (lt_or_le e x) (lt_or_le r (count (λ s. leb s e) xs))
  where
    go : (e < x) ⊎ (x ≤ e) → (r < count (λ s. leb s e) xs) ⊎ (count (λ s. leb s e) xs ≤ r) →
        ltb r (count (λ s. leb s e) xs) ≡ ltb (suc r) (bit (leb x e) + count (λ s. leb s e) xs)
    go (inl p) c = rw (lt-leb x e p, none_below (suc x) xs n h.1 e (omega arith)) (le-ltb r 0 (omega arith) ∙ sym (le-ltb (suc r) (0 + 0) (omega arith)))
    go (inr p) (inl c) = rw (le-leb x e p) (lt-ltb r (count (λ s. leb s e) xs) c ∙ sym (lt-ltb (suc r) (1 + count (λ s. leb s e) xs) (omega arith)))
    go (inr p) (inr c) = rw (le-leb x e p) (le-ltb r (count (λ s. leb s e) xs) c ∙ sym (le-ltb (suc r) (1 + count (λ s. leb s e) xs) (omega arith)))

-- A rising list rises to its last number
rising_up : (lo x : ℕ) (xs : List ℕ) → rising (x ∷ xs) ≡ true → lo ≤ x → Up lo (x ∷ xs) (suc (get_or (x ∷ xs) (length xs) 0))
unfolding rising
rising_up lo x [] h le = (le, omega arith)
rising_up lo x (y ∷ ys) h le =
    (le, rising_up (suc x) y ys (and_right (ltb x y) (rising (y ∷ ys)) h) (ltb-true x y (and_left (ltb x y) (rising (y ∷ ys)) h)))

-- Its numbers never fall
pub rising_get_d : (l : List ℕ) → rising l ≡ true → (i j : ℕ) → i ≤ j → j < length l → get_or l i 0 ≤ get_or l j 0
rising_get_d [] e i j h k = absurd (omega arith)
rising_get_d (x ∷ l) e i j h k =
    let n = suc (get_or (x ∷ l) (length l) 0) in
    omega (
      arith,
      up_mono 0 (x ∷ l) n (rising_up 0 x l e (omega arith)) i j h,
      get_d_any (x ∷ l) i 0 n (omega arith),
      get_d_any (x ∷ l) j 0 n k,
    )

-- How many of it are at most e tells which are
pub rising-count : (l : List ℕ) → rising l ≡ true → (i e : ℕ) → i < length l → leb (get_or l i 0) e ≡ ltb i (count (λ s. leb s e) l)
rising-count [] r i e h = absurd (omega arith)
rising-count (x ∷ l) r i e h =
    let last = suc (get_or (x ∷ l) (length l) 0) in
    let n = last + suc e in
    ap (λ (k : ℕ). leb k e) (get_d_any (x ∷ l) i 0 n h) ∙
    up_count 0 (x ∷ l) n (up_more 0 (x ∷ l) last n (rising_up 0 x l r (omega arith)) (omega arith)) i e (omega arith)

-- The first number and the rest
pub rising_tail : (x : ℕ) (l : List ℕ) → rising (x ∷ l) ≡ true → rising l ≡ true
unfolding rising
rising_tail x [] e = refl
rising_tail x (y ∷ l) e = and_right (ltb x y) (rising (y ∷ l)) e

pub rising_above : (x : ℕ) (l : List ℕ) → rising (x ∷ l) ≡ true → (z : ℕ) → mem z l ≡ true → x < z
unfolding rising mem
rising_above x [] e z m = false_true m
rising_above x (y ∷ l) e z m = go (or_cases (eqb z y) (mem z l) m) (λ k. rising_above y l (and_right (ltb x y) (rising (y ∷ l)) e) z k)
  where
    less : x < y
    less = ltb-true x y (and_left (ltb x y) (rising (y ∷ l)) e)

    go : (eqb z y ≡ true) ⊎ (mem z l ≡ true) → (mem z l ≡ true → y < z) → x < z
    go (inl q) ih = omega (arith, less, eqb-true z y q)
    go (inr k) ih = omega (arith, less, ih k)

-- From its first number up to its last
pub rising-ends : (lo : ℕ) (xs : List ℕ) (n : ℕ) → rising (xs ++ n ∷ []) ≡ true → lo ≤ get_or (xs ++ n ∷ []) 0 0 → Up lo xs n
rising-ends lo [] n h le = le
rising-ends lo (x ∷ xs) n h le = (
  le,
  rising-ends (suc x) xs n (rising_tail x (xs ++ n ∷ []) h)
      (rising_above x (xs ++ n ∷ []) h (get_or (xs ++ n ∷ []) 0 0) (get_d_mem (xs ++ n ∷ []) 0 0 (omega (arith, length-append xs (n ∷ []))))),
)

-- Of two of its numbers the later is larger
pub rising-less : (l : List ℕ) → rising l ≡ true → (i j : ℕ) → i < j → j < length l → get_or l i 0 < get_or l j 0
rising-less [] e i j h k = absurd (omega arith)
rising-less (x ∷ l) e i zero h k = absurd (omega arith)
rising-less (x ∷ l) e zero (suc j) h k = rising_above x l e (get_or l j 0) (get_d_mem l j 0 (omega arith))
rising-less (x ∷ l) e (suc i) (suc j) h k = rising-less l (rising_tail x l e) i j (omega arith) (omega arith)

pub rising-cons : (x : ℕ) (l : List ℕ) → rising l ≡ true → ((z : ℕ) → mem z l ≡ true → x < z) → rising (x ∷ l) ≡ true
unfolding rising mem
rising-cons x [] e h = refl
rising-cons x (y ∷ l) e h = and_both (ltb x y) (rising (y ∷ l)) (lt-ltb x y (h y (or_left (mem y l) (eq-eqb y y refl)))) e

-- What rises still: with a larger number behind it, filtered, mapped by what keeps the order, and its first numbers
pub rising_snoc : (l : List ℕ) (v : ℕ) → rising l ≡ true → below v l ≡ true → rising (l ++ v ∷ []) ≡ true
unfolding rising below all
rising_snoc [] v e b = refl
rising_snoc (x ∷ []) v e b = and_both (ltb x v) true (and_left (ltb x v) true b) refl
rising_snoc (x ∷ y ∷ l) v e b =
    and_both
    (ltb x y)
    (rising (y ∷ l ++ v ∷ []))
    (and_left (ltb x y) (rising (y ∷ l)) e)
    (rising_snoc (y ∷ l) v (and_right (ltb x y) (rising (y ∷ l)) e) (and_right (ltb x v) (below v (y ∷ l)) b))

pub rising-filter : (p : ℕ → Bool) (l : List ℕ) → rising l ≡ true → rising (filter p l) ≡ true
unfolding filter
rising-filter p [] e = e
rising-filter p (x ∷ l) e = go (p x) (rising-filter p l (rising_tail x l e))
  where
    go : (t : Bool) → rising (filter p l) ≡ true → rising (cond t (x ∷ filter p l) (filter p l)) ≡ true
    go true r = rising-cons x (filter p l) r (λ z m. rising_above x l e z (mem-filter p z l m).0)
    go false r = r

pub rising-map : (f : ℕ → ℕ) (l : List ℕ) → ((x y : ℕ) → mem x l ≡ true → mem y l ≡ true → x < y → f x < f y) → rising l ≡ true →
    rising (map f l) ≡ true
unfolding rising mem
rising-map f [] h e = refl
rising-map f (x ∷ []) h e = refl
rising-map f (x ∷ y ∷ l) h e =
    let m : mem x (x ∷ y ∷ l) ≡ true = or_left (mem x (y ∷ l)) (eq-eqb x x refl) in
    let n : mem y (x ∷ y ∷ l) ≡ true = or_right (eqb y x) (or_left (mem y l) (eq-eqb y y refl)) in
    and_both
    (ltb (f x) (f y))
    (rising (map f (y ∷ l)))
    (lt-ltb (f x) (f y) (h x y m n (ltb-true x y (and_left (ltb x y) (rising (y ∷ l)) e))))
    (rising-map f (y ∷ l) (λ a b m n q. h a b (or_right (eqb a x) m) (or_right (eqb b x) n) q) (and_right (ltb x y) (rising (y ∷ l)) e))

pub rising-take : (n : ℕ) (l : List ℕ) → rising l ≡ true → rising (take n l) ≡ true
unfolding rising
rising-take zero l e = refl
rising-take (suc n) [] e = refl
rising-take (suc zero) (x ∷ l) e = refl
rising-take (suc (suc n)) (x ∷ []) e = refl
rising-take (suc (suc n)) (x ∷ y ∷ l) e =
    and_both (ltb x y) (rising (take (suc n) (y ∷ l))) (and_left (ltb x y) (rising (y ∷ l)) e)
    (rising-take (suc n) (y ∷ l) (and_right (ltb x y) (rising (y ∷ l)) e))

-- Consecutive numbers rise
pub rising-from : (a n : ℕ) → rising (from a n) ≡ true
unfolding rising from
rising-from a zero = refl
rising-from a (suc zero) = refl
rising-from a (suc (suc n)) = and_both (ltb a (suc a)) (rising (from (suc a) (suc n))) (lt-ltb a (suc a) (omega arith)) (rising-from (suc a) (suc n))

-- so do two rising lists, the second above the first
pub rising-join : (xs ys : List ℕ) → rising xs ≡ true → rising ys ≡ true → ((x y : ℕ) → mem x xs ≡ true → mem y ys ≡ true → x < y) → rising (xs ++ ys) ≡ true
rising-join [] ys h k lt = k
rising-join (x ∷ xs) ys h k lt =
    rising-cons x (xs ++ ys) (rising-join xs ys (rising_tail x xs h) k (λ u v m n. lt u v (mem-rest x u xs m) n)) (λ z m.
    cases z (or_cases (mem z xs) (mem z ys) (sym (mem-append z xs ys) ∙ m)))
  where
    cases : (z : ℕ) → (mem z xs ≡ true) ⊎ (mem z ys ≡ true) → x < z
    cases z (inl m) = rising_above x xs h z m
    cases z (inr m) = lt x z (mem-first x xs) m

-- Two lists that rise and have the same members are one: the first number is the least,
first-least : (y : ℕ) (ys : List ℕ) → rising (y ∷ ys) ≡ true → (x : ℕ) → mem x (y ∷ ys) ≡ true → y ≤ x
unfolding mem
first-least y ys e x m = go (or_cases (eqb x y) (mem x ys) m)
  where
    go : (eqb x y ≡ true) ⊎ (mem x ys ≡ true) → y ≤ x
    go (inl q) = omega (arith, eqb-true x y q)
    go (inr k) = omega (arith, rising_above y ys e x k)

-- behind equal first numbers the members are the same,
members_behind : (x : ℕ) (xs ys : List ℕ) → rising (x ∷ xs) ≡ true → ((z : ℕ) → mem z (x ∷ xs) ≡ mem z (x ∷ ys)) → (z : ℕ) → mem z xs ≡ true → mem z ys ≡ true
unfolding mem
members_behind x xs ys e same z m = go (or_cases (eqb z x) (mem z ys) (sym (same z) ∙ or_right (eqb z x) m))
  where
    go : (eqb z x ≡ true) ⊎ (mem z ys ≡ true) → mem z ys ≡ true
    go (inl q) = absurd (omega (arith, eqb-true z x q, rising_above x xs e z m))
    go (inr k) = k

pub rising-only : (xs ys : List ℕ) → rising xs ≡ true → rising ys ≡ true → ((z : ℕ) → mem z xs ≡ mem z ys) → xs ≡ ys
unfolding mem
rising-only [] [] a b same = refl
rising-only [] (y ∷ ys) a b same = false_true (same y ∙ or_left (mem y ys) (eq-eqb y y refl))
rising-only (x ∷ xs) [] a b same = false_true (sym (same x) ∙ or_left (mem x xs) (eq-eqb x x refl))
rising-only (x ∷ xs) (y ∷ ys) a b same =
    ap (λ (v : ℕ). v ∷ xs) equal ∙
    ap (λ (l : List ℕ). y ∷ l) (rising-only xs ys (rising_tail x xs a) (rising_tail y ys b)
    (λ z. bool_iff (mem z xs) (mem z ys) (members_behind x xs ys a alike z) (members_behind x ys xs risen (λ w. sym (alike w)) z)))
  where
    equal : x ≡ y
    equal = omega (
      arith,
      first-least y ys b x (sym (same x) ∙ or_left (mem x xs) (eq-eqb x x refl)),
      first-least x xs a y (same y ∙ or_left (mem y ys) (eq-eqb y y refl)),
    )

    alike : (z : ℕ) → mem z (x ∷ xs) ≡ mem z (x ∷ ys)
    alike z = same z ∙ ap (λ (k : ℕ). mem z (k ∷ ys)) (sym equal)

    risen : rising (x ∷ ys) ≡ true
    risen = subst (λ (k : ℕ). rising (k ∷ ys) ≡ true) (sym equal) b
