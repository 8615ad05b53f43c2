-- The cut from left to right is the cut of the definition. Assumes nothing.
use Rattle.std.proofs.Common.{Some, None, position, ◌≡◌, refl, sym, ap, ◌∙◌, ◌⊎◌, inl, inr, Bool, true, false, cond, List, [], ◌∷◌, ◌++◌, ℕ, zero, suc, ◌+◌, ◌<◌, ◌≤◌, add-one, arith, length, drop}
use Rattle.std.proofs.Common.{get_or, get_or-drop, leb, ltb, eqb, lt-ltb, le-ltb, le-leb, eq-eqb, eqb-true}
use lib.Seq.{drop-nil}
use borrow.Author.Tests.{lt-leb}
use Rattle.lists.specs.Lists.{filter, mem}
use Rattle.lists.proofs.Truth.{lt_or_le, false_true, not_so}
use Rattle.lists.proofs.Rising.{Up}
use Rattle.model.specs.Cut.{HistoryRange, linear, concurrent, ranges_from, join_linear, join_ranges}
use Rattle.std.specs.List.{position_or_len}
use Rattle.std.proofs.lemmas.Grind.{common_steps}
use Rattle.std.proofs.lemmas.List.Sums.{fails_before_first}
use Rattle.lists.proofs.Members.{mem_index}
use Rattle.std.proofs.lemmas.List.Quantifiers.{position-Some}
use Rattle.graph.specs.Cutting.{pending, join_on}

-- a Linear from f before ranges from a on that are joined already, if it has a run
unfoldable join_to : ℕ → ℕ → List HistoryRange → List HistoryRange
join_to f a rs = cond (ltb f a) (join_linear f a rs) rs

join-some : (f a : ℕ) (rs : List HistoryRange) → f < a → join_to f a rs ≡ join_linear f a rs
unfolding join_to
join-some f a rs h = rw (lt-ltb f a h)

join-none : (a : ℕ) (rs : List HistoryRange) → join_to a a rs ≡ rs
unfolding join_to
join-none a rs = rw (le-ltb a a (omega arith))

-- joined to what is joined
join-join : (f a b : ℕ) (rs : List HistoryRange) → join_linear f a (join_linear a b rs) ≡ join_linear f b rs
unfolding join_linear
join-join f a b [] = refl
join-join f a b (linear c d ∷ rs) = refl
join-join f a b (concurrent c d ∷ rs) = refl

single_join : (f a b : ℕ) (rs : List HistoryRange) → f ≤ a → a < b → join_to f b rs ≡ join_to f a (join_linear a b rs)
single_join f a b rs le lt = go (lt_or_le f a)
  where
    go : (f < a) ⊎ (a ≤ f) → join_to f b rs ≡ join_to f a (join_linear a b rs)
    go (inl h) = join-some f b rs (omega arith) ∙ sym (join-some f a (join_linear a b rs) h ∙ join-join f a b rs)
    go (inr h) = let e : f ≡ a = omega arith in rw e (join-some a b rs lt ∙ sym (join-none a (join_linear a b rs)))

other-join : (f a b : ℕ) (rs : List HistoryRange) → pending f a ++ (concurrent a b ∷ rs) ≡ join_to f a (concurrent a b ∷ rs)
unfolding pending join_to join_linear
other-join f a b rs = go (ltb f a)
  where
    go : (t : Bool) → cond t (linear f a ∷ []) [] ++ (concurrent a b ∷ rs) ≡ cond t (linear f a ∷ concurrent a b ∷ rs) (concurrent a b ∷ rs)
    go true = refl
    go false = refl

-- a range more before those that are joined
range_join : (f a b : ℕ) (rs : List HistoryRange) (on : ℕ → List HistoryRange) → f ≤ a → a < b →
    ((k : ℕ) → k ≤ b → on k ≡ join_to k b rs) →
    elim (eqb b (a + 1)) [ true ↦ on f | false ↦ pending f a ++ (concurrent a b ∷ on b) ] ≡
    join_to f a (elim (eqb b (suc a)) [ true ↦ join_linear a b rs | false ↦ concurrent a b ∷ rs ])
range_join f a b rs on le lt h = rw (add-one a) (go (eqb b (suc a)))
  where
    go : (t : Bool) →
        ◌≡◌ {A = List HistoryRange} (elim t [ true ↦ on f | false ↦ pending f a ++ (concurrent a b ∷ on b) ])
        (join_to f a (elim t [ true ↦ join_linear a b rs | false ↦ concurrent a b ∷ rs ]))
    go true = h f (omega arith) ∙ single_join f a b rs le lt
    go false = ap (λ (l : List HistoryRange). pending f a ++ (concurrent a b ∷ l)) (h b (omega arith) ∙ join-none b rs) ∙ other-join f a b rs

join_on_lem : (ms : List ℕ) (f end : ℕ) → Up f ms end → join_on f (ranges_from ms end) end ≡ join_to f (get_or ms 0 end) (join_ranges (ranges_from ms end))
unfolding join_on ranges_from join_ranges
join_on_lem [] f end up = unfold pending join_to join_linear in refl
join_on_lem (a ∷ []) f end up = range_join f a end [] (λ k. pending k end) up.0 up.1 (λ k h. unfold pending join_to join_linear in refl)
join_on_lem (a ∷ b ∷ ms) f end up =
    range_join f a b (join_ranges (ranges_from (b ∷ ms) end)) (λ k. join_on k (ranges_from (b ∷ ms) end) end) up.0 up.1.0
    (λ k h. join_on_lem (b ∷ ms) k end (h, up.1.1))

-- From the first mark on, nothing being pending before it
pub cut_joined : (ms : List ℕ) (end : ℕ) → Up 0 ms end → join_on (get_or ms 0 end) (ranges_from ms end) end ≡ join_ranges (ranges_from ms end)
cut_joined [] end up = join_on_lem [] end end (omega arith) ∙ join-none end _
cut_joined (a ∷ ms) end up = join_on_lem (a ∷ ms) a end (omega arith, up.1) ∙ join-none a _

-- The next range
pub ranges-next : (ms : List ℕ) (i end : ℕ) → i < length ms →
    ranges_from (drop i ms) end ≡ (get_or ms i 0, get_or ms (i + 1) end) ∷ ranges_from (drop (i + 1) ms) end
ranges-next ms i end h = rw (add-one i) (go ms i h)
  where
    go : (ms : List ℕ) (i : ℕ) → i < length ms → ranges_from (drop i ms) end ≡ (get_or ms i 0, get_or ms (suc i) end) ∷ ranges_from (drop (suc i) ms) end
    go [] i h = absurd (omega arith)
    go (a ∷ []) zero h = unfold ranges_from in refl
    go (a ∷ b ∷ ms) zero h = unfold ranges_from in refl
    go (a ∷ ms) (suc i) h = go ms i (omega arith)

pub ranges-none : (ms : List ℕ) (i end : ℕ) → length ms ≤ i → ranges_from (drop i ms) end ≡ []
unfolding ranges_from
ranges-none [] i end h = rw drop-nil
ranges-none (a ∷ ms) zero end h = absurd (omega arith)
ranges-none (a ∷ ms) (suc i) end h = ranges-none ms i end (omega arith)

-- The marks from a mark f on stand from its place on
up_lower : (lo low : ℕ) (xs : List ℕ) (n : ℕ) → low ≤ lo → Up lo xs n → Up low xs n
up_lower lo low [] n q h = omega arith
up_lower lo low (x ∷ xs) n q h = (omega (arith, h.0), h.1)

up_drop : (i lo : ℕ) (xs : List ℕ) (n : ℕ) → Up lo xs n → Up 0 (drop i xs) n
up_drop zero lo xs n h = up_lower lo 0 xs n (omega arith) h
up_drop (suc i) lo [] n h = omega arith
up_drop (suc i) lo (x ∷ xs) n h = up_drop i (suc x) xs n h.1

up_at : (lo : ℕ) (xs : List ℕ) (n k : ℕ) → Up lo xs n → k < length xs → lo ≤ get_or xs k 0
up_at lo [] n k h b = absurd (omega arith)
up_at lo (x ∷ xs) n zero h b = h.0
up_at lo (x ∷ xs) n (suc k) h b = omega (arith, h.0, up_at (suc x) xs n k h.1 (omega arith))

filter-all : (lo : ℕ) (xs : List ℕ) (n f : ℕ) → Up lo xs n → f ≤ lo → filter (λ m. leb f m) xs ≡ xs
unfolding filter
filter-all lo [] n f h le = refl
filter-all lo (x ∷ xs) n f h le = rw (le-leb f x (omega (arith, h.0))) (ap (λ (l : List ℕ). x ∷ l) (filter-all (suc x) xs n f h.1 (omega (arith, h.0))))

filter_at : (lo : ℕ) (xs : List ℕ) (n f k : ℕ) → Up lo xs n → k < length xs → get_or xs k 0 ≡ f → filter (λ m. leb f m) xs ≡ drop k xs
unfolding filter
filter_at lo [] n f k h b e = absurd (omega arith)
filter_at lo (x ∷ xs) n f zero h b e = rw (le-leb f x (omega arith)) (ap (λ (l : List ℕ). x ∷ l) (filter-all (suc x) xs n f h.1 (omega arith)))
filter_at lo (x ∷ xs) n f (suc k) h b e =
    rw (lt-leb f x (omega (arith, up_at (suc x) xs n k h.1 (omega arith)))) (filter_at (suc x) xs n f k h.1 (omega arith) e)

-- The ranges that the code writes are those of the cut
pub cut_written : (ms : List ℕ) (f end k : ℕ) → Up 0 ms end → k < length ms → get_or ms k 0 ≡ f →
    join_on (get_or ms k end) (ranges_from (drop k ms) end) end ≡ join_ranges (ranges_from (filter (λ m. leb f m) ms) end)
cut_written ms f end k up h e =
    ap (λ (j : ℕ). join_on j (ranges_from (drop k ms) end) end) first ∙
    (cut_joined (drop k ms) end (up_drop k 0 ms end up) ∙
    ap (λ (l : List ℕ). join_ranges (ranges_from l end)) (sym (filter_at 0 ms end f k up h e)))
  where
    first : get_or ms k end ≡ get_or (drop k ms) 0 end
    first = ap (λ (j : ℕ). get_or ms j end) (omega arith) ∙ sym (get_or-drop k ms 0 end)

-- A run that stands at a place, and one that stands at none
pub placed : (f : ℕ) (ms : List ℕ) (k : ℕ) → position (λ m. eqb m f) ms ≡ Some k → (k < length ms) × (get_or ms k 0 ≡ f)
placed f ms k e =
    let w = position-Some (λ m. eqb m f) ms k 0 e in
    (w.0, eqb-true (get_or ms k 0) f w.1)

pub unplaced : (f : ℕ) (ms : List ℕ) → position (λ m. eqb m f) ms ≡ None → mem f ms ≡ false
unplaced f ms e = not_so (mem f ms) (λ m. none (mem_index f 0 ms m))
  where
    far : length ms ≤ position_or_len (λ m. eqb m f) ms
    far = grind (arith, common_steps)

    none : (j : ℕ) × (j < length ms) × (get_or ms j 0 ≡ f) → ⊥
    none w = false_true (sym (fails_before_first (λ m. eqb m f) ms w.0 0 (omega (arith, far, w.1))) ∙ eq-eqb (get_or ms w.0 0) f w.2)
