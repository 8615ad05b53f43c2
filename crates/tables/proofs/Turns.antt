-- Turns of the loops that make a run's row, and of a run that is laid. Assumes nothing.
use Rattle.std.proofs.Common.{◌≡◌, refl, sym, ap, ap₂, ◌∙◌, true, false, List, [], ◌∷◌, ◌++◌, ℕ, zero, suc, ◌+◌, ◌≤◌, ◌<◌, max, add-one, arith, length, get_or, take, drop, set}
use Rattle.std.proofs.Common.{drop_of_length-le, take-append-drop, drop-cons, take-suc-set, drop-set-lt, ltb, lt-ltb, le-ltb}
use Rattle.std.proofs.Common.{Bool, cond, eqb, ne_eqb, ◌-◌, get_or-take, length-take-le}
use Rattle.std.specs.Prelude.{Option, Some, None, unwrap_or}
use Rattle.std.specs.List.{position, position_from, zip}
use Rattle.std.proofs.lemmas.Iterator.Adapters.{position_from-zero}
use lib.Seq.{paste, append_snoc}
use Rattle.model.specs.Range.{row}
use Rattle.tables.specs.Laid.{Chains}
use Rattle.tables.specs.Lay.{join_of, join_parent, join_all, spot_from, placed_of, Laying, row_of, spot_of, width_of, lay_of}

-- Nothing joined
join-none : (xs : List ℕ) → join_of xs [] ≡ xs
unfolding join_of
join-none [] = refl
join-none (x ∷ xs) = refl

-- In place: what is joined up to i, and the rest still to be joined
pub join_from : ℕ → List ℕ → List ℕ → List ℕ
join_from i row ys = take i row ++ join_of (drop i row) (drop i ys)

-- at the start all is still to be joined
pub join-start : (row ys : List ℕ) → join_from 0 row ys ≡ join_of row ys
unfolding join_from
join-start row ys = refl

-- at the end nothing is
pub join_end : (i : ℕ) (row ys : List ℕ) → length ys ≤ i → join_from i row ys ≡ row
unfolding join_from
join_end i row ys h = rw (drop_of_length-le ys h, join-none) (take-append-drop i row)

-- a turn
pub join_step : (i : ℕ) (row ys : List ℕ) → i < length row → i < length ys → join_from (i + 1) (set row i (max (get_or row i 0) (get_or ys i 0))) ys ≡ join_from i row ys
unfolding join_from join_of
join_step i row ys h k = rw (add-one, take-suc-set row i (max (get_or row i 0) (get_or ys i 0)) h, drop-set-lt (suc i) row i (max (get_or row i 0) (get_or ys i 0)) (omega arith), append_snoc, drop-cons row i 0 h, drop-cons ys i 0 k)

-- A joined row keeps its length
pub join_of-length : (xs ys : List ℕ) → length (join_of xs ys) ≡ length xs
unfolding join_of
join_of-length [] ys = refl
join_of-length (x ∷ xs) [] = refl
join_of-length (x ∷ xs) (y ∷ ys) = ap suc (join_of-length xs ys)

-- and has the larger at each place
pub join_of_get_d : (xs ys : List ℕ) (i : ℕ) → i < length xs → get_or (join_of xs ys) i 0 ≡ max (get_or xs i 0) (get_or ys i 0)
unfolding join_of
join_of_get_d [] ys i h = absurd (omega arith)
join_of_get_d (x ∷ xs) [] i h = omega arith
join_of_get_d (x ∷ xs) (y ∷ ys) zero h = refl
join_of_get_d (x ∷ xs) (y ∷ ys) (suc i) h = join_of_get_d xs ys i (omega arith)

-- Turns of the loop over the parents
pub join_all-next : (area starts chain place row ps : List ℕ) (i : ℕ) → i < length ps →
    join_all area starts chain place (join_parent area starts chain place row (get_or ps i 0)) (drop (i + 1) ps) ≡ join_all area starts chain place row (drop i ps)
unfolding join_all
join_all-next area starts chain place row ps i h = rw (add-one i, drop-cons ps i 0 h)

-- none is left
pub join_all-none : (area starts chain place row ps : List ℕ) (i : ℕ) → length ps ≤ i → join_all area starts chain place row (drop i ps) ≡ row
unfolding join_all
join_all-none area starts chain place row ps i h = rw (drop_of_length-le ps h)

-- The search for a chain, from c on, by the places that are compared
spot_zip : (xs ys row lens : List ℕ) (c k : ℕ) → ((i : ℕ) → i < k → get_or xs i 0 ≡ get_or row (c + i) 0) → ((i : ℕ) → i < k → get_or ys i 0 ≡ get_or lens (c + i) 0) →
    length xs ≡ k → length ys ≡ k → unwrap_or (position_from (λ p. eqb p.0 p.1) c (zip xs ys)) (c + k) ≡ spot_from row lens c k
unfolding spot_from
spot_zip [] ys row lens c zero f g p q = omega arith
spot_zip (x ∷ xs) ys row lens c zero f g p q = absurd (omega arith)
spot_zip [] ys row lens c (suc k) f g p q = absurd (omega arith)
spot_zip (x ∷ xs) [] row lens c (suc k) f g p q = absurd (omega arith)
spot_zip (x ∷ xs) (y ∷ ys) row lens c (suc k) f g p q =
    rw (sym (f 0 (omega arith) ∙ at-c row), sym (g 0 (omega arith) ∙ at-c lens))
    (go (eqb x y) (spot_zip xs ys row lens (c + 1) k (λ i lt. f (suc i) (omega arith) ∙ shift row i) (λ i lt. g (suc i) (omega arith) ∙ shift lens i) (omega arith) (omega arith)))
  where
    at-c : (l : List ℕ) → get_or l (c + 0) 0 ≡ get_or l c 0
    at-c l = ap (λ (j : ℕ). get_or l j 0) (omega arith)

    shift : (l : List ℕ) (i : ℕ) → get_or l (c + suc i) 0 ≡ get_or l (c + 1 + i) 0
    shift l i = ap (λ (j : ℕ). get_or l j 0) (omega arith)

    go : (t : Bool) → unwrap_or (position_from (λ p. eqb p.0 p.1) (c + 1) (zip xs ys)) (c + 1 + k) ≡ spot_from row lens (c + 1) k →
        unwrap_or (cond t (Some c) (position_from (λ p. eqb p.0 p.1) (c + 1) (zip xs ys))) (c + suc k) ≡ cond t c (spot_from row lens (c + 1) k)
    go true e = refl
    go false e = ap (unwrap_or (position_from (λ p. eqb p.0 p.1) (c + 1) (zip xs ys))) (omega arith) ∙ e

spot_most : (row lens : List ℕ) (c k : ℕ) → spot_from row lens c k ≤ c + k
unfolding spot_from
spot_most row lens c zero = omega arith
spot_most row lens c (suc k) = go (eqb (get_or row c 0) (get_or lens c 0)) (spot_most row lens (c + 1) k)
  where
    go : (t : Bool) → spot_from row lens (c + 1) k ≤ c + 1 + k → cond t c (spot_from row lens (c + 1) k) ≤ c + suc k
    go true h = omega arith
    go false h = omega arith

-- The search goes on from c where the chain does not end there
pub spot-next : (row lens : List ℕ) (c n : ℕ) → c < n → (get_or row c 0 ≡ get_or lens c 0 → ⊥) → spot_from row lens (c + 1) (n - (c + 1)) ≡ spot_from row lens c (n - c)
unfolding spot_from
spot-next row lens c n h ne = let e : n - c ≡ suc (n - (c + 1)) = omega arith in rw (e, ne_eqb (get_or row c 0) (get_or lens c 0) ne)

-- there is none
pub spot-none : (row lens : List ℕ) (c n : ℕ) → c ≡ n → spot_from row lens c (n - c) ≡ n
unfolding spot_from
spot-none row lens c n h = let e : n - c ≡ 0 = omega arith in rw e h

-- so from the first on
pub spot_found : (row lens : List ℕ) (k : ℕ) (o : Option ℕ) → length row ≡ length lens → o ≡ position (λ p. eqb p.0 p.1) (zip row lens) → k ≡ unwrap_or o (length lens) →
    (k ≡ spot_from row lens 0 (length lens)) × (k ≤ length lens)
spot_found row lens k o size e f = (found, omega (arith, found, spot_most row lens 0 (length lens)))
  where
    start : (l : List ℕ) (i : ℕ) → get_or l i 0 ≡ get_or l (0 + i) 0
    start l i = ap (λ (j : ℕ). get_or l j 0) (omega arith)

    found : k ≡ spot_from row lens 0 (length lens)
    found =
        f ∙ ap (λ (x : Option ℕ). unwrap_or x (length lens)) (e ∙ position_from-zero (λ p. eqb p.0 p.1) (zip row lens)) ∙
        (ap (unwrap_or (position_from (λ p. eqb p.0 p.1) 0 (zip row lens))) (omega arith) ∙
        spot_zip row lens row lens 0 (length lens) (λ i lt. start row i) (λ i lt. start lens i) size refl)

-- The first n places are those of longer lists
spot_same : (row row' lens lens' : List ℕ) (c k : ℕ) → ((i : ℕ) → i < c + k → get_or row i 0 ≡ get_or row' i 0) → ((i : ℕ) → i < c + k → get_or lens i 0 ≡ get_or lens' i 0) →
    spot_from row lens c k ≡ spot_from row' lens' c k
unfolding spot_from
spot_same row row' lens lens' c zero f g = refl
spot_same row row' lens lens' c (suc k) f g = rw (f c (omega arith), g c (omega arith), spot_same row row' lens lens' (c + 1) k (λ i lt. f i (omega arith)) (λ i lt. g i (omega arith))) refl

pub spot_cut : (row lens : List ℕ) (k n w : ℕ) → n ≤ length lens → n ≤ w → k ≡ spot_from (take n row) (take n lens) 0 (length (take n lens)) → k ≡ spot_from row (take w lens) 0 n
spot_cut row lens k n w long le e =
    e ∙ (ap (spot_from (take n row) (take n lens) 0) (length-take-le n lens long) ∙
    spot_same (take n row) row (take n lens) (take w lens) 0 n (λ i lt. get_or-take n row i 0 (omega arith))
    (λ i lt. get_or-take n lens i 0 (omega arith) ∙ sym (get_or-take w lens i 0 (omega arith))))

-- A run that does not fit, and one that does
pub lay_stop : (w : Laying) (r : ℕ) (ps row : List ℕ) (k width : ℕ) → row ≡ row_of w ps → k ≡ spot_from row w.0.lens 0 w.0.count → width ≡ max w.0.count (k + 1) →
    length w.1 < w.0.used + width → lay_of w r ps ≡ None
unfolding lay_of width_of spot_of
lay_stop w r ps row k width e f g lt =
    let q : width ≡ max w.0.count (spot_from (row_of w ps) w.0.lens 0 w.0.count + 1) = g ∙ ap (λ n. max w.0.count (n + 1)) (f ∙ ap (λ (l : List ℕ). spot_from l w.0.lens 0 w.0.count) e) in
    rw (lt-ltb (length w.1) (w.0.used + max w.0.count (spot_from (row_of w ps) w.0.lens 0 w.0.count + 1)) (omega arith))

-- it fits
pub lay_goes : (w : Laying) (r : ℕ) (ps row : List ℕ) (k width : ℕ) (v : Laying) → row ≡ row_of w ps → k ≡ spot_from row w.0.lens 0 w.0.count → width ≡ max w.0.count (k + 1) →
    w.0.used + width ≤ length w.1 → v.0 ≡ placed_of w.0 r k (w.0.used + width) width → v.1 ≡ paste w.1 w.0.used row width → lay_of w r ps ≡ Some v
unfolding lay_of width_of spot_of
lay_goes w r ps row k width v e f g le p q =
    let d : k ≡ spot_from (row_of w ps) w.0.lens 0 w.0.count = f ∙ ap (λ (l : List ℕ). spot_from l w.0.lens 0 w.0.count) e in
    let h : width ≡ max w.0.count (spot_from (row_of w ps) w.0.lens 0 w.0.count + 1) = g ∙ ap (λ n. max w.0.count (n + 1)) d in
    rw (le-ltb (length w.1) (w.0.used + max w.0.count (spot_from (row_of w ps) w.0.lens 0 w.0.count + 1)) (omega arith), ← h, ← d, ← e)
    (ap₂ (λ (a : Chains) (l : List ℕ). Some (a, l)) (sym p) (sym q))

-- By the test for room: too little
pub lay_true : (w : Laying) (r : ℕ) (ps : List ℕ) → ltb (length w.1) (w.0.used + width_of w ps) ≡ true → lay_of w r ps ≡ None
unfolding lay_of
lay_true w r ps e = rw e

-- enough
pub lay_false : (w : Laying) (r : ℕ) (ps : List ℕ) → ltb (length w.1) (w.0.used + width_of w ps) ≡ false →
    lay_of w r ps ≡ Some (placed_of w.0 r (spot_of w ps) (w.0.used + width_of w ps) (width_of w ps), paste w.1 w.0.used (row_of w ps) (width_of w ps))
unfolding lay_of
lay_false w r ps e = rw e
