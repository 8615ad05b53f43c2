-- A run put among the kids of each of its parents, parent by parent. Assumes nothing.
use Rattle.std.proofs.Common.{◌≡◌, refl, sym, ap, ◌∙◌, subst, ◌⊎◌, inl, inr, List, [], ◌∷◌, ℕ, ◌+◌, ◌≤◌, ◌<◌, add-one, arith, length, get_or, drop, set, length-set, drop-cons, get_or-set_same}
use Rattle.std.proofs.Common.{get_or-set_other, eq-eqb}
use lib.Seq.{drop-length}
use Rattle.lists.specs.Lists.{bit, occurs}
use Rattle.lists.proofs.Truth.{eq_or-not}
use Rattle.lists.proofs.Members.{mem-first, mem-rest}
use Rattle.tables.specs.Counted.{Placing, put_one, put_all, Placeable}
use Rattle.tables.proofs.Rooms.{occurs-cons}

pub put-none : (x : ℕ) (s : Placing) → put_all x s [] ≡ s
unfolding put_all
put-none x s = refl

pub put-cons : (x : ℕ) (s : Placing) (p : ℕ) (ps : List ℕ) → put_all x s (p ∷ ps) ≡ put_all x (put_one x s p) ps
unfolding put_all
put-cons x s p ps = refl

-- The first has a place
place-first : (p : ℕ) (ps : List ℕ) (s : Placing) → Placeable (p ∷ ps) s → (p < length s.0) × (get_or s.0 p 0 < length s.1)
place-first p ps s room =
    let h : (p < length s.0) × (get_or s.0 p 0 + occurs p (p ∷ ps) ≤ length s.1) = room p (mem-first p ps) in
    (h.0, omega (arith, h.1, occurs-cons p p ps, ap bit (eq-eqb p p refl)))

-- and then the others have theirs
place-next : (x p : ℕ) (ps : List ℕ) (s : Placing) → Placeable (p ∷ ps) s → Placeable ps (put_one x s p)
place-next x p ps s room q m = (omega (arith, h.0, length-set s.0 p (v + 1)), go (eq_or-not q p))
  where
    v : ℕ
    v = get_or s.0 p 0

    h : (q < length s.0) × (get_or s.0 q 0 + occurs q (p ∷ ps) ≤ length s.1)
    h = room q (mem-rest p q ps m)

    go : (q ≡ p) ⊎ (q ≡ p → ⊥) → get_or (set s.0 p (v + 1)) q 0 + occurs q ps ≤ length (set s.1 v x)
    go (inl e) =
        let a : get_or (set s.0 p (v + 1)) q 0 ≡ v + 1 = ap (λ (k : ℕ). get_or (set s.0 p (v + 1)) k 0) e ∙ get_or-set_same s.0 p (v + 1) 0 (omega (arith, h.0)) in
        let b : get_or s.0 q 0 ≡ v = ap (λ (k : ℕ). get_or s.0 k 0) e in
        omega (arith, a, b, h.1, occurs-cons q p ps, ap bit (eq-eqb p q (sym e)), length-set s.1 v x)
    go (inr n) = omega (arith, get_or-set_other s.0 p q (v + 1) 0 n, h.1, occurs-cons q p ps, length-set s.1 v x)

-- What is left to put, from the i-th parent on, gives the whole, and the i-th parent has a place
pub record Putting (x : ℕ) (ps : List ℕ) (s₀ s : Placing) (i : ℕ) : Type 0 where
  pub left : put_all x s (drop i ps) ≡ put_all x s₀ ps
  pub room : Placeable (drop i ps) s
  pub next_in : i < length ps → get_or ps i 0 < length s.0
  pub child_in : i < length ps → get_or s.0 (get_or ps i 0) 0 < length s.1

first-left : (ps : List ℕ) (i : ℕ) → i < length ps → drop i ps ≡ get_or ps i 0 ∷ drop (i + 1) ps
first-left ps i lt = drop-cons ps i 0 lt ∙ ap (λ (k : ℕ). get_or ps i 0 ∷ drop k ps) (sym (add-one i))

putting_of : (x : ℕ) (ps : List ℕ) (s₀ s : Placing) (i : ℕ) → put_all x s (drop i ps) ≡ put_all x s₀ ps → Placeable (drop i ps) s → Putting x ps s₀ s i
putting_of x ps s₀ s i left room = record { left = left; room = room; next_in = λ lt. (here lt).0; child_in = λ lt. (here lt).1 }
  where
    here : i < length ps → (get_or ps i 0 < length s.0) × (get_or s.0 (get_or ps i 0) 0 < length s.1)
    here lt = place-first (get_or ps i 0) (drop (i + 1) ps) s (subst (λ (l : List ℕ). Placeable l s) (first-left ps i lt) room)

pub putting_start : (x : ℕ) (ps : List ℕ) (s : Placing) → Placeable ps s → Putting x ps s s 0
putting_start x ps s room = putting_of x ps s s 0 refl room

pub putting_next : (x : ℕ) (ps : List ℕ) (s₀ s : Placing) (i : ℕ) → i < length ps → Putting x ps s₀ s i → Putting x ps s₀ (put_one x s (get_or ps i 0)) (i + 1)
putting_next x ps s₀ s i lt P =
    let p : ℕ = get_or ps i 0 in
    putting_of x ps s₀ (put_one x s p) (i + 1)
    (sym (put-cons x s p (drop (i + 1) ps)) ∙ (ap (put_all x s) (sym (first-left ps i lt)) ∙ P.left))
    (place-next x p (drop (i + 1) ps) s (subst (λ (l : List ℕ). Placeable l s) (first-left ps i lt) P.room))

pub putting_end : (x : ℕ) (ps : List ℕ) (s₀ s : Placing) (i : ℕ) → i ≡ length ps → Putting x ps s₀ s i → s ≡ put_all x s₀ ps
putting_end x ps s₀ s i e P = sym (ap (put_all x s) (ap (λ (k : ℕ). drop k ps) e ∙ drop-length ps) ∙ put-none x s) ∙ P.left

-- Lengths stay
pub put-sizes : (x : ℕ) (ps : List ℕ) (s : Placing) → (length (put_all x s ps).0 ≡ length s.0) × (length (put_all x s ps).1 ≡ length s.1)
unfolding put_all
put-sizes x [] s = (refl, refl)
put-sizes x (p ∷ ps) s =
    let h : (length (put_all x (put_one x s p) ps).0 ≡ length (put_one x s p).0) × (length (put_all x (put_one x s p) ps).1 ≡ length (put_one x s p).1) = put-sizes x ps (put_one x s p) in
    (h.0 ∙ length-set s.0 p (get_or s.0 p 0 + 1), h.1 ∙ length-set s.1 (get_or s.0 p 0) x)
