-- A visit's records as code writes them, chain by chain. Assumes nothing.
use Rattle.std.proofs.Common.{◌≡◌, sym, ap, ◌∙◌, ◌⊎◌, inl, inr, List, [], ◌∷◌, ◌++◌, ℕ, suc, ◌+◌, ◌-◌, ◌≤◌, ◌<◌, min, arith, length, get_or, take, drop, length-take, length-drop, get_or-take, get_or-drop, ext_get_or}
use lib.ListN.{get_or-eq_default}
use Rattle.lists.specs.Areas.{part}
use Rattle.lists.proofs.Truth.{lt_or_le}
use Rattle.moves.specs.declared.writing.Kind.{Kind}
use Rattle.moves.specs.declared.writing.Kind.TheVariants.{Retreat, Advance, Apply}
use Rattle.moves.specs.Emit.{Rec, Writing, step_of, emit, emit_one}
use Rattle.moves.specs.Stretches.{Below, stretches}
use Rattle.moves.specs.Moves.{runs_of, moves_from, visit_of}
use Rattle.moves.proofs.Emitting.{emit-append}

-- A slice whose ends stop at the list's
part-stops : (l : List ℕ) (s e : ℕ) → let f : ℕ = min e (length l) in take (f - min s f) (drop (min s f) l) ≡ take (e - s) (drop s l)
part-stops l s e = let f : ℕ = min e (length l) in ext_get_or 0 (take (f - min s f) (drop (min s f) l)) (take (e - s) (drop s l)) same at_i
  where
    f : ℕ
    f = min e (length l)

    left : length (take (f - min s f) (drop (min s f) l)) ≡ f - s
    left = omega (arith, length-take (f - min s f) (drop (min s f) l), length-drop (min s f) l)

    same : length (take (f - min s f) (drop (min s f) l)) ≡ length (take (e - s) (drop s l))
    same = omega (arith, left, length-take (e - s) (drop s l), length-drop s l)

    at_i : (i : ℕ) → i < length (take (f - min s f) (drop (min s f) l)) → get_or (take (f - min s f) (drop (min s f) l)) i 0 ≡ get_or (take (e - s) (drop s l)) i 0
    at_i i lt =
        let q : min s f ≡ s = omega (arith, left) in
        get_or-take (f - min s f) (drop (min s f) l) i 0 (omega (arith, left)) ∙
        (ap (λ (k : ℕ). get_or (drop k l) i 0) q ∙ sym (get_or-take (e - s) (drop s l) i 0 (omega (arith, left))))

-- The runs of a chain, as a slice of the members
pub runs_slice : (members begins from to : List ℕ) (c lo hi b e s : ℕ) → lo ≡ get_or to c 0 → hi ≡ get_or from c 0 → b ≡ get_or begins c 0 →
    e ≡ min (b + hi) (length members) → s ≡ min (b + lo) e → take (e - s) (drop s members) ≡ runs_of members begins from to c
unfolding runs_of part
runs_slice members begins from to c lo hi b e s p q r x y = rw (y, x) (part-stops members (b + lo) (b + hi) ∙ rw (p, q, r))

-- No run where the other version reaches as far
pub runs_none : (w : Writing) (st : List ℕ) (k : Kind) (b : ℕ) (members begins from to : List ℕ) (c : ℕ) → get_or from c 0 ≤ get_or to c 0 →
    w ≡ emit w (stretches st k b (runs_of members begins from to c))
unfolding stretches emit runs_of part
runs_none w st k b members begins from to c h =
    let e : get_or begins c 0 + get_or from c 0 - (get_or begins c 0 + get_or to c 0) ≡ 0 = omega arith in rw e

-- A slice of numbers below n
pub slice_below : (n k a : ℕ) (l : List ℕ) → 0 < n → Below n l → Below n (take k (drop a l))
slice_below n k a l p h i = go (lt_or_le i k)
  where
    go : (i < k) ⊎ (k ≤ i) → get_or (take k (drop a l)) i 0 < n
    go (inl q) = rw (get_or-take k (drop a l) i 0 q, get_or-drop a l i 0) (h (a + i))
    go (inr q) = rw (get_or-eq_default (take k (drop a l)) 0 {n = i} (omega (arith, length-take k (drop a l)))) p

-- A chain's moves written, and the rest after them, are the whole
pub moves_next : (w : Writing) (st : List ℕ) (k : Kind) (b : ℕ) (members begins from to : List ℕ) (c n : ℕ) → c < n →
    emit (emit w (stretches st k b (runs_of members begins from to c))) (moves_from st k b members begins from to (c + 1) (n - (c + 1)))
    ≡ emit w (moves_from st k b members begins from to c (n - c))
unfolding moves_from
moves_next w st k b members begins from to c n h =
    let e : n - c ≡ suc (n - (c + 1)) = omega arith in
    rw e (sym (emit-append w (stretches st k b (runs_of members begins from to c)) (moves_from st k b members begins from to (c + 1) (n - (c + 1)))))

-- None left
pub moves-none : (w : Writing) (st : List ℕ) (k : Kind) (b : ℕ) (members begins from to : List ℕ) (c n : ℕ) → n ≤ c →
    emit w (moves_from st k b members begins from to c (n - c)) ≡ w
unfolding moves_from emit
moves-none w st k b members begins from to c n h = let e : n - c ≡ 0 = omega arith in rw e

-- A visit, from its retreats, its advances and its Apply on
module _ (st : List ℕ) (b : ℕ) (members begins current row : List ℕ) (n run : ℕ) (w : Writing) where
  abbrev back : List Rec
  back = moves_from st Retreat b members begins current row 0 n

  abbrev on : List Rec
  on = moves_from st Advance b members begins row current 0 n

  abbrev last : Rec
  last = step_of Apply (b + run) (b + run + 1) 0

  pub visit_retreats : emit (emit w back) (on ++ last ∷ []) ≡ emit w (visit_of st b members begins current row n run)
  unfolding visit_of
  visit_retreats = sym (emit-append w back (on ++ last ∷ []))

  pub visit_advances : (u : Writing) → u ≡ emit w back → emit (emit u on) (last ∷ []) ≡ emit w (visit_of st b members begins current row n run)
  visit_advances u e = sym (emit-append u on (last ∷ [])) ∙ (ap (λ (x : Writing). emit x (on ++ last ∷ [])) e ∙ visit_retreats)

  pub visit_applies : (u : Writing) → u ≡ emit w back → (v : Writing) → v ≡ emit u on → emit_one v last ≡ emit w (visit_of st b members begins current row n run)
  visit_applies u e v f = ap (λ (x : Writing). emit_one x last) f ∙ (unfold emit in visit_advances u e)
