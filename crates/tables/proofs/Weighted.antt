-- Runs weighed from the last to the first have the weights of the definition. Assumes nothing.
use Rattle.std.proofs.Common.{◌≡◌, sym, ap, ◌∙◌, Bool, true, false, ◌⊎◌, inl, inr, List, [], map, ℕ, suc, ◌+◌, ◌/◌, ◌≤◌, ◌<◌, arith, add-one, length, get_or, take, set, get_or-set_same}
use Rattle.std.proofs.Common.{get_or-set_other}
use lib.ListN.{get_or-map}
use Rattle.lists.specs.Lists.{count, mem, ceil, upto}
use Rattle.lists.specs.Areas.{part}
use Rattle.lists.proofs.Truth.{eq_or-not}
use Rattle.lists.proofs.Passing.{passing}
use Rattle.model.specs.History.{at}
use Rattle.model.specs.Cover.{per_bit, own_bits, covers_from, weights}
use Rattle.tables.specs.Tables.{Children, children_of}
use Rattle.tables.specs.Covers.{cover_room, cover_at, range_bits, join_of, offset, offsets, run_bits, Covered, Weighable, Weighted}
use Rattle.tables.proofs.Joins.{join-same, take-join, get_join, count-take, own-take, own_top}
use Rattle.tables.proofs.Covering.{cover_is}
use Rattle.tables.proofs.Weighing.{cover_short, high_low, offset-rise, offset-is}

-- The parents of n runs whose children are given
pub record Parents (pss : List (List ℕ)) (begins children : List ℕ) (n : ℕ) : Type 0 where
  pub listed : Children pss begins children
  pub number : length pss ≡ n
  pub below : (r p : ℕ) → mem p (at pss r) ≡ true → p < r

-- The definition's covers
pub covers_of : List ℕ → List (List ℕ) → ℕ → List (List Bool)
covers_of starts pss n = covers_from (per_bit (offset starts n)) 0 (offsets starts n) pss

-- Covers and weights are the definition's
pub record Weighed (starts begins children : List ℕ) (n r : ℕ) (ws covers : List ℕ) : Type 0 where
  pub bits : (pss : List (List ℕ)) → Parents pss begins children n → (x : ℕ) → r ≤ x → x < n → take 127 (cover_at covers x) ≡ get_or (covers_of starts pss n) x []
  pub top : (x : ℕ) → r ≤ x → x < n → get_or (cover_at covers x) 127 false ≡ false
  pub weight : (pss : List (List ℕ)) → Parents pss begins children n → (x : ℕ) → r ≤ x → x < n → get_or ws x 0 ≡ count (λ b. b) (get_or (covers_of starts pss n) x [])

pub weighed_none : (starts begins children : List ℕ) (n : ℕ) (ws covers : List ℕ) → Weighed starts begins children n n ws covers
weighed_none starts begins children n ws covers = record {
  bits = λ pss p x h g. absurd (omega arith);
  top = λ x h g. absurd (omega arith);
  weight = λ pss p x h g. absurd (omega arith);
}

-- Run r's bits, where those of later runs are the definition's
turn_bits : (starts begins children : List ℕ) (n r : ℕ) (covers : List ℕ) (pss : List (List ℕ)) → Parents pss begins children n → Weighable starts begins children n → r < n →
    ((x : ℕ) → r < x → x < n → take 127 (cover_at covers x) ≡ get_or (covers_of starts pss n) x []) →
    take 127 (run_bits starts (per_bit (offset starts n)) begins children covers r) ≡ get_or (covers_of starts pss n) r []
unfolding run_bits covers_of
turn_bits starts begins children n r covers pss p w h later =
    let per : ℕ = per_bit (offset starts n) in
    let ss : List ℕ = offsets starts n in
    let kids : List ℕ = part (get_or begins r 0) (get_or begins (r + 1) 0) children in
    let D : List (List Bool) = covers_from per 0 ss pss in
    let first : offset starts r ≡ get_or ss r 0 = sym (offset-is starts n r (omega arith)) in
    let end : offset starts (r + 1) ≡ get_or ss (suc r) 0 = sym (offset-is starts n (r + 1) (omega arith)) ∙ ap (λ (k : ℕ). get_or ss k 0) (add-one r) in
    let inn : r < length pss = omega (arith, p.number) in
    take-join 127 (range_bits (offset starts r / per) (ceil (offset starts (r + 1)) per)) (cover_at covers) kids
    ∙ ap (λ (b : List Bool). join_of b (λ x. take 127 (cover_at covers x)) kids) (own-take per (offset starts r) (offset starts (r + 1)))
    ∙ join-same (own_bits per (offset starts r) (offset starts (r + 1))) (λ x. take 127 (cover_at covers x)) (λ x. get_or D x []) kids (λ x m. let g = w.later r x h m in later x g.0 g.1)
    ∙ ap (λ (a : ℕ). join_of (own_bits per a (offset starts (r + 1))) (λ x. get_or D x []) kids) first
    ∙ ap (λ (b : ℕ). join_of (own_bits per (get_or ss r 0) b) (λ x. get_or D x []) kids) end
    ∙ ap (join_of (own_bits per (get_or ss r 0) (get_or ss (suc r) 0)) (λ x. get_or D x [])) (p.listed.each r inn)
    ∙ sym (cover_is per r ss pss inn p.below)

turn_top : (starts begins children : List ℕ) (n r : ℕ) (covers : List ℕ) → Weighable starts begins children n → r < n →
    ((x : ℕ) → r < x → x < n → get_or (cover_at covers x) 127 false ≡ false) → get_or (run_bits starts (per_bit (offset starts n)) begins children covers r) 127 false ≡ false
unfolding run_bits
turn_top starts begins children n r covers w h later =
    let per : ℕ = per_bit (offset starts n) in
    get_join 127 (range_bits (offset starts r / per) (ceil (offset starts (r + 1)) per)) (cover_at covers) (part (get_or begins r 0) (get_or begins (r + 1) 0) children)
    (own_top (offset starts r / per) (ceil (offset starts (r + 1)) per)
    (high_low (offset starts (r + 1)) (offset starts n) (offset-rise starts begins children n (r + 1) n w (omega arith) (omega arith))))
    (λ x m. let g = w.later r x h m in later x g.0 g.1)

-- One run more
pub weighed_turn : (starts begins children : List ℕ) (n q r per : ℕ) (ws covers wt after : List ℕ) → Weighable starts begins children n →
    q ≡ suc r → r < n → n ≤ length ws → per ≡ per_bit (offset starts n) →
    Weighed starts begins children n q ws covers → wt ≡ set ws r (count (λ b. b) (run_bits starts per begins children covers r)) → Covered r (run_bits starts per begins children covers r) after covers →
    Weighed starts begins children n r wt after
weighed_turn starts begins children n q r per ws covers wt after w qe h long pe done we cov =
    record {
      bits = λ pss p x g k. bits pss p x g k (eq_or-not x r);
      top = λ x g k. top x g k (eq_or-not x r);
      weight = λ pss p x g k. weight pss p x g k (eq_or-not x r);
    }
  where
    B : List Bool
    B = run_bits starts (per_bit (offset starts n)) begins children covers r

    own : cover_at after r ≡ B
    own = cov.own ∙ ap (λ (i : ℕ). run_bits starts i begins children covers r) pe

    bits_own : (pss : List (List ℕ)) → Parents pss begins children n → take 127 B ≡ get_or (covers_of starts pss n) r []
    bits_own pss p = turn_bits starts begins children n r covers pss p w h (λ x g k. done.bits pss p x (omega arith) k)

    top_own : get_or B 127 false ≡ false
    top_own = turn_top starts begins children n r covers w h (λ x g k. done.top x (omega arith) k)

    short : length B ≤ cover_room
    short = let e : length (cover_at after r) ≡ length B = ap (λ (l : List Bool). length l) own in omega (arith, e, cover_short after r)

    bits : (pss : List (List ℕ)) → Parents pss begins children n → (x : ℕ) → r ≤ x → x < n → (x ≡ r) ⊎ (x ≡ r → ⊥) → take 127 (cover_at after x) ≡ get_or (covers_of starts pss n) x []
    bits pss p x g k (inl e) = ap (λ (i : ℕ). take 127 (cover_at after i)) e ∙ ap (take 127) own ∙ bits_own pss p ∙ ap (λ (i : ℕ). get_or (covers_of starts pss n) i []) (sym e)
    bits pss p x g k (inr e) = ap (take 127) (cov.later x (omega arith)) ∙ done.bits pss p x (omega arith) k

    top : (x : ℕ) → r ≤ x → x < n → (x ≡ r) ⊎ (x ≡ r → ⊥) → get_or (cover_at after x) 127 false ≡ false
    top x g k (inl e) = ap (λ (i : ℕ). get_or (cover_at after i) 127 false) e ∙ ap (λ (l : List Bool). get_or l 127 false) own ∙ top_own
    top x g k (inr e) = ap (λ (l : List Bool). get_or l 127 false) (cov.later x (omega arith)) ∙ done.top x (omega arith) k

    weight : (pss : List (List ℕ)) → Parents pss begins children n → (x : ℕ) → r ≤ x → x < n → (x ≡ r) ⊎ (x ≡ r → ⊥) → get_or wt x 0 ≡ count (λ b. b) (get_or (covers_of starts pss n) x [])
    weight pss p x g k (inl e) =
        ap (λ (i : ℕ). get_or wt i 0) e ∙ ap (λ (l : List ℕ). get_or l r 0) we ∙ get_or-set_same ws r (count (λ b. b) (run_bits starts per begins children covers r)) 0 (omega arith)
        ∙ ap (λ (i : ℕ). count (λ b. b) (run_bits starts i begins children covers r)) pe ∙ count-take 127 B (omega (arith, short)) top_own ∙ ap (λ (l : List Bool). count (λ b. b) l) (bits_own pss p)
        ∙ ap (λ (i : ℕ). count (λ b. b) (get_or (covers_of starts pss n) i [])) (sym e)
    weight pss p x g k (inr e) =
        ap (λ (l : List ℕ). get_or l x 0) we ∙ get_or-set_other ws r x (count (λ b. b) (run_bits starts per begins children covers r)) 0 e ∙ done.weight pss p x (omega arith) k

pub weighed_all : (starts begins children : List ℕ) (n : ℕ) (ws covers : List ℕ) → Weighed starts begins children n 0 ws covers → Weighted starts begins children n ws
unfolding Weighted weights covers_of count
weighed_all starts begins children n ws covers done pss listed number below r h =
    let ss : List ℕ = offsets starts n in
    let p : Parents pss begins children n = record { listed = listed; number = number; below = below } in
    let e : per_bit (offset starts n) ≡ per_bit (get_or ss (length pss) 0) = ap per_bit (sym (offset-is starts n n (omega arith)) ∙ ap (λ (k : ℕ). get_or ss k 0) (sym number)) in
    done.weight pss p r (omega arith) h ∙ sym (get_or-map (λ c. count (λ b. b) c) (covers_from (per_bit (offset starts n)) 0 ss pss) r [])
    ∙ ap (λ (per : ℕ). get_or (map (λ c. count (λ b. b) c) (covers_from per 0 ss pss)) r 0) e

-- What the walk reads: a run's weight
pub weight-at : (starts begins children : List ℕ) (n : ℕ) (ws : List ℕ) (pss : List (List ℕ)) → Weighted starts begins children n ws → Children pss begins children → length pss ≡ n →
    ((r p : ℕ) → mem p (at pss r) ≡ true → p < r) → (r : ℕ) → r < n → get_or ws r 0 ≡ get_or (weights (offsets starts n) pss) r 0
unfolding Weighted
weight-at starts begins children n ws pss w listed number below r h = w pss listed number below r h

-- What weighing needs, of starts that never fall and the children of each run
pub weighable_of : (starts begins children : List ℕ) (n : ℕ) (pss : List (List ℕ)) → n ≤ 512 → ((r : ℕ) → r < n → get_or starts r 0 ≤ get_or starts (r + 1) 0) →
    Children pss begins children → length pss ≡ n → ((r p : ℕ) → mem p (at pss r) ≡ true → p < r) → Weighable starts begins children n
unfolding children_of upto
weighable_of starts begins children n pss few rise listed number below = record {
  few = few;
  rise = rise;
  climb = λ r h. listed.climb r (omega (arith, number));
  inside = λ r h. listed.inside r (omega (arith, number));
  later = λ r x h m.
      let g : r < length pss = omega (arith, number) in
      let k = (passing (λ y. mem r (at pss y)) (length pss) x).0 (ap (mem x) (sym (listed.each r g)) ∙ m) in
      (below x r k.1, omega (arith, k.0, number));
}
