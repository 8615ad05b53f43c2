-- The kids of each run, placed run by run. Assumes nothing.
use Rattle.std.proofs.Common.{◌≡◌, refl, sym, ap, ◌∙◌, subst, ◌⊎◌, inl, inr, Bool, true, List, [], ◌∷◌, ◌++◌, append-nil, append_assoc, ℕ, suc, ◌+◌, ◌≤◌, ◌<◌, add-one, arith, length, get_or, set}
use Rattle.std.proofs.Common.{replicate, length-set, length-append, get_or-set_same, get_or-set_other, eqb, eq-eqb, ne_eqb}
use lib.ListN.{length-replicate, replicate-append-replicate, get_or-append}
use lib.Seq.{get_or_at}
use Rattle.lists.specs.Lists.{bit, mem, occurs}
use Rattle.lists.proofs.Truth.{lt_or_le, eq_or-not, lt_of_ne}
use Rattle.lists.proofs.Members.{mem-first, mem-rest}
use Rattle.lists.proofs.Counts.{length_snoc}
use Rattle.model.specs.History.{at}
use Rattle.tables.specs.Indexed.{Summed}
use Rattle.tables.specs.Counted.{tally, kids, kids_from, Placing, put_one, put_all, Placeable}
use Rattle.tables.proofs.Counting.{occurs-none, tally-next}
use Rattle.tables.proofs.Rooms.{occurs-cons, begin-is, begin-next, begins-climb, tally-climbs, kids-none, kids-next, kids-length}

-- The kids K of n runs stand from `base` on, and the next of each goes after them
pub record Filled (base : ℕ → ℕ) (K : ℕ → List ℕ) (n : ℕ) (s : Placing) : Type 0 where
  pub next_at : (r : ℕ) → r < n → get_or s.0 r 0 ≡ base r + length (K r)
  pub child_at : (r j : ℕ) → r < n → j < length (K r) → get_or s.1 (base r + j) 0 ≡ get_or (K r) j 0

filled_same : (base : ℕ → ℕ) (K L : ℕ → List ℕ) (n : ℕ) (s : Placing) → ((r : ℕ) → K r ≡ L r) → Filled base K n s → Filled base L n s
filled_same base K L n s e F = record {
  next_at = λ r lt. F.next_at r lt ∙ ap (λ (l : List ℕ). base r + length l) (e r);
  child_at = λ r j lt q. F.child_at r j lt (omega (arith, q, ap length (e r))) ∙ ap (λ (l : List ℕ). get_or l j 0) (e r);
}

-- One kid x more, of run p
filled_one : (base : ℕ → ℕ) (K L : ℕ → List ℕ) (n x p : ℕ) (s : Placing) → ((r m : ℕ) → r ≤ m → base r ≤ base m) → p < n → n ≤ length s.0 → base n ≤ length s.1 →
    ((r : ℕ) → r < n → base r + length (K r) ≤ base (suc r)) → base p + length (K p) < base (suc p) → L p ≡ K p ++ x ∷ [] → ((r : ℕ) → (r ≡ p → ⊥) → L r ≡ K r) →
    Filled base K n s → Filled base L n (put_one x s p)
filled_one base K L n x p s up pn nl bl room fits own other F = record {
  next_at = λ r lt. next r lt (eq_or-not r p);
  child_at = λ r j lt q. child r j lt q (eq_or-not r p);
}
  where
    v : ℕ
    v = get_or s.0 p 0

    v_is : v ≡ base p + length (K p)
    v_is = F.next_at p pn

    long : length (L p) ≡ suc (length (K p))
    long = ap length own ∙ length_snoc (K p) x

    next : (r : ℕ) → r < n → (r ≡ p) ⊎ (r ≡ p → ⊥) → get_or (set s.0 p (v + 1)) r 0 ≡ base r + length (L r)
    next r lt (inl e) =
        let a : get_or (set s.0 p (v + 1)) r 0 ≡ v + 1 = ap (λ (k : ℕ). get_or (set s.0 p (v + 1)) k 0) e ∙ get_or-set_same s.0 p (v + 1) 0 (omega arith) in
        let b : base r + length (L r) ≡ base p + length (L p) = ap (λ (k : ℕ). base k + length (L k)) e in
        omega (arith, a, b, v_is, long)
    next r lt (inr q) = get_or-set_other s.0 p r (v + 1) 0 q ∙ (F.next_at r lt ∙ ap (λ (l : List ℕ). base r + length l) (sym (other r q)))

    last : (j : ℕ) → j < length (L p) → (j < length (K p)) ⊎ (length (K p) ≤ j) → get_or (set s.1 v x) (base p + j) 0 ≡ get_or (L p) j 0
    last j h (inl q) =
        get_or-set_other s.1 v (base p + j) x 0 (λ z. omega (arith, v_is, z)) ∙
        (F.child_at p j pn q ∙ sym (ap (λ (l : List ℕ). get_or l j 0) own ∙ get_or-append (K p) (x ∷ []) 0 j q))
    last j h (inr q) =
        let e : length (K p) ≡ j = omega (arith, long) in
        let a : base p + j ≡ v = omega (arith, v_is) in
        ap (λ (k : ℕ). get_or (set s.1 v x) k 0) a ∙
        (get_or-set_same s.1 v x 0 (omega (arith, v_is, up (suc p) n pn)) ∙ sym (ap (λ (l : List ℕ). get_or l j 0) own ∙ get_or_at (K p) x [] 0 j e))

    apart : (r j : ℕ) → r < n → j < length (K r) → (r < p) ⊎ (p ≤ r) → (r ≡ p → ⊥) → base r + j ≡ v → ⊥
    apart r j lt h (inl l) q z = omega (arith, v_is, z, room r lt, up (suc r) p l)
    apart r j lt h (inr l) q z = omega (arith, v_is, z, up (suc p) r (lt_of_ne p r l (λ e. q (sym e))))

    child : (r j : ℕ) → r < n → j < length (L r) → (r ≡ p) ⊎ (r ≡ p → ⊥) → get_or (set s.1 v x) (base r + j) 0 ≡ get_or (L r) j 0
    child r j lt h (inl e) =
        subst (λ (k : ℕ). get_or (set s.1 v x) (base k + j) 0 ≡ get_or (L k) j 0) (sym e)
        (last j (omega (arith, h, ap (λ (k : ℕ). length (L k)) e)) (lt_or_le j (length (K p))))
    child r j lt h (inr q) =
        let k : j < length (K r) = omega (arith, h, ap length (other r q)) in
        get_or-set_other s.1 v (base r + j) x 0 (apart r j lt k (lt_or_le r p) q) ∙ (F.child_at r j lt k ∙ ap (λ (l : List ℕ). get_or l j 0) (sym (other r q)))

-- so of each of ps
unfoldable with_one : (ℕ → List ℕ) → ℕ → ℕ → ℕ → List ℕ
with_one K x p r = K r ++ replicate (bit (eqb p r)) x

with_own : (K : ℕ → List ℕ) (x p : ℕ) → with_one K x p p ≡ K p ++ x ∷ []
unfolding with_one
with_own K x p = ap (λ (b : Bool). K p ++ replicate (bit b) x) (eq-eqb p p refl)

with_other : (K : ℕ → List ℕ) (x p r : ℕ) → (r ≡ p → ⊥) → with_one K x p r ≡ K r
unfolding with_one
with_other K x p r q = ap (λ (b : Bool). K r ++ replicate (bit b) x) (ne_eqb p r (λ e. q (sym e))) ∙ append-nil (K r)

with_long : (K : ℕ → List ℕ) (x p r : ℕ) → length (with_one K x p r) ≡ length (K r) + bit (eqb p r)
unfolding with_one
with_long K x p r = length-append (K r) (replicate (bit (eqb p r)) x) ∙ ap (λ (k : ℕ). length (K r) + k) (length-replicate (bit (eqb p r)) x)

with_more : (K : ℕ → List ℕ) (x p r : ℕ) (ps : List ℕ) → with_one K x p r ++ replicate (occurs r ps) x ≡ K r ++ replicate (occurs r (p ∷ ps)) x
unfolding with_one
with_more K x p r ps =
    append_assoc (K r) (replicate (bit (eqb p r)) x) (replicate (occurs r ps) x) ∙
    ap (λ (l : List ℕ). K r ++ l) (replicate-append-replicate (bit (eqb p r)) (occurs r ps) x ∙ ap (λ (k : ℕ). replicate k x) (sym (occurs-cons r p ps)))

filled_all : (base : ℕ → ℕ) (n x : ℕ) → ((r m : ℕ) → r ≤ m → base r ≤ base m) → (ps : List ℕ) (K : ℕ → List ℕ) (s : Placing) → n ≤ length s.0 → base n ≤ length s.1 →
    ((q : ℕ) → mem q ps ≡ true → q < n) → ((r : ℕ) → r < n → base r + length (K r) + occurs r ps ≤ base (suc r)) →
    Filled base K n s → Filled base (λ r. K r ++ replicate (occurs r ps) x) n (put_all x s ps)
unfolding put_all
filled_all base n x up [] K s nl bl low room F =
    filled_same base K (λ r. K r ++ replicate (occurs r []) x) n s (λ r. sym (ap (λ (k : ℕ). K r ++ replicate k x) (occurs-none r) ∙ append-nil (K r))) F
filled_all base n x up (p ∷ ps) K s nl bl low room F =
    let pn : p < n = low p (mem-first p ps) in
    filled_same base (λ r. with_one K x p r ++ replicate (occurs r ps) x) (λ r. K r ++ replicate (occurs r (p ∷ ps)) x) n (put_all x (put_one x s p) ps) (λ r. with_more K x p r ps)
    (filled_all base n x up ps (with_one K x p) (put_one x s p) (omega (arith, length-set s.0 p (get_or s.0 p 0 + 1))) (omega (arith, length-set s.1 (get_or s.0 p 0) x))
    (λ q m. low q (mem-rest p q ps m)) (λ r lt. omega (arith, room r lt, with_long K x p r, occurs-cons r p ps))
    (filled_one base K (with_one K x p) n x p s up pn nl bl (λ r lt. omega (arith, room r lt)) (omega (arith, room p pn, occurs-cons p p ps, ap bit (eq-eqb p p refl)))
    (with_own K x p) (with_other K x p) F))

-- No run is placed yet
pub filled_start : (pss : List (List ℕ)) (n : ℕ) (s : Placing) → Summed (λ r. tally pss r n) n s.0 → Filled (kids_from pss n) (λ r. kids pss r 0) n s
filled_start pss n s h = record {
  next_at = λ r lt. omega (arith, h r (omega arith), begin-is pss n r, ap length (kids-none pss r));
  child_at = λ r j lt q. absurd (omega (arith, ap length (kids-none pss r)));
}

-- Run x has a place with each of its parents
kid_room : (pss : List (List ℕ)) (n x : ℕ) → x < n → (r : ℕ) → kids_from pss n r + length (kids pss r x) + occurs r (at pss x) ≤ kids_from pss n (suc r)
kid_room pss n x lt r = omega (arith, kids-length pss r x, tally-next pss r x, tally-climbs pss r (suc x) n lt, begin-next pss n r)

pub run_placeable : (pss : List (List ℕ)) (n x : ℕ) (s : Placing) → x < n → ((q : ℕ) → mem q (at pss x) ≡ true → q < n) → n ≤ length s.0 → kids_from pss n n ≤ length s.1 →
    Filled (kids_from pss n) (λ r. kids pss r x) n s → Placeable (at pss x) s
run_placeable pss n x s lt low nl bl F p m =
    (omega (arith, low p m), omega (arith, F.next_at p (low p m), kid_room pss n x lt p, begins-climb pss n (suc p) n (low p m)))

-- and is then among their kids
pub filled_run : (pss : List (List ℕ)) (n x : ℕ) (s : Placing) → x < n → ((q : ℕ) → mem q (at pss x) ≡ true → q < n) → n ≤ length s.0 → kids_from pss n n ≤ length s.1 →
    Filled (kids_from pss n) (λ r. kids pss r x) n s → Filled (kids_from pss n) (λ r. kids pss r (x + 1)) n (put_all x s (at pss x))
filled_run pss n x s lt low nl bl F =
    filled_same (kids_from pss n) (λ r. kids pss r x ++ replicate (occurs r (at pss x)) x) (λ r. kids pss r (x + 1)) n (put_all x s (at pss x))
    (λ r. sym (kids-next pss r x) ∙ ap (kids pss r) (sym (add-one x)))
    (filled_all (kids_from pss n) n x (begins-climb pss n) (at pss x) (λ r. kids pss r x) s nl bl low (λ r q. kid_room pss n x lt r) F)
