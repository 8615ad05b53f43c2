-- Runs started one after another: what each waits for at first, and which are ready. Assumes nothing.
use Rattle.std.proofs.Common.{◌≡◌, refl, sym, ap, ap₂, ◌∙◌, subst, ◌⊎◌, inl, inr, Bool, true, false, not, cond, ◌&&◌, ◌||◌, List, [], ◌∷◌, ◌++◌, ℕ, suc, ◌+◌, ◌-◌, ◌≤◌, ◌<◌, arith, add-one, length}
use Rattle.std.proofs.Common.{get_or, take, drop, set, length-set, drop_of_length-le, length-take, length-append, drop-cons, get_or-take, get_or-set_same, get_or-set_other, take-suc-set, leb, ltb}
use Rattle.std.proofs.Common.{eqb, lt-ltb, le-ltb, le-leb, eq-eqb, ne_eqb}
use borrow.Author.Tests.{lt-leb}
use Rattle.lists.specs.Lists.{bit, mem, count, filter, from, upto}
use Rattle.lists.specs.Areas.{part}
use Rattle.lists.proofs.Truth.{lt_or_le, eq_or-not, and_false}
use Rattle.lists.proofs.Members.{filter_agree}
use Rattle.lists.proofs.Groups.{group_at, length-groups}
use Rattle.lists.proofs.Keeping.{filter_snoc}
use Rattle.lists.proofs.Counts.{upto_snoc, count_same}
use Rattle.model.specs.History.{at}
use Rattle.model.specs.Choice.{Range, passed, is_ready, newly_ready}
use Rattle.tables.specs.Laid.{grouped}
use Rattle.walk.specs.Readiness.{Wakes, waits_at, start_of, start_all}
use Rattle.walk.proofs.Waiting.{held, waits, ready_iff, left-start}
use Rattle.walk.proofs.Telling.{Tells}

-- The cases of one run started, which waits for k
pub waits_are : (known first r : ℕ) (ps : List ℕ) (m h : ℕ) → m ≡ count (λ p. leb known p) ps → h ≡ bit (ltb known first && leb first r) →
    m + h ≡ waits_at known first ps r
unfolding waits_at
waits_are known first r ps m h e f = ap₂ ◌+◌ e f

module _ (known first : ℕ) (s : Wakes) (r : ℕ) (ps : List ℕ) (k : ℕ) (e : k ≡ waits_at known first ps r) where
  pub start-waits : (k ≡ 0 → ⊥) → (s.0, set s.1 r k, s.2) ≡ start_of known first s r ps
  unfolding start_of
  start-waits h = rw (sym e, ne_eqb k 0 h)

  pub start-known : r < known → (s.0, set s.1 r k, s.2) ≡ start_of known first s r ps
  unfolding start_of
  start-known h = rw (sym e, lt-leb known r h, and_false (eqb k 0))

  pub start-ready : k ≡ 0 → known ≤ r → (s.0 + 1, set s.1 r k, set s.2 s.0 r) ≡ start_of known first s r ps
  unfolding start_of
  start-ready z h = rw (sym e, eq-eqb k 0 z, le-leb known r h)

-- The next run, and the end
pub start-next : (known first : ℕ) (s : Wakes) (r : ℕ) (pss : List (List ℕ)) → r < length pss →
    start_all known first (start_of known first s r (get_or pss r [])) (r + 1) (drop (r + 1) pss) ≡ start_all known first s r (drop r pss)
unfolding start_all
start-next known first s r pss h = rw (add-one r, drop-cons pss r [] h)

pub start_end : (known first : ℕ) (s : Wakes) (r : ℕ) (pss : List (List ℕ)) → length pss ≤ r → start_all known first s r (drop r pss) ≡ s
unfolding start_all
start_end known first s r pss h = rw (drop_of_length-le pss h)

-- A run's group, between its start and the next
pub length-grouped : (starts items : List ℕ) (n : ℕ) → n < length starts → length (grouped starts items n) ≡ n
unfolding grouped
length-grouped [] items n h = absurd (omega arith)
length-grouped (s ∷ ts) items n h = let e : n + 1 ≡ suc n = omega arith in rw e (length-groups s (take n ts) items ∙ (length-take n ts ∙ omega arith))

pub group_of : (starts items : List ℕ) (n r : ℕ) → n < length starts → r < n →
    get_or (grouped starts items n) r [] ≡ part (get_or starts r 0) (get_or starts (r + 1) 0) items
unfolding grouped
group_of starts items n r l h =
    group_at (take (n + 1) starts) items r (let e = length-take (n + 1) starts in omega arith) ∙
    ap₂ (λ (a b : ℕ). part a b items) (get_or-take (n + 1) starts r 0 (omega arith))
    (get_or-take (n + 1) starts (suc r) 0 (omega arith) ∙ ap (λ (k : ℕ). get_or starts k 0) (sym (add-one r)))

-- Lengths are kept, and at most one run more is ready
pub start_keep : (known first : ℕ) (s : Wakes) (r : ℕ) (ps : List ℕ) →
    (length (start_of known first s r ps).1 ≡ length s.1) × (length (start_of known first s r ps).2 ≡ length s.2)
unfolding start_of
start_keep known first s r ps = go (waits_at known first ps r) (eqb (waits_at known first ps r) 0 && leb known r)
  where
    go : (k : ℕ) (t : Bool) → let u : Wakes = cond t (s.0 + 1, set s.1 r k, set s.2 s.0 r) (s.0, set s.1 r k, s.2) in
        (length u.1 ≡ length s.1) × (length u.2 ≡ length s.2)
    go k true = (length-set s.1 r k, length-set s.2 s.0 r)
    go k false = (length-set s.1 r k, refl)

pub start_few : (known first : ℕ) (s : Wakes) (r : ℕ) (ps : List ℕ) → (start_of known first s r ps).0 ≤ s.0 + 1
unfolding start_of
start_few known first s r ps = go (waits_at known first ps r) (eqb (waits_at known first ps r) 0 && leb known r)
  where
    go : (k : ℕ) (t : Bool) → let u : Wakes = cond t (s.0 + 1, set s.1 r k, set s.2 s.0 r) (s.0, set s.1 r k, s.2) in u.0 ≤ s.0 + 1
    go k true = omega arith
    go k false = omega arith

pub start_keeps : (known first : ℕ) (pss : List (List ℕ)) (s : Wakes) (r : ℕ) →
    (length (start_all known first s r pss).1 ≡ length s.1) × (length (start_all known first s r pss).2 ≡ length s.2)
unfolding start_all
start_keeps known first [] s r = (refl, refl)
start_keeps known first (ps ∷ pss) s r =
    let t : Wakes = start_of known first s r ps in
    let k = start_keeps known first pss t (suc r) in
    let o = start_keep known first s r ps in
    (k.0 ∙ o.0, k.1 ∙ o.1)

-- The runs below r are begun: W says what they wait for, and R lists those that are ready
record Begun (W : ℕ → ℕ) (r : ℕ) (R : List ℕ) (s : Wakes) : Type 0 where
  waiting : (x : ℕ) → x < r → get_or s.1 x 0 ≡ W x
  number : s.0 ≡ length R
  few : length R ≤ r
  ready : take (length R) s.2 ≡ R

module _ (known first : ℕ) (W : ℕ → ℕ) where
  -- those below r that wait for nothing and are not known
  abbrev free : ℕ → Bool
  free x = eqb (W x) 0 && leb known x

  abbrev free_below : ℕ → List ℕ
  free_below r = filter (λ x. eqb (W x) 0 && leb known x) (from 0 r)

  below_next : (r : ℕ) → free_below (suc r) ≡ cond (free r) (free_below r ++ r ∷ []) (free_below r)
  unfolding upto
  below_next r = ap (filter (λ x. eqb (W x) 0 && leb known x)) (upto_snoc r) ∙ filter_snoc (λ x. eqb (W x) 0 && leb known x) (from 0 r) r

  begin_one : (r : ℕ) (s : Wakes) (ps : List ℕ) → Begun W r (free_below r) s → r < length s.1 → r < length s.2 → waits_at known first ps r ≡ W r →
      Begun W (suc r) (free_below (suc r)) (start_of known first s r ps)
  unfolding start_of
  begin_one r s ps B l m e = rw (below_next r, e) (go (free r))
    where
      R : List ℕ
      R = free_below r

      waiting₂ : (x : ℕ) → x < suc r → get_or (set s.1 r (W r)) x 0 ≡ W x
      waiting₂ x h = cases (eq_or-not x r)
        where
          cases : (x ≡ r) ⊎ (x ≡ r → ⊥) → get_or (set s.1 r (W r)) x 0 ≡ W x
          cases (inl q) = ap (λ (k : ℕ). get_or (set s.1 r (W r)) k 0) q ∙ (get_or-set_same s.1 r (W r) 0 l ∙ ap W (sym q))
          cases (inr n) = get_or-set_other s.1 r x (W r) 0 n ∙ B.waiting x (omega arith)

      ready₂ : take (length (R ++ r ∷ [])) (set s.2 s.0 r) ≡ R ++ r ∷ []
      ready₂ =
          let q : length (R ++ r ∷ []) ≡ suc s.0 = omega (arith, B.number, length-append R (r ∷ [])) in
          ap (λ (k : ℕ). take k (set s.2 s.0 r)) q ∙ (take-suc-set s.2 s.0 r (omega (arith, B.number, B.few)) ∙
          ap (λ (x : List ℕ). x ++ (r ∷ [])) (ap (λ (k : ℕ). take k s.2) B.number ∙ B.ready))

      go : (t : Bool) → Begun W (suc r) (cond t (R ++ r ∷ []) R) (cond t (s.0 + 1, set s.1 r (W r), set s.2 s.0 r) (s.0, set s.1 r (W r), s.2))
      go true = record {
        waiting = waiting₂;
        number = omega (arith, B.number, length-append R (r ∷ []));
        few = omega (arith, B.few, length-append R (r ∷ []));
        ready = ready₂;
      }
      go false = record { waiting = waiting₂; number = B.number; few = omega (arith, B.few); ready = B.ready }

  begin-all : (pss : List (List ℕ)) (r : ℕ) (s : Wakes) → Begun W r (free_below r) s → r + length pss ≤ length s.1 → r + length pss ≤ length s.2 →
      ((i : ℕ) → i < length pss → waits_at known first (get_or pss i []) (r + i) ≡ W (r + i)) →
      Begun W (r + length pss) (free_below (r + length pss)) (start_all known first s r pss)
  unfolding start_all
  begin-all [] r s B l m h = let z : r ≡ r + 0 = omega arith in subst (λ (k : ℕ). Begun W k (free_below k) s) z B
  begin-all (ps ∷ pss) r s B l m h =
      let z : suc r + length pss ≡ r + suc (length pss) = omega arith in
      let t : Wakes = start_of known first s r ps in
      let k = start_keep known first s r ps in
      subst (λ (k : ℕ). Begun W k (free_below k) (start_all known first t (suc r) pss)) z
      (begin-all pss (suc r) t (begin_one r s ps B (omega arith) (omega arith) (here r (h 0 (omega arith)))) (omega (arith, k.0)) (omega (arith, k.1))
      (λ i l. there i (h (suc i) (omega arith))))
    where
      here : (r : ℕ) → waits_at known first ps (r + 0) ≡ W (r + 0) → waits_at known first ps r ≡ W r
      here r e = let z : r + 0 ≡ r = omega arith in rw z at e

      there : (i : ℕ) → waits_at known first (get_or pss i []) (r + suc i) ≡ W (r + suc i) → waits_at known first (get_or pss i []) (suc r + i) ≡ W (suc r + i)
      there i e = let z : r + suc i ≡ suc r + i = omega arith in rw z at e

module _ (w : Range) (known first : ℕ) where
  abbrev W : ℕ → ℕ
  W x = waits w known first [] x

  -- What a run waits for before any visit
  first-waits : (x : ℕ) → waits_at known first (at w.parents x) x ≡ W x
  unfolding waits waits_at held passed mem
  first-waits x =
      ap₂ ◌+◌ (count_same (λ p. leb known p) (λ p. not (ltb p known || false)) (at w.parents x) (λ p m. unknown p (lt_or_le p known)))
      (rw (left-start w known first) (ap (λ t. bit (t && leb first x)) (some (lt_or_le known first))))
    where
      unknown : (p : ℕ) → (p < known) ⊎ (known ≤ p) → leb known p ≡ not (ltb p known || false)
      unknown p (inl l) = rw (lt-leb known p l, lt-ltb p known l)
      unknown p (inr l) = rw (le-leb known p l, le-ltb p known l)

      some : (known < first) ⊎ (first ≤ known) → ltb known first ≡ ltb 0 (first - known)
      some (inl l) = rw (lt-ltb known first l, lt-ltb 0 (first - known) (omega arith))
      some (inr l) = rw (le-ltb known first l, le-ltb 0 (first - known) (omega arith))

  -- The first ready runs are those that wait for nothing and are not known
  first-ready : free_below known first W (length w.parents) ≡ newly_ready w known first [] []
  unfolding newly_ready upto
  first-ready =
      filter_agree (λ x. eqb (W x) 0 && leb known x) (λ r. is_ready w known first [] r && not (mem r [])) (from 0 (length w.parents))
      (λ x m. same x)
    where
      cases : (p a b : Bool) → (a ≡ not p) → b && a ≡ not p && b && true
      cases true a true e = e
      cases true a false e = refl
      cases false a true e = e
      cases false a false e = refl

      same : (x : ℕ) → eqb (W x) 0 && leb known x ≡ is_ready w known first [] x && not (mem x [])
      same x = rw (ready_iff w known first [] x) (unfold mem in (cases (passed known [] x) (leb known x) (eqb (W x) 0) (unfold passed mem in (fresh (lt_or_le x known)))))
        where
          fresh : (x < known) ⊎ (known ≤ x) → leb known x ≡ not (ltb x known || false)
          fresh (inl l) = rw (lt-leb known x l, lt-ltb x known l)
          fresh (inr l) = rw (le-leb known x l, le-ltb x known l)

  -- All runs started: the state tells of them before any visit
  pub start_tells : (waiting ready : List ℕ) → length waiting ≡ length w.parents → length w.parents ≤ length ready →
      Tells w known first [] (newly_ready w known first [] []) (start_all known first (0, waiting, ready) 0 w.parents)
  start_tells waiting ready e le =
      let n : ℕ = length w.parents in
      let s : Wakes = start_all known first (0, waiting, ready) 0 w.parents in
      let keeps = start_keeps known first w.parents (0, waiting, ready) 0 in
      let B : Begun W (0 + n) (free_below known first W (0 + n)) s = begin-all known first W w.parents 0 (0, waiting, ready) nothing (omega arith) (omega arith)
      (λ i l. begun i) in
      let z : 0 + n ≡ n = omega arith in
      let q : free_below known first W (0 + n) ≡ newly_ready w known first [] [] = ap (free_below known first W) z ∙ first-ready in
      let b : Begun W n (newly_ready w known first [] []) s = subst (λ (k : ℕ). Begun W k (newly_ready w known first [] []) s) z (subst (λ (l : List ℕ). Begun W (0 + n) l s) q B) in
      record {
        size = keeps.0 ∙ e;
        wide = omega (arith, keeps.1);
        says = record { waiting = λ x l. b.waiting x (omega (arith, keeps.0)); number = b.number; room = omega (arith, b.few, keeps.1); ready = b.ready };
      }
    where
      nothing : Begun W 0 (free_below known first W 0) (0, waiting, ready)
      nothing = unfold from filter in record { waiting = λ x l. absurd (omega arith); number = refl; few = omega arith; ready = refl }

      begun : (i : ℕ) → waits_at known first (get_or w.parents i []) (0 + i) ≡ W (0 + i)
      begun i = let z : 0 + i ≡ i = omega arith in rw z (unfold at in first-waits i)
