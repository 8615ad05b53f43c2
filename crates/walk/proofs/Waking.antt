-- Runs woken one after another, and what the state then says. Assumes nothing.
use Rattle.std.proofs.Common.{◌≡◌, refl, sym, ap, ◌∙◌, subst, ◌⊎◌, inl, inr, Bool, true, false, cond, ◌||◌, List, [], ◌∷◌, ◌++◌, append_assoc, append-nil, ℕ, suc, ◌+◌, ◌-◌, ◌≤◌, ◌<◌, arith}
use Rattle.std.proofs.Common.{add-one, length, get_or, take, drop, set, length-set, drop_of_length-le, length-append, drop-cons, get_or-set_same, get_or-set_other, take-suc-set, leb, ltb, eqb}
use Rattle.std.proofs.Common.{lt-ltb, le-ltb, le-leb, eq-eqb, ne_eqb, eqb-true}
use mathlib.Core.Bool.{false≢true}
use native.Mathlib.Nat.{sub-zero}
use borrow.Author.Tests.{lt-leb}
use Rattle.lists.specs.Lists.{bit, mem, filter, from}
use Rattle.lists.proofs.Truth.{eq_or-not, false_true}
use Rattle.lists.proofs.Members.{mem-first, mem-rest, filter_agree}
use Rattle.walk.specs.Readiness.{Wakes, wake_of, wake_all, woken_of, left_after}
use Rattle.walk.proofs.Distinct.{Once}

-- The next of a list and its end; the next of a range and its end
pub wake_next : (s : Wakes) (cs : List ℕ) (i : ℕ) → i < length cs → wake_all (wake_of s (get_or cs i 0)) (drop (i + 1) cs) ≡ wake_all s (drop i cs)
unfolding wake_all
wake_next s cs i h = rw (add-one i, drop-cons cs i 0 h)

pub wake_none : (s : Wakes) (cs : List ℕ) (i : ℕ) → length cs ≤ i → wake_all s (drop i cs) ≡ s
unfolding wake_all
wake_none s cs i h = rw (drop_of_length-le cs h)

pub range_next : (s : Wakes) (x e : ℕ) → x < e → wake_all (wake_of s x) (from (x + 1) (e - (x + 1))) ≡ wake_all s (from x (e - x))
unfolding wake_all from
range_next s x e h = let q : e - x ≡ suc (e - (x + 1)) = omega arith in rw (q, add-one x)

pub range_none : (s : Wakes) (x e : ℕ) → e ≤ x → wake_all s (from x (e - x)) ≡ s
unfolding wake_all from
range_none s x e h = let q : e - x ≡ 0 = omega arith in rw q

-- The cases of one run woken
module _ (s : Wakes) (c : ℕ) where
  abbrev k : ℕ
  k = get_or s.1 c 0

  abbrev less : List ℕ
  less = set s.1 c (get_or s.1 c 0 - 1)

  or_yes : (t : Bool) → t || true ≡ true
  or_yes true = refl
  or_yes false = refl

  pub wake_past : length s.1 ≤ c → wake_of s c ≡ s
  unfolding wake_of
  wake_past h = rw (le-leb (length s.1) c h)

  pub wake_zero : k ≡ 0 → wake_of s c ≡ s
  unfolding wake_of
  wake_zero h = rw (eq-eqb k 0 h, or_yes (leb (length s.1) c))

  pub wake_more : c < length s.1 → (k ≡ 0 → ⊥) → 1 < k → wake_of s c ≡ (s.0, less, s.2)
  unfolding wake_of
  wake_more lt z h = rw (lt-leb (length s.1) c lt, ne_eqb k 0 z, lt-ltb 1 k h)

  pub wake_full : c < length s.1 → (k ≡ 0 → ⊥) → length s.2 ≤ s.0 → wake_of s c ≡ (s.0, less, s.2)
  unfolding wake_of
  wake_full lt z h = rw (lt-leb (length s.1) c lt, ne_eqb k 0 z, le-leb (length s.2) s.0 h, or_yes (ltb 1 k))

  pub wake_push : c < length s.1 → (k ≡ 0 → ⊥) → k ≤ 1 → s.0 < length s.2 → wake_of s c ≡ (s.0 + 1, less, set s.2 s.0 c)
  unfolding wake_of
  wake_push lt z h l = rw (lt-leb (length s.1) c lt, ne_eqb k 0 z, le-ltb 1 k h, lt-leb (length s.2) s.0 l)

  pub wake_keep : (length (wake_of s c).1 ≡ length s.1) × (length (wake_of s c).2 ≡ length s.2)
  unfolding wake_of
  wake_keep = two (leb (length s.1) c || eqb k 0) (ltb 1 k || leb (length s.2) s.0)
    where
      two : (a b : Bool) → let t : Wakes = cond a s (cond b (s.0, less, s.2) (s.0 + 1, less, set s.2 s.0 c)) in
          (length t.1 ≡ length s.1) × (length t.2 ≡ length s.2)
      two true b = (refl, refl)
      two false true = (length-set s.1 c (k - 1), refl)
      two false false = (length-set s.1 c (k - 1), length-set s.2 s.0 c)

pub wake_keeps : (cs : List ℕ) (s : Wakes) → (length (wake_all s cs).1 ≡ length s.1) × (length (wake_all s cs).2 ≡ length s.2)
unfolding wake_all
wake_keeps [] s = (refl, refl)
wake_keeps (c ∷ cs) s = ((wake_keeps cs (wake_of s c)).0 ∙ (wake_keep s c).0, (wake_keeps cs (wake_of s c)).1 ∙ (wake_keep s c).1)

-- The cases of a visit's end
module _ (s : Wakes) (cs : List ℕ) (run known first end left : ℕ) where
  pub woken-known : run < known → (wake_all s cs ≡ woken_of s cs run known first end left) × (left ≡ left_after run known first left)
  unfolding woken_of left_after
  woken-known h = (rw (lt-ltb run known h), rw (lt-ltb run known h))

  pub woken-later : known ≤ run → first ≤ run → (wake_all s cs ≡ woken_of s cs run known first end left) × (left ≡ left_after run known first left)
  unfolding woken_of left_after
  woken-later h l = (rw (le-ltb run known h, le-leb first run l), rw (le-ltb run known h, le-leb first run l))

  pub woken-first : known ≤ run → run < first → 1 < left → (wake_all s cs ≡ woken_of s cs run known first end left) × (left - 1 ≡ left_after run known first left)
  unfolding woken_of left_after
  woken-first h l m = (rw (le-ltb run known h, lt-leb first run l, lt-ltb 1 left m), rw (le-ltb run known h, lt-leb first run l))

  pub woken-last : known ≤ run → run < first → left ≤ 1 →
      (wake_all (wake_all s cs) (from first (end - first)) ≡ woken_of s cs run known first end left) × (0 ≡ left_after run known first left)
  unfolding woken_of left_after
  woken-last h l m =
      (rw (le-ltb run known h, lt-leb first run l, le-ltb 1 left m), rw (le-ltb run known h, lt-leb first run l) (omega arith))

-- A state says what each run waits for, and which are ready
pub record Says (W : ℕ → ℕ) (R : List ℕ) (s : Wakes) : Type 0 where
  pub waiting : (x : ℕ) → x < length s.1 → get_or s.1 x 0 ≡ W x
  pub number : s.0 ≡ length R
  pub room : length R ≤ length s.2
  pub ready : take (length R) s.2 ≡ R

pub says_same : (W U : ℕ → ℕ) (R Q : List ℕ) (s : Wakes) → Says W R s → ((x : ℕ) → x < length s.1 → W x ≡ U x) → R ≡ Q → Says U Q s
says_same W U R Q s S h e =
    subst (λ (l : List ℕ). Says U l s) e (record { waiting = λ x l. S.waiting x l ∙ h x l; number = S.number; room = S.room; ready = S.ready })

waits-set : (W : ℕ → ℕ) (l : List ℕ) (c : ℕ) → c < length l → ((x : ℕ) → x < length l → get_or l x 0 ≡ W x) →
    (x : ℕ) → x < length (set l c (get_or l c 0 - 1)) → get_or (set l c (get_or l c 0 - 1)) x 0 ≡ W x - bit (eqb x c)
waits-set W l c lt h x xl = go (eq_or-not x c)
  where
    k : ℕ
    k = get_or l c 0 - 1

    len : length (set l c (get_or l c 0 - 1)) ≡ length l
    len = length-set l c k

    go : (x ≡ c) ⊎ (x ≡ c → ⊥) → get_or (set l c k) x 0 ≡ W x - bit (eqb x c)
    go (inl e) = rw (eq-eqb x c e)
        (ap (λ (j : ℕ). get_or (set l c k) j 0) e ∙ (get_or-set_same l c k 0 lt ∙ ap (λ n. n - 1) (h c lt ∙ ap W (sym e))))
    go (inr n) = rw (ne_eqb x c n) (get_or-set_other l c x k 0 n ∙ (h x (omega (arith, len)) ∙ omega arith))

-- One run woken
pub wake_one : (W : ℕ → ℕ) (R : List ℕ) (s : Wakes) (c : ℕ) → Says W R s → c < length s.1 → (W c ≡ 1 → length R < length s.2) →
    Says (λ x. W x - bit (eqb x c)) (R ++ cond (eqb (W c) 1) (c ∷ []) []) (wake_of s c)
wake_one W R s c S lt room = go (eq_or-not (W c) 0) (eq_or-not (W c) 1)
  where
    here : get_or s.1 c 0 ≡ W c
    here = S.waiting c lt

    waits₂ : (x : ℕ) → x < length (set s.1 c (get_or s.1 c 0 - 1)) → get_or (set s.1 c (get_or s.1 c 0 - 1)) x 0 ≡ W x - bit (eqb x c)
    waits₂ = waits-set W s.1 c lt S.waiting

    goal : Wakes → Type 0
    goal t = Says (λ x. W x - bit (eqb x c)) (R ++ cond (eqb (W c) 1) (c ∷ []) []) t

    go : (W c ≡ 0) ⊎ (W c ≡ 0 → ⊥) → (W c ≡ 1) ⊎ (W c ≡ 1 → ⊥) → goal (wake_of s c)
    go (inl z) o = subst goal (sym (wake_zero s c (here ∙ z)))
        (says_same W (λ x. W x - bit (eqb x c)) R (R ++ cond (eqb (W c) 1) (c ∷ []) []) s S (λ x l. less x (eq_or-not x c))
        (sym (rw (ne_eqb (W c) 1 (λ e. omega arith)) (append-nil R))))
      where
        less : (x : ℕ) → (x ≡ c) ⊎ (x ≡ c → ⊥) → W x ≡ W x - bit (eqb x c)
        less x (inl e) = omega (arith, ap W e)
        less x (inr n) = rw (ne_eqb x c n) (omega arith)
    go (inr z) (inl o) = subst goal (sym (wake_push s c lt (λ e. z (sym here ∙ e)) (omega (arith, here, o)) (omega (arith, S.number, room o))))
        (rw (eq-eqb (W c) 1 o) record {
          waiting = waits₂;
          number = omega (arith, S.number, length-append R (c ∷ []));
          room = omega (arith, room o, length-append R (c ∷ []), length-set s.2 s.0 c);
          ready = ready₂;
        })
      where
        ready₂ : take (length (R ++ c ∷ [])) (set s.2 s.0 c) ≡ R ++ c ∷ []
        ready₂ =
            let e : length (R ++ c ∷ []) ≡ suc s.0 = omega (arith, S.number, length-append R (c ∷ [])) in
            ap (λ (k : ℕ). take k (set s.2 s.0 c)) e ∙ (take-suc-set s.2 s.0 c (omega (arith, S.number, room o)) ∙
            ap (λ (l : List ℕ). l ++ (c ∷ [])) (ap (λ (k : ℕ). take k s.2) S.number ∙ S.ready))
    go (inr z) (inr o) = subst goal (sym (wake_more s c lt (λ e. z (sym here ∙ e)) (omega (arith, here, z, o))))
        (rw (ne_eqb (W c) 1 o, append-nil R) record { waiting = waits₂; number = S.number; room = S.room; ready = S.ready })

-- A list of runs woken: each waits for one less, and those that waited for one alone follow in its order
pub wake_list : (cs : List ℕ) (W : ℕ → ℕ) (R : List ℕ) (s : Wakes) → Says W R s → Once cs → ((x : ℕ) → mem x cs ≡ true → x < length s.1) →
    length R + length (filter (λ x. eqb (W x) 1) cs) ≤ length s.2 →
    Says (λ x. W x - bit (mem x cs)) (R ++ filter (λ x. eqb (W x) 1) cs) (wake_all s cs)
unfolding wake_all filter mem
wake_list [] W R s S o b room = says_same W (λ x. W x - bit false) R (R ++ []) s S (λ x l. omega arith) (sym (append-nil R))
wake_list (c ∷ cs) W R s S o b room =
    says_same (λ x. W x - bit (eqb x c) - bit (mem x cs)) (λ x. W x - bit (eqb x c || mem x cs))
    (R ++ new ++ filter (λ x. eqb (W x - bit (eqb x c)) 1) cs) (R ++ cond (eqb (W c) 1) (c ∷ fs) fs) (wake_all (wake_of s c) cs)
    (wake_list cs (λ x. W x - bit (eqb x c)) (R ++ new) (wake_of s c)
    (wake_one W R s c S (b c (mem-first c cs)) (λ e. omega (arith, room, grown (eqb (W c) 1) (eq-eqb (W c) 1 e)))) o.1
    (λ x m. omega (arith, b x (mem-rest c x cs m), (wake_keep s c).0)) (omega (arith, room, (wake_keep s c).1, ap length others, sizes (eqb (W c) 1))))
    (λ x l. apart x (eqb x c) refl)
    (append_assoc R new (filter (λ x. eqb (W x - bit (eqb x c)) 1) cs) ∙
    (ap (λ (l : List ℕ). R ++ (new ++ l)) others ∙ ap (λ (l : List ℕ). R ++ l) (front (eqb (W c) 1))))
  where
    new : List ℕ
    new = cond (eqb (W c) 1) (c ∷ []) []

    fs : List ℕ
    fs = filter (λ x. eqb (W x) 1) cs

    others : filter (λ x. eqb (W x - bit (eqb x c)) 1) cs ≡ filter (λ x. eqb (W x) 1) cs
    others = filter_agree (λ x. eqb (W x - bit (eqb x c)) 1) (λ x. eqb (W x) 1) cs
        (λ x m. rw (ne_eqb x c (λ e. false≢true (sym o.0 ∙ subst (λ (k : ℕ). mem k cs ≡ true) e m))) (ap (λ (n : ℕ). eqb n 1) (sub-zero (W x))))

    grown : (t : Bool) → t ≡ true → 1 ≤ length (cond t (c ∷ fs) fs)
    grown true e = omega arith
    grown false e = false_true e

    sizes : (t : Bool) → length (R ++ cond t (c ∷ []) []) + length fs ≡ length R + length (cond t (c ∷ fs) fs)
    sizes true = omega (arith, length-append R (c ∷ []))
    sizes false = omega (arith, length-append {A = ℕ} R [])

    front : (t : Bool) → cond t (c ∷ []) [] ++ fs ≡ cond t (c ∷ fs) fs
    front true = refl
    front false = refl

    apart : (x : ℕ) (t : Bool) → eqb x c ≡ t → W x - bit t - bit (mem x cs) ≡ W x - bit (t || mem x cs)
    apart x true e = let m : mem x cs ≡ false = subst (λ (k : ℕ). mem k cs ≡ false) (sym (eqb-true x c e)) o.0 in rw m (omega arith)
    apart x false e = omega arith
