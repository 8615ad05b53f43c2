-- The events in just one of two closed sets, chain by chain. Assumes nothing.
use Rattle.std.proofs.Common.{◌≡◌, refl, sym, ap, ap₂, ◌∙◌, ◌⊎◌, inl, inr, Bool, true, false, not, cond, ◌||◌, List, [], ◌∷◌, ◌++◌, ℕ, zero, suc, ◌+◌, ◌-◌, ◌≤◌, ◌<◌, arith, length, get_or, take}
use Rattle.std.proofs.Common.{eqb, eq-eqb, ne_eqb}
use Rattle.lists.specs.Lists.{bit, all, mem, count, sum, from, upto}
use Rattle.lists.proofs.Truth.{eq_or-not, or_left, or_right}
use Rattle.lists.proofs.Counts.{sum_snoc, sum-zero}
use Rattle.model.specs.History.{at, histories}
use Rattle.model.specs.Range.{join}
use Rattle.model.specs.Choice.{Range, apart}
use Rattle.tables.specs.Laid.{chs}
use Rattle.tables.proofs.Prefixes.{Falls, none_after, tail}
use Rattle.tables.proofs.Chaining.{cnt}
use Rattle.tables.proofs.ClosedSets.{Once, Closed, closed_falls}

sum-plus : {A : Type 0} (f g : A → ℕ) (xs : List A) → sum f xs + sum g xs ≡ sum (λ x. f x + g x) xs
unfolding sum
sum-plus f g [] = omega arith
sum-plus f g (x ∷ xs) = omega (arith, sum-plus f g xs)

sum-last : (f : ℕ → ℕ) (a n : ℕ) → sum f (from a (suc n)) ≡ sum f (from a n) + f (a + n)
unfolding sum from
sum-last f a zero = omega (arith, ap f (plus a))
  where
    plus : (a : ℕ) → a + 0 ≡ a
    plus a = omega arith
sum-last f a (suc n) = omega (arith, sum-last f (suc a) n, ap f (plus a n))
  where
    plus : (a n : ℕ) → suc a + n ≡ a + suc n
    plus a n = omega arith

join-sum : (f : ℕ → ℕ) (r : ℕ) (h : List ℕ) (cs : List (List ℕ)) → sum (λ c. sum f c) (join r h cs) ≡ sum (λ c. sum f c) cs + f r
unfolding join sum
join-sum f r h [] = omega arith
join-sum f r h (c ∷ cs) = go (all (λ m. mem m h) c) (join-sum f r h cs)
  where
    go : (t : Bool) → sum (λ c. sum f c) (join r h cs) ≡ sum (λ c. sum f c) cs + f r →
        sum (λ c. sum f c) (elim t as (λ _. List (List ℕ)) [ true ↦ (c ++ r ∷ []) ∷ cs | false ↦ c ∷ join r h cs ]) ≡ sum f c + sum (λ c. sum f c) cs + f r
    go true ih = omega (arith, sum_snoc f c r)
    go false ih = omega arith

-- Chain by chain is run by run
pub chain-sum : (f : ℕ → ℕ) (hs : List (List ℕ)) (r : ℕ) → sum (λ c. sum f c) (chs hs r) ≡ sum f (upto r)
unfolding chs upto
chain-sum f hs zero = unfold sum from in refl
chain-sum f hs (suc r) = join-sum f r (at hs r) (chs hs r) ∙ omega (arith, chain-sum f hs r, sum-last f 0 r, ap f (plus r))
  where
    plus : (r : ℕ) → 0 + r ≡ r
    plus r = omega arith

sum-out : (p : ℕ → Bool) (g : ℕ → ℕ) (x a n : ℕ) → (x < a) ⊎ (a + n ≤ x) → sum (λ m. cond (eqb m x || p m) (g m) 0) (from a n) ≡ sum (λ m. cond (p m) (g m) 0) (from a n)
unfolding sum from
sum-out p g x a zero h = refl
sum-out p g x a (suc n) h = rw (ne_eqb a x (ne h)) (ap (λ k. cond (p a) (g a) 0 + k) (sum-out p g x (suc a) n (on h)))
  where
    ne : (x < a) ⊎ (a + suc n ≤ x) → a ≡ x → ⊥
    ne (inl l) e = omega arith
    ne (inr l) e = omega arith

    on : (x < a) ⊎ (a + suc n ≤ x) → (x < suc a) ⊎ (suc a + n ≤ x)
    on (inl l) = inl (omega arith)
    on (inr l) = inr (omega arith)

sum_in : (p : ℕ → Bool) (g : ℕ → ℕ) (x a n : ℕ) → p x ≡ false → a ≤ x → x < a + n → sum (λ m. cond (eqb m x || p m) (g m) 0) (from a n) ≡ g x + sum (λ m. cond (p m) (g m) 0) (from a n)
unfolding sum from
sum_in p g x a zero e h k = absurd (omega arith)
sum_in p g x a (suc n) e h k = go (eq_or-not a x) (λ q. sum_in p g x (suc a) n e q (omega arith))
  where
    go : (a ≡ x) ⊎ (a ≡ x → ⊥) → (suc a ≤ x → sum (λ m. cond (eqb m x || p m) (g m) 0) (from (suc a) n) ≡ g x + sum (λ m. cond (p m) (g m) 0) (from (suc a) n)) →
        cond (eqb a x || p a) (g a) 0 + sum (λ m. cond (eqb m x || p m) (g m) 0) (from (suc a) n) ≡ g x + (cond (p a) (g a) 0 + sum (λ m. cond (p m) (g m) 0) (from (suc a) n))
    go (inl q) rec =
        let z : p a ≡ false = ap p q ∙ e in
        rw (eq-eqb a x q, z) (omega (arith, ap g q, sum-out p g x (suc a) n (inl (omega arith))))
    go (inr q) rec = rw (ne_eqb a x q) (omega (arith, rec (omega arith)))

-- A set's sum is over the runs in it
pub set_sum : (n : ℕ) (g : ℕ → ℕ) (s : List ℕ) → Once s → ((m : ℕ) → mem m s ≡ true → m < n) → sum g s ≡ sum (λ m. cond (mem m s) (g m) 0) (upto n)
unfolding sum mem upto
set_sum n g [] o b = sym (sum-zero (from 0 n))
set_sum n g (x ∷ xs) o b =
    omega (arith, set_sum n g xs o.1 (λ m q. b m (or_right (eqb m x) q)), sum_in (λ m. mem m xs) g x 0 n o.0 (omega arith) (omega (arith, b x (or_left (mem x xs) (eq-eqb x x refl)))))

take_more : (size : ℕ → ℕ) (k x : ℕ) (xs : List ℕ) → sum size (take (1 + k) (x ∷ xs)) ≡ size x + sum size (take k xs)
unfolding sum
take_more size k x xs = let e : 1 + k ≡ suc k = omega arith in rw e

take_no : (size : ℕ → ℕ) (k : ℕ) (xs : List ℕ) → k ≡ 0 → sum size (take k xs) ≡ 0
unfolding sum
take_no size k xs e = rw e

-- Along a chain that both sets meet in prefixes
chain-apart : (size : ℕ → ℕ) (p q : ℕ → Bool) (c : List ℕ) → Falls p c → Falls q c →
    sum (λ m. cond (p m) (cond (not (q m)) (size m) 0) 0) c ≡ sum size (take (count p c) c) - sum size (take (count q c) c)
unfolding sum count
chain-apart size p q [] f g = refl
chain-apart size p q (x ∷ xs) f g = go (p x) refl (q x) refl (chain-apart size p q xs (tail p x xs f) (tail q x xs g))
  where
    go : (s : Bool) → p x ≡ s → (t : Bool) → q x ≡ t →
        sum (λ m. cond (p m) (cond (not (q m)) (size m) 0) 0) xs ≡ sum size (take (count p xs) xs) - sum size (take (count q xs) xs) →
        cond s (cond (not t) (size x) 0) 0 + sum (λ m. cond (p m) (cond (not (q m)) (size m) 0) 0) xs ≡ sum size (take (bit s + count p xs) (x ∷ xs)) - sum size (take (bit t + count q xs) (x ∷ xs))
    go true e true d ih = omega (arith, take_more size (count p xs) x xs, take_more size (count q xs) x xs)
    go true e false d ih = omega (arith, take_more size (count p xs) x xs, take_no size (0 + count q xs) (x ∷ xs) (omega (arith, none_after q x xs d g)), take_no size (count q xs) xs (none_after q x xs d g))
    go false e t d ih = omega (arith, take_no size (0 + count p xs) (x ∷ xs) (omega (arith, none_after p x xs e f)), take_no size (count p xs) xs (none_after p x xs e f))

sum-at : (f g : List ℕ → ℕ) (cs : List (List ℕ)) → ((i : ℕ) → i < length cs → f (at cs i) ≡ g (at cs i)) → sum f cs ≡ sum g cs
unfolding sum at
sum-at f g [] h = refl
sum-at f g (c ∷ cs) h = ap₂ ◌+◌ (h 0 (omega arith)) (sum-at f g cs (λ i l. h (suc i) (omega arith)))

-- Events along a chain, up to the part in a set
abbrev pub up_to : (ℕ → ℕ) → List ℕ → List ℕ → ℕ
up_to size s c = sum size (take (cnt s c) c)

-- those in just one of two sets
abbrev pub gap : (ℕ → ℕ) → List ℕ → List ℕ → List ℕ → ℕ
gap size s t c = (up_to size s c - up_to size t c) + (up_to size t c - up_to size s c)

module _ (pss : List (List ℕ)) where
  abbrev C : List (List ℕ)
  C = chs (histories pss) (length pss)

  half : (size : ℕ → ℕ) (s t : List ℕ) → Closed pss s → Closed pss t → sum (λ m. cond (not (mem m t)) (size m) 0) s ≡ sum (λ c. up_to size s c - up_to size t c) C
  half size s t c d =
      set_sum (length pss) (λ m. cond (not (mem m t)) (size m) 0) s c.once c.under ∙
      (sym (chain-sum (λ m. cond (mem m s) (cond (not (mem m t)) (size m) 0) 0) (histories pss) (length pss)) ∙
      sum-at (λ x. sum (λ m. cond (mem m s) (cond (not (mem m t)) (size m) 0) 0) x) (λ x. up_to size s x - up_to size t x) C
      (λ i l. chain-apart size (λ m. mem m s) (λ m. mem m t) (at C i) (closed_falls pss s c (length pss) i) (closed_falls pss t d (length pss) i)))

  -- The events in just one of two sets, chain by chain
  pub apart-chains : (w : Range) (s t : List ℕ) → Closed pss s → Closed pss t → apart w s t ≡ sum (gap (λ m. get_or w.sizes m 0) s t) C
  unfolding apart
  apart-chains w s t c d =
      let size : ℕ → ℕ = λ m. get_or w.sizes m 0 in
      ap₂ ◌+◌ (half size s t c d) (half size t s d c) ∙ sum-plus (λ x. up_to size s x - up_to size t x) (λ x. up_to size t x - up_to size s x) C
