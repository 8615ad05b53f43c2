-- Records written into a lent list, one after the other: what they leave, in closed form. Assumes nothing.
use Rattle.std.proofs.Common.{◌≡◌, refl, sym, ap, ◌∙◌, Bool, cond, List, [], ◌∷◌, ◌++◌, map, append_assoc, ℕ, zero, suc, ◌+◌, ◌*◌, ◌/◌, ◌<◌, ◌≤◌, div-mul-le_self, suc-mul, zero-mul}
use Rattle.std.proofs.Common.{zero-add, add-one, arith, length, take, drop, length-append, length-drop, take_at, drop-drop, ltb, lt-ltb, le-ltb, Ok, Err}
use lib.Seq.{take-nil, drop-append-add}
use lib.Dec.{leb-suc-suc}
use Rattle.lists.specs.Lists.{concat}
use Rattle.lists.specs.Areas.{over}
use Rattle.model.specs.declared.answers.Written.{Written}
use Rattle.model.specs.declared.answers.Refusal.{Refusal}
use Rattle.model.specs.declared.answers.Refusal.TheVariants.{ListTooShort}
use Rattle.model.specs.Refusals.{Outcome}
use Rattle.model.specs.Cut.{writing}
use Rattle.graph.specs.Records.{blank, put, put_all}

-- Where a record goes
module _ (size k : ℕ) (l ws : List ℕ) where
  -- one did not fit before
  put-after : (r : Refusal) → put size (record { count = k; outcome = Err r }, l) ws ≡ (record { count = k; outcome = Err r }, l)
  unfolding put
  put-after r = refl

  -- it does not fit
  pub put-none : length l / size ≤ k → put size (record { count = k; outcome = Ok tt }, l) ws ≡ (record { count = k; outcome = Err ListTooShort }, l)
  unfolding put
  put-none h = rw (le-ltb k (length l / size) h)

  -- it fits
  pub put_one_lem : k < length l / size →
      put size (record { count = k; outcome = Ok tt }, l) ws ≡ (record { count = k + 1; outcome = Ok tt }, take (k * size) l ++ ws ++ drop (k * size + size) l)
  unfolding put
  put_one_lem h = rw (lt-ltb k (length l / size) h)

-- Some records, and then others
pub put-append : (size : ℕ) (w : Written × List ℕ) (xs ys : List (List ℕ)) → put_all size w (xs ++ ys) ≡ put_all size (put_all size w xs) ys
unfolding put_all
put-append size w [] ys = refl
put-append size w (x ∷ xs) ys = put-append size (put size w x) xs ys

-- Once one is refused
pub refused_stays : (size k : ℕ) (r : Refusal) (l : List ℕ) (ws : List (List ℕ)) →
    put_all size (record { count = k; outcome = Err r }, l) ws ≡ (record { count = k; outcome = Err r }, l)
unfolding put_all
refused_stays size k r l [] = refl
refused_stays size k r l (w ∷ ws) = rw (put-after size k l w r) (refused_stays size k r l ws)

put_eq : {n m : ℕ} {s t : Outcome} {l k : List ℕ} → n ≡ m → s ≡ t → l ≡ k → ◌≡◌ {A = Written × List ℕ} (record { count = n; outcome = s }, l) (record { count = m; outcome = t }, k)
put_eq p q e = λ i. (record { count = p i; outcome = q i }, e i)

over_more : (a b l : List ℕ) → a ++ over b (drop (length a) l) ≡ over (a ++ b) l
unfolding over
over_more a b l = rw (length-append a b, ← drop-drop (length b) (length a) l, append_assoc a b)

-- refusal 11 where one did not fit
abbrev short_if : Bool → Outcome
short_if b = cond b (Err ListTooShort) (Ok tt)

-- Records of one size
module _ {A : Type 0} (size : ℕ) (f : A → List ℕ) (same : (x : A) → length (f x) ≡ size) where
  -- after k records, with room for j more
  put-room : (xs : List A) (j k : ℕ) (front rest : List ℕ) → length front ≡ k * size → j * size ≤ length rest → length (front ++ rest) / size ≡ k + j →
      put_all size (record { count = k; outcome = Ok tt }, front ++ rest) (map f xs) ≡
      (record { count = k + length (take j (map f xs)); outcome = short_if (ltb j (length (map f xs))) }, front ++ over (concat (take j (map f xs))) rest)
  unfolding put_all concat over
  put-room [] j k front rest e h r = rw (take-nil j) (put_eq (omega arith) (ap short_if (sym (le-ltb j 0 (omega arith)))) refl)
  put-room (x ∷ xs) zero k front rest e h r =
      ap (λ (w : Written × List ℕ). put_all size w (map f xs)) (put-none size k (front ++ rest) (f x) (omega arith)) ∙
      (refused_stays size k ListTooShort (front ++ rest) (map f xs) ∙ put_eq (omega arith) (ap short_if (sym (lt-ltb 0 (suc (length (map f xs))) (omega arith)))) refl)
  put-room (x ∷ xs) (suc j) k front rest e h r =
      ap (λ (w : Written × List ℕ). put_all size w (map f xs)) (put_one_lem size k (front ++ rest) (f x) (omega arith)) ∙
      (ap (λ (l : List ℕ). put_all size (record { count = k + 1; outcome = Ok tt }, l) (map f xs)) moved ∙
      (put-room xs j (k + 1) (front ++ f x) (drop (length (f x)) rest) longer left whole ∙
      put_eq (omega arith) (ap short_if (sym (leb-suc-suc (suc j) (length (map f xs)))))
      (append_assoc front (f x) (over (concat (take j (map f xs))) (drop (length (f x)) rest)) ∙ ap (λ (l : List ℕ). front ++ l) (over_more (f x) (concat (take j (map f xs))) rest))))
    where
      size_in_lem : size + j * size ≤ length rest
      size_in_lem = omega (arith, h, suc-mul j size)

      longer : length (front ++ f x) ≡ (k + 1) * size
      longer = rw (add-one k) (omega (arith, length-append front (f x), same x, suc-mul k size))

      left : j * size ≤ length (drop (length (f x)) rest)
      left = omega (arith, length-drop (length (f x)) rest, same x)

      whole : length (front ++ f x ++ drop (length (f x)) rest) / size ≡ k + 1 + j
      whole = ap (λ (n : ℕ). n / size)
          (omega (arith, length-append (front ++ f x) (drop (length (f x)) rest), length-append front (f x), length-append front rest, length-drop (length (f x)) rest, same x)) ∙ (r ∙ omega arith)

      moved : take (k * size) (front ++ rest) ++ f x ++ drop (k * size + size) (front ++ rest) ≡ front ++ f x ++ drop (length (f x)) rest
      moved = rw (take_at front rest (k * size) e, ← e, drop-append-add front rest size, same x)

  -- The whole records that fit, and whether all did
  pub put-writing : (xs : List A) (lent : List ℕ) → put_all size (blank, lent) (map f xs) ≡ writing size (map f xs) lent
  unfolding writing
  put-writing xs lent =
      put-room xs (length lent / size) 0 [] lent (sym (zero-mul size)) (div-mul-le_self (length lent) size) (omega arith) ∙
      put_eq (zero-add (length (take (length lent / size) (map f xs)))) refl refl
