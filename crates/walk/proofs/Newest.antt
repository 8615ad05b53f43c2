-- The last 64 ready runs, newest first, by their places. Assumes nothing.
use Rattle.std.proofs.Common.{◌≡◌, refl, sym, ap, ◌∙◌, ◌⊎◌, inl, inr, List, [], ◌∷◌, ◌++◌, append_assoc, ℕ, suc, ◌-◌, ◌≤◌, ◌<◌, min, arith, length, get_or, take, length-append, length-take}
use Rattle.std.proofs.Common.{get_or-take, length-take-le}
use lib.ListN.{get_or-append}
use lib.Seq.{get_or-append_seam}
use Rattle.lists.specs.Lists.{reverse}
use Rattle.lists.proofs.Truth.{eq_or-not}

-- A list backwards
rev_onto : (done xs : List ℕ) → reverse done xs ≡ reverse [] xs ++ done
unfolding reverse
rev_onto done [] = refl
rev_onto done (x ∷ xs) =
    rev_onto (x ∷ done) xs ∙
    sym (ap (λ (l : List ℕ). l ++ done) (rev_onto (x ∷ []) xs) ∙ append_assoc (reverse [] xs) (x ∷ []) done)

rev_length : (xs : List ℕ) → length (reverse [] xs) ≡ length xs
unfolding reverse
rev_length [] = refl
rev_length (x ∷ xs) = ap length (rev_onto (x ∷ []) xs) ∙ omega (arith, length-append (reverse [] xs) (x ∷ []), rev_length xs)

rev_at : (xs : List ℕ) (i : ℕ) → i < length xs → get_or (reverse [] xs) i 0 ≡ get_or xs (length xs - 1 - i) 0
unfolding reverse
rev_at [] i l = absurd (omega arith)
rev_at (x ∷ xs) i l = ap (λ (l : List ℕ). get_or l i 0) (rev_onto (x ∷ []) xs) ∙ go (eq_or-not i (length xs)) (λ q. rev_at xs i q)
  where
    go : (i ≡ length xs) ⊎ (i ≡ length xs → ⊥) → (i < length xs → get_or (reverse [] xs) i 0 ≡ get_or xs (length xs - 1 - i) 0) →
        get_or (reverse [] xs ++ x ∷ []) i 0 ≡ get_or (x ∷ xs) (suc (length xs) - 1 - i) 0
    go (inl e) rec =
        let z : suc (length xs) - 1 - i ≡ 0 = omega arith in
        let e₂ : i ≡ length (reverse [] xs) = omega (arith, rev_length xs) in
        rw z (ap (λ (k : ℕ). get_or (reverse [] xs ++ x ∷ []) k 0) e₂ ∙ get_or-append_seam (reverse [] xs) x [] 0)
    go (inr n) rec =
        let z : suc (length xs) - 1 - i ≡ suc (length xs - 1 - i) = omega arith in
        rw z (get_or-append (reverse [] xs) (x ∷ []) 0 i (omega (arith, rev_length xs)) ∙ rec (omega arith))

-- The last 64 of n ready runs, newest first
abbrev pub newest : List ℕ → ℕ → List ℕ
newest ready n = take 64 (reverse [] (take n ready))

pub newest_at : (ready : List ℕ) (n i : ℕ) → n ≤ length ready → i < length (newest ready n) → get_or (newest ready n) i 0 ≡ get_or ready (n - 1 - i) 0
newest_at ready n i le l =
    let len : length (take n ready) ≡ n = length-take-le n ready le in
    let q : i < 64 = omega (arith, length-take 64 (reverse [] (take n ready))) in
    let q₂ : i < length (take n ready) = omega (arith, length-take 64 (reverse [] (take n ready)), rev_length (take n ready)) in
    get_or-take 64 (reverse [] (take n ready)) i 0 q ∙
    (rev_at (take n ready) i q₂ ∙ (ap (λ (k : ℕ). get_or (take n ready) (k - 1 - i) 0) len ∙ get_or-take n ready (n - 1 - i) 0 (omega arith)))

pub newest_length : (ready : List ℕ) (n : ℕ) → n ≤ length ready → length (newest ready n) ≡ min 64 n
newest_length ready n le = length-take 64 (reverse [] (take n ready)) ∙ ap (min 64) (rev_length (take n ready) ∙ length-take-le n ready le)
