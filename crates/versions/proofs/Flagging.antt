-- Flags of some runs, and a flag as a truth. Assumes nothing.
use Rattle.std.proofs.Common.{◌≡◌, refl, ap, ◌∙◌, ◌⊎◌, inl, inr, Bool, true, false, not, cond, ◌&&◌, ◌||◌, List, [], ◌∷◌, ℕ, zero, suc, ◌<◌, arith, length, get_or, replicate, set, length-set}
use Rattle.std.proofs.Common.{get_or-set_same, get_or-set_other, eqb, eq-eqb, ne_eqb}
use Rattle.lists.specs.Lists.{mem}
use Rattle.lists.proofs.Truth.{eq_or-not, false_true}
use Rattle.versions.specs.Flags.{flag_all}

-- Read of a list of one value, or past its end
pub replicated : {A : Type 0} (n q : ℕ) (d : A) → get_or (replicate n d) q d ≡ d
replicated zero q d = refl
replicated (suc n) zero d = refl
replicated (suc n) (suc q) d = replicated n q d

-- Flags for some runs
pub flag_length : (flags : List Bool) (ps : List ℕ) → length (flag_all flags ps) ≡ length flags
unfolding flag_all
flag_length flags [] = refl
flag_length flags (p ∷ ps) = flag_length (set flags p true) ps ∙ length-set flags p true

pub flag_get : (flags : List Bool) (ps : List ℕ) (q : ℕ) → q < length flags → get_or (flag_all flags ps) q false ≡ cond (mem q ps) true (get_or flags q false)
unfolding flag_all mem
flag_get flags [] q h = refl
flag_get flags (p ∷ ps) q h = flag_get (set flags p true) ps q (omega (arith, length-set flags p true)) ∙ go (eq_or-not q p) (mem q ps)
  where
    go : (q ≡ p) ⊎ (q ≡ p → ⊥) → (t : Bool) → cond t true (get_or (set flags p true) q false) ≡ cond (eqb q p || t) true (get_or flags q false)
    go (inl e) true = rw (eq-eqb q p e)
    go (inl e) false = rw (eq-eqb q p e) (ap (λ (k : ℕ). get_or (set flags p true) k false) e ∙ get_or-set_same flags p true false (omega arith))
    go (inr n) true = rw (ne_eqb q p n)
    go (inr n) false = rw (ne_eqb q p n) (get_or-set_other flags p q true false n)

pub flag_in : (flags : List Bool) (ps : List ℕ) (q : ℕ) → q < length flags → mem q ps ≡ true → get_or (flag_all flags ps) q false ≡ true
flag_in flags ps q h m = flag_get flags ps q h ∙ rw m

pub flag_stays : (flags : List Bool) (ps : List ℕ) (q : ℕ) → q < length flags → get_or flags q false ≡ true → get_or (flag_all flags ps) q false ≡ true
flag_stays flags ps q h e = flag_get flags ps q h ∙ go (mem q ps)
  where
    go : (t : Bool) → cond t true (get_or flags q false) ≡ true
    go true = refl
    go false = e

pub decided : (t : Bool) → (t ≡ true) ⊎ (t ≡ false)
decided true = inl refl
decided false = inr refl

pub only-first : (m : Bool) → not m ≡ true && not m && not false && not false
only-first true = refl
only-first false = refl

pub only_second : (m : Bool) → not m ≡ true && not false && not m && not false
only_second true = refl
only_second false = refl

pub free-is : (b t : Bool) → (t ≡ true → b ≡ true) → (b ≡ false) ⊎ (t ≡ true) → not b ≡ not t
free-is b true h k = ap not (h refl)
free-is b false h (inl e) = ap not e
free-is b false h (inr e) = false_true e
