-- The loops behind the archive points, turn by turn. Assumes nothing.
use Rattle.std.proofs.Common.{Some, None, slice_get, ◌≡◌, refl, sym, ap, ◌∙◌, ◌⊎◌, inl, inr, Bool, true, false, cond, List, [], ◌∷◌, ℕ, ◌+◌, ◌-◌, ◌≤◌, ◌<◌, add-one, arith, length, get_or, drop}
use Rattle.std.proofs.Common.{set, get_or-set_same, get_or-set_other}
use Rattle.std.proofs.lemmas.Option.{get_or_from_slice_get, slice_get-get_or}
use Rattle.std.specs.List.{count_by, All}
use Rattle.std.proofs.lemmas.List.Recursion.{is_count_by}
use Rattle.lists.specs.Lists.{bit, count}
use Rattle.lists.proofs.Truth.{eq_or-not, lt_of_ne, lt_or_le}
use Rattle.versions.specs.Heads.{Child, last_in, highest_by, noted, note_all, first_children, is_head, head_count}
use Rattle.lists.specs.Areas.{part}
use Rattle.versions.proofs.Passes.{left-first, left_none, part-first, part_none, row_each}
use Rattle.versions.proofs.FirstChildren.{firsts-length}

-- The items of a list, one by one
module _ (xs : List ℕ) (i : ℕ) where
  -- noted
  pub note-next : (firsts : List Child) (c : ℕ) → i < length xs →
      note_all (set firsts (get_or xs i 0) (noted (get_or firsts (get_or xs i 0) None) c)) c (drop (i + 1) xs) ≡ note_all firsts c (drop i xs)
  unfolding note_all
  note-next firsts c h = sym (ap (note_all firsts c) (left-first xs i h))

  pub note-none : (firsts : List Child) (c : ℕ) → length xs ≤ i → firsts ≡ note_all firsts c (drop i xs)
  unfolding note_all
  note-none firsts c h = sym (ap (note_all firsts c) (left_none xs i h))

-- The items of a part, one by one: counted
module _ (items : List ℕ) (to : ℕ) (fits : to ≤ length items) (i : ℕ) where
  pub part_count : (p : ℕ → Bool) → i < to → count p (part i to items) ≡ bit (p (get_or items i 0)) + count p (part (i + 1) to items)
  unfolding count
  part_count p h = ap (count p) (part-first items to fits i h)

  pub part-ends : (p : ℕ → Bool) → to ≤ i → count p (part i to items) ≡ 0
  unfolding count
  part-ends p h = ap (count p) (part_none items to fits i h)

-- How many pass a test, in std's word
pub count_is : (p : ℕ → Bool) (xs : List ℕ) → count p xs ≡ count_by p xs
unfolding count
count_is p xs = is_count_by (count p) p refl (λ x ys. go (p x) ys) xs
  where
    go : (t : Bool) (ys : List ℕ) → bit t + count p ys ≡ cond t (1 + count p ys) (count p ys)
    go true ys = refl
    go false ys = omega arith

-- Run by run
pub children-next : (rows : ℕ → List ℕ) (c : ℕ) → note_all (first_children rows c) c (rows c) ≡ first_children rows (c + 1)
unfolding first_children
children-next rows c = rw (add-one c)

pub count_turn : (firsts : List Child) (rows : ℕ → List ℕ) (m : ℕ) → head_count firsts rows m + 1 - count (is_head firsts m) (rows m) ≡ head_count firsts rows (m + 1)
unfolding head_count
count_turn firsts rows m = rw (add-one m)

pub count-start : (firsts : List Child) (rows : ℕ → List ℕ) → 0 ≡ head_count firsts rows 0
unfolding head_count
count-start firsts rows = refl

-- A table filled place by place
pub filled_next : {A : Type 0} (d : A) (f : ℕ → A) (a : List A) (i : ℕ) (v : A) → i < length a → ((k : ℕ) → k < i → get_or a k d ≡ f k) → v ≡ f i →
    (k : ℕ) → k < i + 1 → get_or (set a i v) k d ≡ f k
filled_next d f a i v h done e k lt = go (eq_or-not k i)
  where
    go : (k ≡ i) ⊎ (k ≡ i → ⊥) → get_or (set a i v) k d ≡ f k
    go (inl z) = rw z (get_or-set_same a i v d h ∙ e)
    go (inr z) = get_or-set_other a i k v d z ∙ done k (lt_of_ne k i (omega arith) z)

-- The last parent, if there is one
pub last_some : (ps : List ℕ) (p : ℕ) → Some p ≡ slice_get ps (length ps - 1) → (last_in ps ≡ p) × (0 < length ps)
unfolding last_in
last_some [] p e = cc
last_some (q ∷ ps) p e = (get_or_from_slice_get (q ∷ ps) (length (q ∷ ps) - 1) p 0 (sym e), omega arith)

pub last_none : (ps : List ℕ) → None ≡ slice_get ps (length ps - 1) → length ps ≡ 0
last_none ps e = go (lt_or_le 0 (length ps))
  where
    go : (0 < length ps) ⊎ (length ps ≤ 0) → length ps ≡ 0
    go (inl lt) = let f : slice_get ps (length ps - 1) ≡ Some (get_or ps (length ps - 1) 0) = slice_get-get_or ps (length ps - 1) 0 (omega arith) in cc
    go (inr le) = omega arith

pub last-below : (ps : List ℕ) (n : ℕ) → All (λ p. p < n) ps → 0 < length ps → last_in ps < n
unfolding last_in
last-below ps n b h = b (length ps - 1) 0 (omega arith)

-- The last run that may start at a point, by that parent
pub highest-is : (whole : ℕ → List ℕ → Bool) (ps : List ℕ) → 0 < length ps → highest_by whole ps ≡ cond (whole (last_in ps + 1) ps) (last_in ps + 1) (last_in ps)
unfolding highest_by
highest-is whole [] h = absurd (omega arith)
highest-is whole (p ∷ ps) h = rw (add-one (last_in (p ∷ ps)))

pub highest-none : (whole : ℕ → List ℕ → Bool) (ps : List ℕ) → length ps ≡ 0 → 0 ≡ highest_by whole ps
unfolding highest_by
highest-none whole [] h = refl
highest-none whole (p ∷ ps) h = absurd (omega arith)

-- What the loops over a run's parents, and over runs, go by
pub ruleset noting = (note-next, note-none)

pub ruleset children = (row_each, firsts-length, children-next)

pub ruleset heads_on = (row_each, count_turn, filled_next)

pub ruleset last_parent = (last_some, last_none, last-below, highest-is, highest-none)
