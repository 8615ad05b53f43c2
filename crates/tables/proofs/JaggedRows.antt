-- Rows of words that lie one after another: how many there are, and each of them. Assumes nothing.
use Rattle.std.proofs.Common.{add-one, ◌≡◌, List, [], ◌∷◌, ℕ, zero, suc, ◌+◌, ◌-◌, ◌≤◌, ◌<◌, length, get_or, take, drop, sym, ap, ap₂, ◌∙◌, subst, arith, length-append}
use Rattle.std.proofs.lemmas.List.FromFn.{length-map-range_with_len, get_or-map-range_with_len}
use Rattle.std.proofs.lemmas.List.{ext_get_or, take_more}
use Rattle.std.proofs.Math.Seq.{take_all}
use Rattle.lists.specs.Lists.{concat}
use Rattle.lists.specs.Areas.{part}
use Rattle.lists.proofs.Groups.{concat-append, concat-split, length_part}
use Rattle.model.specs.History.{at}
use Rattle.tables.specs.Laid.{grouped, Sound}
use Rattle.tables.specs.Jagged.{rows_in, Lies, Below}
use Rattle.tables.proofs.ParentGroups.{groups-size, group_part, group_long}

pub rows-number : (starts items : List ℕ) (n : ℕ) → length (rows_in starts items n) ≡ n
unfolding rows_in
rows-number starts items n = length-map-range_with_len (λ r. part (get_or starts r 0) (get_or starts (r + 1) 0) items) 0 n

pub row_part : (starts items : List ℕ) (n r : ℕ) → r < n → at (rows_in starts items n) r ≡ part (get_or starts r 0) (get_or starts (r + 1) 0) items
unfolding rows_in at
row_part starts items n r lt = get_or-map-range_with_len (λ k. part (get_or starts k 0) (get_or starts (k + 1) 0) items) 0 n r r [] lt (omega arith)

-- Row r, seen as one of `rows`, is lent from its start s up to the next one's, e
module _ (starts items : List ℕ) (n : ℕ) (rows : List (List ℕ)) (view : rows_in starts items n ≡ rows) (r : ℕ) (within : r < length rows) where
  pub row-below : r < n
  row-below = omega (arith, rows-number starts items n, ap length view)

  pub row-lies : (s e : ℕ) → Lies starts items n → s ≡ get_or starts r 0 → e ≡ get_or starts (r + 1) 0 → (s ≤ e) × (e ≤ length items)
  row-lies s e lies p q = (omega (arith, lies.rise r row-below), omega (arith, lies.inside r row-below))

  pub row_lent : (s e : ℕ) → s ≡ get_or starts r 0 → e ≡ get_or starts (r + 1) 0 → take (e - s) (drop s items) ≡ at rows r
  unfolding part
  row_lent s e p q = ap₂ (λ (a b : ℕ). part a b items) p q ∙ (sym (row_part starts items n r row-below) ∙ ap (λ (l : List (List ℕ)). at l r) view)

one_row : (row : List ℕ) → length (concat (row ∷ [])) ≡ length row
unfolding concat
one_row row = omega (arith, length-append row [])

-- The rows up to row r, and that row
pub rows_more : (rows : List (List ℕ)) (r : ℕ) → r < length rows → length (concat (take (r + 1) rows)) ≡ length (concat (take r rows)) + length (at rows r)
unfolding at
rows_more rows r lt =
    ap (λ (l : List (List ℕ)). length (concat l)) (take_more rows r [] lt)
    ∙ (ap length (concat-append (take r rows) (get_or rows r [] ∷ [])) ∙ omega (arith, length-append (concat (take r rows)) (concat (get_or rows r [] ∷ [])), one_row (get_or rows r [])))

pub rows-most : (rows : List (List ℕ)) (r : ℕ) → length (concat (take r rows)) ≤ length (concat rows)
rows-most rows r = omega (arith, ap length (concat-split r rows), length-append (concat (take r rows)) (concat (drop r rows)))

-- The items of rows that lie in a list are no more than the last start says
pub rows-end : (starts items : List ℕ) (n : ℕ) → Lies starts items n → length (concat (rows_in starts items n)) ≤ get_or starts n 0
rows-end starts items n lies =
    omega (arith, up n (omega arith), ap (λ (l : List (List ℕ)). length (concat l)) (take_all n (rows_in starts items n) (omega (arith, rows-number starts items n))))
  where
    up : (r : ℕ) → r ≤ n → length (concat (take r (rows_in starts items n))) ≤ get_or starts r 0
    up zero le = unfold concat in omega arith
    up (suc r) le =
        let e : suc r ≡ r + 1 = omega arith in
        let lt : r < n = omega arith in
        rw e
        (omega (
          arith,
          up r (omega arith),
          rows_more (rows_in starts items n) r (omega (arith, rows-number starts items n)),
          ap length (row_part starts items n r lt),
          length_part (get_or starts r 0) (get_or starts (r + 1) 0) items (lies.rise r lt) (lies.inside r lt),
        ))

-- Of starts that are long enough, the rows are the groups
pub rows_grouped : (starts items : List ℕ) (n : ℕ) → n < length starts → rows_in starts items n ≡ grouped starts items n
unfolding at
rows_grouped starts items n long =
    ext_get_or [] (rows_in starts items n) (grouped starts items n) (rows-number starts items n ∙ sym (groups-size starts items n long))
    (λ r lt. let q : r < n = omega (arith, lt, rows-number starts items n) in row_part starts items n r q ∙ sym (group_part starts items n r long q))

-- The groups' items are no more than the last start says
pub items-most : (starts items : List ℕ) (n : ℕ) → Sound starts items n → length (concat (grouped starts items n)) ≤ get_or starts n 0
items-most starts items n sound =
    omega (arith, up n (omega arith), ap (λ (l : List (List ℕ)). length (concat l)) (take_all n (grouped starts items n) (omega (arith, size))))
  where
    size : length (grouped starts items n) ≡ n
    size = groups-size starts items n sound.long

    up : (r : ℕ) → r ≤ n → length (concat (take r (grouped starts items n))) ≤ get_or starts r 0
    up zero le = unfold concat in omega arith
    up (suc r) le =
        let e : suc r ≡ r + 1 = omega arith in
        rw e (omega (arith, up r (omega arith), rows_more (grouped starts items n) r (omega (arith, size)), group_long starts items n r sound (omega arith)))

nothing-long : (l : List (List ℕ)) → length l ≡ 0 → length (concat l) ≡ 0
unfolding concat
nothing-long [] e = omega arith
nothing-long (x ∷ xs) e = absurd (omega arith)

-- nor more than there are
pub items-fit : (starts items : List ℕ) (n : ℕ) → Sound starts items n → length (concat (grouped starts items n)) ≤ length items
items-fit starts items zero sound = omega (arith, nothing-long (grouped starts items 0) (groups-size starts items 0 sound.long))
items-fit starts items (suc k) sound =
    omega (arith, items-most starts items (suc k) sound, (sound.inside k (omega arith)).1, ap (λ (i : ℕ). get_or starts i 0) (add-one k))

-- What rows are that are made of a range's parents
module _ (heads items : List ℕ) (n : ℕ) (sound : Sound heads items n) (rows : List (List ℕ)) (made : rows ≡ rows_in heads items n) where
  pub rows_are : rows ≡ grouped heads items n
  rows_are = made ∙ rows_grouped heads items n sound.long

  pub rows_size : length rows ≡ n
  rows_size = ap length made ∙ rows-number heads items n

  pub rows-below : Below rows
  rows-below = subst Below (sym rows_are) sound.below

  pub rows-fit : length (concat rows) ≤ length items
  rows-fit = omega (arith, ap (λ (l : List (List ℕ)). length (concat l)) rows_are, items-fit heads items n sound)

  -- and what holds of the rows holds of the groups
  pub as_groups : (P : List (List ℕ) → ℕ → Type 0) → P rows (length rows) → P (grouped heads items n) n
  as_groups P h = subst (λ (k : ℕ). P (grouped heads items n) k) rows_size (subst (λ (l : List (List ℕ)). P l (length rows)) rows_are h)
