-- The rows that fit, and all of them, are those of the runs so far, one after another. Assumes nothing.
use Rattle.std.proofs.Common.{◌≡◌, refl, sym, ap, ◌∙◌, ◌⊎◌, inl, inr, Bool, true, false, List, [], ◌∷◌, ◌++◌, append_assoc, append-nil, ℕ, suc, ◌+◌, ◌-◌, ◌≤◌, ◌<◌, arith, length, get_or}
use Rattle.std.proofs.Common.{length-append, leb, le-leb}
use borrow.Author.Tests.{lt-leb}
use Rattle.lists.specs.Lists.{concat}
use Rattle.lists.specs.Areas.{fitting}
use Rattle.lists.proofs.Truth.{eq_or-not, false_true}
use Rattle.model.specs.History.{at}
use Rattle.model.specs.Range.{chains_from, rows_from}
use Rattle.tables.specs.Laid.{chs, row_at, flat}
use Rattle.tables.proofs.Making.{flat_up}
use Rattle.tables.proofs.Placing.{flat-suc}

fit_yes : (room : ℕ) (r : List ℕ) (rs : List (List ℕ)) → length r ≤ room → concat (fitting room (r ∷ rs)) ≡ r ++ concat (fitting (room - length r) rs)
unfolding fitting concat
fit_yes room r rs le = go (leb (length r) room) (le-leb (length r) room le)
  where
    go : (t : Bool) → t ≡ true → concat (elim t as (λ _. List (List ℕ)) [ true ↦ r ∷ fitting (room - length r) rs | false ↦ [] ]) ≡ r ++ concat (fitting (room - length r) rs)
    go true e = refl
    go false e = false_true e

fit_no : (room : ℕ) (r : List ℕ) (rs : List (List ℕ)) → room < length r → concat (fitting room (r ∷ rs)) ≡ []
unfolding fitting concat
fit_no room r rs gt = go (leb (length r) room) (lt-leb (length r) room gt)
  where
    go : (t : Bool) → t ≡ false → ◌≡◌ {A = List ℕ} (concat (elim t as (λ _. List (List ℕ)) [ true ↦ r ∷ fitting (room - length r) rs | false ↦ [] ])) []
    go true e = false_true (sym e)
    go false e = refl

-- The rows that fit, of those that the definitions give
module _ (hs : List (List ℕ)) where
  abbrev Tail : ℕ → List (List ℕ) → Type 0
  Tail k l = (i : ℕ) → i < length l → at l i ≡ at hs (k + i)

  tail_next : (k : ℕ) (h : List ℕ) (l : List (List ℕ)) → Tail k (h ∷ l) → (h ≡ at hs k) × Tail (suc k) l
  unfolding at
  tail_next k h l t =
      (t 0 (omega arith) ∙ ap (λ (j : ℕ). get_or hs j []) (plus_none k), (λ i q. t (suc i) (omega arith) ∙ ap (λ (j : ℕ). get_or hs j []) (plus_suc k i)))
    where
      plus_none : (k : ℕ) → k + 0 ≡ k
      plus_none k = omega arith

      plus_suc : (k i : ℕ) → k + suc i ≡ suc k + i
      plus_suc k i = omega arith

  abbrev rows_tail : ℕ → List (List ℕ) → List (List ℕ)
  rows_tail k l = rows_from k (chs hs k) l

  rows_next : (k : ℕ) (h : List ℕ) (l : List (List ℕ)) → h ≡ at hs k → rows_tail k (h ∷ l) ≡ row_at hs k ∷ rows_tail (suc k) l
  unfolding rows_from row_at chs
  rows_next k h l e = rw e

  flat_step : (k : ℕ) (x : List ℕ) → flat hs k ++ (row_at hs k ++ x) ≡ flat hs (suc k) ++ x
  flat_step k x = sym (append_assoc (flat hs k) (row_at hs k) x) ∙ ap (λ (y : List ℕ). y ++ x) (sym (flat-suc hs k))

  row_room : (k : ℕ) → length (flat hs (suc k)) ≡ length (flat hs k) + length (row_at hs k)
  row_room k = ap length (flat-suc hs k) ∙ length-append (flat hs k) (row_at hs k)

  none_left : (k : ℕ) → flat hs k ++ [] ≡ flat hs (k + 0)
  none_left k = append-nil (flat hs k) ∙ ap (flat hs) (omega arith)

  over-suc : (k n : ℕ) → suc k + n ≡ k + suc n
  over-suc k n = omega arith

  -- all of them
  concat-rows : (k : ℕ) (l : List (List ℕ)) → Tail k l → flat hs k ++ concat (rows_tail k l) ≡ flat hs (k + length l)
  unfolding concat rows_from
  concat-rows k [] t = none_left k
  concat-rows k (h ∷ l) t =
      let n : (h ≡ at hs k) × Tail (suc k) l = tail_next k h l t in
      ap (λ (x : List (List ℕ)). flat hs k ++ concat x) (rows_next k h l n.0) ∙
      (flat_step k (concat (rows_tail (suc k) l)) ∙ (concat-rows (suc k) l n.1 ∙ ap (flat hs) (over-suc k (length l))))

  fit_one : (room k : ℕ) (x : List (List ℕ)) → length (flat hs (suc k)) ≤ room →
      flat hs k ++ concat (fitting (room - length (flat hs k)) (row_at hs k ∷ x)) ≡ flat hs (suc k) ++ concat (fitting (room - length (flat hs (suc k))) x)
  fit_one room k x le =
      let e : room - length (flat hs k) - length (row_at hs k) ≡ room - length (flat hs (suc k)) = omega (arith, row_room k) in
      rw (fit_yes (room - length (flat hs k)) (row_at hs k) x (omega (arith, row_room k)), e) (flat_step k (concat (fitting (room - length (flat hs (suc k))) x)))

  fit_none : (room k : ℕ) (x : List (List ℕ)) → length (flat hs k) ≤ room → room < length (flat hs (suc k)) →
      flat hs k ++ concat (fitting (room - length (flat hs k)) (row_at hs k ∷ x)) ≡ flat hs k
  fit_none room k x le gt = rw (fit_no (room - length (flat hs k)) (row_at hs k) x (omega (arith, row_room k))) (append-nil (flat hs k))

  fit_all : (room k : ℕ) (l : List (List ℕ)) → Tail k l → length (flat hs (k + length l)) ≤ room → flat hs k ++ concat (fitting (room - length (flat hs k)) (rows_tail k l)) ≡ flat hs (k + length l)
  unfolding fitting rows_from concat
  fit_all room k [] t le = none_left k
  fit_all room k (h ∷ l) t le =
      let n : (h ≡ at hs k) × Tail (suc k) l = tail_next k h l t in
      let e : flat hs (suc k + length l) ≡ flat hs (k + suc (length l)) = ap (flat hs) (over-suc k (length l)) in
      let up : length (flat hs (suc k)) ≤ room = omega (arith, flat_up hs (suc k) (k + suc (length l)) (omega arith)) in
      ap (λ (x : List (List ℕ)). flat hs k ++ concat (fitting (room - length (flat hs k)) x)) (rows_next k h l n.0) ∙
      (fit_one room k (rows_tail (suc k) l) up ∙ (fit_all room (suc k) l n.1 (omega (arith, ap length e)) ∙ e))

  fit_stop : (room k r : ℕ) (l : List (List ℕ)) → Tail k l → k ≤ r → r < k + length l → length (flat hs r) ≤ room → room < length (flat hs (suc r)) → flat hs k ++ concat (fitting (room - length (flat hs k)) (rows_tail k l)) ≡ flat hs r
  fit_stop room k r [] t kr rn le gt = absurd (omega arith)
  fit_stop room k r (h ∷ l) t kr rn le gt =
      let n : (h ≡ at hs k) × Tail (suc k) l = tail_next k h l t in
      ap (λ (x : List (List ℕ)). flat hs k ++ concat (fitting (room - length (flat hs k)) x)) (rows_next k h l n.0) ∙
      go (eq_or-not k r) (λ q. fit_stop room (suc k) r l n.1 q (omega arith) le gt)
    where
      go : (k ≡ r) ⊎ (k ≡ r → ⊥) → (suc k ≤ r → flat hs (suc k) ++ concat (fitting (room - length (flat hs (suc k))) (rows_tail (suc k) l)) ≡ flat hs r) →
          flat hs k ++ concat (fitting (room - length (flat hs k)) (row_at hs k ∷ rows_tail (suc k) l)) ≡ flat hs r
      go (inl e) rec = let g : length (flat hs (suc k)) ≡ length (flat hs (suc r)) = ap (λ (j : ℕ). length (flat hs (suc j))) e in
          let f : length (flat hs k) ≡ length (flat hs r) = ap (λ (j : ℕ). length (flat hs j)) e in
          fit_none room k (rows_tail (suc k) l) (omega arith) (omega arith) ∙ ap (flat hs) e
      go (inr ne) rec = fit_one room k (rows_tail (suc k) l) (omega (arith, flat_up hs (suc k) r (omega arith))) ∙ rec (omega arith)

  whole : Tail 0 hs
  whole i l = ap (at hs) (omega arith)

  chains-next : (k : ℕ) (h : List ℕ) (l : List (List ℕ)) → h ≡ at hs k → chains_from k (chs hs k) (h ∷ l) ≡ chains_from (suc k) (chs hs (suc k)) l
  unfolding chains_from chs
  chains-next k h l e = rw e

  chains-from : (k : ℕ) (l : List (List ℕ)) → Tail k l → chains_from k (chs hs k) l ≡ chs hs (k + length l)
  unfolding chains_from
  chains-from k [] t = ap (chs hs) (plus_none k)
    where
      plus_none : (k : ℕ) → k ≡ k + 0
      plus_none k = omega arith
  chains-from k (h ∷ l) t =
      let n : (h ≡ at hs k) × Tail (suc k) l = tail_next k h l t in
      chains-next k h l n.0 ∙ (chains-from (suc k) l n.1 ∙ ap (chs hs) (over-suc k (length l)))

  -- the chains of the definitions are those of all the runs
  pub chains_are : chains_from 0 [] hs ≡ chs hs (length hs)
  unfolding chs
  chains_are = chains-from 0 hs whole ∙ ap (chs hs) (plus (length hs))
    where
      plus : (n : ℕ) → 0 + n ≡ n
      plus n = omega arith

  -- the rows that the definitions give, in an area
  abbrev rows_of : List (List ℕ)
  rows_of = rows_from 0 [] hs

  -- all of them, one after another
  pub rows_whole : concat rows_of ≡ flat hs (length hs)
  unfolding chs flat
  rows_whole = concat-rows 0 hs whole ∙ ap (flat hs) (plus (length hs))
    where
      plus : (n : ℕ) → 0 + n ≡ n
      plus n = omega arith

  -- those that fit, where all do
  pub rows_all : (room : ℕ) → length (flat hs (length hs)) ≤ room → concat (fitting room rows_of) ≡ flat hs (length hs)
  unfolding chs flat
  rows_all room le = ap (λ (n : ℕ). concat (fitting n rows_of)) (less room) ∙ fit_all room 0 hs whole (omega (arith, ap (λ (k : ℕ). length (flat hs k)) (plus (length hs)))) ∙ ap (flat hs) (plus (length hs))
    where
      plus : (n : ℕ) → 0 + n ≡ n
      plus n = omega arith

      less : (n : ℕ) → n ≡ n - 0
      less n = omega arith

  -- those that fit, where the next does not
  pub rows_stop : (room r : ℕ) → r < length hs → length (flat hs r) ≤ room → room < length (flat hs (suc r)) → concat (fitting room rows_of) ≡ flat hs r
  unfolding chs flat
  rows_stop room r lt le gt = ap (λ (n : ℕ). concat (fitting n rows_of)) (less room) ∙ fit_stop room 0 r hs whole (omega arith) (omega arith) le gt
    where
      less : (n : ℕ) → n ≡ n - 0
      less n = omega arith
