-- Sets of runs that hold each of their runs once, and its history: those that a walk has. Assumes nothing.
use Rattle.std.proofs.Common.{◌≡◌, refl, sym, ap, ◌∙◌, subst, ◌⊎◌, inl, inr, Bool, true, false, cond, ◌||◌, List, [], ◌∷◌, ◌++◌, ℕ, zero, suc, ◌+◌, ◌≤◌, ◌<◌, arith, length, get_or, length-append}
use Rattle.std.proofs.Common.{ltb, eqb, lt-ltb, le-ltb, ne_eqb, eqb-true}
use lib.ListN.{get_or-append, get_or-eq_default}
use lib.Seq.{get_or-append_seam}
use borrow.Author.Tests.{eqb-false}
use Rattle.lists.specs.Lists.{bit, mem, count, filter, from, upto}
use Rattle.lists.proofs.Truth.{lt_or_le, lt_eq_gt, not_so, false_true, or_cases, or_false, or_left, or-first, or-last}
use Rattle.lists.proofs.Members.{mem-append, mem-filter}
use Rattle.lists.proofs.Counts.{mem-from, upto-mem}
use Rattle.model.specs.History.{at, reached, histories_from, histories}
use Rattle.model.proofs.Histories.{Below, history-below}
use Rattle.tables.specs.Laid.{chs}
use Rattle.tables.proofs.Prefixes.{Falls, none_after, tail}
use Rattle.tables.proofs.Chaining.{cnt, chain_chained}
use Rattle.tables.proofs.Holding.{closed, not_in}

-- Lists that hold each number at most once
abbrev pub Once : List ℕ → Type 0
Once [] = Unit {0}
Once (x ∷ xs) = (mem x xs ≡ false) × Once xs

-- A closed set: it holds each of its runs once, and with each its history
pub record Closed (pss : List (List ℕ)) (s : List ℕ) : Type 0 where
  pub once : Once s
  pub under : (m : ℕ) → mem m s ≡ true → m < length pss
  pub whole : (m k : ℕ) → mem m s ≡ true → mem k (at (histories pss) m) ≡ true → mem k s ≡ true

-- meets each chain in a prefix
pub closed_falls : (pss : List (List ℕ)) (s : List ℕ) → Closed pss s → (r k : ℕ) → Falls (λ m. mem m s) (at (chs (histories pss) r) k)
closed_falls pss s c r k i j a d q =
    let l : List ℕ = at (chs (histories pss) r) k in
    c.whole (get_or l j 0) (get_or l i 0) q (chain_chained (histories pss) r k i j a d)

-- A test that falls along a list passes its first members, as many as it counts
pub prefix : (p : ℕ → Bool) (c : List ℕ) → Falls p c → (j : ℕ) → j < length c → p (get_or c j 0) ≡ ltb j (count p c)
unfolding count
prefix p [] h j lt = absurd (omega arith)
prefix p (x ∷ xs) h zero lt = go (p x) refl
  where
    go : (t : Bool) → p x ≡ t → t ≡ ltb 0 (bit t + count p xs)
    go true e = sym (lt-ltb 0 (1 + count p xs) (omega arith))
    go false e = rw (none_after p x xs e h)
prefix p (x ∷ xs) h (suc j) lt = go (p x) refl (prefix p xs (tail p x xs h) j (omega arith))
  where
    go : (t : Bool) → p x ≡ t → p (get_or xs j 0) ≡ ltb j (count p xs) → p (get_or xs j 0) ≡ ltb (suc j) (bit t + count p xs)
    go true e ih = ih ∙ cases (lt_or_le j (count p xs))
      where
        cases : (j < count p xs) ⊎ (count p xs ≤ j) → ltb j (count p xs) ≡ ltb (suc j) (1 + count p xs)
        cases (inl a) = lt-ltb j (count p xs) a ∙ sym (lt-ltb (suc j) (1 + count p xs) (omega arith))
        cases (inr a) = le-ltb j (count p xs) a ∙ sym (le-ltb (suc j) (1 + count p xs) (omega arith))
    go false e ih = ih ∙ (le-ltb j (count p xs) (omega (arith, none_after p x xs e h)) ∙ sym (le-ltb (suc j) (0 + count p xs) (omega (arith, none_after p x xs e h))))

-- A closed set holds of a chain the first members, as many as it counts
pub closed_prefix : (pss : List (List ℕ)) (s : List ℕ) → Closed pss s → (r k j : ℕ) → j < length (at (chs (histories pss) r) k) →
    mem (get_or (at (chs (histories pss) r) k) j 0) s ≡ ltb j (cnt s (at (chs (histories pss) r) k))
closed_prefix pss s c r k j lt = prefix (λ m. mem m s) (at (chs (histories pss) r) k) (closed_falls pss s c r k) j lt

from-once : (a n : ℕ) → Once (from a n)
unfolding from
from-once a zero = tt
from-once a (suc n) = (not_so (mem a (from (suc a) n)) (λ e. omega (arith, (mem-from a (suc a) n e).0)), from-once (suc a) n)

filter-once : (p : ℕ → Bool) (xs : List ℕ) → Once xs → Once (filter p xs)
unfolding filter
filter-once p [] o = tt
filter-once p (x ∷ xs) o = go (p x) (filter-once p xs o.1)
  where
    out : (t : Bool) → mem x (filter p xs) ≡ t → mem x (filter p xs) ≡ false
    out true e = false_true (sym o.0 ∙ (mem-filter p x xs e).0)
    out false e = e

    go : (t : Bool) → Once (filter p xs) → Once (cond t (x ∷ filter p xs) (filter p xs))
    go true ih = (out (mem x (filter p xs)) refl, ih)
    go false ih = ih

-- One number more
pub mem_snoc : (m r : ℕ) (xs : List ℕ) → mem m (xs ++ r ∷ []) ≡ mem m xs || eqb m r
unfolding mem
mem_snoc m r xs = mem-append m xs (r ∷ []) ∙ ap (λ t. mem m xs || t) (or_false (eqb m r))

snoc_once : (xs : List ℕ) (r : ℕ) → mem r xs ≡ false → Once xs → Once (xs ++ r ∷ [])
unfolding mem
snoc_once [] r e o = (refl, tt)
snoc_once (x ∷ xs) r e o = (
  mem_snoc x r xs ∙ rw o.0 (ne_eqb x r (λ q. eqb-false r x (or-first (eqb r x) (mem r xs) e) (sym q))),
  snoc_once xs r (or-last (eqb r x) (mem r xs) e) o.1,
)

-- Every history holds each run once
histories-once : (hs pss : List (List ℕ)) → ((i : ℕ) → Once (at hs i)) → (i : ℕ) → Once (at (histories_from hs pss) i)
unfolding histories_from at
histories-once hs [] o i = o i
histories-once hs (ps ∷ pss) o i = histories-once (hs ++ next ∷ []) pss (λ j. more j (lt_eq_gt j (length hs))) i
  where
    next : List ℕ
    next = filter (reached hs ps) (upto (length hs))

    next-once : Once next
    next-once = filter-once (reached hs ps) (upto (length hs)) (unfold upto in (from-once 0 (length hs)))

    more : (j : ℕ) → (j < length hs) ⊎ ((j ≡ length hs) ⊎ (length hs < j)) → Once (get_or (hs ++ next ∷ []) j [])
    more j (inl l) = subst Once (sym (get_or-append hs (next ∷ []) [] j l)) (o j)
    more j (inr (inl e)) = subst Once (sym (ap (λ (k : ℕ). get_or (hs ++ next ∷ []) k []) e ∙ get_or-append_seam hs next [] [])) next-once
    more j (inr (inr g)) = subst Once (sym (get_or-eq_default (hs ++ next ∷ []) [] (omega (arith, length-append hs (next ∷ []))))) tt

history-once : (pss : List (List ℕ)) (i : ℕ) → Once (at (histories pss) i)
unfolding histories
history-once pss i = histories-once [] pss (λ j. none j) i
  where
    none : (j : ℕ) → Once (at [] j)
    none j = unfold at in tt

module _ (pss : List (List ℕ)) (b : Below pss) where
  abbrev H : List (List ℕ)
  H = histories pss

  -- A history is closed
  pub history-closed : (r : ℕ) → r < length pss → Closed pss (at H r)
  history-closed r lt = record {
    once = history-once pss r;
    under = λ m e. omega (arith, history-below pss b m r lt e);
    whole = λ m k e q. closed pss b r m k lt e q;
  }

  -- with its run
  pub visited_closed : (r : ℕ) → r < length pss → Closed pss (at H r ++ r ∷ [])
  visited_closed r lt = record {
    once = snoc_once (at H r) r (not_in pss b r r lt (omega arith)) (history-once pss r);
    under = λ m e. cases m (either m e);
    whole = λ m k e q. mem_snoc k r (at H r) ∙ or_left (eqb k r) (inner m k q (either m e));
  }
    where
      either : (m : ℕ) → mem m (at H r ++ r ∷ []) ≡ true → (mem m (at H r) ≡ true) ⊎ (eqb m r ≡ true)
      either m e = or_cases (mem m (at H r)) (eqb m r) (sym (mem_snoc m r (at H r)) ∙ e)

      cases : (m : ℕ) → (mem m (at H r) ≡ true) ⊎ (eqb m r ≡ true) → m < length pss
      cases m (inl e) = omega (arith, history-below pss b m r lt e)
      cases m (inr e) = omega (arith, eqb-true m r e)

      inner : (m k : ℕ) → mem k (at H m) ≡ true → (mem m (at H r) ≡ true) ⊎ (eqb m r ≡ true) → mem k (at H r) ≡ true
      inner m k q (inl e) = closed pss b r m k lt e q
      inner m k q (inr e) = subst (λ (x : ℕ). mem k (at H x) ≡ true) (eqb-true m r e) q

  -- The first runs are closed
  pub first-closed : (k : ℕ) → k ≤ length pss → Closed pss (upto k)
  unfolding upto
  first-closed k le = record {
    once = from-once 0 k;
    under = λ m e. omega (arith, mem-from m 0 k e);
    whole = λ m j e q. upto-mem j k (omega (arith, mem-from m 0 k e, history-below pss b j m (omega (arith, mem-from m 0 k e)) q));
  }
