-- How many heads lie below a run, and whether a run has all of them for parents, by counts. Assumes nothing.
use Rattle.std.proofs.Common.{◌≡◌, refl, sym, ap, ◌∙◌, Bool, true, not, ◌&&◌, List, [], ◌∷◌, ℕ, zero, suc, ◌+◌, ◌≤◌, ◌<◌, arith, length, eqb}
use Rattle.lists.specs.Lists.{all, filter, count, from, upto, mem, rising}
use Rattle.lists.proofs.Truth.{not_so, and_true}
use Rattle.lists.proofs.Members.{all_of, all_both}
use Rattle.lists.proofs.Counts.{mem-from, upto_snoc, count-append, count_same, count_le, filter-count}
use Rattle.lists.proofs.Passing.{passing_test, passing_rises}
use Rattle.lists.proofs.Sharing.{count-all, count-filter, count_parted, count_shared}
use Rattle.model.specs.History.{at}
use Rattle.model.proofs.Histories.{Below}
use Rattle.versions.specs.Heads.{Child, childless, heads, is_head, head_count, HeadsFit}

module _ (pss : List (List ℕ)) (below : Below pss) (rise : (r : ℕ) → rising (at pss r) ≡ true) where
  -- Below one run more: the run itself has no child there, and its parents have one
  childless-next : (m p : ℕ) → childless pss (suc m) p ≡ childless pss m p && not (mem p (at pss m))
  unfolding childless all
  childless-next m p =
      rw (upto_snoc m) (all_both (λ c. not (mem p (at pss c))) (upto m) (m ∷ []) ∙ ap (λ (t : Bool). childless pss m p && t) (and_true (not (mem p (at pss m)))))

  childless_self : (m : ℕ) → childless pss (suc m) m ≡ true
  unfolding childless upto
  childless_self m = all_of (λ c. not (mem m (at pss c))) (upto (suc m)) (λ c k.
      rw (not_so (mem m (at pss c)) (λ h. omega (arith, below c m h, (mem-from c 0 (suc m) k).1))))

  -- The parents of a run that are heads below it are as many as the heads below it that are its parents
  heads_shared : (m : ℕ) (ps : List ℕ) → rising ps ≡ true → ((p : ℕ) → mem p ps ≡ true → p < m) → count (childless pss m) ps ≡ count (λ h. mem h ps) (heads pss m)
  unfolding heads
  heads_shared m ps h low =
      count_same (childless pss m) (λ p. mem p (heads pss m)) ps (λ p k. sym (passing_test (childless pss m) m p (low p k))) ∙
      count_shared ps (heads pss m) h (passing_rises (childless pss m) m)

  -- so all heads are its parents exactly if these are as many
  pub all-heads : (m : ℕ) (ps : List ℕ) → rising ps ≡ true → ((p : ℕ) → mem p ps ≡ true → p < m) →
      eqb (count (childless pss m) ps) (length (heads pss m)) ≡ all (λ h. mem h ps) (heads pss m)
  all-heads m ps h low = rw (heads_shared m ps h low) (count-all (λ h. mem h ps) (heads pss m))

  -- One run more: it is a head, and its parents are no longer
  heads-next : (m : ℕ) → length (heads pss (suc m)) + count (childless pss m) (at pss m) ≡ length (heads pss m) + 1
  unfolding heads count
  heads-next m =
      let row : List ℕ = at pss m in
      let all-next : length (heads pss (suc m)) ≡ count (λ p. childless pss m p && not (mem p row)) (upto m) + 1 =
      filter-count (childless pss (suc m)) (upto (suc m)) ∙ ap (count (childless pss (suc m))) (upto_snoc m) ∙ count-append (childless pss (suc m)) (upto m) (m ∷ []) ∙
      rw (childless_self m) (ap (λ (k : ℕ). k + 1) (count_same (childless pss (suc m)) (λ p. childless pss m p && not (mem p row)) (upto m) (λ p k. childless-next m p))) in
      let shared : count (childless pss m) row ≡ count (λ p. childless pss m p && mem p row) (upto m) =
      heads_shared m row (rise m) (λ p k. below m p k) ∙ count-filter (childless pss m) (λ p. mem p row) (upto m) in
      omega (arith, all-next, shared, count_parted (childless pss m) (λ p. mem p row) (upto m), filter-count (childless pss m) (upto m))

  module _ (firsts : List Child) (rows : ℕ → List ℕ) (n : ℕ) (same : (c : ℕ) → c < n → rows c ≡ at pss c)
      (told : (m p : ℕ) → m ≤ n → p < n → is_head firsts m p ≡ childless pss m p) where
    counted : (m : ℕ) → m < n → count (is_head firsts m) (rows m) ≡ count (childless pss m) (at pss m)
    counted m lt = rw (same m lt) (count_same (is_head firsts m) (childless pss m) (at pss m) (λ p k. told m p (omega arith) (omega (arith, below m p k))))

    -- The count goes from run to run
    pub count-is : (m : ℕ) → m ≤ n → head_count firsts rows m ≡ length (heads pss m)
    unfolding head_count
    count-is zero le = unfold heads upto from filter in refl
    count-is (suc m) le = omega (arith, count-is m (omega arith), counted m le, heads-next m)

    -- and of no run are more parents heads than there are
    pub count_fits : HeadsFit firsts rows n
    count_fits m lt = omega (
      arith,
      counted m lt,
      heads_shared m (at pss m) (rise m) (λ p k. below m p k),
      count_le (λ h. mem h (at pss m)) (heads pss m),
      count-is m (omega arith),
    )
