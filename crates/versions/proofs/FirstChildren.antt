-- The first children that are noted tell which runs have no child below a run. Assumes nothing.
use Rattle.std.proofs.Common.{◌≡◌, refl, sym, ◌∙◌, ◌⊎◌, inl, inr, Bool, true, false, not, cond, ◌||◌, List, [], ◌∷◌, ℕ, zero, suc, ◌≤◌, ◌<◌, arith, length, get_or, set, length-set, Some, None}
use Rattle.std.proofs.lemmas.List.{length-replicate}
use Rattle.std.proofs.Common.{get_or-set_same, get_or-set_other, leb, eqb, eq-eqb, ne_eqb, le-leb}
use borrow.Author.Tests.{lt-leb}
use Rattle.lists.specs.Lists.{all, upto, mem}
use Rattle.lists.proofs.Truth.{lt_or_le, eq_or-not, lt_of_ne, false_true, not_so}
use Rattle.lists.proofs.Members.{all_of, all-at}
use Rattle.lists.proofs.Counts.{mem-from, upto-mem}
use Rattle.model.specs.History.{at}
use Rattle.versions.specs.Heads.{Child, childless, noted, note_all, first_children, none_below, is_head}
use Rattle.versions.proofs.Flagging.{replicated}

-- One run noted as a child of some
pub note-length : (firsts : List Child) (c : ℕ) (ps : List ℕ) → length (note_all firsts c ps) ≡ length firsts
unfolding note_all
note-length firsts c [] = refl
note-length firsts c (p ∷ ps) = note-length (set firsts p (noted (get_or firsts p None) c)) c ps ∙ length-set firsts p (noted (get_or firsts p None) c)

note_get : (firsts : List Child) (c : ℕ) (ps : List ℕ) (q : ℕ) → q < length firsts →
    get_or (note_all firsts c ps) q None ≡ cond (mem q ps) (noted (get_or firsts q None) c) (get_or firsts q None)
unfolding note_all mem
note_get firsts c [] q h = refl
note_get firsts c (p ∷ ps) q h =
    note_get (set firsts p (noted (get_or firsts p None) c)) c ps q (omega (arith, length-set firsts p (noted (get_or firsts p None) c))) ∙ go (eq_or-not q p) (mem q ps)
  where
    again : (f : Child) → noted (noted f c) c ≡ noted f c
    again None = unfold noted in refl
    again (Some f) = unfold noted in refl

    go : (q ≡ p) ⊎ (q ≡ p → ⊥) → (t : Bool) →
        cond t (noted (get_or (set firsts p (noted (get_or firsts p None) c)) q None) c) (get_or (set firsts p (noted (get_or firsts p None) c)) q None) ≡
        cond (eqb q p || t) (noted (get_or firsts q None) c) (get_or firsts q None)
    go (inl e) true = rw (eq-eqb q p e, e, get_or-set_same firsts p (noted (get_or firsts p None) c) None (omega arith)) (again (get_or firsts p None))
    go (inl e) false = rw (eq-eqb q p e, e) (get_or-set_same firsts p (noted (get_or firsts p None) c) None (omega arith))
    go (inr n) true = rw (ne_eqb q p n, get_or-set_other firsts p q (noted (get_or firsts p None) c) None n)
    go (inr n) false = rw (ne_eqb q p n) (get_or-set_other firsts p q (noted (get_or firsts p None) c) None n)

module _ (rows : ℕ → List ℕ) where
  pub firsts-length : (n : ℕ) → length (first_children rows n) ≡ 512
  unfolding first_children
  firsts-length zero = length-replicate {A = Child} 512 None
  firsts-length (suc n) = note-length (first_children rows n) n (rows n) ∙ firsts-length n

  -- f is p's first child among the n first runs, if it has one there
  abbrev NoChild : ℕ → ℕ → Type 0
  NoChild n p = (c : ℕ) → c < n → mem p (rows c) ≡ false

  abbrev First : ℕ → ℕ → Child → Type 0
  First n p f = ((f ≡ None) × NoChild n p) ⊎ ((c : ℕ) × (f ≡ Some (record { 0 = c })) × (c < n) × (mem p (rows c) ≡ true) × NoChild c p)

  module _ (end : ℕ) (p : ℕ) (few : p < 512) where
    first-is : (n : ℕ) → n ≤ end → First n p (get_or (first_children rows n) p None)
    unfolding first_children
    first-is zero le = inl (replicated 512 p None, λ c h. absurd (omega arith))
    first-is (suc n) le =
        let got = note_get (first_children rows n) n (rows n) p (omega (arith, firsts-length n)) in
        step (mem p (rows n)) refl (get_or (first_children rows n) p None) (first-is n (omega arith)) (get_or (note_all (first_children rows n) n (rows n)) p None) got
      where
        step : (t : Bool) → mem p (rows n) ≡ t → (f : Child) → First n p f → (g : Child) → g ≡ cond (mem p (rows n)) (noted f n) f → First (suc n) p g
        step true m f (inl h) g e = unfold noted in inr (n, e ∙ rw (m, h.0) refl, omega arith, m, λ c l. h.1 c (omega arith))
        step true m f (inr h) g e = unfold noted in inr (h.0, e ∙ rw (m, h.1) refl, omega (arith, h.2), h.3, λ c l. h.4 c (omega arith))
        step false m f (inl h) g e = inl (e ∙ rw m h.0, λ c l. each c l (eq_or-not c n))
          where
            each : (c : ℕ) → c < suc n → (c ≡ n) ⊎ (c ≡ n → ⊥) → mem p (rows c) ≡ false
            each c l (inl w) = rw w m
            each c l (inr w) = h.1 c (lt_of_ne c n (omega arith) w)
        step false m f (inr h) g e = inr (h.0, e ∙ rw m h.1, omega (arith, h.2), h.3, λ c l. h.4 c (omega arith))

    -- By its first child, run p has no child below m
    pub head_is : (pss : List (List ℕ)) (m : ℕ) → m ≤ end → ((c : ℕ) → c < end → rows c ≡ at pss c) → is_head (first_children rows end) m p ≡ childless pss m p
    unfolding is_head none_below childless upto
    head_is pss m le same = go (get_or (first_children rows end) p None) (first-is end (omega arith))
      where
        mine : (c : ℕ) → c < m → mem p (at pss c) ≡ mem p (rows c)
        mine c l = rw (same c (omega arith))

        none : ((c : ℕ) → c < m → mem p (rows c) ≡ false) → all (λ c. not (mem p (at pss c))) (upto m) ≡ true
        none h = all_of (λ c. not (mem p (at pss c))) (upto m) (λ c k. let l : c < m = omega (arith, (mem-from c 0 m k).1) in rw (mine c l, h c l))

        go : (f : Child) → First end p f → none_below m f ≡ all (λ c. not (mem p (at pss c))) (upto m)
        go f (inl h) = rw h.0 (sym (none (λ c l. h.1 c (omega arith))))
        go f (inr h) = rw h.1 (by (lt_or_le h.0 m))
          where
            by : (h.0 < m) ⊎ (m ≤ h.0) → leb m h.0 ≡ all (λ c. not (mem p (at pss c))) (upto m)
            by (inr l) = le-leb m h.0 l ∙ sym (none (λ c k. h.4 c (omega arith)))
            by (inl l) = lt-leb m h.0 l ∙ sym (not_so (all (λ c. not (mem p (at pss c))) (upto m)) (λ a.
                false_true (rw (mine h.0 l, h.3) at (all-at (λ c. not (mem p (at pss c))) (upto m) a h.0 (upto-mem h.0 m l)))))
