-- The loops behind the wanted parents, turn by turn, and whether words are ranges. Assumes nothing.
use Rattle.std.proofs.Common.{◌≡◌, refl, sym, ap, ◌∙◌, ◌⊎◌, inl, inr, Bool, true, false, cond, List, [], ◌∷◌, ◌++◌, map, ℕ, zero, suc, ◌+◌, ◌-◌, ◌%◌, ◌≤◌, ◌<◌, add-one, arith, length, get_or, take}
use Rattle.std.proofs.Common.{drop, get_or-take, get_or-drop, take_all, length-drop, take_while, leb, leb-false, le-leb, eq-eqb, ne_eqb, Some, None, is_some}
use borrow.Author.Tests.{lt-leb}
use Rattle.std.specs.List.{prefix_len}
use Rattle.std.proofs.lemmas.List.{map-append, length-map}
use Rattle.std.proofs.lemmas.List.Folds.{length-prefix_len}
use Rattle.lists.specs.Lists.{bit, all, filter, count, from, upto, rising}
use Rattle.lists.proofs.Truth.{lt_or_le, false_true, not_so, and_false, and_true}
use Rattle.lists.proofs.Members.{all-at, all_both}
use Rattle.lists.proofs.Counts.{upto-mem, upto_snoc}
use Rattle.lists.proofs.Rising.{rising_tail, rising_above}
use Rattle.lists.proofs.Keeping.{filter_snoc}
use Rattle.model.specs.declared.record.EventIndex.{EventIndex}
use Rattle.model.specs.Wanted.{ranges}
use Rattle.versions.specs.Flags.{flag_all}
use Rattle.versions.specs.Ranges.{End, end_number, is_odd, place_of, words_within, clear_at, end_at, clear_in, end_in, flag_marked, is_top, tops, Starts}
use Rattle.versions.proofs.RangeWords.{ranges_even, paired_even, none-at_most, word_le, place_most, place_mono}
use Rattle.versions.proofs.Flagging.{decided}
use Rattle.versions.proofs.Passes.{few_pass}

-- The words' place: from a place that is not beyond it on, as many words more as are at most the event
prefix_on : (ws : List ℕ) → rising ws ≡ true → (e k : ℕ) → k ≤ place_of ws e → k + prefix_len (λ w. leb w e) (drop k ws) ≡ place_of ws e
unfolding place_of count
prefix_on [] rises e zero h = refl
prefix_on [] rises e (suc k) h = absurd (omega arith)
prefix_on (w ∷ ws) rises e zero h = go (decided (leb w e)) (prefix_on ws (rising_tail w ws rises) e 0 (omega arith))
  where
    go : (leb w e ≡ true) ⊎ (leb w e ≡ false) → 0 + prefix_len (λ x. leb x e) ws ≡ count (λ x. leb x e) ws →
        0 + prefix_len (λ x. leb x e) (w ∷ ws) ≡ bit (leb w e) + count (λ x. leb x e) ws
    go (inl t) ih = rw t (omega (arith, ih))
    go (inr f) ih = rw f (omega (arith, none-at_most e ws (λ x m. omega (arith, leb-false w e f, rising_above w ws rises x m))))
prefix_on (w ∷ ws) rises e (suc k) h = go (decided (leb w e)) h (prefix_on ws (rising_tail w ws rises) e k)
  where
    go : (leb w e ≡ true) ⊎ (leb w e ≡ false) → suc k ≤ bit (leb w e) + count (λ x. leb x e) ws →
        (k ≤ count (λ x. leb x e) ws → k + prefix_len (λ x. leb x e) (drop k ws) ≡ count (λ x. leb x e) ws) →
        suc k + prefix_len (λ x. leb x e) (drop k ws) ≡ bit (leb w e) + count (λ x. leb x e) ws
    go (inl t) = rw t (λ h ih. omega (arith, ih (omega arith)))
    go (inr f) = rw f (λ h ih. absurd (omega (arith, none-at_most e ws (λ x m. omega (arith, leb-false w e f, rising_above w ws rises x m)))))

pub place_on : (ws : List ℕ) → rising ws ≡ true → (e k : ℕ) → k ≤ place_of ws e →
    k + length (take_while (λ w. leb w e) (take (length ws - k) (drop k ws))) ≡ place_of ws e
place_on ws rises e k h =
    rw (take_all (length ws - k) (drop k ws) (omega (arith, length-drop k ws)))
    (ap (λ (n : ℕ). k + n) (length-prefix_len (λ w. leb w e) (drop k ws)) ∙ prefix_on ws rises e k h)

-- The words' place, at a word and at the end
module _ (ws : List ℕ) (rises : rising ws ≡ true) (e k : ℕ) where
  pub place_here : k ≤ place_of ws e → e < get_or ws k 0 → k ≡ place_of ws e
  place_here h lt = cases (lt_or_le k (place_of ws e))
    where
      cases : (k < place_of ws e) ⊎ (place_of ws e ≤ k) → k ≡ place_of ws e
      cases (inl c) = absurd (omega (arith, word_le ws rises k e c))
      cases (inr c) = omega arith

  pub place_end : k ≤ place_of ws e → length ws ≤ k → k ≡ place_of ws e
  place_end h q = omega (arith, place_most ws rises e)

-- The start after the n-th, as the loop over neighbours has it
pub next_start : (starts : List ℕ) (n : ℕ) → n < length starts - 1 → get_or (take (length starts - 1) (drop 1 starts)) n 0 ≡ get_or starts (n + 1) 0
next_start starts n lt =
    let e : 1 + n ≡ n + 1 = omega arith in
    get_or-take (length starts - 1) (drop 1 starts) n 0 lt ∙ get_or-drop 1 starts n 0 ∙ ap (λ (k : ℕ). get_or starts k 0) e

-- From one run's start to the next
pub place-next : (ws : List ℕ) → rising ws ≡ true → (starts : List ℕ) (n r k : ℕ) → Starts starts n → r < n → k ≡ place_of ws (get_or starts r 0) →
    k ≤ place_of ws (get_or starts (r + 1) 0)
place-next ws rises starts n r k s lt e =
    rw (add-one r) (omega (arith, place_mono ws rises (get_or starts r 0) (get_or starts (suc r) 0) (s.climb r lt)))

-- A run's test and its end, by the place of its start
module _ (starts ws : List ℕ) (r k : ℕ) where
  pub clear_turn : (b : Bool) → k ≡ place_of ws (get_or starts r 0) → b ≡ clear_at ws k (get_or starts (r + 1) 0) → clear_in starts ws r ≡ b
  unfolding clear_in
  clear_turn b e f = sym (f ∙ rw (e, add-one r))

  pub end_turn : (v : End) → k ≡ place_of ws (get_or starts r 0) → v ≡ end_at ws k (get_or starts (r + 1) 0) → v ≡ end_in starts ws r
  unfolding end_in
  end_turn v e f = f ∙ rw (e, add-one r)

-- Whether words are ranges
module _ (ws : List ℕ) where
  pub ranges_odd : is_odd (length ws) ≡ true → false ≡ ranges ws
  unfolding ranges
  ranges_odd h = sym (rw (paired_even ws, h) (and_false (rising ws)))

  pub ranges-is : is_odd (length ws) ≡ false → (b : Bool) → b ≡ rising ws → b ≡ ranges ws
  unfolding ranges
  ranges-is h b e = e ∙ rw (paired_even ws, h) (sym (and_true (rising ws)))

  module _ (first end : ℕ) where
    pub within_none : length ws ≡ 0 → true ≡ words_within first end ws
    unfolding words_within
    within_none h = rw (eq-eqb (length ws) 0 h)

    pub within_low : (length ws ≡ 0 → ⊥) → get_or ws 0 0 < first → false ≡ words_within first end ws
    unfolding words_within
    within_low h k = rw (ne_eqb (length ws) 0 h, lt-leb first (get_or ws 0 0) k)

    pub within-is : (length ws ≡ 0 → ⊥) → first ≤ get_or ws 0 0 → leb (get_or ws (length ws - 1) 0) end ≡ words_within first end ws
    unfolding words_within
    within-is h k = rw (ne_eqb (length ws) 0 h, le-leb first (get_or ws 0 0) k)

  module _ (k end : ℕ) where
    pub clear_end : length ws ≤ k + k % 2 → true ≡ clear_at ws k end
    unfolding clear_at
    clear_end h = rw (le-leb (length ws) (k + k % 2) h)

    pub clear_is : k + k % 2 < length ws → leb end (get_or ws (k + k % 2) 0) ≡ clear_at ws k end
    unfolding clear_at
    clear_is h = rw (lt-leb (length ws) (k + k % 2) h)

-- A test of the numbers below a bound, one by one
module _ (p : ℕ → Bool) where
  pub all_start : all p (upto 0) ≡ true
  unfolding all upto from
  all_start = refl

  pub all-next : (r : ℕ) → all p (upto r) ≡ true → p r ≡ true → all p (upto (r + 1)) ≡ true
  unfolding all
  all-next r h k = rw (add-one r, upto_snoc r, all_both p (upto r) (r ∷ []), h, k)

  pub all_stop : (r n : ℕ) → r < n → p r ≡ false → false ≡ all p (upto n)
  all_stop r n lt h = sym (not_so (all p (upto n)) (λ a. false_true (sym h ∙ all-at p (upto n) a r (upto-mem r n lt))))

-- Flags, run by run
module _ (rows : ℕ → List ℕ) (ends : List End) where
  pub flags_next : (r : ℕ) → cond (is_some (get_or ends r None)) (flag_all (flag_marked rows ends r) (rows r)) (flag_marked rows ends r) ≡ flag_marked rows ends (r + 1)
  unfolding flag_marked
  flags_next r = rw (add-one r)

-- The last marked events of top runs, run by run
module _ (flags : List Bool) (ends : List End) where
  last_of : ℕ → ℕ
  last_of r = end_number (get_or ends r None) - 1

  tops_next : (r : ℕ) → tops flags ends (suc r) ≡ cond (is_top flags ends r) (tops flags ends r ++ last_of r ∷ []) (tops flags ends r)
  unfolding tops last_of
  tops_next r = rw (upto_snoc r, filter_snoc (is_top flags ends) (upto r) r) (go (is_top flags ends r) (filter (is_top flags ends) (upto r)))
    where
      go : (t : Bool) (xs : List ℕ) → map last_of (cond t (xs ++ r ∷ []) xs) ≡ cond t (map last_of xs ++ last_of r ∷ []) (map last_of xs)
      go true xs = map-append last_of xs (r ∷ [])
      go false xs = refl

  pub tops-few : (r : ℕ) → length (tops flags ends r) ≤ r
  unfolding tops last_of
  tops-few r = rw (length-map (filter (is_top flags ends) (upto r)) last_of) (few_pass (is_top flags ends) r)

  pub tops_start : [] ≡ tops flags ends 0
  unfolding tops upto from filter
  tops_start = refl

  -- what the code tells of a run by whether it is a top one
  abbrev told_of : ℕ → Bool → End
  told_of r t = cond t (Some (record { 0 = end_number (get_or ends r None) - 1 })) None

  pub tops_on : (r : ℕ) (found : List ℕ) (e : EventIndex) → Some e ≡ told_of r (is_top flags ends r) →
      found ≡ tops flags ends r → found ++ e.0 ∷ [] ≡ tops flags ends (r + 1)
  tops_on r found e h q = rw (q, add-one r, tops_next r) (go (is_top flags ends r) h)
    where
      go : (t : Bool) → Some e ≡ told_of r t →
          tops flags ends r ++ e.0 ∷ [] ≡ cond t (tops flags ends r ++ last_of r ∷ []) (tops flags ends r)
      go true h = unfold last_of in let same : e ≡ record { 0 = end_number (get_or ends r None) - 1 } = cc in rw same refl
      go false h = cc

  pub tops_same : (r : ℕ) (found : List ℕ) → None ≡ told_of r (is_top flags ends r) →
      found ≡ tops flags ends r → found ≡ tops flags ends (r + 1)
  tops_same r found h q = rw (q, add-one r, tops_next r) (go (is_top flags ends r) h)
    where
      go : (t : Bool) → None ≡ told_of r t →
          tops flags ends r ≡ cond t (tops flags ends r ++ last_of r ∷ []) (tops flags ends r)
      go true h = cc
      go false h = refl

-- What the loops over words and over runs go by
pub ruleset placing = (ranges_even, place_on, place_most)

pub ruleset pairing = (ranges_odd, ranges-is)

pub ruleset testing = (all_start, all-next, all_stop)

pub ruleset topping = (tops_start, tops-few, tops_on, tops_same)
