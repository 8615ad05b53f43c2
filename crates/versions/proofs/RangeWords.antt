-- What rising words mark, a first and an end in turn: an event exactly if those at most the event are odd in number. Assumes nothing.
use Rattle.std.proofs.Common.{◌≡◌, refl, sym, ap, ◌∙◌, ◌⊎◌, inl, inr, ◌↔◌, Bool, true, false, not, cond, ◌&&◌, ◌||◌, List, [], ◌∷◌, ℕ, suc, ◌+◌, ◌-◌, ◌%◌, ◌≤◌, ◌<◌, min, arith, length, get_or}
use Rattle.std.proofs.Common.{Some, None, is_some, leb, eqb, ltb-true, leb-true, lt-ltb, le-leb, eq-eqb, ne_eqb, eqb-true, leb-false}
use borrow.Author.Tests.{lt-leb}
use Rattle.lists.specs.Lists.{bit, count, from, mem, rising}
use Rattle.lists.proofs.Truth.{eq_or-not, lt_or_le, false_true, bool_iff, not_so, and_left, and_right, or_cases, or-first, or-last}
use Rattle.lists.proofs.Members.{mem-first, mem-append, all_of, all-at}
use Rattle.lists.proofs.Counts.{mem-from, from-mem, count_le, count_same, count_none}
use Rattle.lists.proofs.Rising.{rising_get_d, rising-count, rising_tail, rising_above, rising-less}
use Rattle.model.specs.Graph.{Graph, first_held, len, side, is_held, all_held}
use Rattle.model.specs.Wanted.{events_in, paired, ranges}
use Rattle.model.proofs.Siding.{between-held, held-between}
use Rattle.model.proofs.Wanting.{events_above}
use Rattle.versions.specs.Ranges.{is_odd, place_of, words_within, clear_at, end_number, end_at}

-- A number is odd or even
pub odd_or_even : (k : ℕ) → ((k % 2 ≡ 1) × (is_odd k ≡ true)) ⊎ ((k % 2 ≡ 0) × (is_odd k ≡ false))
unfolding is_odd
odd_or_even k = go (eq_or-not (k % 2) 1)
  where
    go : (k % 2 ≡ 1) ⊎ (k % 2 ≡ 1 → ⊥) → ((k % 2 ≡ 1) × (eqb (k % 2) 1 ≡ true)) ⊎ ((k % 2 ≡ 0) × (eqb (k % 2) 1 ≡ false))
    go (inl e) = inl (e, eq-eqb (k % 2) 1 e)
    go (inr n) = inr (omega arith, ne_eqb (k % 2) 1 n)

pub odd_is : (k : ℕ) → is_odd k ≡ true → k % 2 ≡ 1
unfolding is_odd
odd_is k h = eqb-true (k % 2) 1 h

pub is_odd_lem : (k : ℕ) → k % 2 ≡ 1 → is_odd k ≡ true
unfolding is_odd
is_odd_lem k h = eq-eqb (k % 2) 1 h

odd_same : (j k : ℕ) → j % 2 ≡ k % 2 → is_odd j ≡ is_odd k
unfolding is_odd
odd_same j k e = ap (λ (d : ℕ). eqb d 1) e

even_is : (k : ℕ) → k % 2 ≡ 0 → is_odd k ≡ false
unfolding is_odd
even_is k h = ne_eqb (k % 2) 1 (λ e. omega arith)

-- Each first has its end exactly if the words are even in number
pub paired_even : (ws : List ℕ) → paired ws ≡ not (is_odd (length ws))
unfolding paired is_odd
paired_even [] = refl
paired_even (a ∷ []) = refl
paired_even (a ∷ b ∷ ws) = paired_even ws ∙ ap not (odd_same (length ws) (suc (suc (length ws))) (omega arith))

pub ranges_even : (ws : List ℕ) → ranges ws ≡ true → (rising ws ≡ true) × (length ws % 2 ≡ 0)
unfolding ranges
ranges_even ws h = (and_left (rising ws) (paired ws) h, go (odd_or_even (length ws)))
  where
    go : ((length ws % 2 ≡ 1) × (is_odd (length ws) ≡ true)) ⊎ ((length ws % 2 ≡ 0) × (is_odd (length ws) ≡ false)) → length ws % 2 ≡ 0
    go (inl o) = false_true (ap not (sym o.1) ∙ sym (paired_even ws) ∙ and_right (rising ws) (paired ws) h)
    go (inr o) = o.0

-- No word is at most what they are all above
pub none-at_most : (e : ℕ) (ws : List ℕ) → ((w : ℕ) → mem w ws ≡ true → e < w) → place_of ws e ≡ 0
unfolding place_of
none-at_most e ws h = count_same (λ w. leb w e) (λ w. false) ws (λ w m. lt-leb w e (h w m)) ∙ count_none (λ w. false) ws (λ w. refl)

-- An event is marked exactly if an odd number of words are at most it
pub marked_odd : (ws : List ℕ) → rising ws ≡ true → paired ws ≡ true → (e : ℕ) → mem e (events_in ws) ≡ is_odd (place_of ws e)
unfolding events_in paired place_of count is_odd mem
marked_odd [] h p e = refl
marked_odd (a ∷ []) h p e = false_true p
marked_odd (a ∷ b ∷ ws) h p e = mem-append e (from a (b - a)) (events_in ws) ∙ cases (lt_or_le e a) (lt_or_le e b) (marked_odd ws (rising_tail b ws k) p e)
  where
    k : rising (b ∷ ws) ≡ true
    k = rising_tail a (b ∷ ws) h

    lt : a < b
    lt = rising_above a (b ∷ ws) h b (mem-first b ws)

    none : e < b → mem e (events_in ws) ≡ false
    none q = not_so (mem e (events_in ws)) (λ m. omega (arith, events_above b ws (λ w n. rising_above b ws k w n) e m))

    few : e < b → count (λ w. leb w e) ws ≡ 0
    few q = unfold place_of in none-at_most e ws (λ w n. omega (arith, rising_above b ws k w n))

    out : (e < a) ⊎ (b ≤ e) → mem e (from a (b - a)) ≡ false
    out (inl q) = not_so (mem e (from a (b - a))) (λ m. omega (arith, (mem-from e a (b - a) m).0))
    out (inr q) = not_so (mem e (from a (b - a))) (λ m. omega (arith, lt, (mem-from e a (b - a) m).1))

    cases : (e < a) ⊎ (a ≤ e) → (e < b) ⊎ (b ≤ e) → mem e (events_in ws) ≡ is_odd (place_of ws e) →
        mem e (from a (b - a)) || mem e (events_in ws) ≡ is_odd (bit (leb a e) + (bit (leb b e) + count (λ w. leb w e) ws))
    cases (inl q) r ih =
        let s : e < b = omega (arith, lt) in
        rw (out (inl q), none s, lt-leb a e q, lt-leb b e s, few s)
    cases (inr q) (inl r) ih = rw (from-mem e a (b - a) q (omega arith), le-leb a e q, lt-leb b e r, few r)
    cases (inr q) (inr r) ih = rw (out (inr r), le-leb a e q, le-leb b e r) (ih ∙ odd_same (count (λ w. leb w e) ws) (1 + (1 + count (λ w. leb w e) ws)) (omega arith))

-- Places among rising words
module _ (ws : List ℕ) (rises : rising ws ≡ true) where
  pub word_le : (i e : ℕ) → i < place_of ws e → get_or ws i 0 ≤ e
  unfolding place_of
  word_le i e h =
      leb-true (get_or ws i 0) e (rising-count ws rises i e (omega (arith, count_le (λ w. leb w e) ws)) ∙ lt-ltb i (count (λ w. leb w e) ws) h)

  pub le_word : (i e : ℕ) → i < length ws → get_or ws i 0 ≤ e → i < place_of ws e
  unfolding place_of
  le_word i e lt h = ltb-true i (count (λ w. leb w e) ws) (sym (rising-count ws rises i e lt) ∙ le-leb (get_or ws i 0) e h)

  pub place_most : (e : ℕ) → place_of ws e ≤ length ws
  unfolding place_of
  place_most e = count_le (λ w. leb w e) ws

  -- the word at a place is above the event if no more words are at most it
  pub word_above : (i e : ℕ) → i < length ws → place_of ws e ≤ i → e < get_or ws i 0
  word_above i e lt h = cases (lt_or_le e (get_or ws i 0))
    where
      cases : (e < get_or ws i 0) ⊎ (get_or ws i 0 ≤ e) → e < get_or ws i 0
      cases (inl c) = c
      cases (inr c) = absurd (omega (arith, le_word i e lt c))

  pub place_mono : (e f : ℕ) → e ≤ f → place_of ws e ≤ place_of ws f
  place_mono e f h = cases (lt_or_le (place_of ws f) (place_of ws e))
    where
      cases : (place_of ws f < place_of ws e) ⊎ (place_of ws e ≤ place_of ws f) → place_of ws e ≤ place_of ws f
      cases (inl c) = absurd (omega (arith, le_word (place_of ws f) f (omega (arith, place_most e)) (omega (arith, word_le (place_of ws f) e c))))
      cases (inr c) = c

  -- At a word one more is at most it than places are before it; just before it, so many
  pub place_at : (i : ℕ) → i < length ws → place_of ws (get_or ws i 0) ≡ suc i
  place_at i lt = cases (lt_or_le (suc i) (place_of ws (get_or ws i 0)))
    where
      least : i < place_of ws (get_or ws i 0)
      least = le_word i (get_or ws i 0) lt (omega arith)

      cases : (suc i < place_of ws (get_or ws i 0)) ⊎ (place_of ws (get_or ws i 0) ≤ suc i) → place_of ws (get_or ws i 0) ≡ suc i
      cases (inl c) = absurd (omega (arith, word_le (suc i) (get_or ws i 0) c, rising-less ws rises i (suc i) (omega arith) (omega (arith, place_most (get_or ws i 0)))))
      cases (inr c) = omega (arith, least)

  pub place-before : (i : ℕ) → i < length ws → 0 < get_or ws i 0 → place_of ws (get_or ws i 0 - 1) ≡ i
  place-before i lt some = cases (lt_or_le (place_of ws e) i) (lt_or_le i (place_of ws e))
    where
      e : ℕ
      e = get_or ws i 0 - 1

      cases : (place_of ws e < i) ⊎ (i ≤ place_of ws e) → (i < place_of ws e) ⊎ (place_of ws e ≤ i) → place_of ws e ≡ i
      cases (inl c) d = absurd (omega (arith, word_above (i - 1) e (omega arith) (omega arith), rising-less ws rises (i - 1) i (omega arith) lt))
      cases (inr c) (inl d) = absurd (omega (arith, word_le i e d))
      cases (inr c) (inr d) = omega arith

-- A marked event lies between the first word and the last, and all events that are marked do exactly if these words do
module _ (ws : List ℕ) (h : ranges ws ≡ true) where
  rises : rising ws ≡ true
  rises = (ranges_even ws h).0

  even : length ws % 2 ≡ 0
  even = (ranges_even ws h).1

  pub marked-is : (e : ℕ) → mem e (events_in ws) ≡ is_odd (place_of ws e)
  unfolding ranges
  marked-is e = marked_odd ws rises (and_right (rising ws) (paired ws) h) e

  pub marked-place : (e : ℕ) → mem e (events_in ws) ≡ true → (place_of ws e % 2 ≡ 1) × (place_of ws e < length ws)
  marked-place e m =
      let o : place_of ws e % 2 ≡ 1 = odd_is (place_of ws e) (sym (marked-is e) ∙ m) in
      (o, omega (arith, even, place_most ws rises e))

  pub held-within : (g : Graph) → all_held g (events_in ws) ≡ words_within (first_held g) (len g) ws
  unfolding all_held words_within
  held-within g = bool_iff (all_held g (events_in ws)) (words_within (first_held g) (len g) ws) there back
    where
      n : ℕ
      n = length ws

      bounds : Bool
      bounds = leb (first_held g) (get_or ws 0 0) && leb (get_or ws (n - 1) 0) (len g)

      there : all_held g (events_in ws) ≡ true → words_within (first_held g) (len g) ws ≡ true
      there k = go (eq_or-not n 0)
        where
          held : (e : ℕ) → place_of ws e % 2 ≡ 1 → (first_held g ≤ e) × (e < len g)
          held e o = held-between g e (all-at (λ x. is_held (side g x)) (events_in ws) k e (marked-is e ∙ is_odd_lem (place_of ws e) o))

          go : (n ≡ 0) ⊎ (n ≡ 0 → ⊥) → eqb n 0 || bounds ≡ true
          go (inl z) = rw (eq-eqb n 0 z)
          go (inr z) =
              let some : 1 < n = omega (arith, even) in
              let last : 0 < get_or ws (n - 1) 0 = omega (arith, rising-less ws rises 0 (n - 1) (omega arith) (omega arith)) in
              let a = held (get_or ws 0 0) (omega (arith, place_at ws rises 0 (omega arith))) in
              let b = held (get_or ws (n - 1) 0 - 1) (omega (arith, even, place-before ws rises (n - 1) (omega arith) last)) in
              rw (ne_eqb n 0 z, le-leb (first_held g) (get_or ws 0 0) a.0, le-leb (get_or ws (n - 1) 0) (len g) (omega (arith, b.1)))

      back : words_within (first_held g) (len g) ws ≡ true → all_held g (events_in ws) ≡ true
      back k = all_of (λ x. is_held (side g x)) (events_in ws) (λ e m. go e (marked-place e m) (or_cases (eqb n 0) bounds k))
        where
          go : (e : ℕ) → (place_of ws e % 2 ≡ 1) × (place_of ws e < n) → (eqb n 0 ≡ true) ⊎ (bounds ≡ true) → is_held (side g e) ≡ true
          go e p (inl z) = absurd (omega (arith, p.1, eqb-true n 0 z))
          go e p (inr z) =
              let a : first_held g ≤ get_or ws 0 0 = leb-true (first_held g) (get_or ws 0 0) (and_left (leb (first_held g) (get_or ws 0 0)) (leb (get_or ws (n - 1) 0) (len g)) z) in
              let b : get_or ws (n - 1) 0 ≤ len g = leb-true (get_or ws (n - 1) 0) (len g) (and_right (leb (first_held g) (get_or ws 0 0)) (leb (get_or ws (n - 1) 0) (len g)) z) in
              between-held g e (omega (arith, word_le ws rises 0 e (omega (arith, p.0))))
              (omega (arith, word_above ws rises (place_of ws e) e p.1 (omega arith), rising_get_d ws rises (place_of ws e) (n - 1) (omega (arith, p.1)) (omega (arith, p.1))))

  -- From an event s up to an end, where no range begins between the two
  module _ (s end : ℕ) where
    abbrev k : ℕ
    k = place_of ws s

    -- so many words at most are at most an event before the end
    clear_place : clear_at ws k end ≡ true → (e : ℕ) → e < end → place_of ws e ≤ k + k % 2
    unfolding clear_at
    clear_place c e lt = go (lt_or_le (k + k % 2) (place_of ws e)) (or_cases (leb (length ws) (k + k % 2)) (leb end (get_or ws (k + k % 2) 0)) c)
      where
        go : (k + k % 2 < place_of ws e) ⊎ (place_of ws e ≤ k + k % 2) → (leb (length ws) (k + k % 2) ≡ true) ⊎ (leb end (get_or ws (k + k % 2) 0) ≡ true) → place_of ws e ≤ k + k % 2
        go (inr q) d = q
        go (inl q) (inl d) = absurd (omega (arith, place_most ws rises e, leb-true (length ws) (k + k % 2) d))
        go (inl q) (inr d) = absurd (omega (arith, word_le ws rises (k + k % 2) e q, leb-true end (get_or ws (k + k % 2) 0) d))

    -- what is marked goes from s up to `end_at`
    pub marked-part : clear_at ws k end ≡ true → (e : ℕ) → s ≤ e → e < end → (mem e (events_in ws) ≡ true) ↔ (e < end_number (end_at ws k end))
    unfolding end_at end_number
    marked-part c e le lt = go (odd_or_even k)
      where
        least : k ≤ place_of ws e
        least = place_mono ws rises s e le

        most : place_of ws e ≤ k + k % 2
        most = clear_place c e lt

        go : ((k % 2 ≡ 1) × (is_odd k ≡ true)) ⊎ ((k % 2 ≡ 0) × (is_odd k ≡ false)) → (mem e (events_in ws) ≡ true) ↔ (e < end_number (end_at ws k end))
        go (inr o) = rw o.1 (
          (λ m. absurd (omega (arith, o.0, least, most, (marked-place e m).0))),
          (λ q. absurd (omega arith)),
        )
        go (inl o) = rw o.1 (
          (λ m. let p = marked-place e m in omega (arith, word_above ws rises k e (omega (arith, least, p.1)) (omega (arith, o.0, least, most, p.0)))),
          (λ q. marked-is e ∙ is_odd_lem (place_of ws e) (inside (lt_or_le k (place_of ws e)) q)),
        )
          where
            inside : (k < place_of ws e) ⊎ (place_of ws e ≤ k) → e < min (get_or ws k 0) end → place_of ws e % 2 ≡ 1
            inside (inl d) q = absurd (omega (arith, word_le ws rises k e d))
            inside (inr d) q = let same : place_of ws e ≡ k = omega (arith, least) in rw same o.0

    -- which is not above the end, and above s if there is one
    pub part_most : end_number (end_at ws k end) ≤ end
    unfolding end_at end_number
    part_most = go (is_odd k)
      where
        go : (t : Bool) → end_number (cond t (Some (record { 0 = min (get_or ws k 0) end })) None) ≤ end
        go true = omega arith
        go false = omega arith

    pub part_above : s < end → is_some (end_at ws k end) ≡ true → s < end_number (end_at ws k end)
    unfolding end_at end_number
    part_above lt = go (odd_or_even k)
      where
        go : ((k % 2 ≡ 1) × (is_odd k ≡ true)) ⊎ ((k % 2 ≡ 0) × (is_odd k ≡ false)) → is_some (end_at ws k end) ≡ true → s < end_number (end_at ws k end)
        go (inl o) = rw o.1 (λ n. omega (arith, word_above ws rises k s (omega (arith, o.0, even, place_most ws rises s)) (omega arith)))
        go (inr o) = rw o.1 (λ n. false_true n)

    -- A range that begins inside is told by an event that is marked where the one before it is not
    pub not_clear : clear_at ws k end ≡ false → (a : ℕ) × (s < a) × (a < end) × (mem a (events_in ws) ≡ true) × (mem (a - 1) (events_in ws) ≡ false)
    unfolding clear_at
    not_clear c =
        let i : ℕ = k + k % 2 in
        let lt : i < length ws = leb-false (length ws) i (or-first (leb (length ws) i) (leb end (get_or ws i 0)) c) in
        let q : get_or ws i 0 < end = leb-false end (get_or ws i 0) (or-last (leb (length ws) i) (leb end (get_or ws i 0)) c) in
        let p : s < get_or ws i 0 = word_above ws rises i s lt (omega arith) in (
          get_or ws i 0,
          p,
          q,
          marked-is (get_or ws i 0) ∙ is_odd_lem (place_of ws (get_or ws i 0)) (omega (arith, place_at ws rises i lt)),
          marked-is (get_or ws i 0 - 1) ∙ even_is (place_of ws (get_or ws i 0 - 1)) (omega (arith, place-before ws rises i lt (omega arith))),
        )
