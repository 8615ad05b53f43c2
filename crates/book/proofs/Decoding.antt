-- The words that bytes begin with: how many, each by its bytes, the next of them, those that are left after some. Assumes nothing.
use Rattle.std.proofs.Common.{◌≡◌, refl, sym, ◌∙◌, ap, List, [], ◌∷◌, ℕ, zero, suc, ◌+◌, ◌-◌, ◌*◌, ◌/◌, ◌<◌, ◌≤◌, length, get_or, take, drop, arith}
use Rattle.std.proofs.Common.{length-drop, Bool, true, false, subst, ltb, drop-drop, get_or-drop, ◌⊎◌, inl, inr, set, get_or-set_same, get_or-set_other}
use Rattle.std.proofs.Math.Option.{none, some, none-ne-some, some-injective}
use Rattle.std.specs.List.{IsSplitAt}
use Rattle.lists.proofs.Truth.{lt_or_le}
use Rattle.model.specs.Book.{word, words_of, take_words}
use Rattle.model.proofs.BookWords.{Parted, taken, cut_off}

pub words_length : (n : ℕ) (bs : List ℕ) → length (words_of n bs) ≡ n
unfolding words_of
words_length zero bs = refl
words_length (suc n) bs = ap suc (words_length n (drop 4 bs))

-- the bytes after n words and one more
after_one : (n : ℕ) (bs : List ℕ) → drop (4 * n) (drop 4 bs) ≡ drop (4 * suc n) bs
after_one n bs = let e : 4 + 4 * n ≡ 4 * suc n = omega arith in drop-drop (4 * n) 4 bs ∙ ap (λ m. drop m bs) e

drop-words : (a n : ℕ) (bs : List ℕ) → drop a (words_of (a + n) bs) ≡ words_of n (drop (4 * a) bs)
unfolding words_of
drop-words zero n bs = let e : 0 + n ≡ n = omega arith in ap (λ m. words_of m bs) e
drop-words (suc a) n bs =
    let e : suc a + n ≡ suc (a + n) = omega arith in
    ap (λ m. drop (suc a) (words_of m bs)) e ∙ drop-words a n (drop 4 bs) ∙ ap (words_of n) (after_one a bs)

take_words_lem : (m n : ℕ) (bs : List ℕ) → take m (words_of (m + n) bs) ≡ words_of m bs
unfolding words_of
take_words_lem zero n bs = refl
take_words_lem (suc m) n bs =
    let e : suc m + n ≡ suc (m + n) = omega arith in
    ap (λ k. take (suc m) (words_of k bs)) e ∙ ap (λ ws. word bs ∷ ws) (take_words_lem m n (drop 4 bs))

-- m words from the place a on
pub words-part : (bs : List ℕ) (n a m : ℕ) → a + m ≤ n → take m (drop a (words_of n bs)) ≡ words_of m (drop (4 * a) bs)
words-part bs n a m h =
    let e : n ≡ a + (m + (n - (a + m))) = omega arith in
    ap (λ k. take m (drop a (words_of k bs))) e ∙ ap (take m) (drop-words a (m + (n - (a + m))) bs) ∙ take_words_lem m (n - (a + m)) (drop (4 * a) bs)

-- the word at a place
pub words-at : (bs : List ℕ) (n i : ℕ) → i < n → get_or (words_of n bs) i 0 ≡ word (drop (4 * i) bs)
unfolding words_of
words-at bs zero i h = absurd (omega arith)
words-at bs (suc n) zero h = refl
words-at bs (suc n) (suc i) h = words-at (drop 4 bs) n i (omega arith) ∙ ap word (after_one i bs)

-- A word by its bytes
pub word_bytes : (bs : List ℕ) (at : ℕ) →
    word (drop at bs) ≡ get_or bs at 0 + get_or bs (at + 1) 0 * 256 + get_or bs (at + 2) 0 * 65536 + get_or bs (at + 3) 0 * 16777216
unfolding word
word_bytes bs at = let e : at + 0 ≡ at = omega arith in rw (get_or-drop at bs 0 0, get_or-drop at bs 1 0, get_or-drop at bs 2 0, get_or-drop at bs 3 0, e)

-- One word more in its place
pub put_word : (bs ws : List ℕ) (i w : ℕ) → i < length ws → w ≡ word (drop (4 * i) bs) → ((k : ℕ) → k < i → get_or ws k 0 ≡ word (drop (4 * k) bs)) →
    (k : ℕ) → k < i + 1 → get_or (set ws i w) k 0 ≡ word (drop (4 * k) bs)
put_word bs ws i w l e h k m = go (lt_or_le k i)
  where
    go : (k < i) ⊎ (i ≤ k) → get_or (set ws i w) k 0 ≡ word (drop (4 * k) bs)
    go (inl u) = get_or-set_other ws i k w 0 (λ q. absurd (omega arith)) ∙ h k u
    go (inr u) = let q : k ≡ i = omega arith in rw q (get_or-set_same ws i w 0 l ∙ e)

-- A list of the words that stand at every fourth byte
pub each_word : (ws bs : List ℕ) → ((k : ℕ) → k < length ws → get_or ws k 0 ≡ word (drop (4 * k) bs)) → ws ≡ words_of (length ws) bs
unfolding words_of
each_word [] bs h = refl
each_word (w ∷ ws) bs h =
    ap (λ x. x ∷ ws) (h 0 (omega arith))
    ∙ ap (λ xs. word bs ∷ xs) (each_word ws (drop 4 bs) (λ k l. h (suc k) (omega arith) ∙ ap word (sym (after_one k bs))))

-- Words taken from the front, where `ws` are the words of the bytes `bs`
module _ (bs ws : List ℕ) (d : ws ≡ words_of (length bs / 4) bs) (n : ℕ) where
  ws_length : length ws ≡ length bs / 4
  ws_length = ap length d ∙ words_length (length bs / 4) bs

  pub none_left : length ws < n → take_words n bs ≡ none
  none_left h = cut_off bs 0 n (omega arith) (omega (arith, ws_length))

  pub fits : n ≤ length ws → 4 * n ≤ length bs
  fits h = omega (arith, ws_length)

  module _ (a b rest : List ℕ) (s : IsSplitAt ws n a b) (r : rest ≡ drop (4 * n) bs) where
    parts : length bs / 4 ≡ n + (length bs / 4 - n)
    parts = omega (arith, ws_length, s.0)

    words_are : ws ≡ words_of (n + (length bs / 4 - n)) bs
    words_are = d ∙ ap (λ k. words_of k bs) parts

    pub some_taken : take_words n bs ≡ some (a, rest)
    some_taken =
        let e : 0 + n ≡ n = omega arith in
        let first : words_of n bs ≡ a = sym (s.1 ∙ ap (take n) words_are ∙ take_words_lem n (length bs / 4 - n) bs) in
        taken bs 0 n (omega (arith, ws_length, s.0)) ∙ ap (λ k. some (words_of n bs, drop (4 * k) bs)) e ∙ ap (λ l. some (l, drop (4 * n) bs)) first ∙ ap (λ l. some (a, l)) (sym r)

    pub decoded_after : b ≡ words_of (length rest / 4) rest
    decoded_after =
        let e : length bs / 4 - n ≡ length rest / 4 = omega (arith, ap length r, length-drop (4 * n) bs, fits s.0) in
        s.2 ∙ ap (drop n) words_are ∙ drop-words n (length bs / 4 - n) bs ∙ ap (λ l. words_of (length bs / 4 - n) l) (sym r) ∙ ap (λ k. words_of k rest) e

-- The next word
pub one_word : (bs ws rest : List ℕ) → take_words 1 bs ≡ some (ws, rest) → ws ≡ get_or ws 0 0 ∷ []
unfolding take_words words_of
one_word bs ws rest = go (ltb (length bs) (4 * 1))
  where
    go : (t : Bool) → ◌≡◌ {A = Parted} (elim t as (λ _. Parted) [ true ↦ none | false ↦ some (words_of 1 bs, drop (4 * 1) bs) ]) (some (ws, rest)) → ws ≡ get_or ws 0 0 ∷ []
    go true e = absurd (none-ne-some (ws, rest) e)
    go false e = let w : words_of 1 bs ≡ ws = ap (λ (t : List ℕ × List ℕ). t.0) (some-injective (words_of 1 bs, drop (4 * 1) bs) (ws, rest) e) in subst (λ (l : List ℕ). l ≡ get_or l 0 0 ∷ []) w refl
