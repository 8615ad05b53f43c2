-- Ranges written one after the other, as the cut's code does. Assumes nothing.
use Rattle.std.proofs.Common.{◌≡◌, refl, sym, ap, ◌∙◌, Bool, true, false, List, [], ◌∷◌, ◌++◌, map, append_assoc, ℕ, ◌+◌, ◌<◌, ◌≤◌, length, drop, get_or, eqb, lt-ltb, le-ltb, Err}
use Rattle.model.specs.Cut.{HistoryRange, concurrent, range_words, ranges_from}
use Rattle.model.specs.declared.record.EventRunIndex.{EventRunIndex}
use Rattle.model.specs.declared.answers.Written.{Written}
use Rattle.model.specs.declared.answers.Refusal.{Refusal}
use Rattle.graph.specs.Records.{put, put_all}
use Rattle.graph.specs.Cutting.{Cutting, pending, join_on, put_ranges, closed, cut_on}
use Rattle.graph.proofs.Writing.{put-append, refused_stays}
use Rattle.graph.proofs.Cuts.{ranges-next, ranges-none}

-- The Linear that is pending has a run, or none
pub linear_put : (w : Written × List ℕ) (f end : ℕ) → f < end → put_ranges w (pending f end) ≡ put 3 w (0 ∷ f ∷ end ∷ [])
unfolding put_ranges pending put_all range_words
linear_put w f end h = rw (lt-ltb f end h)

pub linear_none : (w : Written × List ℕ) (f end : ℕ) → end ≤ f → put_ranges w (pending f end) ≡ w
unfolding put_ranges pending put_all
linear_none w f end h = rw (le-ltb f end h)

map_both : (xs ys : List HistoryRange) → map range_words (xs ++ ys) ≡ map range_words xs ++ map range_words ys
map_both [] ys = refl
map_both (x ∷ xs) ys = ap (λ (l : List (List ℕ)). range_words x ∷ l) (map_both xs ys)

ranges-append : (w : Written × List ℕ) (xs ys : List HistoryRange) → put_ranges w (xs ++ ys) ≡ put_ranges (put_ranges w xs) ys
unfolding put_ranges
ranges-append w xs ys = rw (map_both xs ys) (put-append 3 w (map range_words xs) (map range_words ys))

-- Once a record is refused, no range is written
ranges_refused : (k : ℕ) (r : Refusal) (l : List ℕ) (rs : List HistoryRange) →
    put_ranges (record { count = k; outcome = Err r }, l) rs ≡ (record { count = k; outcome = Err r }, l)
unfolding put_ranges
ranges_refused k r l rs = refused_stays 3 k r l (map range_words rs)

-- A range that is not a single run
closed-parts : (w : Cutting) (a b : ℕ) → closed w a b ≡ put_ranges (put_ranges w.written (pending w.first.0 a)) (concurrent a b ∷ [])
unfolding closed
closed-parts w a b = ranges-append w.written (pending w.first.0 a) (concurrent a b ∷ [])

closed-put : (w : Cutting) (a b : ℕ) → closed w a b ≡ put 3 (put_ranges w.written (pending w.first.0 a)) (1 ∷ a ∷ b ∷ [])
closed-put w a b = closed-parts w a b ∙ (unfold put_ranges put_all range_words in refl)

pub on_single : (w : Cutting) (a b : ℕ) → eqb b (a + 1) ≡ true → cut_on w a b ≡ w
unfolding cut_on
on_single w a b h = rw h

module _ (w : Cutting) (a b : ℕ) (h : eqb b (a + 1) ≡ false) where
  on_other : cut_on w a b ≡ record { written = closed w a b; first = record { 0 = b } }
  unfolding cut_on
  on_other = rw h

  -- Both that Linear and the Concurrent are written; one of them is refused
  pub on_closed : {p q : Written × List ℕ} → p ≡ put_ranges w.written (pending w.first.0 a) → q ≡ put 3 p (1 ∷ a ∷ b ∷ []) →
      record { written = q; first = record { 0 = b } } ≡ cut_on w a b
  on_closed e d =
      ap {B = Cutting} (λ (v : Written × List ℕ). record { written = v; first = record { 0 = b } })
      (d ∙ (ap (λ (v : Written × List ℕ). put 3 v (1 ∷ a ∷ b ∷ [])) e ∙ sym (closed-put w a b))) ∙
      sym on_other

  pub on_refused : (k : ℕ) (r : Refusal) (l : List ℕ) → (record { count = k; outcome = Err r }, l) ≡ put_ranges w.written (pending w.first.0 a) →
      (record { count = k; outcome = Err r }, l) ≡ (cut_on w a b).written
  on_refused k r l e =
      sym (ranges_refused k r l (concurrent a b ∷ [])) ∙
      (ap (λ (v : Written × List ℕ). put_ranges v (concurrent a b ∷ [])) e ∙
      (sym (closed-parts w a b) ∙ ap (λ (v : Cutting). v.written) (sym on_other)))

-- What is left, written from here
unfoldable pub cut_rest : Cutting → List (ℕ × ℕ) → ℕ → Written × List ℕ
cut_rest w rs end = put_ranges w.written (join_on w.first.0 rs end)

cut_step : (w : Cutting) (a b : ℕ) (rs : List (ℕ × ℕ)) (end : ℕ) → cut_rest (cut_on w a b) rs end ≡ cut_rest w ((a, b) ∷ rs) end
unfolding cut_rest join_on closed
cut_step w a b rs end = go (eqb b (a + 1)) refl
  where
    go : (t : Bool) → eqb b (a + 1) ≡ t → cut_rest (cut_on w a b) rs end ≡
        put_ranges w.written
        (elim t [ true ↦ join_on w.first.0 rs end | false ↦ pending w.first.0 a ++ (concurrent a b ∷ join_on b rs end) ])
    go true e = ap (λ (v : Cutting). cut_rest v rs end) (on_single w a b e)
    go false e =
        ap (λ (v : Cutting). cut_rest v rs end) (on_other w a b e) ∙
        (sym (ranges-append w.written (pending w.first.0 a ++ (concurrent a b ∷ [])) (join_on b rs end)) ∙
        ap (λ (l : List HistoryRange). put_ranges w.written l) (append_assoc (pending w.first.0 a) (concurrent a b ∷ []) (join_on b rs end)))

-- The loop begins with the first mark pending
pub cut_begin : (p : Written × List ℕ) (ms : List ℕ) (i end : ℕ) (k : EventRunIndex) → k.0 ≡ get_or ms i end →
    cut_rest (record { written = p; first = k }) (ranges_from (drop i ms) end) end ≡ put_ranges p (join_on (get_or ms i end) (ranges_from (drop i ms) end) end)
unfolding cut_rest
cut_begin p ms i end k e = ap (λ (f : ℕ). put_ranges p (join_on f (ranges_from (drop i ms) end) end)) e

-- goes on range by range
pub cut_turn : (w : Cutting) (ms : List ℕ) (i b end : ℕ) → i < length ms → b ≡ get_or ms (i + 1) end →
    cut_rest (cut_on w (get_or ms i 0) b) (ranges_from (drop (i + 1) ms) end) end ≡ cut_rest w (ranges_from (drop i ms) end) end
cut_turn w ms i b end h e =
    ap (λ (k : ℕ). cut_rest (cut_on w (get_or ms i 0) k) (ranges_from (drop (i + 1) ms) end) end) e ∙
    (cut_step w (get_or ms i 0) (get_or ms (i + 1) end) (ranges_from (drop (i + 1) ms) end) end ∙
    ap (λ (rs : List (ℕ × ℕ)). cut_rest w rs end) (sym (ranges-next ms i end h)))

-- or stops where a record is refused
pub cut_stop : (w : Cutting) (ms : List ℕ) (i b end : ℕ) → i < length ms → b ≡ get_or ms (i + 1) end →
    (k : ℕ) (r : Refusal) (l : List ℕ) → (record { count = k; outcome = Err r }, l) ≡ (cut_on w (get_or ms i 0) b).written →
    (record { count = k; outcome = Err r }, l) ≡ cut_rest w (ranges_from (drop i ms) end) end
unfolding cut_rest
cut_stop w ms i b end h e k r l d =
    let c = cut_on w (get_or ms i 0) b in
    let rest = join_on c.first.0 (ranges_from (drop (i + 1) ms) end) end in
    sym (ranges_refused k r l rest) ∙ (ap (λ (v : Written × List ℕ). put_ranges v rest) d ∙ cut_turn w ms i b end h e)

-- and ends with what is pending
pub cut_end : (w : Cutting) (ms : List ℕ) (i end : ℕ) → length ms ≤ i →
    put_ranges w.written (pending w.first.0 end) ≡ cut_rest w (ranges_from (drop i ms) end) end
unfolding cut_rest join_on
cut_end w ms i end h = ap (λ (rs : List (ℕ × ℕ)). cut_rest w rs end) (sym (ranges-none ms i end h))
