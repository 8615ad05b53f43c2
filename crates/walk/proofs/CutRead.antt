-- The records of a cut read from the list that holds them. Assumes nothing.
use Rattle.std.proofs.Common.{◌≡◌, refl, sym, ap, ap₂, ◌∙◌, subst, ◌⊎◌, inl, inr, true, cond, List, [], ◌∷◌, ◌++◌, map, ℕ, zero, suc, ◌+◌, ◌*◌, ◌/◌, ◌≤◌, ◌<◌, add-one, arith, length, get_or, take, drop}
use Rattle.std.proofs.Common.{length-append, take_at, take_all, lt-ltb, le-ltb}
use lib.ListN.{length-map}
use borrow.Author.Tests.{lt-leb}
use Rattle.lists.specs.Lists.{concat}
use Rattle.lists.specs.Areas.{over}
use Rattle.lists.proofs.Truth.{eq_or-not}
use Rattle.model.specs.declared.record.CausalGraph.{CausalGraph}
use Rattle.model.specs.declared.answers.Written.{Written}
use Rattle.model.specs.declared.answers.Refusal.TheVariants.{ListTooShort}
use Rattle.model.specs.Refusals.{first_of, Outcome}
use Rattle.model.specs.Graph.{runs, first_held, marked}
use Rattle.model.specs.Record.{view}
use Rattle.model.specs.Broken.{Held}
use Rattle.model.specs.Cut.{HistoryRange, linear, concurrent, range_words, cut_from, writing, unwritten, cut_outcome, cut_of}
use Rattle.model.proofs.Stored.{not-broken}
use Rattle.model.proofs.FormedReads.{marked-first}
use Rattle.model.proofs.Lasting.{marks_list}
use Rattle.model.proofs.RoomsReplay.{Laid, cut_laid}
use Rattle.graph.proofs.Views.{facts, runs-view}
use Rattle.std.specs.Simd.{first_chunks}
use Rattle.model.specs.History.{at}
use Rattle.graph.specs.Kinds.{kind_of}
use Rattle.walk.specs.CutRecords.{range_by, range_in, ranges_in, Tiled}
use Rattle.walk.proofs.Arrays.{arrays_of}
use Rattle.std.specs.Prelude.{Ok, Err}

-- A range's kind, first run and end run
kind : HistoryRange → ℕ
kind (linear a b) = 0
kind (concurrent a b) = 1

first : HistoryRange → ℕ
first (linear a b) = a
first (concurrent a b) = a

past : HistoryRange → ℕ
past (linear a b) = b
past (concurrent a b) = b

by_kind : (r : HistoryRange) → range_in (range_words r) ≡ r
unfolding range_in range_by range_words kind_of
by_kind (linear a b) = refl
by_kind (concurrent a b) = refl

-- Ranges in words
abbrev pub ranges_words : List HistoryRange → List ℕ
ranges_words cs = concat (map range_words cs)

words-next : (r : HistoryRange) (cs : List HistoryRange) → ranges_words (r ∷ cs) ≡ kind r ∷ first r ∷ past r ∷ ranges_words cs
unfolding concat range_words kind first past
words-next (linear a b) cs = refl
words-next (concurrent a b) cs = refl

pub words-length : (cs : List HistoryRange) → length (ranges_words cs) ≡ 3 * length cs
words-length [] = unfold concat in refl
words-length (r ∷ cs) = omega (arith, ap length (words-next r cs), words-length cs)

-- Ranges that lie one after another
laid_next : (lo : ℕ) (r : HistoryRange) (cs : List HistoryRange) (end : ℕ) → Laid lo (r ∷ cs) end → (lo ≤ first r) × (first r < past r) × Laid (past r) cs end
unfolding first past
laid_next lo (linear a b) cs end h = h
laid_next lo (concurrent a b) cs end h = h

pub laid_le : (lo : ℕ) (cs : List HistoryRange) (end : ℕ) → Laid lo cs end → lo + length cs ≤ end
laid_le lo [] end h = omega (arith, h)
laid_le lo (r ∷ cs) end h =
    let n = laid_next lo r cs end h in
    omega (arith, n.0, n.1, laid_le (past r) cs end n.2)

-- The words of ranges, three by three
chunks_are : (cs : List HistoryRange) → first_chunks 3 (length cs) (ranges_words cs) ≡ map range_words cs
chunks_are [] = refl
chunks_are (r ∷ cs) =
    ap (first_chunks 3 (suc (length cs))) (words-next r cs) ∙ ap₂ (λ (x : List ℕ) (xs : List (List ℕ)). x ∷ xs) (words_of r) (chunks_are cs)
  where
    words_of : (r : HistoryRange) → kind r ∷ first r ∷ past r ∷ [] ≡ range_words r
    words_of (linear a b) = unfold kind first past range_words in refl
    words_of (concurrent a b) = unfold kind first past range_words in refl

-- are these ranges
ranges_are : (cs : List HistoryRange) → ranges_in (map range_words cs) ≡ cs
unfolding ranges_in
ranges_are [] = refl
ranges_are (r ∷ cs) = ap₂ (λ (x : HistoryRange) (xs : List HistoryRange). x ∷ xs) (by_kind r) (ranges_are cs)

-- and each lies before the end
ranges_stand : (lo : ℕ) (cs : List HistoryRange) (end : ℕ) → Laid lo cs end → (i : ℕ) → i < length (map range_words cs) →
    (get_or (at (map range_words cs) i) 1 0 ≤ get_or (at (map range_words cs) i) 2 0) × (get_or (at (map range_words cs) i) 2 0 ≤ end)
unfolding at range_words
ranges_stand lo [] end h i lt = absurd (omega arith)
ranges_stand lo (linear a b ∷ cs) end h zero lt = (omega (arith, h.1), omega (arith, laid_le b cs end h.2))
ranges_stand lo (concurrent a b ∷ cs) end h zero lt = (omega (arith, h.1), omega (arith, laid_le b cs end h.2))
ranges_stand lo (linear a b ∷ cs) end h (suc i) lt = ranges_stand b cs end h.2 i (omega (arith, lt))
ranges_stand lo (concurrent a b ∷ cs) end h (suc i) lt = ranges_stand b cs end h.2 i (omega (arith, lt))

-- and after the one before it
ranges_next : (lo : ℕ) (cs : List HistoryRange) (end : ℕ) → Laid lo cs end → (i : ℕ) → suc i < length (map range_words cs) →
    get_or (at (map range_words cs) i) 2 0 ≤ get_or (at (map range_words cs) (suc i)) 1 0
unfolding at
ranges_next lo [] end h i lt = absurd (omega arith)
ranges_next lo (r ∷ []) end h i lt = absurd (omega arith)
ranges_next lo (r ∷ s ∷ cs) end h zero lt =
    let n = laid_next lo r (s ∷ cs) end h in
    omega (arith, past_word r, first_word s, (laid_next (past r) s cs end n.2).0)
  where
    first_word : (r : HistoryRange) → get_or (range_words r) 1 0 ≡ first r
    first_word (linear a b) = unfold first range_words in refl
    first_word (concurrent a b) = unfold first range_words in refl

    past_word : (r : HistoryRange) → get_or (range_words r) 2 0 ≡ past r
    past_word (linear a b) = unfold past range_words in refl
    past_word (concurrent a b) = unfold past range_words in refl
ranges_next lo (r ∷ s ∷ cs) end h (suc i) lt = ranges_next (past r) (s ∷ cs) end (laid_next lo r (s ∷ cs) end h).2 i (omega (arith, lt))

module _ (g : CausalGraph) (held : Held g) where
  abbrev ranges : List HistoryRange
  ranges = cut_from (view g) 0

  -- Run 0 is marked
  first-marked : marked (view g) 0 ≡ true
  unfolding first_held
  first-marked = marked-first (view g) held.formed 0 (omega arith)

  -- The whole history can be cut
  cut_outcome_lem : cut_outcome g 0 ≡ Ok tt
  unfolding cut_outcome first_of
  cut_outcome_lem = go (eq_or-not (runs (view g)) 0)
    where
      go : (runs (view g) ≡ 0) ⊎ (runs (view g) ≡ 0 → ⊥) → cut_outcome g 0 ≡ Ok tt
      go (inl z) = rw (not-broken g held, le-ltb 0 (runs (view g)) (omega arith))
      go (inr n) = rw (
        not-broken g held,
        lt-ltb 0 (runs (view g)) (omega arith),
        lt-leb (runs (view g)) 0 (omega arith),
        marks_list (view g) 0 (omega arith),
        first-marked,
      )

  pub ranges-few : length ranges ≤ 512
  ranges-few = omega (arith, laid_le 0 ranges (runs (view g)) (cut_laid (view g) 0), (facts g held).runs, runs-view g held)

  -- A list of 512 records holds all ranges
  pub cut_all : (lent : List ℕ) → length lent ≡ 1536 → cut_of g 0 lent ≡ (record { count = length ranges; outcome = Ok tt }, over (ranges_words ranges) lent)
  unfolding cut_of
  cut_all lent size = go (cut_outcome g 0) cut_outcome_lem
    where
      room : length lent / 3 ≡ 512
      room = ap (λ (n : ℕ). n / 3) size

      few : length (map range_words ranges) ≤ length lent / 3
      few = omega (arith, length-map ranges range_words, ranges-few, room)

      fits : take (length lent / 3) (map range_words ranges) ≡ map range_words ranges
      fits = take_all (length lent / 3) (map range_words ranges) few

      all-written : writing 3 (map range_words ranges) lent ≡ (record { count = length ranges; outcome = Ok tt }, over (ranges_words ranges) lent)
      all-written = unfold writing in (λ i. (
        record {
          count = (ap length fits ∙ length-map ranges range_words) i;
          outcome = ap (λ t. cond t (Err ListTooShort) (Ok tt)) (le-ltb (length lent / 3) (length (map range_words ranges)) few) i;
        },
        over (concat (fits i)) lent,
      ))

      go : (o : Outcome) → o ≡ Ok tt →
          ◌≡◌ {A = Written × List ℕ} (elim o as (λ _. Written × List ℕ) [ Ok _ ↦ writing 3 (map range_words ranges) lent | Err r ↦ unwritten r lent ])
          (record { count = length ranges; outcome = Ok tt }, over (ranges_words ranges) lent)
      go o e =
          ap (λ (o : Outcome). elim o as (λ _. Written × List ℕ) [ Ok _ ↦ writing 3 (map range_words ranges) lent | Err r ↦ unwritten r lent ]) e ∙ all-written

  -- so the list afterwards is these ranges
  module _ (lent cut : List ℕ) (w : Written) (size : length lent ≡ 1536) (e : (w, cut) ≡ cut_of g 0 lent) where
    count-is : w.count ≡ length ranges
    count-is = ap (λ (x : Written × List ℕ). x.0.count) (e ∙ cut_all lent size)

    cut_is : cut ≡ ranges_words ranges ++ drop (length (ranges_words ranges)) lent
    cut_is = ap (λ (x : Written × List ℕ). x.1) (e ∙ cut_all lent size) ∙ (unfold over in refl)

    pub cut_long : 3 * w.count ≤ length cut
    cut_long =
        let rest : List ℕ = drop (length (ranges_words ranges)) lent in
        omega (arith, count-is, words-length ranges, ap length cut_is, length-append (ranges_words ranges) rest)

    -- Its records
    pub records_are : (rs : List (List ℕ)) → rs ≡ first_chunks 3 (length (take (3 * w.count) cut) / 3) (take (3 * w.count) cut) → rs ≡ map range_words ranges
    records_are rs q =
        let words : List ℕ = ranges_words ranges in
        let all : take (3 * w.count) cut ≡ words = ap (take (3 * w.count)) cut_is ∙ take_at words (drop (length words) lent) (3 * w.count) (omega (arith, words-length ranges, count-is)) in
        let n : length words / 3 ≡ length ranges = omega (arith, words-length ranges) in
        q ∙ (ap (λ (ws : List ℕ). first_chunks 3 (length ws / 3) ws) all ∙ (ap (λ (n : ℕ). first_chunks 3 n words) n ∙ chunks_are ranges))

    pub cut_reads : (rs : List (List ℕ)) → rs ≡ map range_words ranges → ranges_in rs ≡ ranges
    cut_reads rs q = ap ranges_in q ∙ ranges_are ranges

    pub cut_tiled : (rs : List (List ℕ)) → rs ≡ map range_words ranges → Tiled g rs
    cut_tiled rs q = subst (Tiled g) (sym q) (record {
      order = λ i lt. (ranges_stand 0 ranges (runs (view g)) (cut_laid (view g) 0) i lt).0;
      arrays = λ i lt. arrays_of g held _ (omega (arith, (ranges_stand 0 ranges (runs (view g)) (cut_laid (view g) 0) i lt).1, runs-view g held));
      next = λ i lt. rw (add-one i) (ranges_next 0 ranges (runs (view g)) (cut_laid (view g) 0) i (omega arith));
    })
