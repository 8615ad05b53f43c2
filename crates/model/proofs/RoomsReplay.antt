-- The room that a full replay needs: the ranges of a cut lie apart from one another, so 525,312 steps are enough. Assumes nothing.
use Rattle.std.proofs.Common.{◌≡◌, refl, sym, ◌∙◌, Bool, true, false, List, [], ◌∷◌, ◌++◌, ℕ, suc, ◌-◌, ◌*◌, ◌/◌, ◌≤◌, ◌<◌, arith, length, take, leb, ltb, eqb, le-ltb, ne_eqb}
use lib.ListN.{length-map}
use Rattle.lists.specs.Lists.{filter, concat, from, upto}
use Rattle.lists.specs.Areas.{fitting}
use Rattle.lists.proofs.Truth.{false_true}
use Rattle.lists.proofs.Counts.{from-length}
use Rattle.lists.proofs.Rising.{Up, up_filter, up_from}
use Rattle.lists.proofs.Pads.{length_over, fitting_fit}
use Rattle.model.specs.declared.answers.Refusal.TheVariants.{RowsTooLong, ListTooShort}
use Rattle.model.specs.Graph.{Graph, runs, marked, marks}
use Rattle.model.specs.Choice.{Range, range_of}
use Rattle.model.specs.Cut.{HistoryRange, linear, concurrent, ranges_from, join_linear, join_ranges, cut_from}
use Rattle.model.specs.Steps.{opened, apply, steps_of}
use Rattle.model.specs.Walk.{rows_into, rows_too_long}
use Rattle.model.specs.Replay.{Replayed, replay_range, replay_ranges}
use Rattle.model.proofs.Rooms.{range_span, steps_span, rows-enough}
use Rattle.std.specs.Prelude.{Ok, Err}
use Rattle.model.specs.Refusals.{Outcome}

-- Ranges that hold a run each, one after another from `lo` on, up to `end`
abbrev pub Laid : ℕ → List HistoryRange → ℕ → Type 0
Laid lo [] end = lo ≤ end
Laid lo (linear a b ∷ rs) end = (lo ≤ a) × (a < b) × Laid b rs end
Laid lo (concurrent a b ∷ rs) end = (lo ≤ a) × (a < b) × Laid b rs end

-- The same of pairs of a first run and an end run
abbrev pub Apart : ℕ → List (ℕ × ℕ) → ℕ → Type 0
Apart lo [] end = lo ≤ end
Apart lo (r ∷ rs) end = (lo ≤ r.0) × (r.0 < r.1) × Apart r.1 rs end

laid_le : (lo : ℕ) (rs : List HistoryRange) (end : ℕ) → Laid lo rs end → lo ≤ end
laid_le lo [] end h = h
laid_le lo (linear a b ∷ rs) end h = omega (arith, h.0, h.1, laid_le b rs end h.2)
laid_le lo (concurrent a b ∷ rs) end h = omega (arith, h.0, h.1, laid_le b rs end h.2)

-- The marks rise and are runs
pub marks-rise : (g : Graph) → Up 0 (marks g) (runs g)
unfolding marks upto
marks-rise g = up_filter (marked g) 0 (from 0 (runs g)) (runs g) (up_from 0 (runs g) (runs g) (omega arith))

ranges_apart : (lo : ℕ) (ms : List ℕ) (end : ℕ) → Up lo ms end → Apart lo (ranges_from ms end) end
unfolding ranges_from
ranges_apart lo [] end h = h
ranges_apart lo (a ∷ []) end h = (h.0, h.1, omega arith)
ranges_apart lo (a ∷ b ∷ ms) end h = (h.0, h.1.0, ranges_apart b (b ∷ ms) end (omega arith, h.1.1))

linear_laid : (lo a b : ℕ) (rs : List HistoryRange) (end : ℕ) → lo ≤ a → a < b → Laid b rs end → Laid lo (join_linear a b rs) end
unfolding join_linear
linear_laid lo a b [] end p q h = (p, q, h)
linear_laid lo a b (linear c d ∷ rs) end p q h = (p, omega (arith, h.0, h.1), h.2)
linear_laid lo a b (concurrent c d ∷ rs) end p q h = (p, q, h)

join_laid : (lo : ℕ) (rs : List (ℕ × ℕ)) (end : ℕ) → Apart lo rs end → Laid lo (join_ranges rs) end
unfolding join_ranges
join_laid lo [] end h = h
join_laid lo (r ∷ rs) end h = go (eqb r.1 (suc r.0)) (join_laid r.1 rs end h.2)
  where
    go : (t : Bool) → Laid r.1 (join_ranges rs) end →
        Laid lo (elim t as (λ _. List HistoryRange) [ true ↦ join_linear r.0 r.1 (join_ranges rs) | false ↦ concurrent r.0 r.1 ∷ join_ranges rs ]) end
    go true ih = linear_laid lo r.0 r.1 (join_ranges rs) end h.0 h.1 ih
    go false ih = (h.0, h.1, ih)

-- The ranges of a cut lie one after another, up to the run count
pub cut_laid : (g : Graph) (f : ℕ) → Laid 0 (cut_from g f) (runs g)
unfolding cut_from
cut_laid g f =
    let ms : List ℕ = filter (λ m. leb f m) (marks g) in
    join_laid 0 (ranges_from ms (runs g)) (runs g) (ranges_apart 0 ms (runs g) (up_filter (λ m. leb f m) 0 (marks g) (runs g) (marks-rise g)))

-- The row area keeps its length
pub rows_into-length : (w : Range) (rows : List ℕ) → length (rows_into w rows) ≡ length rows
unfolding rows_into
rows_into-length w rows = length_over (concat (fitting (length rows) w.rows)) rows (fitting_fit (length rows) w.rows)

-- What a range of b - a runs leaves: done, at most 1,026 steps a run, and a row area of the length that it had
abbrev Fine : ℕ → ℕ → ℕ → Replayed → Type 0
Fine a b rows this = (this.0 ≡ Ok tt) × (length this.1 ≤ (b - a) * 1026) × (length this.2 ≡ rows)

linear_fine : (g : Graph) (a b : ℕ) (rows : List ℕ) → a < b → Fine a b (length rows) (replay_range g (linear a b) rows)
unfolding replay_range
linear_fine g a b rows q = (refl, omega (arith, length-map (from a (b - a)) apply, from-length a (b - a)), refl)

concurrent_fine : (g : Graph) (a b : ℕ) (rows : List ℕ) → runs g ≤ 512 → 131328 ≤ length rows → a < b →
    Fine a b (length rows) (replay_range g (concurrent a b) rows)
unfolding replay_range
concurrent_fine g a b rows limit wide q = go (rows_too_long w rows) (rows-enough g a b rows limit wide)
  where
    w : Range
    w = range_of g a b

    go : (t : Bool) → t ≡ false → Fine a b (length rows) (elim t as (λ _. Replayed) [
      | true ↦ (Err RowsTooLong, opened a b ∷ [], rows_into w rows)
      | false ↦ (Ok tt, opened a b ∷ steps_of w a 0 0, rows_into w rows)
    ])
    go true e = false_true (sym e)
    go false e = (refl, omega (arith, steps_span g a b 0 0 limit, range_span g a b), rows_into-length w rows)

-- One range done with room left, the replay goes on with the next
replay_next : (g : Graph) (c : HistoryRange) (cs : List HistoryRange) (room : ℕ) (rows : List ℕ) → 0 < room → (replay_range g c rows).0 ≡ Ok tt →
    length (replay_range g c rows).1 ≤ room →
    (replay_ranges g (c ∷ cs) room rows).0 ≡ (replay_ranges g cs (room - length (replay_range g c rows).1) (replay_range g c rows).2).0
unfolding replay_ranges
replay_next g c cs room rows left done fits =
    goes_on_lem (eqb room 0) (ne_eqb room 0 (λ e. omega arith)) (ltb room (length this.1)) (le-ltb room (length this.1) fits) this.0 done
  where
    this : Replayed
    this = replay_range g c rows

    later : Replayed
    later = replay_ranges g cs (room - length this.1) this.2

    goes_on_lem : (s : Bool) → s ≡ false → (t : Bool) → t ≡ false → (o : Outcome) → o ≡ Ok tt →
        (elim s as (λ _. Replayed) [
          | true ↦ (Err ListTooShort, [], rows)
          | false ↦ elim t as (λ _. Replayed) [
            | true ↦ (Err ListTooShort, take room this.1, this.2)
            | false ↦ elim o as (λ _. Replayed) [ Ok _ ↦ (later.0, this.1 ++ later.1, later.2) | Err r ↦ this ]
          ]
        ]).0 ≡ later.0
    goes_on_lem s e t f o k = rw (e, f, k)

-- Ranges one after another, in a list of 1,026 steps for each run
ranges-done : (g : Graph) → runs g ≤ 512 → (lo : ℕ) (cs : List HistoryRange) (end room : ℕ) (rows : List ℕ) → Laid lo cs end → (end - lo) * 1026 ≤ room →
    131328 ≤ length rows → (replay_ranges g cs room rows).0 ≡ Ok tt
unfolding replay_ranges
ranges-done g limit lo [] end room rows h q wide = refl
ranges-done g limit lo (linear a b ∷ cs) end room rows h q wide =
    let this : Replayed = replay_range g (linear a b) rows in
    let fine : Fine a b (length rows) this = linear_fine g a b rows h.1 in
    let high : b ≤ end = laid_le b cs end h.2 in
    replay_next g (linear a b) cs room rows (omega (arith, h.0, h.1)) fine.0 (omega (arith, h.0, fine.1)) ∙
    ranges-done g limit b cs end (room - length this.1) this.2 h.2 (omega (arith, h.0, h.1, fine.1)) (omega (arith, fine.2))
ranges-done g limit lo (concurrent a b ∷ cs) end room rows h q wide =
    let this : Replayed = replay_range g (concurrent a b) rows in
    let fine : Fine a b (length rows) this = concurrent_fine g a b rows limit wide h.1 in
    let high : b ≤ end = laid_le b cs end h.2 in
    replay_next g (concurrent a b) cs room rows (omega (arith, h.0, h.1)) fine.0 (omega (arith, h.0, fine.1)) ∙
    ranges-done g limit b cs end (room - length this.1) this.2 h.2 (omega (arith, h.0, h.1, fine.1)) (omega (arith, fine.2))

-- With room for 131,328 row words and 525,312 steps no full replay is refused
pub replay_done : (g : Graph) → runs g ≤ 512 → (rows steps : List ℕ) → 131328 ≤ length rows → 1575936 ≤ length steps →
    (replay_ranges g (cut_from g 0) (length steps / 3) rows).0 ≡ Ok tt
replay_done g limit rows steps wide long =
    ranges-done g limit 0 (cut_from g 0) (runs g) (length steps / 3) rows (cut_laid g 0) (omega arith) wide
