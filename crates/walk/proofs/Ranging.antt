-- The ranges of a cut replayed one after another are the definitions' full replay. Assumes nothing.
use Rattle.std.proofs.Common.{◌≡◌, refl, sym, ap, ap₂, ◌∙◌, subst, ◌⊎◌, inl, inr, Bool, true, false, cond, List, [], ◌∷◌, ◌++◌, map, append_assoc, append-nil, ℕ, zero, suc, ◌-◌, ◌/◌, ◌≤◌, ◌<◌}
use Rattle.std.proofs.Common.{arith, length, take, length-append, ltb, eqb, lt-ltb, le-ltb, eq-eqb, ne_eqb}
use lib.Seq.{take-nil}
use Rattle.lists.specs.Lists.{from}
use Rattle.lists.specs.Areas.{over}
use Rattle.lists.proofs.Truth.{lt_or_le, eq_or-not}
use Rattle.model.specs.declared.answers.Refusal.{Refusal}
use Rattle.model.specs.declared.answers.Refusal.TheVariants.{RowsTooLong, ListTooShort}
use Rattle.model.specs.Graph.{Graph}
use Rattle.model.specs.Cut.{HistoryRange, linear, concurrent}
use Rattle.model.specs.Choice.{Range, range_of}
use Rattle.model.specs.Steps.{Step, opened, apply, steps_of, words, moved_in}
use Rattle.model.specs.Walk.{rows_into, rows_too_long}
use Rattle.model.specs.Replay.{Replayed, replay_range, replay_ranges}
use Rattle.moves.specs.declared.writing.Kind.TheVariants.{Open}
use Rattle.moves.specs.Emit.{Writing, going, step_of, emit, emit_one, applies}
use Rattle.moves.specs.Moves.{recs}
use Rattle.moves.proofs.Closing.{told}
use Rattle.moves.proofs.Written.{emit_then, open_is, applies_are}
use Rattle.walk.specs.Walked.{State, unwritten, rows_refused, if_done, opening, open_of, replay_on, replay_all}
use Rattle.walk.proofs.Answering.{written-parts, walked-rows, walked-steps}
use Rattle.std.specs.Prelude.{Ok, Err}
use Rattle.model.specs.Refusals.{Outcome}

-- The cases of the definition
module _ (g : Graph) (c : HistoryRange) (cs : List HistoryRange) (room : ℕ) (rows : List ℕ) where
  abbrev this : Replayed
  this = replay_range g c rows

  abbrev later : Replayed
  later = replay_ranges g cs (room - length this.1) this.2

  form : Bool → Bool → Outcome → Replayed
  form t u o = elim t [
    | true ↦ (Err ListTooShort, [], rows)
    | false ↦ elim u [
      | true ↦ (Err ListTooShort, take room this.1, this.2)
      | false ↦ elim o [ Ok _ ↦ (later.0, this.1 ++ later.1, later.2) | Err r ↦ this ]
    ]
  ]

  is_form : replay_ranges g (c ∷ cs) room rows ≡ form (eqb room 0) (ltb room (length this.1)) this.0
  unfolding replay_ranges form
  is_form = refl

  ranges_full : room ≡ 0 → replay_ranges g (c ∷ cs) room rows ≡ (Err ListTooShort, [], rows)
  ranges_full e = is_form ∙ ap (λ t. form t (ltb room (length this.1)) this.0) (eq-eqb room 0 e) ∙ (unfold form in refl)

  ranges_cut : (room ≡ 0 → ⊥) → room < length this.1 → replay_ranges g (c ∷ cs) room rows ≡ (Err ListTooShort, take room this.1, this.2)
  ranges_cut n lt =
      is_form ∙ ap₂ (λ (t u : Bool). form t u this.0) (ne_eqb room 0 n) (lt-ltb room (length this.1) lt) ∙ (unfold form in refl)

  ranges_on : (room ≡ 0 → ⊥) → length this.1 ≤ room → this.0 ≡ Ok tt → replay_ranges g (c ∷ cs) room rows ≡ (later.0, this.1 ++ later.1, later.2)
  ranges_on n le d =
      is_form ∙ ap₂ (λ (t u : Bool). form t u this.0) (ne_eqb room 0 n) (le-ltb room (length this.1) le) ∙
      (ap (form false false) d ∙ (unfold form in refl))

  ranges_refused : (room ≡ 0 → ⊥) → length this.1 ≤ room → (r : Refusal) → this.0 ≡ Err r → replay_ranges g (c ∷ cs) room rows ≡ this
  ranges_refused n le r d =
      is_form ∙ ap₂ (λ (t u : Bool). form t u this.0) (ne_eqb room 0 n) (le-ltb room (length this.1) le) ∙
      (ap (form false false) d ∙ (unfold form in refl))

module _ (st : List ℕ) (range : ℕ → ℕ → Range) where
  -- A range by what was refused before and what came of its Open
  on_form : Outcome → Outcome → State → HistoryRange → State
  on_form o p s c = if_done o (if_done p (opening st range (open_of s.0 c) s.1 c) (open_of s.0 c, s.1)) s

  by_form : (s : State) (c : HistoryRange) (o p : Outcome) → s.0.0.outcome ≡ o → (open_of s.0 c).0.outcome ≡ p → replay_on st range s c ≡ on_form o p s c
  by_form s c o p e q = is ∙ λ i. on_form (e i) (q i) s c
    where
      is : replay_on st range s c ≡ on_form s.0.0.outcome (open_of s.0 c).0.outcome s c
      is = unfold replay_on on_form in refl

  -- Where something was refused nothing more is done
  pub on_refused : (s : State) (c : HistoryRange) (r : Refusal) → s.0.0.outcome ≡ Err r → replay_on st range s c ≡ s
  on_refused s c r e = by_form s c (Err r) _ e refl ∙ (unfold on_form in refl)

  pub stays_refused : (s : State) (cs : List HistoryRange) (r : Refusal) → s.0.0.outcome ≡ Err r → replay_all st range s cs ≡ s
  unfolding replay_all
  stays_refused s [] r e = refl
  stays_refused s (c ∷ cs) r e = ap (λ (x : State). replay_all st range x cs) (on_refused s c r e) ∙ stays_refused s cs r e

  -- Open found no room, and it found room
  pub on_full : (s : State) (c : HistoryRange) (r : Refusal) → s.0.0.outcome ≡ Ok tt → (open_of s.0 c).0.outcome ≡ Err r → replay_on st range s c ≡ (open_of s.0 c, s.1)
  on_full s c r e n = by_form s c (Ok tt) (Err r) e n ∙ (unfold on_form in refl)

  pub on_open : (s : State) (c : HistoryRange) → s.0.0.outcome ≡ Ok tt → (open_of s.0 c).0.outcome ≡ Ok tt → replay_on st range s c ≡ opening st range (open_of s.0 c) s.1 c
  on_open s c e n = by_form s c (Ok tt) (Ok tt) e n ∙ (unfold on_form in refl)

abbrev state_of : Writing → List ℕ → State
state_of x rows = (x, rows)

linear_opening : (st : List ℕ) (range : ℕ → ℕ → Range) (x : Writing) (rows : List ℕ) (a b : ℕ) → opening st range x rows (linear a b) ≡ state_of (emit x (applies a (b - a))) rows
unfolding opening
linear_opening st range x rows a b = refl

-- Fronts of lists of steps
take-over : (k : ℕ) (xs ys : List Step) → length xs ≤ k → take k (xs ++ ys) ≡ xs ++ take (k - length xs) ys
take-over k [] ys h = let z : k - 0 ≡ k = omega arith in rw z
take-over zero (x ∷ xs) ys h = absurd (omega arith)
take-over (suc k) (x ∷ xs) ys h =
    let z : suc k - suc (length xs) ≡ k - length xs = omega arith in rw z (ap (λ (l : List Step). x ∷ l) (take-over k xs ys (omega arith)))

take_all : (k : ℕ) (xs : List Step) → length xs ≤ k → take k xs ≡ xs
take_all zero [] h = refl
take_all zero (x ∷ xs) h = absurd (omega arith)
take_all (suc k) [] h = refl
take_all (suc k) (x ∷ xs) h = ap (λ (l : List Step). x ∷ l) (take_all k xs (omega arith))

-- From an empty list: `done` is written, and all of it found room
module _ (g : Graph) (ws : List ℕ) where
  abbrev room : ℕ
  room = length ws / 3

  abbrev st : List ℕ
  st = g.starts

  wrote : List Step → Writing
  wrote done = emit (going 0 0, ws) (recs st done)

  abbrev state_at : List Step → List ℕ → State
  state_at done rows = (wrote done, rows)

  wrote_on : (done ss : List Step) → emit (wrote done) (recs st ss) ≡ wrote (done ++ ss)
  unfolding wrote
  wrote_on done ss = emit_then st (going 0 0, ws) done ss

  wrote-is : (done : List Step) → ((wrote done).1 ≡ over (words (take room done)) ws) × ((wrote done).0.count ≡ length (take room done)) ×
      ((wrote done).0.moved ≡ moved_in g (take room done)) × ((wrote done).0.outcome ≡ told (ltb room (length done)))
  unfolding wrote
  wrote-is done = written-parts g done ws

  fits : (done : List Step) → length done ≤ room → (wrote done).0.outcome ≡ Ok tt
  fits done le = (wrote-is done).3 ∙ ap told (le-ltb room (length done) le)

  full : (done : List Step) → room < length done → (wrote done).0.outcome ≡ Err ListTooShort
  full done lt = (wrote-is done).3 ∙ ap told (lt-ltb room (length done) lt)

  open_on : (done : List Step) (c : HistoryRange) (a b : ℕ) (x : Writing) → x ≡ wrote done → open_of x c ≡ emit_one x (step_of Open a b 0) → open_of x c ≡ wrote (done ++ opened a b ∷ [])
  open_on done c a b x e q = q ∙ (ap (λ (y : Writing). emit_one y (step_of Open a b 0)) e ∙ (open_is st (wrote done) a b ∙ wrote_on done (opened a b ∷ [])))

  -- What a replay from there on comes to
  pub record Ends (done : List Step) (r : Replayed) (t : State) : Type 0 where
    pub rows : t.1 ≡ r.2
    pub steps : t.0.1 ≡ over (words (done ++ r.1)) ws
    pub count : t.0.0.count ≡ length (done ++ r.1)
    pub moved : t.0.0.moved ≡ moved_in g (done ++ r.1)
    pub outcome : t.0.0.outcome ≡ r.0

  -- of steps all of which the list had to take, rows in order
  ends_with : (done ss : List Step) (rows : List ℕ) (o : Outcome) → length done ≤ room → cond (ltb room (length (done ++ ss))) (Err ListTooShort) (Ok tt) ≡ o →
      Ends done (o, take (room - length done) ss, rows) (state_at (done ++ ss) rows)
  ends_with done ss rows o le e =
      let q = wrote-is (done ++ ss) in
      let t : take room (done ++ ss) ≡ done ++ take (room - length done) ss = take-over room done ss le in
      record {
        rows = refl;
        steps = q.0 ∙ ap (λ (l : List Step). over (words l) ws) t;
        count = q.1 ∙ ap length t;
        moved = q.2 ∙ ap (moved_in g) t;
        outcome = q.3 ∙ e;
      }

  -- rows were too long after Open
  ends-rows : (done : List Step) (a b : ℕ) (rows : List ℕ) → length done < room →
      Ends done (Err RowsTooLong, opened a b ∷ [], rows) (rows_refused (wrote (done ++ opened a b ∷ [])), rows)
  ends-rows done a b rows lt =
      let size : length (done ++ opened a b ∷ []) ≤ room = omega (arith, length-append done (opened a b ∷ [])) in
      let q = wrote-is (done ++ opened a b ∷ []) in
      let t : take room (done ++ opened a b ∷ []) ≡ done ++ opened a b ∷ [] = take_all room (done ++ opened a b ∷ []) size in
      record {
        rows = refl;
        steps = q.0 ∙ ap (λ (l : List Step). over (words l) ws) t;
        count = q.1 ∙ ap length t;
        moved = q.2 ∙ ap (moved_in g) t;
        outcome = refl;
      }

  -- with steps that stand before them counted in
  ends_more : (done ss : List Step) (o : Outcome) (more : List Step) (rows : List ℕ) (t : State) → Ends (done ++ ss) (o, more, rows) t → Ends done (o, ss ++ more, rows) t
  ends_more done ss o more rows t e = record {
    rows = e.rows;
    steps = e.steps ∙ ap (λ (l : List Step). over (words l) ws) (append_assoc done ss more);
    count = e.count ∙ ap length (append_assoc done ss more);
    moved = e.moved ∙ ap (moved_in g) (append_assoc done ss more);
    outcome = e.outcome;
  }

  -- A range whose steps are all written after Open
  module _ (done : List Step) (rows : List ℕ) (c : HistoryRange) (cs : List HistoryRange) (ss : List Step) (rows' : List ℕ)
      (some : length done < room) (is : replay_range g c rows ≡ (Ok tt, ss, rows')) (on : replay_on st (range_of g) (state_at done rows) c ≡ state_at (done ++ ss) rows')
      (rest : length (done ++ ss) ≤ room → Ends (done ++ ss) (replay_ranges g cs (room - length (done ++ ss)) rows') (replay_all st (range_of g) (state_at (done ++ ss) rows') cs)) where
    range_done : Ends done (replay_ranges g (c ∷ cs) (room - length done) rows) (replay_all st (range_of g) (state_at done rows) (c ∷ cs))
    range_done = go (lt_or_le (room - length done) (length ss))
      where
        left : room - length done ≡ 0 → ⊥
        left e = omega arith

        there : replay_all st (range_of g) (state_at done rows) (c ∷ cs) ≡ replay_all st (range_of g) (state_at (done ++ ss) rows') cs
        there = unfold replay_all in (ap (λ (x : State). replay_all st (range_of g) x cs) on)

        first : (replay_range g c rows).1 ≡ ss
        first = ap (λ (x : Replayed). x.1) is

        go : (room - length done < length ss) ⊎ (length ss ≤ room - length done) → Ends done (replay_ranges g (c ∷ cs) (room - length done) rows)
            (replay_all st (range_of g) (state_at done rows) (c ∷ cs))
        go (inl lt) =
            let short : room < length (done ++ ss) = omega (arith, length-append done ss) in
            let r : replay_ranges g (c ∷ cs) (room - length done) rows ≡ (Err ListTooShort, take (room - length done) ss, rows') =
            ranges_cut g c cs (room - length done) rows left (omega (arith, ap length first)) ∙
            ap (λ (x : Replayed). (Err ListTooShort, take (room - length done) x.1, x.2)) is in
            subst (λ (x : Replayed). Ends done x (replay_all st (range_of g) (state_at done rows) (c ∷ cs))) (sym r)
            (subst (Ends done (Err ListTooShort, take (room - length done) ss, rows'))
            (sym (there ∙ stays_refused st (range_of g) (state_at (done ++ ss) rows') cs ListTooShort (full (done ++ ss) short)))
            (ends_with done ss rows' (Err ListTooShort) (omega arith) (ap (λ t. cond t (Err ListTooShort) (Ok tt)) (lt-ltb room (length (done ++ ss)) short))))
        go (inr le) =
            let fit : length (done ++ ss) ≤ room = omega (arith, length-append done ss) in
            let k : room - length done - length ss ≡ room - length (done ++ ss) = omega (arith, length-append done ss) in
            let more : Replayed = replay_ranges g cs (room - length (done ++ ss)) rows' in
            let same : replay_ranges g cs (room - length done - length (replay_range g c rows).1) (replay_range g c rows).2 ≡ more =
            ap (λ (x : Replayed). replay_ranges g cs (room - length done - length x.1) x.2) is ∙ ap (λ (n : ℕ). replay_ranges g cs n rows') k in
            let r : replay_ranges g (c ∷ cs) (room - length done) rows ≡ (more.0, ss ++ more.1, more.2) =
            ranges_on g c cs (room - length done) rows left (omega (arith, ap length first)) (ap (λ (x : Replayed). x.0) is) ∙
            ap₂ (λ (x : List Step) (y : Replayed). (y.0, x ++ y.1, y.2)) first same in
            subst (λ (x : Replayed). Ends done x (replay_all st (range_of g) (state_at done rows) (c ∷ cs))) (sym r)
            (subst (Ends done (more.0, ss ++ more.1, more.2)) (sym there) (ends_more done ss more.0 more.1 more.2 _ (rest fit)))

  -- The range's Open, from `done`
  open_at : (done : List Step) (c : HistoryRange) (a b : ℕ) → open_of (wrote done) c ≡ emit_one (wrote done) (step_of Open a b 0) →
      (rows : List ℕ) → open_of (state_at done rows).0 c ≡ wrote (done ++ opened a b ∷ [])
  open_at done c a b q rows = open_on done c a b (wrote done) refl q

  -- Open found no room
  no_room : (done : List Step) (c : HistoryRange) (cs : List HistoryRange) (a b : ℕ) (rows : List ℕ) → open_of (wrote done) c ≡ emit_one (wrote done) (step_of Open a b 0) →
      length done ≡ room → Ends done (replay_ranges g (c ∷ cs) (room - length done) rows) (replay_all st (range_of g) (state_at done rows) (c ∷ cs))
  no_room done c cs a b rows q e =
      let x : Writing = wrote (done ++ opened a b ∷ []) in
      let long : room < length (done ++ opened a b ∷ []) = omega (arith, length-append done (opened a b ∷ [])) in
      let o = open_at done c a b q rows in
      let z : room - length done ≡ 0 = omega arith in
      let on : replay_on st (range_of g) (state_at done rows) c ≡ (x, rows) =
      on_full st (range_of g) (state_at done rows) c ListTooShort (fits done (omega arith)) (ap (λ (y : Writing). y.0.outcome) o ∙ full (done ++ opened a b ∷ []) long) ∙
      ap (λ (y : Writing). state_of y rows) o in
      let there : replay_all st (range_of g) (state_at done rows) (c ∷ cs) ≡ (x, rows) =
      all-next (state_at done rows) c cs ∙ (ap (λ (y : State). replay_all st (range_of g) y cs) on ∙ stays_refused st (range_of g) (x, rows) cs ListTooShort
      (full (done ++ opened a b ∷ []) long)) in
      let r : replay_ranges g (c ∷ cs) (room - length done) rows ≡ (Err ListTooShort, [], rows) = ranges_full g c cs (room - length done) rows z in
      let none : take (room - length done) (opened a b ∷ []) ≡ [] = rw z in
      subst (λ (y : Replayed). Ends done y (replay_all st (range_of g) (state_at done rows) (c ∷ cs))) (sym r)
      (subst (Ends done (Err ListTooShort, [], rows)) (sym there)
      (subst (λ (l : List Step). Ends done (Err ListTooShort, l, rows) (x, rows)) none
      (ends_with done (opened a b ∷ []) rows (Err ListTooShort) (omega arith) (ap (λ t. cond t (Err ListTooShort) (Ok tt)) (lt-ltb room (length (done ++ opened a b ∷ [])) long)))))
    where
      all-next : (s : State) (c : HistoryRange) (cs : List HistoryRange) → replay_all st (range_of g) s (c ∷ cs) ≡ replay_all st (range_of g) (replay_on st (range_of g) s c) cs
      all-next s c cs = unfold replay_all in refl

  -- Open found room: what follows it
  opened_on : (done : List Step) (c : HistoryRange) (a b : ℕ) (rows : List ℕ) → open_of (wrote done) c ≡ emit_one (wrote done) (step_of Open a b 0) → length done < room →
      replay_on st (range_of g) (state_at done rows) c ≡ opening st (range_of g) (wrote (done ++ opened a b ∷ [])) rows c
  opened_on done c a b rows q lt =
      let size : length (done ++ opened a b ∷ []) ≤ room = omega (arith, length-append done (opened a b ∷ [])) in
      let o = open_at done c a b q rows in
      on_open st (range_of g) (state_at done rows) c (fits done (omega arith)) (ap (λ (y : Writing). y.0.outcome) o ∙ fits (done ++ opened a b ∷ []) size) ∙
      ap (λ (y : Writing). opening st (range_of g) y rows c) o

  wrote_after : (done : List Step) (s : Step) (ss : List Step) → emit (wrote (done ++ s ∷ [])) (recs st ss) ≡ wrote (done ++ s ∷ ss)
  wrote_after done s ss = wrote_on (done ++ s ∷ []) ss ∙ ap wrote (append_assoc done (s ∷ []) ss)

  linear_on : (done : List Step) (a b : ℕ) (rows : List ℕ) → length done < room →
      replay_on st (range_of g) (state_at done rows) (linear a b) ≡ state_at (done ++ opened a b ∷ map apply (from a (b - a))) rows
  linear_on done a b rows lt =
      let y : emit (wrote (done ++ opened a b ∷ [])) (applies a (b - a)) ≡ wrote (done ++ opened a b ∷ map apply (from a (b - a))) =
      ap (emit (wrote (done ++ opened a b ∷ []))) (applies_are st a (b - a)) ∙ wrote_after done (opened a b) (map apply (from a (b - a))) in
      opened_on done (linear a b) a b rows (unfold open_of in refl) lt ∙ (linear_opening st (range_of g) (wrote (done ++ opened a b ∷ [])) rows a b ∙ ap (λ (x : Writing). state_of x rows) y)

  walked_on : (done : List Step) (a b : ℕ) (rows : List ℕ) → length done < room → rows_too_long (range_of g a b) rows ≡ false →
      replay_on st (range_of g) (state_at done rows) (concurrent a b) ≡ state_at (done ++ opened a b ∷ steps_of (range_of g a b) a 0 0) (rows_into (range_of g a b) rows)
  walked_on done a b rows lt e =
      opened_on done (concurrent a b) a b rows (unfold open_of in refl) lt ∙ (unfold opening in
      (walked-steps st (range_of g a b) a 0 0 (wrote (done ++ opened a b ∷ [])) rows e ∙
      ap (λ (x : Writing). state_of x (rows_into (range_of g a b) rows)) (wrote_after done (opened a b) (steps_of (range_of g a b) a 0 0))))

  rows_on : (done : List Step) (a b : ℕ) (rows : List ℕ) → length done < room → rows_too_long (range_of g a b) rows ≡ true →
      replay_on st (range_of g) (state_at done rows) (concurrent a b) ≡ (rows_refused (wrote (done ++ opened a b ∷ [])), rows_into (range_of g a b) rows)
  rows_on done a b rows lt e =
      opened_on done (concurrent a b) a b rows (unfold open_of in refl) lt ∙ (unfold opening in
      (walked-rows st (range_of g a b) a 0 0 (wrote (done ++ opened a b ∷ [])) rows e))

  -- The definition of a concurrent range
  concurrent_is : (a b : ℕ) (rows : List ℕ) (t : Bool) → rows_too_long (range_of g a b) rows ≡ t →
      replay_range g (concurrent a b) rows ≡ cond t (Err RowsTooLong, opened a b ∷ [], rows_into (range_of g a b) rows)
      (Ok tt, opened a b ∷ steps_of (range_of g a b) a 0 0, rows_into (range_of g a b) rows)
  concurrent_is a b rows t e = is ∙ (ap form e ∙ same t)
    where
      form : Bool → Replayed
      form t = elim t [
        | true ↦ (Err RowsTooLong, opened a b ∷ [], rows_into (range_of g a b) rows)
        | false ↦ (Ok tt, opened a b ∷ steps_of (range_of g a b) a 0 0, rows_into (range_of g a b) rows)
      ]

      is : replay_range g (concurrent a b) rows ≡ form (rows_too_long (range_of g a b) rows)
      is = unfold replay_range in refl

      same : (t : Bool) → form t ≡ cond t (Err RowsTooLong, opened a b ∷ [], rows_into (range_of g a b) rows)
          (Ok tt, opened a b ∷ steps_of (range_of g a b) a 0 0, rows_into (range_of g a b) rows)
      same true = refl
      same false = refl

  -- A range whose rows are too long
  range_rows : (done : List Step) (a b : ℕ) (cs : List HistoryRange) (rows : List ℕ) → length done < room → rows_too_long (range_of g a b) rows ≡ true →
      Ends done (replay_ranges g (concurrent a b ∷ cs) (room - length done) rows) (replay_all st (range_of g) (state_at done rows) (concurrent a b ∷ cs))
  range_rows done a b cs rows lt e =
      let x : Writing = wrote (done ++ opened a b ∷ []) in
      let t : State = (rows_refused x, rows_into (range_of g a b) rows) in
      let there : replay_all st (range_of g) (state_at done rows) (concurrent a b ∷ cs) ≡ t =
      all-next (concurrent a b) ∙ (ap (λ (y : State). replay_all st (range_of g) y cs) (rows_on done a b rows lt e) ∙ stays_refused st (range_of g) t cs RowsTooLong refl) in
      let is = concurrent_is a b rows true e in
      let size : length (replay_range g (concurrent a b) rows).1 ≡ 1 = ap (λ (y : Replayed). length y.1) is in
      let r : replay_ranges g (concurrent a b ∷ cs) (room - length done) rows ≡ (Err RowsTooLong, opened a b ∷ [], rows_into (range_of g a b) rows) =
      ranges_refused g (concurrent a b) cs (room - length done) rows (λ z. omega arith) (omega (arith, size)) RowsTooLong (ap (λ (y : Replayed). y.0) is) ∙ is in
      subst (λ (y : Replayed). Ends done y (replay_all st (range_of g) (state_at done rows) (concurrent a b ∷ cs))) (sym r)
      (subst (Ends done (Err RowsTooLong, opened a b ∷ [], rows_into (range_of g a b) rows)) (sym there) (ends-rows done a b (rows_into (range_of g a b) rows) lt))
    where
      all-next : (c : HistoryRange) → replay_all st (range_of g) (state_at done rows) (c ∷ cs) ≡ replay_all st (range_of g) (replay_on st (range_of g) (state_at done rows) c) cs
      all-next c = unfold replay_all in refl

  -- No range is left
  no_ranges : (k : ℕ) (rows : List ℕ) → replay_ranges g [] k rows ≡ (Ok tt, [], rows)
  unfolding replay_ranges
  no_ranges k rows = refl

  none_done : (s : State) → replay_all st (range_of g) s [] ≡ s
  unfolding replay_all
  none_done s = refl

  -- All ranges, from `done` on
  ranges_end : (cs : List HistoryRange) (done : List Step) (rows : List ℕ) → length done ≤ room →
      Ends done (replay_ranges g cs (room - length done) rows) (replay_all st (range_of g) (state_at done rows) cs)
  ranges_end [] done rows le =
      let none : take {A = Step} (room - length done) [] ≡ [] = take-nil (room - length done) in
      let e = ends_with done [] rows (Ok tt) le (ap (λ t. cond t (Err ListTooShort) (Ok tt)) (le-ltb room (length (done ++ [])) (omega (arith, length-append done [])))) in
      subst (λ (x : Replayed). Ends done x (replay_all st (range_of g) (state_at done rows) [])) (sym (no_ranges (room - length done) rows))
      (subst (Ends done (Ok tt, [], rows)) (sym (none_done (state_at done rows)))
      (subst (λ (l : List Step). Ends done (Ok tt, l, rows) (state_at done rows)) none
      (subst (λ (l : List Step). Ends done (Ok tt, take (room - length done) [], rows) (state_at l rows)) (append-nil done) e)))
  ranges_end (linear a b ∷ cs) done rows le = go (eq_or-not (length done) room)
      (λ ss fit. ranges_end cs (done ++ ss) rows fit)
    where
      go : (length done ≡ room) ⊎ (length done ≡ room → ⊥) →
          ((ss : List Step) → length (done ++ ss) ≤ room → Ends (done ++ ss) (replay_ranges g cs (room - length (done ++ ss)) rows)
          (replay_all st (range_of g) (state_at (done ++ ss) rows) cs)) →
          Ends done (replay_ranges g (linear a b ∷ cs) (room - length done) rows) (replay_all st (range_of g) (state_at done rows) (linear a b ∷ cs))
      go (inl e) rec = no_room done (linear a b) cs a b rows (unfold open_of in refl) e
      go (inr n) rec =
          let lt : length done < room = omega (arith, le, n) in
          range_done done rows (linear a b) cs (opened a b ∷ map apply (from a (b - a))) rows lt (unfold replay_range in refl) (linear_on done a b rows lt)
          (rec (opened a b ∷ map apply (from a (b - a))))
  ranges_end (concurrent a b ∷ cs) done rows le = go (eq_or-not (length done) room) (rows_too_long (range_of g a b) rows) refl
      (λ ss more fit. ranges_end cs (done ++ ss) more fit)
    where
      go : (length done ≡ room) ⊎ (length done ≡ room → ⊥) → (t : Bool) → rows_too_long (range_of g a b) rows ≡ t →
          ((ss : List Step) (more : List ℕ) → length (done ++ ss) ≤ room → Ends (done ++ ss) (replay_ranges g cs (room - length (done ++ ss)) more)
          (replay_all st (range_of g) (state_at (done ++ ss) more) cs)) →
          Ends done (replay_ranges g (concurrent a b ∷ cs) (room - length done) rows) (replay_all st (range_of g) (state_at done rows) (concurrent a b ∷ cs))
      go (inl e) t q rec = no_room done (concurrent a b) cs a b rows (unfold open_of in refl) e
      go (inr n) true q rec = range_rows done a b cs rows (omega (arith, le, n)) q
      go (inr n) false q rec =
          let lt : length done < room = omega (arith, le, n) in
          range_done done rows (concurrent a b) cs (opened a b ∷ steps_of (range_of g a b) a 0 0) (rows_into (range_of g a b) rows) lt
          (concurrent_is a b rows false q) (walked_on done a b rows lt q)
          (rec (opened a b ∷ steps_of (range_of g a b) a 0 0) (rows_into (range_of g a b) rows))

  -- A whole replay
  pub replay_ends : (cs : List HistoryRange) (rows : List ℕ) →
      Ends [] (replay_ranges g cs room rows) (replay_all st (range_of g) (unwritten ws, rows) cs)
  replay_ends cs rows =
      let z : room - 0 ≡ room = omega arith in
      let s : state_at [] rows ≡ (unwritten ws, rows) = unfold wrote emit in refl in
      subst (λ (x : State). Ends [] (replay_ranges g cs room rows) (replay_all st (range_of g) x cs)) s
      (subst (λ (k : ℕ). Ends [] (replay_ranges g cs k rows) (replay_all st (range_of g) (state_at [] rows) cs)) z (ranges_end cs [] rows (omega arith)))
