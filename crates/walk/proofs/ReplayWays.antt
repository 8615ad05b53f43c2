-- Each way out of replaying one range of a cut, and of several. Assumes nothing.
use Rattle.std.proofs.Common.{◌≡◌, refl, sym, ap, ◌∙◌, List, [], ℕ, suc, ◌+◌, ◌-◌, ◌≤◌, ◌<◌, add-one, length, drop, drop-cons, drop_of_length-le, map}
use Rattle.std.specs.Prelude.{Err}
use Rattle.model.specs.declared.answers.Refusal.{Refusal}
use Rattle.model.specs.History.{at}
use Rattle.model.specs.Choice.{Range}
use Rattle.moves.specs.declared.writing.Kind.TheVariants.{Open}
use Rattle.moves.specs.Emit.{Writing, going, step_of, emit, emit_one, applies}
use Rattle.graph.specs.declared.cut.RangeKind.{RangeKind}
use Rattle.graph.specs.declared.cut.RangeKind.TheVariants.{Linear, Concurrent}
use Rattle.walk.specs.Walked.{State, walked_in, opening, open_of, replay_on, replay_all}
use Rattle.walk.specs.CutRecords.{range_by, range_in, ranges_in}
use Rattle.walk.proofs.Ranging.{on_full, on_open, stays_refused}

-- Of either kind a range has the same Open
open_by : (x : Writing) (kind : RangeKind) (a b : ℕ) → open_of x (range_by kind a b) ≡ emit_one x (step_of Open a b 0)
unfolding range_by open_of
open_by x Linear a b = refl
open_by x Concurrent a b = refl

module _ (st : List ℕ) (range : ℕ → ℕ → Range) (k m : ℕ) (l rows : List ℕ) where
  -- Nothing was refused before
  abbrev now : Writing
  now = (going k m, l)

  -- Open found no room
  pub next_full : (kind : RangeKind) (a b : ℕ) {r : Refusal} {k' m' : ℕ} {l' : List ℕ} → let x : Writing = (record { count = k'; moved = m'; outcome = Err r }, l') in
      x ≡ emit_one now (step_of Open a b 0) → (x, rows) ≡ replay_on st range (now, rows) (range_by kind a b)
  next_full kind a b {r} e =
      let o = e ∙ sym (open_by now kind a b) in
      ap {B = State} (λ (y : Writing). (y, rows)) o ∙ sym (on_full st range (now, rows) (range_by kind a b) r refl (ap (λ (y : Writing). y.0.outcome) (sym o)))

  -- It found room
  module _ {k' m' : ℕ} {l' : List ℕ} (a b : ℕ) (e : ◌≡◌ {A = Writing} (going k' m', l') (emit_one now (step_of Open a b 0))) where
    opening-is : (kind : RangeKind) → opening st range (going k' m', l') rows (range_by kind a b) ≡ replay_on st range (now, rows) (range_by kind a b)
    opening-is kind =
        let o = e ∙ sym (open_by now kind a b) in
        ap (λ (y : Writing). opening st range y rows (range_by kind a b)) o ∙ sym (on_open st range (now, rows) (range_by kind a b) refl (ap (λ (y : Writing). y.0.outcome) (sym o)))

    pub next_linear : {y : Writing} → y ≡ emit (going k' m', l') (applies a (b - a)) → (y, rows) ≡ replay_on st range (now, rows) (range_by Linear a b)
    next_linear w = ap {B = State} (λ (y : Writing). (y, rows)) w ∙ (is ∙ opening-is Linear)
      where
        is : ◌≡◌ {A = State} (emit (going k' m', l') (applies a (b - a)), rows) (opening st range (going k' m', l') rows (range_by Linear a b))
        is = unfold range_by opening in refl

    pub next_walk : {s : State} → s ≡ walked_in st (range a b) a 0 0 (going k' m', l') rows → s ≡ replay_on st range (now, rows) (range_by Concurrent a b)
    next_walk w = w ∙ (is ∙ opening-is Concurrent)
      where
        is : walked_in st (range a b) a 0 0 (going k' m', l') rows ≡ opening st range (going k' m', l') rows (range_by Concurrent a b)
        is = unfold range_by opening in refl

-- The ranges from the i-th on: the next one, one that is refused, and none
module _ (st : List ℕ) (range : ℕ → ℕ → Range) (rs : List (List ℕ)) (i : ℕ) where
  pub ranges_next : i < length rs → (s t : State) → t ≡ replay_on st range s (range_in (at rs i)) → replay_all st range t
      (ranges_in (drop (i + 1) rs)) ≡ replay_all st range s (ranges_in (drop i rs))
  unfolding replay_all ranges_in at
  ranges_next lt s t e = rw (add-one i, drop-cons rs i [] lt) (ap (λ (x : State). replay_all st range x (map range_in (drop (suc i) rs))) e)

  pub ranges_refused : (s whole : State) (r : Refusal) → s.0.0.outcome ≡ Err r → replay_all st range s (ranges_in (drop (i + 1) rs)) ≡ whole → s ≡ whole
  ranges_refused s whole r e leads = sym (stays_refused st range s (ranges_in (drop (i + 1) rs)) r e) ∙ leads

  pub ranges_none : length rs ≤ i → (s : State) → replay_all st range s (ranges_in (drop i rs)) ≡ s
  unfolding replay_all ranges_in
  ranges_none le s = rw (drop_of_length-le rs le)
