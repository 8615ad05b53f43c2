-- What `next` gives at a place, by the words from there on: the end, a step by its kind, and 16. Assumes nothing.
use Rattle.std.proofs.Common.{◌≡◌, refl, sym, ap, ◌∙◌, Bool, true, false, List, [], ◌∷◌, ℕ, ◌+◌, ◌-◌, ◌<◌, ◌≤◌, length, drop, get_or, length-drop, arith, Option, Some, None, ◌⊎◌, inl, inr}
use Rattle.std.proofs.Math.Option.{Option as MathOption, none, some}
use Rattle.std.specs.Borrow.{Bor}
use Rattle.std.specs.Option.{unwrap_or}
use Rattle.std.specs.Slice.{IsGetRangeResult}
use Rattle.std.proofs.lemmas.List.{drop_all, take_all}
use Rattle.lists.proofs.Truth.{false_true}
use Rattle.model.specs.declared.answers.Refusal.{Refusal}
use Rattle.model.specs.declared.answers.Refusal.TheVariants.{UnknownKind}
use Rattle.model.specs.declared.steps.WalkStep.{WalkStep}
use Rattle.model.specs.declared.steps.WalkStep.TheVariants.{Retreat, Advance, Apply, Open}
use Rattle.model.specs.Steps.{Step}
use Rattle.model.specs.Reader.{decoded, as_step, next_in, next_of}
use Rattle.reader.specs.declared.StepAt.{StepAt}
use Rattle.reader.specs.Reading.{step_at, step_read}
use Rattle.std.specs.Prelude.{Ok, Err, Some, None}
use Rattle.model.specs.Answers.{NextStep}

-- The code's answer is what its two fields say
pub told : {r : StepAt} {x : NextStep} {at : ℕ} {n : NextStep × ℕ} → r ≡ step_at x at → (x, at) ≡ n → (r.step, r.at) ≡ n
told e q = ap (λ (r : StepAt). (r.step, r.at)) e ∙ q

-- Fewer than three words left: the end
end_in_lem : (ws : List ℕ) (at : ℕ) → length ws < 3 → ((Ok None), at) ≡ next_in ws at
unfolding next_in
end_in_lem [] at h = refl
end_in_lem (k ∷ []) at h = refl
end_in_lem (k ∷ a ∷ []) at h = refl
end_in_lem (k ∷ a ∷ b ∷ ws) at h = absurd (omega (arith, h))

-- What stands at a place, by the words from there on
pub next-short : (ws l : List ℕ) (at : ℕ) → drop at ws ≡ l → length l < 3 → next_of ws at ≡ ((Ok None), at)
unfolding next_of
next-short ws l at q h = ap (λ (r : List ℕ). next_in r at) q ∙ sym (end_in_lem l at h)

-- What is made of a step or none
unfoldable pub decode : ℕ → MathOption Step → NextStep × ℕ
decode at none = (Err UnknownKind, at)
decode at (some s) = (Ok (Some (as_step s)), at + 3)

pub next-long : (ws l : List ℕ) (at k a b : ℕ) → drop at ws ≡ k ∷ a ∷ b ∷ l → next_of ws at ≡ decode at (decoded k a b)
unfolding next_of next_in decode
next-long ws l at k a b q = ap (λ (r : List ℕ). next_in r at) q ∙ go (decoded k a b)
  where
    go : (o : MathOption Step) → (elim o as (λ _. NextStep × ℕ) [ none ↦ (Err UnknownKind, at) | some s ↦ (Ok (Some (as_step s)), at + 3) ]) ≡ decode at o
    go none = refl
    go (some s) = refl

-- The words from a place on, which are none past the end
pub part_left : (ws : List ℕ) (at : ℕ) (r : Option (Bor (List ℕ))) (d : Bor (List ℕ)) → d.now ≡ [] → IsGetRangeResult ws at (length ws) r →
    (unwrap_or r d).now ≡ drop at ws
part_left ws at None d e h = e ∙ sym (drop_all at ws (past h.0))
  where
    past : (length ws < at) ⊎ (length ws < length ws) → length ws ≤ at
    past (inl l) = omega arith
    past (inr l) = absurd (omega arith)
part_left ws at (Some x) d e h = h.0.2 ∙ take_all (length ws - at) (drop at ws) (omega (arith, length-drop at ws))

-- Three of them are decoded
pub next_left : (ws l : List ℕ) (at : ℕ) → l ≡ drop at ws → 3 ≤ length l → next_of ws at ≡ decode at (decoded (get_or l 0 0) (get_or l 1 0) (get_or l 2 0))
next_left ws [] at q h = absurd (omega arith)
next_left ws (k ∷ []) at q h = absurd (omega arith)
next_left ws (k ∷ a ∷ []) at q h = absurd (omega arith)
next_left ws (k ∷ a ∷ b ∷ l) at q h = next-long ws l at k a b (sym q)

-- A step that was read is handed out as it is
step_back : (s : WalkStep) → as_step (step_read s) ≡ s
unfolding as_step
step_back (Retreat a b) = refl
step_back (Advance a b) = refl
step_back (Apply r) = refl
step_back (Open a b) = refl

pub handed_step : (at : ℕ) (o : MathOption Step) (s : WalkStep) → o ≡ some (step_read s) → (Ok (Some s), at + 3) ≡ decode at o
unfolding decode
handed_step at o s e = sym (ap (decode at) e ∙ ap (λ (x : WalkStep). (Ok (Some x), at + 3)) (step_back s))

pub handed_none : (at : ℕ) (o : MathOption Step) → o ≡ none → (Err UnknownKind, at) ≡ decode at o
unfolding decode
handed_none at o e = sym (ap (decode at) e)

-- A refusal is 16, and the place stays
is_refused : NextStep → Bool
is_refused (Ok (Some s)) = false
is_refused (Ok None) = false
is_refused (Err x) = true

pub stays : (ws : List ℕ) (at : ℕ) (x : Refusal) → (next_of ws at).0 ≡ Err x → next_of ws at ≡ (Err UnknownKind, at)
unfolding is_refused decode
stays ws at x e = go (drop at ws) refl
  where
    none_refused : (n : NextStep × ℕ) → is_refused n.0 ≡ false → next_of ws at ≡ n → next_of ws at ≡ (Err UnknownKind, at)
    none_refused n f q = false_true (sym f ∙ ap is_refused (sym (ap (λ (m : NextStep × ℕ). m.0) q) ∙ e))

    by_kind : (o : MathOption Step) → next_of ws at ≡ decode at o → next_of ws at ≡ (Err UnknownKind, at)
    by_kind none q = q
    by_kind (some s) q = none_refused (Ok (Some (as_step s)), at + 3) refl q

    go : (l : List ℕ) → drop at ws ≡ l → next_of ws at ≡ (Err UnknownKind, at)
    go [] q = none_refused ((Ok None), at) refl (next-short ws [] at q (omega arith))
    go (k ∷ []) q = none_refused ((Ok None), at) refl (next-short ws (k ∷ []) at q (omega arith))
    go (k ∷ a ∷ []) q = none_refused ((Ok None), at) refl (next-short ws (k ∷ a ∷ []) at q (omega arith))
    go (k ∷ a ∷ b ∷ l) q = by_kind (decoded k a b) (next-long ws l at k a b q)
