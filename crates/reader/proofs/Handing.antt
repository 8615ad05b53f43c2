-- What a reader hands out of a list of words: the steps that the words say, then the end; or refusal 16. Assumes nothing.
use Rattle.std.proofs.Common.{◌≡◌, refl, sym, ap, ◌∙◌, List, [], ◌∷◌, map, ℕ, zero, suc, ◌+◌, ◌*◌, ◌<◌, arith, length, drop, drop-drop}
use mathlib.Core.Option.{Option, none, some, none-ne-some, some-injective}
use Rattle.model.specs.declared.answers.Refusal.{Refusal}
use Rattle.model.specs.declared.answers.Refusal.TheVariants.{UnknownKind}
use Rattle.model.specs.declared.steps.WalkStep.{WalkStep}
use Rattle.model.specs.Steps.{Step}
use Rattle.model.specs.Reader.{decoded, said, as_step, next_of}
use Rattle.reader.specs.Reading.{HandedOut, before, reads}
use Rattle.reader.proofs.Decoding.{decode, next-short, next-long}
use Rattle.std.specs.Prelude.{Ok, Err, Some, None}
use Rattle.model.specs.Answers.{NextStep}

-- One answer, and what is handed out with it
end_first : (fuel : ℕ) (ws : List ℕ) (at : ℕ) → next_of ws at ≡ ((Ok None), at) → reads fuel ws at ≡ ([], ((Ok None), at))
unfolding reads before
end_first zero ws at e = ap (λ (n : NextStep × ℕ). ([], n)) e
end_first (suc fuel) ws at e = ap (λ (n : NextStep × ℕ). before n (λ m. reads fuel ws m)) e

refused_first : (fuel : ℕ) (ws : List ℕ) (at : ℕ) (x : Refusal) → next_of ws at ≡ (Err x, at) → reads fuel ws at ≡ ([], (Err x, at))
unfolding reads before
refused_first zero ws at x e = ap (λ (n : NextStep × ℕ). ([], n)) e
refused_first (suc fuel) ws at x e = ap (λ (n : NextStep × ℕ). before n (λ m. reads fuel ws m)) e

step-first : (fuel : ℕ) (ws : List ℕ) (at : ℕ) (s : WalkStep) (n : ℕ) → next_of ws at ≡ (Ok (Some s), n) → reads (suc fuel) ws at ≡ (s ∷ (reads fuel ws n).0, (reads fuel ws n).1)
unfolding reads before
step-first fuel ws at s n e = ap (λ (p : NextStep × ℕ). before p (λ m. reads fuel ws m)) e

-- The words that follow a step's three
next_place : (ws l : List ℕ) (at k a b : ℕ) → drop at ws ≡ k ∷ a ∷ b ∷ l → drop (at + 3) ws ≡ l
next_place ws l at k a b q = sym (drop-drop 3 at ws) ∙ ap (λ (r : List ℕ). drop 3 r) q

-- What words say: no step where there are fewer than three; else the first, and what the rest says
short-said : (l : List ℕ) → length l < 3 → said l ≡ some []
unfolding said
short-said [] h = refl
short-said (k ∷ []) h = refl
short-said (k ∷ a ∷ []) h = refl
short-said (k ∷ a ∷ b ∷ l) h = absurd (omega (arith, h))

joined : Option Step → Option (List Step) → Option (List Step)
joined none r = none
joined (some s) none = none
joined (some s) (some ss) = some (s ∷ ss)

long-said : (k a b : ℕ) (l : List ℕ) → said (k ∷ a ∷ b ∷ l) ≡ joined (decoded k a b) (said l)
unfolding said joined
long-said k a b l = go (decoded k a b) (said l)
  where
    go : (o : Option Step) (r : Option (List Step)) →
        (elim o as (λ _. Option (List Step)) [ none ↦ none | some s ↦ elim r as (λ _. Option (List Step)) [ none ↦ none | some ss ↦ some (s ∷ ss) ] ]) ≡ joined o r
    go none r = refl
    go (some s) none = refl
    go (some s) (some ss) = refl

-- Steps that words say, and the place after them
places : ℕ → List Step → HandedOut
places at ss = (map as_step ss, ((Ok None), at + 3 * length ss))

short : (fuel : ℕ) (ws l : List ℕ) (at : ℕ) (ss : List Step) → drop at ws ≡ l → length l < 3 → said l ≡ some ss → reads fuel ws at ≡ places at ss
unfolding places
short fuel ws l at ss q h e =
    end_first fuel ws at (next-short ws l at q h)
    ∙ ap (λ (n : ℕ). ([], ((Ok None), n))) (omega arith)
    ∙ ap (places at) (some-injective [] ss (sym (short-said l h) ∙ e))

long : (fuel : ℕ) (ws l : List ℕ) (at k a b : ℕ) (ss : List Step) → drop at ws ≡ k ∷ a ∷ b ∷ l →
    (o : Option Step) → decoded k a b ≡ o → (r : Option (List Step)) → said l ≡ r → joined o r ≡ some ss →
    ((ts : List Step) → said l ≡ some ts → reads fuel ws (at + 3) ≡ places (at + 3) ts) → reads (suc fuel) ws at ≡ places at ss
unfolding places joined decode
long fuel ws l at k a b ss q none p r t e ih = absurd (none-ne-some ss e)
long fuel ws l at k a b ss q (some x) p none t e ih = absurd (none-ne-some ss e)
long fuel ws l at k a b ss q (some x) p (some ts) t e ih =
    step-first fuel ws at (as_step x) (at + 3) (next-long ws l at k a b q ∙ ap (decode at) p)
    ∙ ap (λ (later : HandedOut). (as_step x ∷ later.0, later.1)) (ih ts t)
    ∙ ap (λ (n : ℕ). (as_step x ∷ map as_step ts, ((Ok None), n))) (omega arith)
    ∙ ap (places at) (some-injective (x ∷ ts) ss e)

-- Words that say steps: these are handed out, and then the end
pub reads-said : (fuel : ℕ) (ws l : List ℕ) (at : ℕ) (ss : List Step) → drop at ws ≡ l → length l < 3 * fuel + 3 → said l ≡ some ss →
    reads fuel ws at ≡ (map as_step ss, ((Ok None), at + 3 * length ss))
unfolding places
reads-said zero ws l at ss q h e = short zero ws l at ss q (omega (arith, h)) e
reads-said (suc fuel) ws [] at ss q h e = short (suc fuel) ws [] at ss q (omega arith) e
reads-said (suc fuel) ws (k ∷ []) at ss q h e = short (suc fuel) ws (k ∷ []) at ss q (omega arith) e
reads-said (suc fuel) ws (k ∷ a ∷ []) at ss q h e = short (suc fuel) ws (k ∷ a ∷ []) at ss q (omega arith) e
reads-said (suc fuel) ws (k ∷ a ∷ b ∷ l) at ss q h e =
    long fuel ws l at k a b ss q (decoded k a b) refl (said l) refl (sym (long-said k a b l) ∙ e)
    (λ ts t. reads-said fuel ws l (at + 3) ts (next_place ws l at k a b q) (omega (arith, h)) t)

-- Words that say none: 16 at the first kind above 3
stopped : (fuel : ℕ) (ws l : List ℕ) (at k a b : ℕ) → drop at ws ≡ k ∷ a ∷ b ∷ l →
    (o : Option Step) → decoded k a b ≡ o → (r : Option (List Step)) → said l ≡ r → joined o r ≡ none →
    (said l ≡ none → (reads fuel ws (at + 3)).1.0 ≡ Err UnknownKind) → (reads (suc fuel) ws at).1.0 ≡ Err UnknownKind
unfolding joined decode
stopped fuel ws l at k a b q none p r t e ih = ap (λ (out : HandedOut). out.1.0) (refused_first (suc fuel) ws at UnknownKind (next-long ws l at k a b q ∙ ap (decode at) p))
stopped fuel ws l at k a b q (some x) p none t e ih = ap (λ (out : HandedOut). out.1.0) (step-first fuel ws at (as_step x) (at + 3) (next-long ws l at k a b q ∙ ap (decode at) p)) ∙ ih t
stopped fuel ws l at k a b q (some x) p (some ts) t e ih = absurd (none-ne-some (x ∷ ts) (sym e))

said-none : (l : List ℕ) → length l < 3 → said l ≡ none → ⊥
said-none l h e = none-ne-some [] (sym e ∙ short-said l h)

pub reads_unsaid : (fuel : ℕ) (ws l : List ℕ) (at : ℕ) → drop at ws ≡ l → length l < 3 * fuel + 3 → said l ≡ none → (reads fuel ws at).1.0 ≡ Err UnknownKind
reads_unsaid zero ws l at q h e = absurd (said-none l (omega (arith, h)) e)
reads_unsaid (suc fuel) ws [] at q h e = absurd (said-none [] (omega arith) e)
reads_unsaid (suc fuel) ws (k ∷ []) at q h e = absurd (said-none (k ∷ []) (omega arith) e)
reads_unsaid (suc fuel) ws (k ∷ a ∷ []) at q h e = absurd (said-none (k ∷ a ∷ []) (omega arith) e)
reads_unsaid (suc fuel) ws (k ∷ a ∷ b ∷ l) at q h e =
    stopped fuel ws l at k a b q (decoded k a b) refl (said l) refl (sym (long-said k a b l) ∙ e)
    (λ t. reads_unsaid fuel ws l (at + 3) (next_place ws l at k a b q) (omega (arith, h)) t)
