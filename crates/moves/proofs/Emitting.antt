-- Records written in turn: two lists of records, and runs applied. Assumes nothing.
use Rattle.std.proofs.Common.{◌≡◌, refl, sym, ap, ◌∙◌, List, [], ◌∷◌, ◌++◌, ℕ, suc, ◌+◌, ◌-◌, ◌≤◌, ◌<◌, arith}
use Rattle.std.specs.Prelude.{Err}
use Rattle.model.specs.declared.answers.Refusal.{Refusal}
use Rattle.moves.specs.declared.writing.Kind.TheVariants.{Apply}
use Rattle.moves.specs.Emit.{Rec, Writing, step_of, emit_one, emit, applies}

-- One list after another is both together
pub emit-append : (w : Writing) (ss ts : List Rec) → emit w (ss ++ ts) ≡ emit (emit w ss) ts
unfolding emit
emit-append w [] ts = refl
emit-append w (s ∷ ss) ts = emit-append (emit_one w s) ss ts

-- Once something was refused nothing changes
pub emit-refused : (r : Refusal) (k m : ℕ) (ws : List ℕ) (ss : List Rec) →
    ◌≡◌ {A = Writing} (emit (record { count = k; moved = m; outcome = Err r }, ws) ss) (record { count = k; moved = m; outcome = Err r }, ws)
unfolding emit
emit-refused r k m ws [] = refl
emit-refused r k m ws (s ∷ ss) = emit-refused r k m ws ss

-- so a writer that was refused stands where all steps were to lead, and one that was not goes on
module _ {u whole : Writing} (rest : List Rec) (leads : emit u rest ≡ whole) where
  pub ends_refused : {r : Refusal} {k m : ℕ} {ws : List ℕ} → ◌≡◌ {A = Writing} (record { count = k; moved = m; outcome = Err r }, ws) u →
      ◌≡◌ {A = Writing} (record { count = k; moved = m; outcome = Err r }, ws) whole
  ends_refused {r} {k} {m} {ws} e = sym (emit-refused r k m ws rest) ∙ ap (λ (w : Writing). emit w rest) e ∙ leads

  pub goes_on : {w : Writing} → w ≡ u → emit w rest ≡ whole
  goes_on e = ap (λ (w : Writing). emit w rest) e ∙ leads

-- A run's Apply written, and the rest after it, is the whole
pub applies-next : (w : Writing) (run end : ℕ) → run < end →
    emit (emit_one w (step_of Apply run (run + 1) 0)) (applies (run + 1) (end - (run + 1))) ≡ emit w (applies run (end - run))
unfolding emit applies
applies-next w run end h = let e : end - run ≡ suc (end - (run + 1)) = omega arith in rw e

-- None left
pub applies-none : (w : Writing) (run end : ℕ) → end ≤ run → emit w (applies run (end - run)) ≡ w
unfolding emit applies
applies-none w run end h = let e : end - run ≡ 0 = omega arith in rw e
