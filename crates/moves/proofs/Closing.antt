-- What a writer leaves, in closed form: the whole records that fit, and the rest of the list untouched. Assumes nothing.
use Rattle.std.proofs.Common.{◌≡◌, sym, ap, ◌∙◌, ⊎_elim, Bool, cond, List, [], ◌∷◌, ◌++◌, append_assoc, ℕ, suc, ◌+◌, ◌*◌, ◌/◌, ◌-◌, ◌<◌, ◌≤◌, zero-add, add-one, arith, lt-ltb, le-ltb}
use Rattle.std.proofs.Common.{length, take, drop, length-set, length-append, take-append-drop, take_at, drop-drop, length-take-le, ltb}
use native.Mathlib.Nat.{sub-zero}
use native.Mathlib.Numerals.{add-two}
use lib.Seq.{sets-eq, drop-append-add, take-nil}
use lib.Dec.{leb-suc-suc}
use Rattle.lists.proofs.Truth.{lt_or_le}
use Rattle.std.specs.Prelude.{Ok, Err}
use Rattle.model.specs.declared.answers.Refusal.TheVariants.{ListTooShort}
use Rattle.model.specs.Refusals.{Outcome}
use Rattle.moves.specs.Emit.{kind_word, Rec, Writing, going, stopped, put3, emit}
use Rattle.moves.proofs.Emitting.{emit-refused}

-- The words of some records, and the events that they move
unfoldable pub rec_words : List Rec → List ℕ
rec_words [] = []
rec_words (s ∷ ss) = kind_word s.kind ∷ s.first ∷ s.past ∷ rec_words ss

unfoldable pub rec_events : List Rec → ℕ
rec_events [] = 0
rec_events (s ∷ ss) = s.events + rec_events ss

-- What is answered where the list was too short, or not
abbrev pub told : Bool → Outcome
told t = cond t (Err ListTooShort) (Ok tt)

-- k records stand there, which moved m; of ss those that fit follow
abbrev pub after : ℕ → ℕ → List ℕ → List Rec → List Rec → Writing
after k m ws ss fit = (
  record { count = k + length fit; moved = m + rec_events fit; outcome = told (ltb (length ws / 3 - k) (length ss)) },
  take (3 * k) ws ++ (rec_words fit ++ drop (3 * (k + length fit)) ws),
)

put3_eq : (ws : List ℕ) (at x y z : ℕ) → at + 3 ≤ length ws → put3 ws at x y z ≡ (take at ws ++ (x ∷ y ∷ z ∷ [])) ++ drop (at + 3) ws
put3_eq ws at x y z h = rw (add-one, add-two) (sets-eq (x ∷ y ∷ z ∷ []) ws at h)

-- Three words after the first k records
module _ (ws : List ℕ) (k x y z : ℕ) (h : 3 * k + 3 ≤ length ws) where
  abbrev front : List ℕ
  front = take (3 * k) ws ++ (x ∷ y ∷ z ∷ [])

  front_length : length front ≡ 3 * k + 3
  front_length = length-append (take (3 * k) ws) (x ∷ y ∷ z ∷ []) ∙ ap (λ (n : ℕ). n + 3) (length-take-le (3 * k) ws (omega arith))

  put3-length : length (put3 ws (3 * k) x y z) ≡ length ws
  put3-length = simp length-set

  put3-take : take (3 * (k + 1)) (put3 ws (3 * k) x y z) ≡ front
  put3-take = ap (take (3 * (k + 1))) (put3_eq ws (3 * k) x y z h) ∙ take_at front (drop (3 * k + 3) ws) (3 * (k + 1)) (front_length ∙ omega arith)

  put3-drop : (n : ℕ) → drop (3 * (k + 1 + n)) (put3 ws (3 * k) x y z) ≡ drop (3 * (k + (n + 1))) ws
  put3-drop n =
      let e : 3 * (k + 1 + n) ≡ length front + 3 * n = omega (arith, front_length) in
      let f : 3 * (k + (n + 1)) ≡ 3 * k + 3 + 3 * n = omega arith in
      ap (drop (3 * (k + 1 + n))) (put3_eq ws (3 * k) x y z h) ∙ ap (λ (m : ℕ). drop m (front ++ drop (3 * k + 3) ws)) e ∙
      drop-append-add front (drop (3 * k + 3) ws) (3 * n) ∙ drop-drop (3 * n) (3 * k + 3) ws ∙ ap (λ (m : ℕ). drop m ws) (sym f)

writing_eq : {n n' m m' : ℕ} {t t' : Bool} {l l' : List ℕ} → n ≡ n' → m ≡ m' → t ≡ t' → l ≡ l' →
    ◌≡◌ {A = Writing} (record { count = n; moved = m; outcome = told t }, l) (record { count = n'; moved = m'; outcome = told t' }, l')
writing_eq p q r e = λ i. (record { count = p i; moved = q i; outcome = told (r i) }, e i)

rejoined : (k : ℕ) (ws : List ℕ) → take (3 * k) ws ++ drop (3 * (k + 0)) ws ≡ ws
rejoined k ws = let e : 3 * (k + 0) ≡ 3 * k = omega arith in rw e (take-append-drop (3 * k) ws)

-- A record that fits, and one that does not
module _ (s : Rec) (ss : List Rec) (k m : ℕ) (ws : List ℕ) where
  abbrev put : List ℕ
  put = put3 ws (3 * k) (kind_word s.kind) s.first s.past

  one_more : k < length ws / 3 → (fit : List Rec) → after (k + 1) (m + s.events) put ss fit ≡ after k m ws (s ∷ ss) (s ∷ fit)
  unfolding rec_words rec_events
  one_more lt fit =
      let h : 3 * k + 3 ≤ length ws = omega arith in
      let e : length ws / 3 - k ≡ suc (length ws / 3 - (k + 1)) = omega arith in
      let n : ℕ = length fit in
      let room : ltb (length put / 3 - (k + 1)) (length ss) ≡ ltb (length ws / 3 - k) (suc (length ss)) =
      ap (λ (l : ℕ). ltb (l / 3 - (k + 1)) (length ss)) (put3-length ws k _ _ _ h) ∙
      sym (leb-suc-suc (suc (length ws / 3 - (k + 1))) (length ss)) ∙ ap (λ (r : ℕ). ltb r (suc (length ss))) (sym e) in
      writing_eq (omega arith) (omega arith) room
      (ap (λ (l : List ℕ). l ++ (rec_words fit ++ drop (3 * (k + 1 + n)) put)) (put3-take ws k _ _ _ h)
      ∙ ap (λ (l : List ℕ). front ws k (kind_word s.kind) s.first s.past h ++ (rec_words fit ++ l)) (put3-drop ws k _ _ _ h n ∙ ap (λ (j : ℕ). drop (3 * (k + j)) ws) (add-one n))
      ∙ append_assoc (take (3 * k) ws) _ _)

  no_room : length ws / 3 ≤ k → (stopped k m, ws) ≡ after k m ws (s ∷ ss) []
  unfolding rec_words rec_events
  no_room ge =
      let e : length ws / 3 - k ≡ 0 = omega arith in
      writing_eq (omega arith) (omega arith) (sym (lt-ltb (length ws / 3 - k) (suc (length ss)) (omega arith))) (sym (rejoined k ws))

-- From any point on
pub emit-closed : (ss : List Rec) (k m : ℕ) (ws : List ℕ) → k ≤ length ws / 3 → emit (going k m, ws) ss ≡ after k m ws ss (take (length ws / 3 - k) ss)
unfolding emit rec_words rec_events
emit-closed [] k m ws h =
    rw take-nil (writing_eq (omega arith) (omega arith) (sym (le-ltb (length ws / 3 - k) 0 (omega arith))) (sym (rejoined k ws)))
emit-closed (s ∷ ss) k m ws h = ⊎_elim
    (λ (lt : k < length ws / 3).
    let r : 3 * k + 3 ≤ length ws = omega arith in
    let e : length ws / 3 - k ≡ suc (length ws / 3 - (k + 1)) = omega arith in
    let l : length (put s ss k m ws) ≡ length ws = put3-length ws k _ _ _ r in
    rw (lt-ltb k (length ws / 3) lt)
    (emit-closed ss (k + 1) (m + s.events) (put s ss k m ws) (omega arith) ∙ ap (λ (n : ℕ). after (k + 1) (m + s.events) (put s ss k m ws) ss (take (n / 3 - (k + 1)) ss)) l
    ∙ one_more s ss k m ws lt (take (length ws / 3 - (k + 1)) ss) ∙ ap (λ (j : ℕ). after k m ws (s ∷ ss) (take j (s ∷ ss))) (sym e)))
    (λ (ge : length ws / 3 ≤ k).
    let e : length ws / 3 - k ≡ 0 = omega arith in
    rw (le-ltb k (length ws / 3) ge) (emit-refused ListTooShort k m ws ss ∙ no_room s ss k m ws ge ∙ ap (λ (j : ℕ). after k m ws (s ∷ ss) (take j (s ∷ ss))) (sym e)))
    (lt_or_le k (length ws / 3))

-- From the start: the records that fit, and the rest of the list as it was
pub emit-fresh : (ss : List Rec) (ws : List ℕ) → let fit : List Rec = take (length ws / 3) ss in emit (going 0 0, ws) ss
    ≡ (record { count = length fit; moved = rec_events fit; outcome = told (ltb (length ws / 3) (length ss)) }, rec_words fit ++ drop (3 * length fit) ws)
emit-fresh ss ws = simp (sub-zero, zero-add) at (emit-closed ss 0 0 ws (omega arith))
