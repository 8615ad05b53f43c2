-- Lines put into a lent buffer one after the other: what they leave, in closed form. Assumes nothing.
use Rattle.std.proofs.Common.{◌≡◌, refl, sym, ◌∙◌, ap, Bool, true, false, List, [], ◌∷◌, ◌++◌, map, append_assoc, ℕ, ◌+◌, ◌-◌, ◌<◌, ◌≤◌, arith, length, get_or, take, drop, length-append}
use Rattle.std.proofs.Common.{length-drop, drop-drop, ltb, lt-ltb, le-ltb, le-leb, ltb-true, ◌⊎◌, inl, inr}
use lib.Seq.{take-append_seam, drop-append-add}
use borrow.Author.Tests.{lt-leb}
use Rattle.lists.specs.Lists.{concat}
use Rattle.lists.specs.Areas.{over, fitting}
use Rattle.lists.proofs.Truth.{lt_or_le, bool_iff}
use Rattle.model.specs.Reader.{decoded}
use Rattle.model.specs.Print.{Line as PrintLine, text}
use Rattle.book.specs.declared.printing.Printed.{Printed}
use Rattle.book.specs.Output.{ended, step_bytes, word_lines, put_line, put_lines, printing}
use Rattle.book.specs.Writing.{unused}

-- Where a line goes
module _ (p : Printed) (out xs : List ℕ) where
  pub put-after : p.short ≡ true → ◌≡◌ {A = Printed × List ℕ} (record { used = p.used; short = true }, out) (put_line (p, out) xs)
  unfolding put_line
  put-after e = rw e

  pub put-none : p.short ≡ false → length out < p.used + length xs → ◌≡◌ {A = Printed × List ℕ} (record { used = p.used; short = true }, out) (put_line (p, out) xs)
  unfolding put_line
  put-none e h = rw (e, lt-leb (p.used + length xs) (length out) h)

  pub put-fits : p.short ≡ false → p.used + length xs ≤ length out →
      ◌≡◌ {A = Printed × List ℕ} (record { used = p.used + length xs; short = false }, take p.used out ++ xs ++ drop (p.used + length xs) out) (put_line (p, out) xs)
  unfolding put_line
  put-fits e h = rw (e, le-leb (p.used + length xs) (length out) h)

-- The lines of words, three at a time
pub lines_next : (w : Printed × List ℕ) (x ws : List ℕ) → length x ≡ 3 →
    put_lines (put_line w (step_bytes (decoded (get_or x 0 0) (get_or x 1 0) (get_or x 2 0)))) (word_lines ws) ≡ put_lines w (word_lines (x ++ ws))
unfolding put_lines word_lines
lines_next w [] ws h = absurd (omega arith)
lines_next w (k ∷ []) ws h = absurd (omega arith)
lines_next w (k ∷ a ∷ []) ws h = absurd (omega arith)
lines_next w (k ∷ a ∷ b ∷ []) ws h = refl
lines_next w (k ∷ a ∷ b ∷ d ∷ x) ws h = absurd (omega arith)

pub lines_none : (w : Printed × List ℕ) (ws : List ℕ) → length ws < 3 → w ≡ put_lines w (word_lines ws)
unfolding put_lines word_lines
lines_none w [] h = refl
lines_none w (k ∷ []) h = refl
lines_none w (k ∷ a ∷ []) h = refl
lines_none w (k ∷ a ∷ b ∷ ws) h = absurd (omega arith)

-- Lines after one that did not fit
short-stays : (n : ℕ) (out : List ℕ) (xs : List (List ℕ)) →
    ◌≡◌ {A = Printed × List ℕ} (put_lines (record { used = n; short = true }, out) xs) (record { used = n; short = true }, out)
unfolding put_lines
short-stays n out [] = refl
short-stays n out (x ∷ xs) =
    ap (λ (w : Printed × List ℕ). put_lines w xs) (sym (put-after (record { used = n; short = true }) out x refl)) ∙ short-stays n out xs

put_eq : {n m : ℕ} {s t : Bool} {l k : List ℕ} → n ≡ m → s ≡ t → l ≡ k →
    ◌≡◌ {A = Printed × List ℕ} (record { used = n; short = s }, l) (record { used = m; short = t }, k)
put_eq p q e = λ i. (record { used = p i; short = q i }, e i)

over_more : (a b l : List ℕ) → a ++ over b (drop (length a) l) ≡ over (a ++ b) l
unfolding over
over_more a b l = rw (length-append a b, ← drop-drop (length b) (length a) l, append_assoc a b)

-- the same test with a line less on both sides
test_less : (a b c : ℕ) → a ≤ c → ltb (c - a) b ≡ ltb c (a + b)
test_less a b c h = bool_iff (ltb (c - a) b) (ltb c (a + b))
    (λ e. lt-ltb c (a + b) (omega (arith, ltb-true (c - a) b e)))
    (λ e. lt-ltb (c - a) b (omega (arith, ltb-true c (a + b) e)))

fit_turn : ℕ → List ℕ → List (List ℕ) → Bool → List (List ℕ)
fit_turn room x xs t = elim t [ true ↦ x ∷ fitting (room - length x) xs | false ↦ [] ]

fit_first : (room : ℕ) (x : List ℕ) (xs : List (List ℕ)) → length x ≤ room → fitting room (x ∷ xs) ≡ x ∷ fitting (room - length x) xs
unfolding fitting fit_turn
fit_first room x xs h = ap (fit_turn room x xs) (le-leb (length x) room h)

fit_none : (room : ℕ) (x : List ℕ) (xs : List (List ℕ)) → room < length x → fitting room (x ∷ xs) ≡ []
unfolding fitting fit_turn
fit_none room x xs h = ap (fit_turn room x xs) (lt-leb (length x) room h)

-- what lines leave after the text `front`, with the rest of the buffer
after : List (List ℕ) → List ℕ → List ℕ → Printed × List ℕ
after xs front rest = (
  record { used = length front + length (concat (fitting (length rest) xs)); short = ltb (length rest) (length (concat xs)) },
  front ++ over (concat (fitting (length rest) xs)) rest,
)

module _ (x : List ℕ) (xs : List (List ℕ)) (front rest : List ℕ) where
  start : Printed
  start = record { used = length front; short = false }

  both : length (x ++ concat xs) ≡ length x + length (concat xs)
  both = length-append x (concat xs)

  room-none : length rest < length x → put_lines (put_line (start, front ++ rest) x) xs ≡ after (x ∷ xs) front rest
  unfolding after start concat over
  room-none h =
      let z : length front ≡ length front + 0 = omega arith in
      let none = fit_none (length rest) x xs h in
      ap (λ (w : Printed × List ℕ). put_lines w xs) (sym (put-none start (front ++ rest) x refl (omega (arith, length-append front rest)))) ∙
      (short-stays (length front) (front ++ rest) xs ∙
      put_eq (z ∙ ap (λ (l : List (List ℕ)). length front + length (concat l)) (sym none))
      (sym (lt-ltb (length rest) (length (x ++ concat xs)) (omega (arith, both))))
      (ap (λ (l : List (List ℕ)). front ++ over (concat l) rest) (sym none)))

  room-some : ((f r : List ℕ) → put_lines (record { used = length f; short = false }, f ++ r) xs ≡ after xs f r) → length x ≤ length rest →
      put_lines (put_line (start, front ++ rest) x) xs ≡ after (x ∷ xs) front rest
  unfolding after start concat
  room-some later h =
      let some = fit_first (length rest) x xs h in
      let left : List ℕ = drop (length x) rest in
      let fit : List ℕ = concat (fitting (length rest - length x) xs) in
      let put : take (length front) (front ++ rest) ++ x ++ drop (length front + length x) (front ++ rest) ≡ front ++ x ++ left =
      rw (take-append_seam front rest, drop-append-add front rest (length x)) in
      let grows : length (front ++ x) + length fit ≡ length front + length (x ++ fit) = omega (arith, length-append front x, length-append x fit) in
      ap (λ (w : Printed × List ℕ). put_lines w xs)
      (sym (put-fits start (front ++ rest) x refl (omega (arith, length-append front rest))) ∙ put_eq (sym (length-append front x)) refl put) ∙
      (later (front ++ x) left ∙
      (put_eq (ap (λ n. length (front ++ x) + length (concat (fitting n xs))) (length-drop (length x) rest))
      (ap (λ n. ltb n (length (concat xs))) (length-drop (length x) rest))
      (ap (λ n. front ++ x ++ over (concat (fitting n xs)) left) (length-drop (length x) rest)) ∙
      put_eq (grows ∙ ap (λ (l : List (List ℕ)). length front + length (concat l)) (sym some))
      (test_less (length x) (length (concat xs)) (length rest) h ∙ ap (ltb (length rest)) (sym both))
      (append_assoc front x (over fit left) ∙ (ap (λ (l : List ℕ). front ++ l) (over_more x fit rest) ∙ ap (λ (l : List (List ℕ)). front ++ over (concat l) rest) (sym some)))))

lines_room : (xs : List (List ℕ)) (front rest : List ℕ) → put_lines (record { used = length front; short = false }, front ++ rest) xs ≡ after xs front rest
unfolding put_lines after concat over fitting start
lines_room [] front rest = put_eq (omega arith) (sym (le-ltb (length rest) 0 (omega arith))) refl
lines_room (x ∷ xs) front rest = go (lt_or_le (length rest) (length x)) (lines_room xs)
  where
    go : (length rest < length x) ⊎ (length x ≤ length rest) →
        ((f r : List ℕ) → put_lines (record { used = length f; short = false }, f ++ r) xs ≡ after xs f r) →
        put_lines (put_line (start x xs front rest, front ++ rest) x) xs ≡ after (x ∷ xs) front rest
    go (inl h) later = room-none x xs front rest h
    go (inr h) later = room-some x xs front rest later h

-- Lines put one after the other are what `printing` says
pub lines_printing : (ls : List PrintLine) (out : List ℕ) → put_lines (unused, out) (map ended ls) ≡ printing ls out
unfolding printing after text ended
lines_printing ls out = lines_room (map ended ls) [] out ∙ put_eq (omega arith) refl refl

pub put-append : (w : Printed × List ℕ) (xs ys : List (List ℕ)) → put_lines w (xs ++ ys) ≡ put_lines (put_lines w xs) ys
unfolding put_lines
put-append w [] ys = refl
put-append w (x ∷ xs) ys = put-append (put_line w x) xs ys

-- A buffer that is long enough takes all the text
fit_all : (xs : List (List ℕ)) (room : ℕ) → length (concat xs) ≤ room → fitting room xs ≡ xs
unfolding concat fitting
fit_all [] room h = refl
fit_all (x ∷ xs) room h =
    let l = length-append x (concat xs) in
    fit_first room x xs (omega (arith, l)) ∙ ap (λ (ys : List (List ℕ)). x ∷ ys) (fit_all xs (room - length x) (omega (arith, l)))

pub printing-all : (ls : List PrintLine) (out : List ℕ) → length (text ls) ≤ length out →
    printing ls out ≡ (record { used = length (text ls); short = false }, over (text ls) out)
unfolding printing text ended
printing-all ls out h =
    let all = fit_all (map ended ls) (length out) h in
    put_eq (ap (λ (xs : List (List ℕ)). length (concat xs)) all) (le-ltb (length out) (length (text ls)) h) (ap (λ (xs : List (List ℕ)). over (concat xs) out) all)

-- No more is used than the buffer holds
fit_length : (xs : List (List ℕ)) (room : ℕ) → length (concat (fitting room xs)) ≤ room
unfolding concat fitting
fit_length [] room = omega arith
fit_length (x ∷ xs) room = go (lt_or_le room (length x)) (fit_length xs (room - length x))
  where
    go : (room < length x) ⊎ (length x ≤ room) → length (concat (fitting (room - length x) xs)) ≤ room - length x → length (concat (fitting room (x ∷ xs))) ≤ room
    go (inl h) later = rw (fit_none room x xs h) (omega arith)
    go (inr h) later = rw (fit_first room x xs h) (omega (arith, length-append x (concat (fitting (room - length x) xs))))

pub used-fits : (ls : List PrintLine) (out out₁ : List ℕ) (r : Printed) → (r, out₁) ≡ printing ls out → r.used ≤ length out
unfolding printing
used-fits ls out out₁ r e = omega (arith, ap (λ (w : Printed × List ℕ). w.0.used) e, fit_length (map ended ls) (length out))
