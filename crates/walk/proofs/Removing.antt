-- A run taken out of the ready list: what stands after it moves one place down. Assumes nothing.
use Rattle.std.proofs.Common.{◌≡◌, sym, ap, ◌∙◌, subst, true, not, List, [], ◌∷◌, ◌++◌, append_assoc, ℕ, zero, suc, ◌+◌, ◌-◌, ◌<◌, ◌≤◌, arith, length, get_or, take, drop, length-drop, length-take}
use Rattle.std.proofs.Common.{length-append, eqb}
use lib.Seq.{paste, length_paste_head, take-append_seam}
use Rattle.lists.specs.Lists.{filter}
use Rattle.model.specs.Choice.{Range, is_ready}
use Rattle.model.proofs.Choosing.{ready_after}
use Rattle.tables.specs.Tables.{children_of}
use Rattle.walk.specs.Readiness.{Wakes, taken_out, woken_of}
use Rattle.walk.proofs.Distinct.{Once, taken_out_lem}
use Rattle.walk.proofs.Waiting.{Going, left_of}
use Rattle.walk.proofs.Telling.{Tells, visit_tells}

-- The shift: j items moved down by one from `at` on
module _ (l : List ℕ) (at : ℕ) where
  abbrev tail : List ℕ
  tail = drop (at + 1) l

  abbrev pub shifted : ℕ → List ℕ
  shifted j = paste l at tail j

  head_length : (j : ℕ) → at + j + 1 ≤ length l → length (take at l ++ take j tail) ≡ at + j
  head_length j h = length_paste_head l at tail j (omega arith) (rw length-drop (omega arith))

  pub shift_end : (n : ℕ) → at < n → shifted (n - 1 - at) ≡ taken_out l n at
  unfolding taken_out
  shift_end n h =
      let f : at + (n - 1 - at) ≡ n - 1 = omega arith in
      append_assoc (take at l) (take (n - 1 - at) tail) (drop (at + (n - 1 - at)) l) ∙
      ap (λ (m : ℕ). take at l ++ (take (n - 1 - at) tail ++ drop m l)) f

  -- The first n in two parts, and the first n - 1 afterwards
  parts : (n : ℕ) → at < n → n ≤ length l → take n l ≡ take at l ++ get_or l at 0 ∷ take (n - 1 - at) tail
  parts n h le =
      let f : n ≡ at + suc (n - 1 - at) = omega arith in
      ap (λ (k : ℕ). take k l) f ∙ go at l (n - 1 - at) (omega arith)
    where
      go : (a : ℕ) (xs : List ℕ) (j : ℕ) → a < length xs → take (a + suc j) xs ≡ take a xs ++ get_or xs a 0 ∷ take j (drop (a + 1) xs)
      go a [] j h = absurd (omega arith)
      go zero (x ∷ xs) j h = let z : 0 + suc j ≡ suc j = omega arith in rw z
      go (suc a) (x ∷ xs) j h =
          let z : suc a + suc j ≡ suc (a + suc j) = omega arith in
          let y : suc a + 1 ≡ suc (a + 1) = omega arith in
          rw (z, y) (ap (λ (t : List ℕ). x ∷ t) (go a xs j (omega arith)))

  pub taken-first : (n : ℕ) → at < n → n ≤ length l → take (n - 1) (taken_out l n at) ≡ take at l ++ take (n - 1 - at) tail
  unfolding taken_out
  taken-first n h le =
      let p : List ℕ = take at l ++ take (n - 1 - at) tail in
      let e : n - 1 ≡ length p = omega (arith, head_length (n - 1 - at) (omega arith)) in
      ap (take (n - 1)) (sym (append_assoc (take at l) (take (n - 1 - at) tail) (drop (n - 1) l))) ∙
      (ap (λ (k : ℕ). take k (p ++ drop (n - 1) l)) e ∙ take-append_seam p (drop (n - 1) l))

  -- Without the run at `at`, which stands once
  pub taken-filter : (n : ℕ) → at < n → n ≤ length l → Once (take n l) → take (n - 1) (taken_out l n at) ≡ filter (λ x. not (eqb x (get_or l at 0))) (take n l)
  taken-filter n h le o =
      taken-first n h le ∙
      sym (ap (filter (λ x. not (eqb x (get_or l at 0)))) (parts n h le) ∙
      taken_out_lem (get_or l at 0) (take at l) (take (n - 1 - at) tail) (subst Once (parts n h le) o))

  pub taken-length : (n : ℕ) → at < n → n ≤ length l → length (taken_out l n at) ≡ length l
  unfolding taken_out
  taken-length n h le = simp (length-append, length-take, length-drop) (omega arith)

-- The state with a ready run taken out still tells what its runs wait for
pub taken_tells : (w : Range) (known first : ℕ) (visited ready : List ℕ) (s : Wakes) (at r : ℕ) → Going w known first visited ready →
    Tells w known first visited ready s → at < s.0 → get_or s.2 at 0 ≡ r →
    Tells w known first visited (filter (λ x. not (eqb x r)) ready) (s.0 - 1, s.1, taken_out s.2 s.0 at)
taken_tells w known first visited ready s at r G T lt e = record {
  size = T.size;
  wide = omega (arith, T.wide, long);
  says = record {
    waiting = T.says.waiting;
    number = sym fewer;
    room = omega (arith, fewer, T.says.number, T.says.room, long);
    ready = ap (λ (k : ℕ). take k (taken_out s.2 s.0 at)) fewer ∙ rest;
  };
}
  where
    le : s.0 ≤ length s.2
    le = omega (arith, T.says.number, T.says.room)

    long : length (taken_out s.2 s.0 at) ≡ length s.2
    long = taken-length s.2 at s.0 lt le

    listed : take s.0 s.2 ≡ ready
    listed = ap (λ (k : ℕ). take k s.2) T.says.number ∙ T.says.ready

    rest : take (s.0 - 1) (taken_out s.2 s.0 at) ≡ filter (λ x. not (eqb x r)) ready
    rest =
        taken-filter s.2 at s.0 lt le (subst Once (sym listed) G.once) ∙
        (ap (λ (k : ℕ). filter (λ x. not (eqb x k)) (take s.0 s.2)) e ∙ ap (filter (λ x. not (eqb x r))) listed)

    fewer : length (filter (λ x. not (eqb x r)) ready) ≡ s.0 - 1
    fewer = ap length (sym rest) ∙ (length-take (s.0 - 1) (taken_out s.2 s.0 at) ∙ omega (arith, long, le))

-- A whole turn: the run at `at` taken out, and what its visit wakes
pub turn_tells : (w : Range) (known first : ℕ) (visited ready : List ℕ) (s : Wakes) (at r left : ℕ) → Going w known first visited ready →
    Tells w known first visited ready s → at < s.0 → get_or s.2 at 0 ≡ r → is_ready w known first visited r ≡ true →
    left ≡ left_of w known first visited → first ≤ length w.parents →
    Tells w known first (r ∷ visited) (ready_after w known first visited ready r)
    (woken_of (s.0 - 1, s.1, taken_out s.2 s.0 at) (children_of w.parents r) r known first (length w.parents) left)
turn_tells w known first visited ready s at r left G T lt e rr q le =
    visit_tells w known first visited ready r G rr (s.0 - 1, s.1, taken_out s.2 s.0 at) (taken_tells w known first visited ready s at r G T lt e) left q le
