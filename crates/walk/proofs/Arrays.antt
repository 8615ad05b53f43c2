-- A held record's arrays give the definitions' ranges of its graph. Assumes nothing.
use Rattle.std.proofs.Common.{◌≡◌, sym, ap, ap₂, ◌∙◌, ◌⊎◌, inl, inr, true, false, List, [], ◌∷◌, ◌++◌, map, ℕ, zero, suc, ◌+◌, ◌-◌, ◌≤◌, ◌<◌, add-one, arith, length, get_or, take, drop}
use Rattle.std.proofs.Common.{length-drop, length-take, take-suc, get_or-drop, get_or-take, length-take-le, leb}
use mathlib.Core.List.{map-append}
use lib.ListN.{get_or-eq_default}
use Rattle.lists.specs.Lists.{filter, mem, rising}
use Rattle.lists.specs.Areas.{part, groups}
use Rattle.lists.proofs.Truth.{lt_or_le, false_true}
use Rattle.lists.proofs.Bounds.{below_at}
use Rattle.lists.proofs.Pads.{get_pad}
use Rattle.lists.proofs.Rising.{rising_get_d}
use Rattle.lists.proofs.Groups.{group_at, part-take, length-groups}
use Rattle.model.specs.Graph.{Graph, runs, start}
use Rattle.model.specs.History.{at}
use Rattle.model.specs.Range.{parents_in, starts_in}
use Rattle.model.specs.Choice.{range_of}
use Rattle.model.specs.declared.record.CausalGraph.{CausalGraph}
use Rattle.model.specs.Record.{view}
use Rattle.model.specs.Broken.{Held}
use Rattle.graph.specs.Rows.{row, Rows}
use Rattle.graph.proofs.Views.{facts, runs-view, start-view, starts_list, starts_count, starts-pad}
use Rattle.graph.proofs.Entries.{parents-rise, row-view, rows_of}
use Rattle.tables.specs.Jagged.{rows_in}
use Rattle.tables.specs.Laid.{shares, shares_of, grouped, Sound}
use Rattle.tables.proofs.JaggedRows.{row_part}
use Rattle.walk.specs.Ranges.{range_by, offsets, range_in, Arrays}

-- Those of a run's parents that lie in the range
abbrev inside : ℕ → List ℕ → List ℕ
inside a ps = map (λ p. p - a) (filter (λ p. leb a p) ps)

-- One run more of a range
parents-next : (g : Graph) (a r : ℕ) → a ≤ r → r < length g.parents → parents_in g a (suc r) ≡ parents_in g a r ++ inside a (at g.parents r) ∷ []
unfolding parents_in at
parents-next g a r le lt =
    let k : suc r - a ≡ suc (r - a) = omega arith in
    let e : a + (r - a) ≡ r = omega arith in
    let q : take (suc r - a) (drop a g.parents) ≡ take (r - a) (drop a g.parents) ++ get_or g.parents r [] ∷ [] =
    ap (λ (m : ℕ). take m (drop a g.parents)) k ∙ (take-suc (drop a g.parents) (r - a) [] (omega (arith, length-drop a g.parents)) ∙
    ap (λ (x : List ℕ). take (r - a) (drop a g.parents) ++ x ∷ []) (get_or-drop a g.parents (r - a) [] ∙ ap (λ (m : ℕ). get_or g.parents m []) e)) in
    ap (map (inside a)) q ∙ map-append (inside a) (take (r - a) (drop a g.parents)) (get_or g.parents r [] ∷ [])

parents-empty : (g : Graph) (a : ℕ) → parents_in g a a ≡ []
unfolding parents_in
parents-empty g a = let e : a - a ≡ 0 = omega arith in rw e

-- What the runs have of their parents is what the definitions say of the range
shares_up : (g : Graph) (all : List (List ℕ)) (a n : ℕ) → a + n ≤ length g.parents → ((r : ℕ) → r < a + n → at all r ≡ at g.parents r) → shares_of all a n ≡ parents_in g a (a + n)
unfolding shares_of
shares_up g all a zero le same = let e : a + 0 ≡ a = omega arith in sym (ap (parents_in g a) e ∙ parents-empty g a)
shares_up g all a (suc n) le same =
    let e : a + suc n ≡ suc (a + n) = omega arith in
    rw (same (a + n) (omega arith), shares_up g all a n (omega arith) (λ r lt. same r (omega arith)))
    (sym (ap (parents_in g a) e ∙ parents-next g a (a + n) (omega arith) (omega arith)))

pub shares_are : (g : Graph) (starts items : List ℕ) (a n : ℕ) → a + n ≤ length g.parents → ((r : ℕ) → r < a + n → row starts items r ≡ at g.parents r) →
    shares starts items a n ≡ parents_in g a (a + n)
unfolding shares row
shares_are g starts items a n le same = shares_up g (rows_in starts items (a + n)) a n le (λ r lt. row_part starts items (a + n) r lt ∙ same r lt)

-- A row by its starts
grouped-at : (starts items : List ℕ) (n r : ℕ) → r < n → n < length starts → at (grouped starts items n) r ≡ row starts items r
unfolding grouped at row
grouped-at starts items n r lt long =
    let size : length (take (n + 1) starts) ≡ n + 1 = length-take-le (n + 1) starts (omega arith) in
    group_at (take (n + 1) starts) items r (omega (arith, size)) ∙
    ap₂ (λ (s e : ℕ). part s e items) (get_or-take (n + 1) starts r 0 (omega arith)) (get_or-take (n + 1) starts (suc r) 0 (omega arith) ∙ ap (λ (k : ℕ). get_or starts k 0) (sym (add-one r)))

-- Rows are sound, as many as one likes of them
sound_of : (starts items : List ℕ) (m n : ℕ) → Rows starts items m → n ≤ m → Sound starts items n
sound_of starts items m n rs le = record {
  few = omega (arith, rs.few);
  long = omega (arith, rs.fits);
  inside = λ r lt. (rs.climb r (omega arith), rs.inside r (omega arith));
  below = λ r p h. low r p (lt_or_le r n) h;
}
  where
    none : (r p : ℕ) → n ≤ r → mem p (at (grouped starts items n) r) ≡ false
    none r p ge = unfold at grouped mem in (rw (get_or-eq_default (groups (take (n + 1) starts) items) [] {n = r} (omega (arith, size))))
      where
        size : length (groups (take (n + 1) starts) items) ≤ n
        size = few (take (n + 1) starts) (omega (arith, length-take (n + 1) starts))
          where
            few : (ss : List ℕ) → length ss ≤ n + 1 → length (groups ss items) ≤ n
            few [] h = unfold groups in (omega arith)
            few (x ∷ xs) h = omega (arith, length-groups x xs items)

    low : (r p : ℕ) → (r < n) ⊎ (n ≤ r) → mem p (at (grouped starts items n) r) ≡ true → p < r
    low r p (inl lt) h = below_at r (row starts items r) (rs.low r (omega arith)) p (rw (grouped-at starts items n r lt (omega (arith, rs.fits))) at h)
    low r p (inr ge) h = false_true (sym (none r p ge) ∙ h)

-- A part of the front is a part of the whole
same-part : (a k m : ℕ) (l : List ℕ) → a + k ≤ m → take k (drop a (take m l)) ≡ take k (drop a l)
unfolding part
same-part a k m l h = let q : a + k - a ≡ k = omega arith in rw q at (part-take a (a + k) m l h)

module _ (g : CausalGraph) (held : Held g) where
  -- Starts past the used part are 0 in both
  pub starts-same : (i : ℕ) → get_or g.starts i 0 ≡ get_or (view g).starts i 0
  starts-same i = ap (λ (l : List ℕ). get_or l i 0) (starts-pad g held) ∙ get_pad 513 (view g).starts i

  module _ (a b : ℕ) (le : a ≤ b) (few : b ≤ g.run_count) where
    pub shares-view : (n : ℕ) → n ≡ b - a → shares g.parent_starts g.parents a n ≡ parents_in (view g) a b
    shares-view n e =
        let end : a + n ≡ b = omega arith in
        let size : length (view g).parents ≡ g.run_count = unfold runs in (runs-view g held) in
        shares_are (view g) g.parent_starts g.parents a n (omega (arith, size)) (λ k lt. row-view g held k (omega arith)) ∙ ap (parents_in (view g) a) end

    pub offsets-view : (n : ℕ) → n ≡ b - a → offsets g.starts a n ≡ starts_in (view g) a b
    unfolding offsets starts_in
    offsets-view n e =
        let d : suc n ≡ suc (b - a) = ap suc e in
        let s : get_or g.starts a 0 ≡ start (view g) a = sym (start-view g held a (omega arith)) in
        let t : take (suc n) (drop a g.starts) ≡ take (suc (b - a)) (drop a (view g).starts) =
        ap (λ (k : ℕ). take k (drop a g.starts)) d ∙ sym (ap (λ (l : List ℕ). take (suc (b - a)) (drop a l)) (starts_list g held) ∙
        same-part a (suc (b - a)) (g.run_count + 1) g.starts (omega arith)) in
        ap₂ (λ (z : ℕ) (l : List ℕ). map (λ s. s - z) l) s t

    -- The range by the arrays is the definitions'
    pub range_view : (n : ℕ) → n ≡ b - a → range_in g.starts g.parent_starts g.parents a n ≡ range_of (view g) a b
    unfolding range_in range_by range_of
    range_view n e = ap₂ (λ (ss : List ℕ) (ps : List (List ℕ)). range_by ss ps) (offsets-view n e) (shares-view n e)

  -- The arrays of the first n runs
  pub arrays_of : (n : ℕ) → n ≤ g.run_count → Arrays g.starts g.parent_starts g.parents n
  arrays_of n le = record {
    sound = sound_of g.parent_starts g.parents g.run_count n (rows_of g held) le;
    rise = λ r lt. ap rising (rows_are r (omega arith)) ∙ parents-rise g held r;
    order = λ r lt.
        omega (
          arith,
          starts-same r,
          starts-same (r + 1),
          rising_get_d (view g).starts held.formed.starts r (r + 1) (omega arith) (omega (arith, starts_count g held)),
        );
    long = omega (arith, (facts g held).runs, (facts g held).sized.starts);
    few = omega (arith, (facts g held).sized.parents);
  }
    where
      rows_are : (r : ℕ) → r < g.run_count →
          part (get_or g.parent_starts r 0) (get_or g.parent_starts (r + 1) 0) g.parents ≡ at (view g).parents r
      rows_are r lt = unfold row in (row-view g held r lt)
