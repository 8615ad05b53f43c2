-- Run r parts the others, so that every run from r on has every run before r among its ancestors, exactly if each run from r on, by its own
-- parents, lets r start at an archive point. Assumes nothing.
use Rattle.std.proofs.Common.{◌≡◌, refl, sym, ◌∙◌, ◌⊎◌, inl, inr, ◌↔◌, Bool, true, false, cond, List, [], ◌∷◌, ℕ, zero, suc, ◌-◌, ◌≤◌, ◌<◌, arith, length, get_or}
use Rattle.lists.specs.Lists.{all, upto, mem, rising}
use Rattle.lists.proofs.Truth.{lt_or_le, false_true}
use Rattle.lists.proofs.Members.{mem_index, get_d_mem, all_of, all-at}
use Rattle.lists.proofs.Counts.{mem-from, upto-mem}
use Rattle.lists.proofs.Rising.{rising_get_d}
use Rattle.model.specs.EventGraph.{EventGraph, parent, further, InEvents, maximal}
use Rattle.model.specs.Graph.{Graph, runs}
use Rattle.model.specs.History.{at, run_graph}
use Rattle.model.proofs.Histories.{Below, Reach, reach_below}
use Rattle.model.proofs.Maximal.{maximal_in, maximal-apart, maximal-covers}
use Rattle.model.proofs.Archiving.{Parted}
use Rattle.versions.specs.Heads.{childless, heads, last_in, highest_by, highest}

-- The last of a rising list is one of it, and none of it is larger
pub last_mem : (p : ℕ) (ps : List ℕ) → mem (last_in (p ∷ ps)) (p ∷ ps) ≡ true
unfolding last_in
last_mem p ps = get_d_mem (p ∷ ps) (suc (length ps) - 1) 0 (omega arith)

pub last_most : (p : ℕ) (ps : List ℕ) → rising (p ∷ ps) ≡ true → (x : ℕ) → mem x (p ∷ ps) ≡ true → x < suc (last_in (p ∷ ps))
unfolding last_in
last_most p ps h x m =
    let k : (j : ℕ) × (j < suc (length ps)) × (get_or (p ∷ ps) j 0 ≡ x) = mem_index x 0 (p ∷ ps) m in
    omega (arith, k.2, rising_get_d (p ∷ ps) h k.0 (suc (length ps) - 1) (omega (arith, k.1)) (omega arith))

module _ (pss : List (List ℕ)) (below : Below pss) (rise : (r : ℕ) → rising (at pss r) ≡ true) where
  abbrev R : EventGraph
  R = run_graph pss

  -- Heads are the maximal runs of those below m
  heads-maximal : (m : ℕ) → heads pss m ≡ maximal R (upto m)
  unfolding heads childless maximal
  heads-maximal m = refl

  upto-below : (m e : ℕ) → mem e (upto m) ≡ true → e < m
  unfolding upto
  upto-below m e k = omega (arith, (mem-from e 0 m k).1)

  upto-closed : (m e p : ℕ) → mem e (upto m) ≡ true → mem p (at pss e) ≡ true → mem p (upto m) ≡ true
  upto-closed m e p k n = upto-mem p m (omega (arith, below e p n, upto-below m e k))

  -- What happened before a run whose parents are all below m is below m, and a head below m only as its parent
  module _ (q m : ℕ) (low : (p : ℕ) → mem p (at pss q) ≡ true → p < m) where
    reach_low : {p : ℕ} → Reach pss p q → p < m
    reach_low {p} (parent h) = low p h
    reach_low {p} (further {q = j} h c) = omega (arith, low j h, reach_below pss below c)

    head_parent : (h : ℕ) → mem h (heads pss m) ≡ true → Reach pss h q → mem h (at pss q) ≡ true
    head_parent h k (parent p) = p
    head_parent h k (further {q = j} p c) =
        let t : mem h (maximal R (upto m)) ≡ true = rw (heads-maximal m) at k in
        absurd (maximal-apart R (upto m) (upto-closed m) h j t (upto-mem j m (low j p)) c)

    -- With all heads below m for parents it has seen every run below m
    heads-seen : ((h : ℕ) → mem h (heads pss m) ≡ true → mem h (at pss q) ≡ true) → (p : ℕ) → p < m → Reach pss p q
    heads-seen all p lt = go (maximal-covers R (upto m) below m (upto-below m) p (upto-mem p m lt))
      where
        go : InEvents R (maximal R (upto m)) p → Reach pss p q
        go (inl k) = parent (all p (rw (heads-maximal m) k))
        go (inr t) = further (all t.0 (rw (heads-maximal m) t.1)) t.2

  -- All heads below m are among some parents
  abbrev whole : ℕ → List ℕ → Bool
  whole m ps = all (λ h. mem h ps) (heads pss m)

  -- All runs before r are ancestors of q: then q lets r start at a point
  seen-highest : (q r : ℕ) → ((p : ℕ) → p < r → Reach pss p q) → r ≤ highest pss q
  unfolding highest highest_by
  seen-highest q r seen = go (at pss q) refl
    where
      go : (ps : List ℕ) → at pss q ≡ ps → r ≤ highest_by whole ps
      go [] e = none (lt_or_le 0 r)
        where
          none : (0 < r) ⊎ (r ≤ 0) → r ≤ 0
          none (inr c) = c
          none (inl c) = absurd (omega (arith, reach_low q 0 (λ p k. false_true (unfold mem in (rw e at k))) (seen 0 c)))
      go (p ∷ ps) e = by (whole (suc (last_in (p ∷ ps))) (p ∷ ps)) refl (lt_or_le r (suc (last_in (p ∷ ps))))
        where
          last : ℕ
          last = last_in (p ∷ ps)

          low : (x : ℕ) → mem x (at pss q) ≡ true → x < suc last
          low x k = last_most p ps (rw e at (rise q)) x (rw e at k)

          most : r ≤ suc last
          most = cases (lt_or_le (suc last) r)
            where
              cases : (suc last < r) ⊎ (r ≤ suc last) → r ≤ suc last
              cases (inr c) = c
              cases (inl c) = absurd (omega (arith, reach_low q (suc last) low (seen (suc last) c)))

          by : (t : Bool) → whole (suc last) (p ∷ ps) ≡ t → (r < suc last) ⊎ (suc last ≤ r) → r ≤ cond t (suc last) last
          by true w c = most
          by false w (inl c) = omega arith
          by false w (inr c) = false_true (sym w ∙ all_of (λ h. mem h (p ∷ ps)) (heads pss (suc last)) (λ h k.
              rw e at (head_parent q (suc last) low h k (seen h (omega (arith, head_low h k, most))))))
            where
              head_low : (h : ℕ) → mem h (heads pss (suc last)) ≡ true → h < suc last
              head_low h k = upto-below (suc last) h (maximal_in R (upto (suc last)) h (rw (heads-maximal (suc last)) at k))

  -- Where each run from r on does, all runs before r are ancestors of each of them; k is above q
  highest-seen : (n r : ℕ) → ((q : ℕ) → r ≤ q → q < n → r ≤ highest pss q) → (k q : ℕ) → q < k → r ≤ q → q < n → (p : ℕ) → p < r → Reach pss p q
  highest-seen n r H zero q u le lt p few = absurd (omega arith)
  highest-seen n r H (suc k) q u le lt p few = go (at pss q) refl (unfold highest in H q le lt) (λ j v w x. highest-seen n r H k j v w x p few)
    where
      go : (ps : List ℕ) → at pss q ≡ ps → r ≤ highest_by whole (at pss q) → ((j : ℕ) → j < k → r ≤ j → j < n → Reach pss p j) → Reach pss p q
      go [] e b ih = unfold highest_by in absurd (omega (arith, rw e at b))
      go (s ∷ ps) e b ih = unfold highest_by in by (whole (suc last) (s ∷ ps)) refl (rw e at b) (lt_or_le last r)
        where
          last : ℕ
          last = last_in (s ∷ ps)

          mine : mem last (at pss q) ≡ true
          mine = rw e (last_mem s ps)

          low : (x : ℕ) → mem x (at pss q) ≡ true → x < suc last
          low x j = last_most s ps (rw e at (rise q)) x (rw e at j)

          up : r ≤ last → Reach pss p q
          up c = let j : last < q = below q last mine in further mine (ih last (omega arith) c (omega arith))

          by : (t : Bool) → whole (suc last) (s ∷ ps) ≡ t → r ≤ cond (whole (suc last) (s ∷ ps)) (suc last) last → (last < r) ⊎ (r ≤ last) → Reach pss p q
          by t w b (inr c) = up c
          by false w b (inl c) = absurd (omega (arith, rw w at b))
          by true w b (inl c) = heads-seen q (suc last) low (λ h j. rw e (all-at (λ h. mem h (s ∷ ps)) (heads pss (suc last)) w h j)) p (omega (arith, rw w at b))

-- Both ways
pub parted_iff : (g : Graph) → Below g.parents → ((r : ℕ) → rising (at g.parents r) ≡ true) → (r : ℕ) →
    Parted g r ↔ ((q : ℕ) → r ≤ q → q < runs g → r ≤ highest g.parents q)
parted_iff g below rise r = (
  (λ k q le lt. seen-highest g.parents below rise q r (λ p few. k q p le lt few)),
  (λ H q p le lt few. highest-seen g.parents below rise (runs g) r H (suc q) q (omega arith) le lt p few),
)
