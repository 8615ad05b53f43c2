-- The ranges of a cut lie side by side from run 0 to the last, each from a marked run, a Linear one of marked runs alone. Assumes nothing.
use Rattle.std.proofs.Common.{◌≡◌, refl, sym, subst, ◌⊎◌, inl, inr, Bool, true, false, cond, List, [], ◌∷◌, ℕ, zero, suc, ◌+◌, ◌≤◌, ◌<◌, arith, leb, eqb, eqb-true}
use lib.Dec.{leb-zero}
use Rattle.lists.specs.Lists.{filter, from, upto}
use Rattle.lists.proofs.Truth.{eq_or-not}
use Rattle.lists.proofs.Counts.{filter_true}
use Rattle.model.specs.Graph.{Graph, runs, marked, marks}
use Rattle.model.specs.Cut.{HistoryRange, linear, concurrent, ranges_from, join_linear, join_ranges, cut_from}

-- Ranges side by side from a to the end; M is what holds of a marked run
abbrev pub Tiles : (ℕ → Type 0) → ℕ → List HistoryRange → ℕ → Type 0
Tiles M a [] end = a ≡ end
Tiles M a (linear x y ∷ cs) end = (x ≡ a) × (x < y) × ((r : ℕ) → x ≤ r → r < y → M r) × Tiles M y cs end
Tiles M a (concurrent x y ∷ cs) end = (x ≡ a) × (x < y) × M x × Tiles M y cs end

-- They end where they say
pub tiles_le : (M : ℕ → Type 0) (cs : List HistoryRange) (a end : ℕ) → Tiles M a cs end → a ≤ end
tiles_le M [] a end h = omega arith
tiles_le M (linear x y ∷ cs) a end h = omega (arith, h.0, h.1, tiles_le M cs y end h.3)
tiles_le M (concurrent x y ∷ cs) a end h = omega (arith, h.0, h.1, tiles_le M cs y end h.3)

-- Marks that rise from lo to the end
abbrev Marks : (ℕ → Type 0) → ℕ → List ℕ → ℕ → Type 0
Marks M lo [] end = Unit {0}
Marks M lo (a ∷ ms) end = (lo ≤ a) × M a × (a < end) × Marks M (suc a) ms end

single : (M : ℕ → Type 0) (a b : ℕ) → M a → b ≡ suc a → (r : ℕ) → a ≤ r → r < b → M r
single M a b m e r p q = subst M (omega arith) m

join_tiles : (M : ℕ → Type 0) (a b end : ℕ) (cs : List HistoryRange) → M a → b ≡ suc a → Tiles M b cs end → Tiles M a (join_linear a b cs) end
unfolding join_linear
join_tiles M a b end [] m e h = (refl, omega arith, single M a b m e, h)
join_tiles M a b end (linear x y ∷ cs) m e h = (refl, omega (arith, h.0, h.1), (λ r p q. runs-marked r p q (eq_or-not r a)), h.3)
  where
    runs-marked : (r : ℕ) → a ≤ r → r < y → (r ≡ a) ⊎ (r ≡ a → ⊥) → M r
    runs-marked r p q (inl z) = subst M (sym z) m
    runs-marked r p q (inr z) = h.2 r (omega (arith, h.0)) q
join_tiles M a b end (concurrent x y ∷ cs) m e h = (refl, omega arith, single M a b m e, h)

range_tiles : (M : ℕ → Type 0) (a b end : ℕ) (rs : List (ℕ × ℕ)) → M a → a < b → Tiles M b (join_ranges rs) end → Tiles M a (join_ranges ((a, b) ∷ rs)) end
unfolding join_ranges
range_tiles M a b end rs m lt h = go (eqb b (suc a)) refl
  where
    go : (t : Bool) → eqb b (suc a) ≡ t →
        Tiles M a (elim t as (λ _. List HistoryRange) [ true ↦ join_linear a b (join_ranges rs) | false ↦ concurrent a b ∷ join_ranges rs ]) end
    go true q = join_tiles M a b end (join_ranges rs) m (eqb-true b (suc a) q) h
    go false q = (refl, lt, m, h)

ranges_tile : (M : ℕ → Type 0) (lo a : ℕ) (ms : List ℕ) (end : ℕ) → Marks M lo (a ∷ ms) end → Tiles M a (join_ranges (ranges_from (a ∷ ms) end)) end
unfolding ranges_from
ranges_tile M lo a [] end h = range_tiles M a end end [] h.1 h.2 (unfold join_ranges in refl)
ranges_tile M lo a (b ∷ ms) end h = range_tiles M a b end (ranges_from (b ∷ ms) end) h.1 (omega (arith, h.3.0)) (ranges_tile M (suc a) b ms end h.3)

marks-later : (M : ℕ → Type 0) (lo hi : ℕ) (ms : List ℕ) (end : ℕ) → lo ≤ hi → Marks M hi ms end → Marks M lo ms end
marks-later M lo hi [] end q h = tt
marks-later M lo hi (a ∷ ms) end q h = (omega (arith, h.0), h.1, h.2, h.3)

filter-marks : (M : ℕ → Type 0) (p : ℕ → Bool) (a k end : ℕ) → a + k ≡ end → ((r : ℕ) → r < end → p r ≡ true → M r) → Marks M a (filter p (from a k)) end
unfolding filter from
filter-marks M p a zero end e h = tt
filter-marks M p a (suc k) end e h = go (p a) refl (filter-marks M p (suc a) k end (omega arith) h)
  where
    go : (t : Bool) → p a ≡ t → Marks M (suc a) (filter p (from (suc a) k)) end → Marks M a (cond t (a ∷ filter p (from (suc a) k)) (filter p (from (suc a) k))) end
    go true q ih = (omega arith, h a (omega arith) q, omega arith, ih)
    go false q ih = marks-later M a (suc a) (filter p (from (suc a) k)) end (omega arith) ih

module _ (g : Graph) (M : ℕ → Type 0) (first : marked g 0 ≡ true) (each : (r : ℕ) → r < runs g → marked g r ≡ true → M r) where
  tiles_from : (n : ℕ) → runs g ≡ n → Tiles M 0 (join_ranges (ranges_from (filter (marked g) (from 0 n)) n)) n
  unfolding filter from
  tiles_from zero e = unfold ranges_from join_ranges in refl
  tiles_from (suc k) e = rw first (ranges_tile M 0 0 (filter (marked g) (from 1 k)) (suc k) (
    omega arith,
    each 0 (omega arith) first,
    omega arith,
    filter-marks M (marked g) 1 k (suc k) (omega arith) (λ r lt p. each r (omega arith) p),
  ))

  -- The cut of the whole graph
  pub cut_tiles : Tiles M 0 (cut_from g 0) (runs g)
  unfolding cut_from marks upto
  cut_tiles = rw (filter_true (λ m. leb 0 m) (filter (marked g) (from 0 (runs g))) leb-zero) (tiles_from (runs g) refl)
