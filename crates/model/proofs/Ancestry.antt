-- Ancestors as paths and ancestors by computing are the same, where parents are lower numbers. Assumes nothing.
use Rattle.std.proofs.Common.{◌≡◌, refl, ◌⊎◌, inl, inr, ◌↔◌, true, ◌||◌, ℕ, zero, suc, ◌≤◌, ◌<◌, arith, eqb, eqb-true, eq-eqb}
use Rattle.lists.specs.Lists.{mem}
use Rattle.lists.proofs.Truth.{false_true, or_cases, or_left, or_right}
use Rattle.lists.proofs.Members.{any_intro, any_elim}
use Rattle.model.specs.EventGraph.{EventGraph, HappenedBefore, parent, further, Lower, reaches, ancestor}

-- What happened before an event is a lower number
pub before-lower : (G : EventGraph) → Lower G → {p e : ℕ} → HappenedBefore G p e → p < e
before-lower G low {p} {e} (parent h) = low e p h
before-lower G low {p} {e} (further {q = q} h k) = omega (arith, low e q h, before-lower G low k)

-- Happened before is transitive
pub before_trans : (G : EventGraph) {a b e : ℕ} → HappenedBefore G a b → HappenedBefore G b e → HappenedBefore G a e
before_trans G h (parent k) = further k h
before_trans G h (further k t) = further k (before_trans G h t)

reaches_path : (G : EventGraph) (k e p : ℕ) → reaches k G e p ≡ true → HappenedBefore G p e
unfolding reaches
reaches_path G zero e p h = false_true h
reaches_path G (suc k) e p h = go (any_elim (λ q. eqb p q || reaches k G q p) (G.parents e) h) (λ q t. reaches_path G k q p t)
  where
    go : (q : ℕ) × (mem q (G.parents e) ≡ true) × (eqb p q || reaches k G q p ≡ true) → ((q : ℕ) → reaches k G q p ≡ true → HappenedBefore G p q) →
        HappenedBefore G p e
    go t ih = cases (or_cases (eqb p t.0) (reaches k G t.0 p) t.2)
      where
        cases : (eqb p t.0 ≡ true) ⊎ (reaches k G t.0 p ≡ true) → HappenedBefore G p e
        cases (inl q) = rw (eqb-true p t.0 q) (parent t.1)
        cases (inr q) = further t.1 (ih t.0 q)

-- A path is found where there is room for it
pub path_reaches : (G : EventGraph) → Lower G → {p e : ℕ} → HappenedBefore G p e → (k : ℕ) → e ≤ k → reaches k G e p ≡ true
unfolding reaches
path_reaches G low {p} {e} (parent h) zero le = absurd (omega (arith, low e p h))
path_reaches G low {p} {e} (parent h) (suc k) le =
    any_intro (λ q. eqb p q || reaches k G q p) (G.parents e) p h (or_left (reaches k G p p) (eq-eqb p p refl))
path_reaches G low {p} {e} (further {q = q} h t) zero le = absurd (omega (arith, low e q h))
path_reaches G low {p} {e} (further {q = q} h t) (suc k) le =
    any_intro (λ q. eqb p q || reaches k G q p) (G.parents e) q h (or_right (eqb p q) (path_reaches G low t k (omega (arith, low e q h))))

-- The two definitions of ancestors agree
pub ancestor_iff : (G : EventGraph) → Lower G → (e p : ℕ) → HappenedBefore G p e ↔ (ancestor G e p ≡ true)
unfolding ancestor
ancestor_iff G low e p = ((λ h. path_reaches G low h e (omega arith)), (λ h. reaches_path G e e p h))
