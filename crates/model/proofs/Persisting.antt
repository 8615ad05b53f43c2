-- What splits, growth of the last run and new runs keep, pushes and run starts keep. Assumes nothing.
use Rattle.std.proofs.Common.{◌≡◌, refl, sym, subst, Bool, true, false, List, [], ◌∷◌, ℕ, suc, ◌<◌}
use Rattle.model.specs.Graph.{Graph, runs, start, containing, held, extends}
use Rattle.model.specs.Broken.{WellFormed}
use Rattle.model.specs.Split.{split, ends, split_after}
use Rattle.model.specs.Push.{grown, joined, lowered, push, push_outcome}
use Rattle.model.specs.Start.{splitting, starting}
use Rattle.model.proofs.FormedReads.{first-len}
use Rattle.model.proofs.FormedSplitAll.{Inside, rest-inside, first-inside, first-formed, rest-after}
use Rattle.model.proofs.FormedPush.{Accepted, accepted, push_grows, push_joins, held-inside, pushed-splits}
use Rattle.model.proofs.FormedCalls.{start-inside}
use Rattle.std.specs.Prelude.{Ok}

-- A fact of well-formed graphs that a split inside a run keeps, growth of the last run, and a new run
pub record Persists (P : Graph → Type 0) : Type 0 where
  pub splits : (g : Graph) (r at : ℕ) → WellFormed g → r < runs g → start g r < at → at < start g (suc r) → P g → P (split g r at)
  pub grows : (g : Graph) (ps : List ℕ) (n : ℕ) → WellFormed g → P g → P (grown g ps n)
  pub joins : (s : Graph) (ps : List ℕ) (n : ℕ) → WellFormed s → P s → P (lowered s (joined s ps n))

module _ (P : Graph → Type 0) (K : Persists P) where
  -- The splits after rising held events
  splits_persist : (g : Graph) (ps : List ℕ) → WellFormed g → Inside g ps → P g → P (split_after g ps)
  unfolding split_after
  splits_persist g [] w i p = p
  splits_persist g (q ∷ ps) w i p =
      go (ends g q) refl (splits_persist g ps w (rest-inside g w q ps i) p)
      (λ e.
      let k = first-inside g w q ps i e in
      splits_persist (split g (containing g q) (suc q)) ps (first-formed g w q ps i e) (rest-after g w q ps i)
      (K.splits g (containing g q) (suc q) w k.0 k.1 k.2 p))
    where
      go : (t : Bool) → ends g q ≡ t → P (split_after g ps) → (ends g q ≡ false → P (split_after (split g (containing g q) (suc q)) ps)) →
          P (elim t as (λ _. Graph) [ true ↦ split_after g ps | false ↦ split_after (split g (containing g q) (suc q)) ps ])
      go true e x y = x
      go false e x y = y e

  -- An accepted push
  pub push_persists : (g : Graph) (ps : List ℕ) (n : ℕ) → WellFormed g → push_outcome g ps n ≡ Ok tt → P g → P (push g ps n)
  push_persists g ps n w e p = go (extends g ps) refl (accepted g (first-len g w) ps n e)
    where
      go : (t : Bool) → extends g ps ≡ t → Accepted g ps n → P (push g ps n)
      go true x ok = subst P (sym (push_grows g ps n x)) (K.grows g ps n w p)
      go false x ok =
          subst P (sym (push_joins g ps n x))
          (K.joins (split_after g (held g ps)) ps n (pushed-splits g w ps n ok).formed
          (splits_persist g (held g ps) w (held-inside g ps ok.rises) p))

  -- A run start that splits
  pub start_persists : (g : Graph) (at : ℕ) → WellFormed g → starting g at ≡ splitting → P g → P (split g (containing g at) at)
  start_persists g at w e p = let i = start-inside g w at e in K.splits g (containing g at) at w i.0 i.1 i.2 p
