-- Versions as the code keeps them: how far the first runs, and a run with its history, reach along each chain. Assumes nothing.
use Rattle.std.proofs.Common.{◌≡◌, refl, sym, ap, ◌∙◌, ◌⊎◌, inl, inr, Bool, true, false, cond, ◌||◌, List, [], ◌∷◌, ◌++◌, ℕ, zero, suc, ◌+◌, ◌≤◌, ◌<◌, arith, add-one, length, get_or}
use Rattle.std.proofs.Common.{set, drop, replicate, get_or-set_same, get_or-set_other, eqb, eq-eqb, ne_eqb}
use lib.ListN.{length-replicate, get_or-append}
use Rattle.lists.specs.Lists.{mem, count, from, upto}
use Rattle.lists.proofs.Truth.{eq_or-not}
use Rattle.lists.proofs.Pads.{zeros_get}
use Rattle.lists.proofs.Counts.{count_same, count_none}
use Rattle.model.specs.History.{at, histories}
use Rattle.model.proofs.Histories.{Below}
use Rattle.tables.specs.Laid.{chs, chain_of, place_of, row_at}
use Rattle.tables.specs.Tables.{Reaches}
use Rattle.tables.specs.Reached.{started, arrived, Holds, Standing}
use Rattle.tables.proofs.Chaining.{cnt, chain-short, place_at}
use Rattle.tables.proofs.Holding.{own, own_here, own_there, row-later}
use Rattle.tables.proofs.Standing.{chain_in, first-own, first-other, history-own}
use Rattle.tables.proofs.ClosedSets.{mem_snoc}

-- One place set, read at any place
pub set-read : (l : List ℕ) (k v i : ℕ) → k < length l → get_or (set l k v) i 0 ≡ cond (eqb k i) v (get_or l i 0)
set-read l k v i lt = go (eq_or-not i k)
  where
    go : (i ≡ k) ⊎ (i ≡ k → ⊥) → get_or (set l k v) i 0 ≡ cond (eqb k i) v (get_or l i 0)
    go (inl e) = rw (eq-eqb k i (sym e), e) (get_or-set_same l k v 0 lt)
    go (inr n) = rw (ne_eqb k i (λ e. n (sym e))) (get_or-set_other l k i v 0 n)

-- One more of the first n words
pub holds-next : (f : ℕ → ℕ) (l : List ℕ) (n v : ℕ) → n < length l → v ≡ f n → Holds f n l → Holds f (n + 1) (set l n v)
holds-next f l n v lt e h c cl = go (eq_or-not c n)
  where
    go : (c ≡ n) ⊎ (c ≡ n → ⊥) → get_or (set l n v) c 0 ≡ f c
    go (inl q) = rw q (get_or-set_same l n v 0 lt ∙ e)
    go (inr q) = get_or-set_other l n c v 0 q ∙ h c (omega arith)

-- One more of the first runs
pub started-next : (chain place l : List ℕ) (r n : ℕ) → get_or chain r 0 < length l → Holds (started chain place r) n l →
    Holds (started chain place (r + 1)) n (set l (get_or chain r 0) (get_or place r 0 + 1))
unfolding started
started-next chain place l r n lt h c cl =
    rw (add-one r) (set-read l (get_or chain r 0) (get_or place r 0 + 1) c lt ∙ ap (λ (k : ℕ). cond (eqb (get_or chain r 0) c) (get_or place r 0 + 1) k) (h c cl))

-- none of them
pub started_none : (chain place l : List ℕ) (n : ℕ) → Holds (λ _. 0) n l → Holds (started chain place 0) n l
unfolding started
started_none chain place l n h c cl = h c cl

-- A run on its row
pub arrived-set : (row l : List ℕ) (chain place n : ℕ) → chain < length l → Holds (λ c. get_or row c 0) n l → Holds (arrived row chain place) n (set l chain (place + 1))
unfolding arrived
arrived-set row l chain place n lt h c cl = set-read l chain (place + 1) c lt ∙ ap (λ (k : ℕ). cond (eqb chain c) (place + 1) k) (h c cl)

-- The first n words cleared
pub front_cleared : (l : List ℕ) (n : ℕ) → Holds (λ _. 0) n (replicate n 0 ++ drop n l)
front_cleared l n c lt = get_or-append (replicate n 0) (drop n l) 0 c (omega (arith, length-replicate {A = ℕ} n 0)) ∙ zeros_get n c

module _ (pss : List (List ℕ)) (b : Below pss) where
  abbrev H : List (List ℕ)
  H = histories pss

  abbrev C : List (List ℕ)
  C = chs H (length pss)

  -- A run's row is how far its history reaches
  pub row-reaches : (r : ℕ) → r < length pss → Reaches C (at H r) (row_at H r)
  unfolding Reaches
  row-reaches r lt c cl = row-later pss b r (length pss) c lt lt

  -- the run with it: one place more on its own chain
  pub arrive_reaches : (r chain place : ℕ) (row cur : List ℕ) → r < length pss → chain ≡ chain_of H r → place ≡ place_of H r →
      Reaches C (at H r) row → Holds (arrived row chain place) (length C) cur → Reaches C (at H r ++ r ∷ []) cur
  unfolding Reaches arrived
  arrive_reaches r chain place row cur lt e p h s c cl = s c cl ∙ (go (eq_or-not chain c) ∙ sym both)
    where
      both : count (λ m. mem m (at H r ++ r ∷ [])) (at C c) ≡ count (own H r) (at C c)
      both = count_same (λ m. mem m (at H r ++ r ∷ [])) (own H r) (at C c) (λ m q. mem_snoc m r (at H r) ∙ swap (mem m (at H r)) (eqb m r))
        where
          swap : (x y : Bool) → x || y ≡ y || x
          swap true true = refl
          swap true false = refl
          swap false true = refl
          swap false false = refl

      go : (chain ≡ c) ⊎ (chain ≡ c → ⊥) → cond (eqb chain c) (place + 1) (get_or row c 0) ≡ count (own H r) (at C c)
      go (inl q) =
          let k : chain_of H r ≡ c = sym e ∙ q in
          let here : count (own H r) (at C (chain_of H r)) ≡ suc (place_of H r) =
          omega (arith, own_here pss b r (length pss) lt (omega arith), history-own pss b r (length pss) lt (omega arith)) in
          let there : count (own H r) (at C c) ≡ suc (place_of H r) = ap (λ (j : ℕ). count (own H r) (at C j)) (sym k) ∙ here in
          rw (eq-eqb chain c q) (omega (arith, there))
      go (inr q) = rw (ne_eqb chain c q) (h c cl ∙ sym (own_there pss b r (length pss) c (λ k. q (e ∙ sym k))))

  module _ (chain place : List ℕ) (chains : (m : ℕ) → m < length pss → get_or chain m 0 ≡ chain_of H m) (places : (m : ℕ) → m < length pss → get_or place m 0 ≡ place_of H m) where
    -- A run's chain is one of the chains, and its place is below the number of runs
    pub chain_fits : (m : ℕ) → m < length pss → get_or chain m 0 < length C
    chain_fits m lt = omega (arith, chains m lt, chain_in H m (length pss) lt)

    pub place-fits : (m : ℕ) → m < length pss → get_or place m 0 < length pss
    place-fits m lt = omega (arith, places m lt, (place_at H m (length pss) lt).0, chain-short H (length pss) (chain_of H m))

    -- the first runs stand as `start_version` needs it
    pub first_standing : (known : ℕ) → known ≤ length pss → length pss ≤ 512 → Standing chain place (length C) known
    first_standing known le few = record { chains = λ r lt. chain_fits r (omega arith); places = λ r lt. omega (arith, place-fits r (omega arith)) }

    started-is : (k c : ℕ) → k ≤ length pss → started chain place k c ≡ cnt (upto k) (at C c)
    unfolding started
    started-is zero c le = sym (count_none (λ m. mem m (upto 0)) (at C c) (λ m. unfold mem upto from in refl))
    started-is (suc k) c le = go (eq_or-not (get_or chain k 0) c) (started-is k c (omega arith))
      where
        lt : k < length pss
        lt = omega arith

        go : (get_or chain k 0 ≡ c) ⊎ (get_or chain k 0 ≡ c → ⊥) → started chain place k c ≡ cnt (upto k) (at C c) →
            cond (eqb (get_or chain k 0) c) (get_or place k 0 + 1) (started chain place k c) ≡ cnt (upto (suc k)) (at C c)
        go (inl q) ih =
            let j : chain_of H k ≡ c = sym (chains k lt) ∙ q in
            let own : cnt (upto (suc k)) (at C c) ≡ suc (place_of H k) = ap (λ (i : ℕ). cnt (upto (suc k)) (at C i)) (sym j) ∙ first-own pss b k (length pss) lt (omega arith) in
            rw (eq-eqb (get_or chain k 0) c q) (omega (arith, own, places k lt))
        go (inr q) ih = rw (ne_eqb (get_or chain k 0) c q) (ih ∙ sym (first-other pss b k (length pss) c (λ j. q (chains k lt ∙ sym j))))

    -- The first runs
    pub start-reaches : (known : ℕ) (cur : List ℕ) → known ≤ length pss → Holds (started chain place known) (length C) cur → Reaches C (upto known) cur
    unfolding Reaches
    start-reaches known cur le h c cl = h c cl ∙ started-is known c le
