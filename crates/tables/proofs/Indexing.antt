-- A range's chains can be listed, and their listed members and sums are those of the definitions. Assumes nothing.
use Rattle.std.proofs.Common.{◌≡◌, sym, ap, ap₂, ◌∙◌, ◌⊎◌, inl, inr, List, ℕ, ◌+◌, ◌≤◌, ◌<◌, ◌^◌, arith, length, get_or, take, length-take, get_or-take}
use lib.ListN.{get_or-eq_default}
use Rattle.lists.specs.Lists.{sum, upto}
use Rattle.lists.proofs.Truth.{lt_or_le, eq_or-not}
use Rattle.model.specs.History.{at, histories}
use Rattle.tables.specs.Laid.{chs, chain_of, place_of, Chains, chains_of, Laid}
use Rattle.tables.specs.Tables.{Listed, Sums, size_in}
use Rattle.tables.specs.Indexed.{sum_below, Summed, Bounded, BoundedTo, pos, Indexable, IndexOf}
use Rattle.tables.specs.declared.rows.Area.{Area}
use Rattle.tables.specs.declared.rows.ChainTables.{ChainTables}
use Rattle.tables.proofs.Chaining.{chs-few, chain-short, chain_under, place_at, member-chain}
use Rattle.tables.proofs.Standing.{member-place, chain_in}
use Rattle.tables.proofs.Summing.{sum_list, sum_up, sum_eq, ones_from, sum_ones, stretch_sum}
use Rattle.tables.proofs.Differing.{chain-sum}

-- What is bounded up to a place is so there cut
pub bounded_cut : (n b : ℕ) (l : List ℕ) → BoundedTo n b l → Bounded b (take (n + 1) l)
bounded_cut n b l h k = go (lt_or_le k (n + 1))
  where
    go : (k < n + 1) ⊎ (n + 1 ≤ k) → get_or (take (n + 1) l) k 0 ≤ b
    go (inl lt) = rw (get_or-take (n + 1) l k 0 lt) (h k (omega arith))
    go (inr ge) = rw (get_or-eq_default (take (n + 1) l) 0 {n = k} (omega (arith, length-take (n + 1) l))) (omega arith)

module _ (pss : List (List ℕ)) (st : Chains) (area area₀ : List ℕ) (L : Laid pss (length pss) st area area₀) (few : length pss ≤ 512) where
  abbrev H : List (List ℕ)
  H = histories pss

  abbrev n : ℕ
  n = length pss

  abbrev C : List (List ℕ)
  C = chs H n

  -- where the members of chain c begin
  base : ℕ → ℕ
  base c = sum_below (λ i. length (at C i)) c

  base-all : base (length C) ≡ n
  unfolding base upto
  base-all = sum_list length C ∙ (sum_ones C ∙ (chain-sum (λ _. 1) H n ∙ ones_from 0 n))

  base_up : (c d : ℕ) → c < d → base c + length (at C c) ≤ base d
  unfolding base
  base_up c d l = sum_up (λ i. length (at C i)) c d l

  base-fits : (c : ℕ) → c < length C → base c + length (at C c) ≤ n
  base-fits c l = omega (arith, base_up c (length C) l, base-all)

  module _ (b : List ℕ) (summed : Summed (λ i. get_or st.lens i 0) st.count b) where
    begins_at : (c : ℕ) → c ≤ length C → get_or b c 0 ≡ base c
    unfolding base
    begins_at c l = summed c (omega (arith, L.number)) ∙ sum_eq (λ i. get_or st.lens i 0) (λ i. length (at C i)) c L.lens

    pos-at : (m : ℕ) → m < n → pos b st.chain st.place m ≡ base (chain_of H m) + place_of H m
    pos-at m l = ap₂ ◌+◌ (ap (λ (k : ℕ). get_or b k 0) (L.chain m l) ∙ begins_at (chain_of H m) (omega (arith, chain_in H m n l))) (L.place m l)

    pos_in : (m : ℕ) → m < n → pos b st.chain st.place m < n
    pos_in m l = omega (arith, pos-at m l, base-fits (chain_of H m) (chain_in H m n l), (place_at H m n l).0)

    pos-apart : (m k : ℕ) → m < k → k < n → pos b st.chain st.place m ≡ pos b st.chain st.place k → ⊥
    pos-apart m k lt l e = go (eq_or-not (chain_of H m) (chain_of H k)) (lt_or_le (chain_of H m) (chain_of H k))
      where
        ml : m < n
        ml = omega arith

        q : base (chain_of H m) + place_of H m ≡ base (chain_of H k) + place_of H k
        q = sym (pos-at m ml) ∙ (e ∙ pos-at k l)

        go : (chain_of H m ≡ chain_of H k) ⊎ (chain_of H m ≡ chain_of H k → ⊥) → (chain_of H m < chain_of H k) ⊎ (chain_of H k ≤ chain_of H m) → ⊥
        go (inl s) w =
            let p : place_of H m ≡ place_of H k = omega (arith, q, ap base s) in
            let d : m ≡ k = sym (place_at H m n ml).1 ∙ (ap₂ (λ (c i : ℕ). get_or (at C c) i 0) s p ∙ (place_at H k n l).1) in
            omega arith
        go (inr s) (inl w) = omega (arith, q, base_up (chain_of H m) (chain_of H k) w, (place_at H m n ml).0)
        go (inr s) (inr w) = omega (arith, q, base_up (chain_of H k) (chain_of H m) (omega arith), (place_at H k n l).0)

  counted : st.count ≤ n
  counted = omega (arith, L.number, chs-few H n)

  -- the sums of all lengths are those of the chains', and then the last of them
  count-first : (b : List ℕ) → Summed (λ i. get_or st.lens i 0) n b → Summed (λ i. get_or st.lens i 0) st.count b
  count-first b s k le = s k (omega (arith, counted))

  chains_indexable : Indexable (length pss) st.lens st.chain st.place
  chains_indexable = record {
    few = few;
    short = λ c. omega (arith, L.lens c, chain-short H n c);
    scattered = λ b s. record { inside = pos_in b (count-first b s); apart = pos-apart b (count-first b s) };
  }

  module _ (starts b m e : List ℕ) (I : IndexOf starts (length pss) st.lens st.chain st.place b m e) where
    begins_fit : (c : ℕ) → c < length C → get_or b c 0 + length (at C c) ≤ n
    begins_fit c l = omega (arith, begins_at b (count-first b I.begins) c (omega arith), base-fits c l)

    member-at : (c i : ℕ) → c < length C → i < length (at C c) → get_or m (get_or b c 0 + i) 0 ≡ get_or (at C c) i 0
    member-at c i cl il =
        let x : ℕ = get_or (at C c) i 0 in
        let xl : x < n = chain_under H n c i il in
        let e : pos b st.chain st.place x ≡ get_or b c 0 + i =
        pos-at b (count-first b I.begins) x xl ∙ ap₂ ◌+◌ (ap base (member-chain H n c i il) ∙ sym (begins_at b (count-first b I.begins) c (omega arith))) (member-place H n c i il) in
        ap (λ (j : ℕ). get_or m j 0) (sym e) ∙ I.members x xl

    chains-listed : Listed C b m
    chains-listed = record {
      member = member-at;
      fits = λ c l. omega (arith, begins_fit c l, I.members_long);
      small = λ i. omega (arith, I.members_small i);
      low = I.begins_small;
    }

    before_at : (c k : ℕ) → c < length C → k ≤ length (at C c) → get_or e (get_or b c 0 + k) 0 ≡ get_or e (get_or b c 0) 0 + sum (size_in starts) (take k (at C c))
    before_at c k cl kl = stretch_sum e m (size_in starts) n (get_or b c 0) k (at C c) I.before (λ i l. member-at c i cl l) kl (begins_fit c cl)

    chains_summed_first : Sums C (size_in starts) b (take (length pss + 1) e)
    chains_summed_first = record {
      along = λ c k cl kl.
          let x : get_or (take (n + 1) e) (get_or b c 0 + k) 0 ≡ get_or e (get_or b c 0 + k) 0 = get_or-take (n + 1) e (get_or b c 0 + k) 0 (omega (arith, begins_fit c cl)) in
          let y : get_or (take (n + 1) e) (get_or b c 0) 0 ≡ get_or e (get_or b c 0) 0 = get_or-take (n + 1) e (get_or b c 0) 0 (omega (arith, begins_fit c cl)) in
          x ∙ (before_at c k cl kl ∙ ap (λ (i : ℕ). i + sum (size_in starts) (take k (at C c))) (sym y));
      small = bounded_cut n (2 ^ 41) e I.before_small;
    }

-- The same of the tables' first words
module _ (pss : List (List ℕ)) (a : Area) (tables : ChainTables) (area area₀ : List ℕ) (L : Laid pss (length pss) (chains_of a (length pss + 1) tables) area area₀) (few : length pss ≤ 512) where
  abbrev w : ℕ
  w = length pss + 1

  abbrev chains : List (List ℕ)
  chains = chs (histories pss) (length pss)

  -- what `index` needs
  pub laid_indexable : Indexable (length pss) (take w tables.lens) (take w tables.chains) (take w tables.places)
  unfolding chains_of
  laid_indexable = chains_indexable pss (chains_of a w tables) area area₀ L few

  module _ (starts b m e : List ℕ) (I : IndexOf starts (length pss) (take w tables.lens) (take w tables.chains) (take w tables.places) b m e) where
    -- what it leaves: the members
    pub laid_listed : Listed chains b m
    unfolding chains_of
    laid_listed = chains-listed pss (chains_of a w tables) area area₀ L few starts b m e I

    -- the sums, cut to their places
    pub laid_summed_first : Sums chains (size_in starts) b (take (length pss + 1) e)
    unfolding chains_of
    laid_summed_first = chains_summed_first pss (chains_of a w tables) area area₀ L few starts b m e I
