-- The chains and rows that the definitions give for the runs so far, and what laying a range's rows leaves. Assumes nothing.
use Rattle.std.specs.Prelude.{◌≡◌, true, cond, List, [], ◌∷◌, ◌++◌, map, ℕ, zero, suc, ◌+◌, ◌-◌, ◌≤◌, ◌<◌, length, get_or, take, leb, Option, MatchOption}
use Rattle.lists.specs.Lists.{all, mem, concat, filter}
use Rattle.lists.specs.Areas.{over, fitting, groups}
use Rattle.model.specs.Limits.{max_runs}
use Rattle.model.specs.History.{at, histories}
use Rattle.model.specs.Range.{join, row, rows_from}
use Rattle.tables.specs.Jagged.{rows_in}
use Rattle.tables.specs.declared.rows.Area.{Area}
use Rattle.tables.specs.declared.rows.ChainTables.{ChainTables}
use Rattle.tables.specs.declared.groups.Groups.{Groups}

-- The first chain whose runs are all in h, or the number of chains
unfoldable pub spot : List ℕ → List (List ℕ) → ℕ
spot h [] = 0
spot h (c ∷ cs) = cond (all (λ m. mem m h) c) 0 (suc (spot h cs))

-- The chains of the first r runs
unfoldable pub chs : List (List ℕ) → ℕ → List (List ℕ)
chs hs zero = []
chs hs (suc r) = join r (at hs r) (chs hs r)

-- A run's chain, its place along it, and its row
unfoldable pub chain_of : List (List ℕ) → ℕ → ℕ
chain_of hs r = spot (at hs r) (chs hs r)

unfoldable pub place_of : List (List ℕ) → ℕ → ℕ
place_of hs r = length (at (chs hs r) (chain_of hs r))

unfoldable pub row_at : List (List ℕ) → ℕ → List ℕ
row_at hs r = row (at hs r) (chs hs (suc r))

-- The rows of the first r runs, one after another
unfoldable pub flat : List (List ℕ) → ℕ → List ℕ
flat hs zero = []
flat hs (suc r) = flat hs r ++ row_at hs r

-- The parents of n runs, grouped by run, from their starts and items
unfoldable pub grouped : List ℕ → List ℕ → ℕ → List (List ℕ)
grouped starts items n = groups (take (n + 1) starts) items

-- Groups lie in the items, and every parent is below its run
pub record Sound (starts items : List ℕ) (n : ℕ) : Type 0 where
  pub few : n ≤ max_runs
  pub long : n < length starts
  pub inside : (r : ℕ) → r < n → (get_or starts r 0 ≤ get_or starts (r + 1) 0) × (get_or starts (r + 1) 0 ≤ length items)
  pub below : (r p : ℕ) → mem p (at (grouped starts items n) r) ≡ true → p < r

-- What n runs from run a on have of their parents, numbered from a on; the first are all runs'
unfoldable pub shares_of : List (List ℕ) → ℕ → ℕ → List (List ℕ)
shares_of all a zero = []
shares_of all a (suc n) = shares_of all a n ++ map (λ p. p - a) (filter (λ p. leb a p) (at all (a + n))) ∷ []

-- the same by the graph's starts and items
unfoldable pub shares : List ℕ → List ℕ → ℕ → ℕ → List (List ℕ)
shares starts items a n = shares_of (rows_in starts items (a + n)) a n

-- The chains so far as tables: where each run's row starts, each run's chain and place, each chain's length; how many chains there are,
-- and how much of the row area is used
pub record Chains : Type 0 where
  pub starts : List ℕ
  pub chain : List ℕ
  pub place : List ℕ
  pub lens : List ℕ
  pub count : ℕ
  pub used : ℕ

-- so the first w words of each table say
unfoldable pub chains_of : Area → ℕ → ChainTables → Chains
chains_of a w tables = record {
  starts = take w tables.row_starts;
  chain = take w tables.chains;
  place = take w tables.places;
  lens = take w tables.lens;
  count = a.chains;
  used = a.used;
}

-- The tables and the area say what the definitions say of the first r runs
pub record Laid (pss : List (List ℕ)) (r : ℕ) (st : Chains) (area area₀ : List ℕ) : Type 0 where
  pub sizes : (length st.starts ≡ length pss + 1) × (length st.chain ≡ length pss + 1) × (length st.place ≡ length pss + 1) × (length st.lens ≡ length pss + 1)
  pub starts : (p : ℕ) → p ≤ r → get_or st.starts p 0 ≡ length (flat (histories pss) p)
  pub chain : (m : ℕ) → m < r → get_or st.chain m 0 ≡ chain_of (histories pss) m
  pub place : (m : ℕ) → m < r → get_or st.place m 0 ≡ place_of (histories pss) m
  pub lens : (c : ℕ) → get_or st.lens c 0 ≡ length (at (chs (histories pss) r) c)
  pub number : st.count ≡ length (chs (histories pss) r)
  pub used : st.used ≡ length (flat (histories pss) r)
  pub room : length (flat (histories pss) r) ≤ length area₀
  pub written : area ≡ over (flat (histories pss) r) area₀

-- What laying the rows of n runs gives, whose groups of parents are pss: the rows that fit, and the tables where all do
pub record LaidOut (pss : List (List ℕ)) (n : ℕ) (area₀ : List ℕ) (r : Option Area) (area : List ℕ) (tables : ChainTables) : Type 0 where
  pub area_is : area ≡ over (concat (fitting (length area₀) (rows_from 0 [] (histories pss)))) area₀
  pub told : MatchOption r (length area₀ < length (concat (rows_from 0 [] (histories pss))))
      (λ a. (length (concat (rows_from 0 [] (histories pss))) ≤ length area₀) × Laid pss n (chains_of a (n + 1) tables) area area₀)

-- What a range's parents and rows leave: the parents are pss
pub record RangeLaid (pss : List (List ℕ)) (n : ℕ) (area₀ : List ℕ) (r : Option Area) (area : List ℕ) (groups : Groups) (tables : ChainTables) : Type 0 where
  pub out : LaidOut pss n area₀ r area tables
  pub groups_are : grouped groups.starts groups.items n ≡ pss
  pub sound : Sound groups.starts groups.items n
