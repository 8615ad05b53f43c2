-- The chains so far as tables, and one run laid: its row made of its parents' rows, and written where it fits. Assumes nothing.
use Rattle.std.specs.Prelude.{cond, Option, Some, None, List, [], ◌∷◌, ℕ, zero, suc, ◌+◌, ◌-◌, ◌*◌, ◌≤◌, ◌<◌, max, length, get_or, set, replicate, ltb, eqb}
use Rattle.std.proofs.Math.Seq.{paste}
use Rattle.lists.specs.Areas.{part}
use Rattle.model.specs.Limits.{max_runs, max_starts}
use Rattle.tables.specs.Laid.{Chains}
use Rattle.tables.specs.declared.rows.ChainTables.{ChainTables}

-- Elementwise the larger; past the end of the second, the first's own
unfoldable pub join_of : List ℕ → List ℕ → List ℕ
join_of [] ys = []
join_of (x ∷ xs) [] = x ∷ xs
join_of (x ∷ xs) (y ∷ ys) = max x y ∷ join_of xs ys

-- A place raised to at least v
unfoldable pub raised : List ℕ → ℕ → ℕ → List ℕ
raised l k v = set l k (max (get_or l k 0) v)

-- The row of a parent p, and p itself, joined in
unfoldable pub join_parent : List ℕ → List ℕ → List ℕ → List ℕ → List ℕ → ℕ → List ℕ
join_parent area starts chain place row p =
    raised (join_of row (part (get_or starts p 0) (get_or starts (p + 1) 0) area)) (get_or chain p 0) (get_or place p 0 + 1)

-- so all parents
unfoldable pub join_all : List ℕ → List ℕ → List ℕ → List ℕ → List ℕ → List ℕ → List ℕ
join_all area starts chain place row [] = row
join_all area starts chain place row (p ∷ ps) = join_all area starts chain place (join_parent area starts chain place row p) ps

-- The first of k chains from c on of which a row has all, or c + k
unfoldable pub spot_from : List ℕ → List ℕ → ℕ → ℕ → ℕ
spot_from row lens c zero = c
spot_from row lens c (suc k) = cond (eqb (get_or row c 0) (get_or lens c 0)) c (spot_from row lens (c + 1) k)

-- What may be read of a parent p, for a row of w places
abbrev pub Fine : ℕ → List ℕ → List ℕ → List ℕ → List ℕ → ℕ → Type 0
Fine w area starts chain place p =
    (get_or starts p 0 ≤ get_or starts (p + 1) 0) × (get_or starts (p + 1) 0 ≤ length area) × (get_or starts (p + 1) 0 - get_or starts p 0 ≤ w) × (get_or chain p 0 < w) ×
    (get_or place p 0 < max_runs) × (p < max_runs)

abbrev pub FineAll : ℕ → List ℕ → List ℕ → List ℕ → List ℕ → List ℕ → Type 0
FineAll w area starts chain place ps = (i : ℕ) → i < length ps → Fine w area starts chain place (get_or ps i 0)

-- What a run needs to be laid, its row made in w places
abbrev pub Safe : ℕ → List ℕ → Chains → ℕ → List ℕ → Type 0
Safe w area st r ps =
    (w ≤ max_starts) × (r + 1 < w) × (st.count ≤ r) × (st.used ≤ length area) × (st.used ≤ max_runs * r) × ((c : ℕ) → get_or st.lens c 0 ≤ max_runs) × FineAll w area st.starts
    st.chain st.place ps

-- Run r put on chain k, its row ending at `used`
abbrev pub placed_of : Chains → ℕ → ℕ → ℕ → ℕ → Chains
placed_of s r k used width = record {
  starts = set s.starts (r + 1) used;
  chain = set s.chain r k;
  place = set s.place r (get_or s.lens k 0);
  lens = set s.lens k (get_or s.lens k 0 + 1);
  count = width;
  used = used;
}

-- the same in the tables
unfoldable pub place_in : ChainTables → ℕ → ℕ → ℕ → ChainTables
place_in t r k used = record {
  row_starts = set t.row_starts (r + 1) used;
  chains = set t.chains r k;
  places = set t.places r (get_or t.lens k 0);
  lens = set t.lens k (get_or t.lens k 0 + 1);
}

-- The tables and the row area
abbrev pub Laying : Type 0
Laying = Chains × List ℕ

-- The row of a run with parents ps, the chain it joins, and how many chains there then are
unfoldable pub row_of : Laying → List ℕ → List ℕ
row_of w ps = join_all w.1 w.0.starts w.0.chain w.0.place (replicate (length w.0.starts) 0) ps

unfoldable pub spot_of : Laying → List ℕ → ℕ
spot_of w ps = spot_from (row_of w ps) w.0.lens 0 w.0.count

unfoldable pub width_of : Laying → List ℕ → ℕ
width_of w ps = max w.0.count (spot_of w ps + 1)

-- A run's row made of its parents', and written where it fits; else none
unfoldable pub lay_of : Laying → ℕ → List ℕ → Option Laying
lay_of w r ps = cond (ltb (length w.1) (w.0.used + width_of w ps)) None
    (Some (placed_of w.0 r (spot_of w ps) (w.0.used + width_of w ps) (width_of w ps), paste w.1 w.0.used (row_of w ps) (width_of w ps)))
