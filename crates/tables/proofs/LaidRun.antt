-- A run laid by the tables' first words. Assumes nothing.
use Rattle.std.proofs.Common.{◌≡◌, sym, ap, ◌∙◌, List, ℕ, ◌+◌, ◌≤◌, ◌<◌, max, length, replicate, take, length-take-le}
use lib.Seq.{paste}
use Rattle.std.specs.Prelude.{Some, None}
use Rattle.tables.specs.declared.rows.Area.{Area}
use Rattle.tables.specs.declared.rows.ChainTables.{ChainTables}
use Rattle.tables.specs.Laid.{chains_of}
use Rattle.tables.specs.Lay.{join_all, spot_from, place_in, placed_of, row_of, lay_of}
use Rattle.tables.proofs.Turns.{lay_stop, lay_goes}
use Rattle.tables.proofs.FirstWords.{placed_first}

-- A run's turn, from what the calls leave: the row cleared and made, the chain, the number of chains
module _ (w : ℕ) (a : Area) (t : ChainTables) (rows ps : List ℕ) (long : w ≤ length t.row_starts) (r : ℕ) (z row : List ℕ) (k width : ℕ) (clear : z ≡ replicate w 0)
    (made : row ≡ join_all rows (take w t.row_starts) (take w t.chains) (take w t.places) z ps)
    (found : k ≡ spot_from row (take w t.lens) 0 a.chains) (wide : width ≡ max a.chains (k + 1)) where
  row_is : row ≡ row_of (chains_of a w t, rows) ps
  unfolding row_of chains_of
  row_is =
      made ∙ ap (λ (y : List ℕ). join_all rows (take w t.row_starts) (take w t.chains) (take w t.places) y ps)
      (clear ∙ ap (λ (n : ℕ). replicate n 0) (sym (length-take-le w t.row_starts long)))

  spot_is : k ≡ spot_from row (chains_of a w t).lens 0 (chains_of a w t).count
  unfolding chains_of
  spot_is = found

  -- it does not fit
  pub run_stops : length rows < a.used + width → lay_of (chains_of a w t, rows) r ps ≡ None
  unfolding chains_of
  run_stops lt = lay_stop (chains_of a w t, rows) r ps row k width row_is spot_is wide lt

  -- it fits
  pub run_goes : (t' : ChainTables) (rows' : List ℕ) → r + 1 < w → k < w → a.used + width ≤ length rows → t' ≡ place_in t r k (a.used + width) → rows' ≡ paste rows a.used row width →
      lay_of (chains_of a w t, rows) r ps ≡ Some (chains_of (record { chains = width; used = a.used + width }) w t', rows')
  run_goes t' rows' rl kl le p q =
      lay_goes (chains_of a w t, rows) r ps row k width (chains_of (record { chains = width; used = a.used + width }) w t', rows') row_is spot_is wide' le'
      placed pasted
    where
      wide' : width ≡ max (chains_of a w t).count (k + 1)
      wide' = unfold chains_of in wide

      le' : (chains_of a w t).used + width ≤ length rows
      le' = unfold chains_of in le

      placed : chains_of (record { chains = width; used = a.used + width }) w t' ≡ placed_of (chains_of a w t) r k ((chains_of a w t).used + width) width
      placed = ap (chains_of (record { chains = width; used = a.used + width }) w) p ∙ unfold chains_of in (placed_first w r k (a.used + width) t rl kl a width)

      pasted : rows' ≡ paste rows (chains_of a w t).used row width
      pasted = unfold chains_of in q
