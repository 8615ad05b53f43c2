-- The first words of the tables: cleared, and with one run more. Assumes nothing.
use Rattle.std.proofs.Common.{◌≡◌, sym, ap, ◌∙◌, List, ℕ, ◌+◌, ◌≤◌, ◌<◌, arith, length, get_or, take, set, replicate, get_or-take, length-take-le}
use lib.ListN.{length-replicate}
use lib.Seq.{take-set-lt}
use Rattle.lists.proofs.Pads.{zeros_get}
use Rattle.tables.specs.declared.rows.Area.{Area}
use Rattle.tables.specs.declared.rows.ChainTables.{ChainTables}
use Rattle.tables.specs.Laid.{chains_of, Laid}
use Rattle.tables.specs.Lay.{placed_of, place_in}
use Rattle.tables.proofs.Placing.{laid_fresh}

-- Cleared tables say what there is to say before the first run
pub clear_laid : (pss : List (List ℕ)) (w : ℕ) (a : Area) (t : ChainTables) (area : List ℕ) → w ≡ length pss + 1 →
    (w ≤ length t.row_starts) × (w ≤ length t.chains) × (w ≤ length t.places) → get_or t.row_starts 0 0 ≡ 0 → take w t.lens ≡ replicate w 0 →
    a.chains ≡ 0 → a.used ≡ 0 → Laid pss 0 (chains_of a w t) area area
unfolding chains_of
clear_laid pss w a t area e long first clear p q =
    laid_fresh pss _ area
    (length-take-le w t.row_starts long.0 ∙ e, length-take-le w t.chains long.1 ∙ e, length-take-le w t.places long.2 ∙ e, ap length clear ∙ (length-replicate {A = ℕ} w 0 ∙ e))
    (get_or-take w t.row_starts 0 0 (omega arith) ∙ first) (λ c. ap (λ (l : List ℕ). get_or l c 0) clear ∙ zeros_get w c) p q

-- A run placed in the tables is placed in their first words
module _ (w r k used : ℕ) (t : ChainTables) (r-in : r + 1 < w) (k-in : k < w) where
  len_is : get_or t.lens k 0 ≡ get_or (take w t.lens) k 0
  len_is = sym (get_or-take w t.lens k 0 k-in)

  place_placed : take w (set t.places r (get_or t.lens k 0)) ≡ set (take w t.places) r (get_or (take w t.lens) k 0)
  place_placed = take-set-lt w t.places r (get_or t.lens k 0) (omega arith) ∙ ap (λ (v : ℕ). set (take w t.places) r v) len_is

  lens_placed : take w (set t.lens k (get_or t.lens k 0 + 1)) ≡ set (take w t.lens) k (get_or (take w t.lens) k 0 + 1)
  lens_placed = take-set-lt w t.lens k (get_or t.lens k 0 + 1) k-in ∙ ap (λ (v : ℕ). set (take w t.lens) k (v + 1)) len_is

  pub placed_first : (a : Area) (width : ℕ) → chains_of (record { chains = width; used = used }) w (place_in t r k used) ≡ placed_of (chains_of a w t) r k used width
  unfolding chains_of place_in
  placed_first a width = λ i. record {
    starts = take-set-lt w t.row_starts (r + 1) used r-in i;
    chain = take-set-lt w t.chains r k (omega arith) i;
    place = place_placed i;
    lens = lens_placed i;
    count = width;
    used = used;
  }
