-- `tables::rows::lay` meets its contract: the rows that fit, and the tables of all runs. Assumes nothing.
use Rattle.std.proofs.Common.{ap, ◌≡◌, ◌+◌, ◌∙◌, length, refl, replicate, rules, arith, get_or-set_same, length-set}
use Rattle.std.proofs.Math.Seq.{take_at}
use lib.ListN.{length-replicate}
use Rattle.tables.specs.declared.rows.ChainTables.{ChainTables}
use Rattle.tables.specs.Laid.{chains_of}
use Rattle.tables.proofs.Outcome.{laid_end, turn_stops, turn_goes, turn_safe}
use Rattle.tables.proofs.FirstWords.{clear_laid}
use Rattle.tables.proofs.rows.lay.Goals as goal

pub loop-r-init : goal.loop-r-init
loop-r-init c =
    let a = c.args in
    let w = length a.parents.now + 1 in
    let few = c.len-n.ensures.few in
    let cleared : c.fill.new.self ≡ replicate w 0 = search rules in
    clear_laid a.parents.now w _ _ a.rows.now refl (omega (arith, length-set a.row_starts.now 0 0, c.requires.row, c.requires.long.0), omega (arith, c.requires.row, c.requires.long.1), omega (arith, c.requires.row, c.requires.long.2)) (get_or-set_same a.row_starts.now 0 0 0 (omega arith))
    (take_at c.fill.new.self _ w (ap length cleared ∙ length-replicate w 0) ∙ cleared) refl refl

pub lay_run-requires-clause-safe : goal.lay_run-requires-clause-safe
lay_run-requires-clause-safe c =
    let a = c.args in
    let l = c.loop-r in
    let t : ChainTables = record { row_starts = l.row_starts; chains = l.chains; places = l.places; lens = l.lens } in
    let size : length l.row ≡ length a.parents.now + 1 = omega (arith, c.requires.row) in
    rw (size, c.row.ensures) (turn_safe a.parents.now c.requires.below (omega (arith, c.len-n.ensures.few)) a.rows.now l.r (omega arith) (chains_of l.area (length a.parents.now + 1) t) l.rows l.invariant)

pub returns-in_err-area : goal.returns-in_err-area
returns-in_err-area c =
    let a = c.args in
    let l = c.loop-r in
    let t : ChainTables = record { row_starts = l.row_starts; chains = l.chains; places = l.places; lens = l.lens } in
    let t' : ChainTables = record { row_starts = c.lay_run.new.row_starts; chains = c.lay_run.new.chains; places = c.lay_run.new.places; lens = c.lay_run.new.lens } in
    let size : length l.row ≡ length a.parents.now + 1 = omega (arith, c.requires.row) in
    let stopped = c.in_err-area.ensures in
    rw (c.from_residual.ensures, stopped.1)
    (turn_stops a.parents.now c.requires.below (omega (arith, c.len-n.ensures.few)) a.rows.now l.r (omega arith) (chains_of l.area (length a.parents.now + 1) t) l.rows l.invariant
    t' (rw (size, c.row.ensures) at stopped.0))

pub loop-r-preserved : goal.loop-r-preserved
loop-r-preserved c =
    let a = c.args in
    let l = c.loop-r in
    let t : ChainTables = record { row_starts = l.row_starts; chains = l.chains; places = l.places; lens = l.lens } in
    let t' : ChainTables = record { row_starts = c.lay_run.new.row_starts; chains = c.lay_run.new.chains; places = c.lay_run.new.places; lens = c.lay_run.new.lens } in
    let size : length l.row ≡ length a.parents.now + 1 = omega (arith, c.requires.row) in
    turn_goes a.parents.now c.requires.below (omega (arith, c.len-n.ensures.few)) a.rows.now l.r (omega arith) (chains_of l.area (length a.parents.now + 1) t) l.rows l.invariant
    (chains_of c.in_ok-area.area (length a.parents.now + 1) t', c.lay_run.new.rows) (rw (size, c.row.ensures) at c.in_ok-area.ensures)

pub returns : goal.returns
returns c =
    let a = c.args in
    let l = c.loop-r in
    let t : ChainTables = record { row_starts = l.row_starts; chains = l.chains; places = l.places; lens = l.lens } in
    laid_end a.parents.now c.requires.below (omega (arith, c.len-n.ensures.few)) a.rows.now l.r l.area l.rows t (omega arith) l.invariant
