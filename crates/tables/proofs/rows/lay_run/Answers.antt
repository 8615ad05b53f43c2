-- `tables::rows::lay_run` meets its contract: a run's turn. Assumes nothing.
use borrow.Rule.Slice.PartMut.{put_mid}
use Rattle.std.proofs.Common.{◌≡◌, ◌+◌, ◌-◌, ◌<◌, ◌≤◌, length, replicate, sym, arith, rules, get_or-take, length-drop}
use Rattle.std.proofs.Math.ListN.{length-take}
use Rattle.std.proofs.Math.Seq.{paste}
use Rattle.std.proofs.lemmas.List.{length-take-le}
use Rattle.tables.specs.declared.rows.ChainTables.{ChainTables}
use Rattle.tables.specs.Laid.{chains_of}
use Rattle.tables.proofs.Turns.{spot_cut}
use Rattle.tables.proofs.Pasting.{front_pasted}
use Rattle.tables.proofs.LaidRun.{run_stops, run_goes}
use Rattle.tables.proofs.rows.lay_run.Goals as goal

pub join_all-requires : goal.join_all-requires
unfolding chains_of
join_all-requires c = rw c.fill.auto.self c.requires.safe.6

pub slice_bounds-pick_chain-end : goal.slice_bounds-pick_chain-end
unfolding chains_of
slice_bounds-pick_chain-end c =
    let p = c.requires.safe in
    omega (arith, c.join_all.auto.row, c.fill.auto.self)

pub slice_bounds-pick_chain-end-2 : goal.slice_bounds-pick_chain-end-2
unfolding chains_of
slice_bounds-pick_chain-end-2 c =
    let p = c.requires.safe in
    sym (length-take-le c.args.area.chains c.join_all.new.row (omega (arith, c.join_all.auto.row, c.fill.auto.self)))

pub slice_bounds-pick_chain-end-3 : goal.slice_bounds-pick_chain-end-3
unfolding chains_of
slice_bounds-pick_chain-end-3 c =
    let p = c.requires.safe in
    omega arith

pub slice_bounds-pick_chain-end-4 : goal.slice_bounds-pick_chain-end-4
unfolding chains_of
slice_bounds-pick_chain-end-4 c =
    let p = c.requires.safe in
    sym (length-take-le c.args.area.chains c.args.lens.now (omega arith))

pub pick_chain-k-requires : goal.pick_chain-k-requires
unfolding chains_of
pick_chain-k-requires c =
    let a = c.args in
    let p = c.requires.safe in
    omega (arith, length-take-le a.area.chains c.join_all.new.row (omega (arith, c.join_all.auto.row, c.fill.auto.self)), length-take-le a.area.chains a.lens.now (omega arith))

pub overflow_add-used : goal.overflow_add-used
unfolding chains_of
overflow_add-used c =
    let p = c.requires.safe in
    let most = length-take-le c.args.area.chains c.args.lens.now (omega arith) in
    omega arith

pub returns-then-rows-used : goal.returns-then-rows-used
unfolding chains_of
returns-then-rows-used c =
    let a = c.args in
    let t : ChainTables = record { row_starts = a.row_starts.now; chains = a.chains.now; places = a.places.now; lens = a.lens.now } in
    let p = c.requires.safe in
    let cleared : c.fill.new.self ≡ replicate (length a.row.now) 0 = search rules in (
      run_stops (length a.row.now) a.area t a.rows.now a.parents.now (omega arith) a.r c.fill.new.self c.join_all.new.row c.pick_chain-k.result c.max-width.result cleared
          c.join_all.ensures (spot_cut c.join_all.new.row a.lens.now c.pick_chain-k.result a.area.chains (length a.row.now) (omega arith) (omega arith) c.pick_chain-k.ensures.spot) c.max-width.ensures c.if-rows-used.true,
      (λ i. a.rows.now),
    )

pub slice_bounds-copy_from_slice-end-2 : goal.slice_bounds-copy_from_slice-end-2
unfolding chains_of
slice_bounds-copy_from_slice-end-2 c =
    let p = c.requires.safe in
    let most = length-take-le c.args.area.chains c.args.lens.now (omega arith) in
    omega (arith, c.join_all.auto.row, c.fill.auto.self)

pub slice_bounds-copy_from_slice-end-3 : goal.slice_bounds-copy_from_slice-end-3
unfolding chains_of
slice_bounds-copy_from_slice-end-3 c =
    let p = c.requires.safe in
    let most = length-take-le c.args.area.chains c.args.lens.now (omega arith) in
    sym (length-take-le c.max-width.result c.join_all.new.row (omega (arith, c.join_all.auto.row, c.fill.auto.self)))

pub copy_from_slice-requires : goal.copy_from_slice-requires
unfolding chains_of
copy_from_slice-requires c =
    let p = c.requires.safe in
    let most = length-take-le c.args.area.chains c.args.lens.now (omega arith) in
    let long : c.max-width.result ≤ length c.join_all.new.row = omega (arith, c.join_all.auto.row, c.fill.auto.self) in
    simp (length-take, length-drop) (omega arith)

pub place-requires-clause-small : goal.place-requires-clause-small
unfolding chains_of
place-requires-clause-small c =
    let p = c.requires.safe in
    let most = length-take-le c.args.area.chains c.args.lens.now (omega arith) in
    let w = length c.args.row.now in
    let k : c.pick_chain-k.result < w = omega arith in
    (omega arith, omega arith, omega arith, omega (arith, p.5 c.pick_chain-k.result, get_or-take w c.args.lens.now c.pick_chain-k.result 0 k))

pub returns : goal.returns
unfolding chains_of
returns c =
    let a = c.args in
    let t : ChainTables = record { row_starts = a.row_starts.now; chains = a.chains.now; places = a.places.now; lens = a.lens.now } in
    let p = c.requires.safe in
    let most = length-take-le c.args.area.chains c.args.lens.now (omega arith) in
    let cleared : c.fill.new.self ≡ replicate (length a.row.now) 0 = search rules in
    let made = c.join_all in
    let wide = c.max-width in
    let long : wide.result ≤ length made.new.row = omega (arith, made.auto.row, c.fill.auto.self) in
    let few : c.pick_chain-k.result < length a.row.now = omega arith in
    let t' : ChainTables = record { row_starts = c.place.new.row_starts; chains = c.place.new.chains; places = c.place.new.places; lens = c.place.new.lens } in
    let written : put_mid a.area.used (a.area.used + wide.result - a.area.used) a.rows.now c.copy_from_slice.new.self ≡ paste a.rows.now a.area.used made.new.row wide.result =
    front_pasted a.rows.now made.new.row _ a.area.used _ wide.result c.copy_from_slice.ensures.after (omega arith) long in
    run_goes (length a.row.now) a.area t a.rows.now a.parents.now (omega arith) a.r c.fill.new.self made.new.row c.pick_chain-k.result wide.result
    cleared made.ensures (spot_cut c.join_all.new.row a.lens.now c.pick_chain-k.result a.area.chains (length a.row.now) (omega arith) (omega arith) c.pick_chain-k.ensures.spot) wide.ensures t' _ p.1 few c.if-rows-used.false (sym c.place.ensures) written
