-- `tables::groups::gather` meets its contract: the groups of the runs so far. Assumes nothing.
use Rattle.std.proofs.Common.{◌-◌, length, ap, ◌∙◌, refl, arith}
use Rattle.std.proofs.Math.ListN.{length-set}
use Rattle.tables.specs.Gather.{Gathered, put_parents}
use Rattle.tables.proofs.Gathering.{puts_count, gathers_none, turn_room, gathers_next}
use Rattle.tables.proofs.Ranging.{gathered}
use Rattle.tables.proofs.groups.gather.Goals as goal

pub loop-j-init : goal.loop-j-init
loop-j-init c = gathers_none c.args.all.now c.args.a c.args.starts.now c.args.items.now (omega arith)

pub put_parents-at-requires : goal.put_parents-at-requires
put_parents-at-requires c =
    let a = c.args in
    let l = c.loop-j in
    let room = turn_room a.all.now a.a l.j (omega (arith, c.len.ensures.value)) _ _ l.at l.starts l.items l.invariant c.requires.items
    (omega (arith, length-set a.starts.now 0 0, c.len.ensures.value, c.requires.starts)) in
    omega (arith, room, ap length c.row.ensures, c.requires.items)

pub overflow_cast-starts : goal.overflow_cast-starts
overflow_cast-starts c =
    let a = c.args in
    let l = c.loop-j in
    let room = turn_room a.all.now a.a l.j (omega (arith, c.len.ensures.value)) _ _ l.at l.starts l.items l.invariant c.requires.items
    (omega (arith, length-set a.starts.now 0 0, c.len.ensures.value, c.requires.starts)) in
    omega (arith, room, ap length c.row.ensures, c.len.ensures.words, ap (λ (s : Gathered). s.0) c.put_parents-at.ensures, (puts_count a.a (l.at, l.items) c.row.result.now).1)

pub loop-j-preserved : goal.loop-j-preserved
loop-j-preserved c =
    let a = c.args in
    let l = c.loop-j in
    gathers_next a.all.now a.a l.j (omega (arith, c.len.ensures.value)) _ _ l.at l.starts l.items l.invariant c.requires.items
    (omega (arith, length-set a.starts.now 0 0, c.len.ensures.value, c.requires.starts)) _ _ _
    (c.put_parents-at.ensures ∙ ap (put_parents a.a (l.at, l.items)) c.row.ensures) refl

pub returns-clause-grouped : goal.returns-clause-grouped
returns-clause-grouped c =
    let a = c.args in
    let l = c.loop-j in (gathered a.all.now a.a (length a.all.now - a.a) l.j (omega (arith, c.len.ensures.value)) (omega (arith, c.len.ensures.value, c.len.ensures.few)) c.requires.below _ _ l.at l.starts l.items l.invariant).0

pub returns-clause-sound : goal.returns-clause-sound
returns-clause-sound c =
    let a = c.args in
    let l = c.loop-j in (gathered a.all.now a.a (length a.all.now - a.a) l.j (omega (arith, c.len.ensures.value)) (omega (arith, c.len.ensures.value, c.len.ensures.few)) c.requires.below _ _ l.at l.starts l.items l.invariant).1
