-- `walk::walking::walk_range`: a range's rows, tables and steps.
use Rattle.std.proofs.Common.{Some, List, ℕ, ◌+◌, ◌-◌, ◌≤◌, refl, sym, subst, arith}
use Rattle.moves.specs.Emit.{so_far, written}
use Rattle.tables.specs.declared.groups.Groups.{Groups}
use Rattle.tables.specs.declared.rows.ChainTables.{ChainTables}
use Rattle.tables.specs.Laid.{shares, RangeLaid}
use Rattle.tables.proofs.JaggedRows.{rows_size, rows-below, rows-fit}
use Rattle.walk.specs.Ranges.{range_at}
use Rattle.walk.specs.Prepare.{Measured, Relatable, Related}
use Rattle.walk.proofs.Preparing.{own_lent}
use Rattle.walk.proofs.RangeReady.{measurable, relatable, prepared, range_same}
use Rattle.walk.proofs.RangeWalked.{arrays_end, laid_by_arrays, range_short, range_walked}
use Rattle.walk.proofs.walking.walk_range.Goals as goal

pub lay-requires-clause-from : goal.lay-requires-clause-from
lay-requires-clause-from c =
    let g = c.args.graph.now in
    omega (arith, c.args.bounds.inside.0, rows_size g.parent_starts g.parents c.args.bounds.end.0 c.requires.sound c.new-all.result c.new-all.ensures)

pub lay-requires-clause-below : goal.lay-requires-clause-below
lay-requires-clause-below c =
    let g = c.args.graph.now in
    rows-below g.parent_starts g.parents c.args.bounds.end.0 c.requires.sound c.new-all.result c.new-all.ensures

pub lay-requires-clause-groups : goal.lay-requires-clause-groups
lay-requires-clause-groups c =
    let g = c.args.graph.now in
    let end = c.args.bounds.end.0 in
    let size = rows_size g.parent_starts g.parents end c.requires.sound c.new-all.result c.new-all.ensures in
    (omega (arith, size, c.requires.sound.few), omega (arith, c.requires.few, rows-fit g.parent_starts g.parents end c.requires.sound c.new-all.result c.new-all.ensures))

pub lay-requires-clause-tables : goal.lay-requires-clause-tables
lay-requires-clause-tables c =
    let g = c.args.graph.now in
    let size = rows_size g.parent_starts g.parents c.args.bounds.end.0 c.requires.sound c.new-all.result c.new-all.ensures in
    let few = c.requires.sound.few in
    (omega (arith, size, few), omega (arith, size, few), omega (arith, size, few), omega (arith, size, few))

pub lay-requires-clause-scratch : goal.lay-requires-clause-scratch
lay-requires-clause-scratch c =
    let g = c.args.graph.now in
    omega (arith, c.requires.sound.few, rows_size g.parent_starts g.parents c.args.bounds.end.0 c.requires.sound c.new-all.result c.new-all.ensures)

pub returns-in_default-clause-steps_after : goal.returns-in_default-clause-steps_after
unfolding range_at
returns-in_default-clause-steps_after c =
    let a = c.args in
    let g = a.graph.now in
    let l = c.lay in
    let gs : Groups = record { starts = l.new.starts; items = l.new.items } in
    let ts : ChainTables = record { row_starts = l.new.row_starts; chains = l.new.chains; places = l.new.places; lens = l.new.lens } in
    let laid =
    laid_by_arrays g.parent_starts g.parents a.bounds.from.0 a.bounds.end.0 a.bounds.inside.0 c.new-all.result c.new-all.ensures
    a.rows.now l.new.area gs ts l.result l.ensures in
    range_short g.starts g.parent_starts g.parents a.bounds.from.0 (a.bounds.end.0 - a.bounds.from.0) a.rows.now l.new.area gs ts l.result laid
    (a.bounds.end.0 - a.bounds.from.0) a.bounds.known a.bounds.first (so_far a.steps.now) refl c.in_default.is

pub prepare-requires-clause-measurable : goal.prepare-requires-clause-measurable
prepare-requires-clause-measurable c =
    let a = c.args in
    let g = a.graph.now in
    let n = (a.bounds.end.0 - a.bounds.from.0) in
    let A = arrays_end g.starts g.parent_starts g.parents a.bounds.from.0 a.bounds.end.0 n a.bounds.inside.0 refl c.requires in
    let l = c.lay in
    let gs : Groups = record { starts = l.new.starts; items = l.new.items } in
    let ts : ChainTables = record { row_starts = l.new.row_starts; chains = l.new.chains; places = l.new.places; lens = l.new.lens } in
    let laid =
    laid_by_arrays g.parent_starts g.parents a.bounds.from.0 a.bounds.end.0 a.bounds.inside.0 c.new-all.result c.new-all.ensures
    a.rows.now l.new.area gs ts (Some c.in-Some.area) c.in-Some.ensures in
    measurable g.starts g.parent_starts g.parents a.bounds.from.0 n A a.rows.now l.new.area gs ts c.in-Some.area laid

pub prepare-requires-clause-relatable : goal.prepare-requires-clause-relatable
prepare-requires-clause-relatable c =
    let a = c.args in
    let g = a.graph.now in
    let n = (a.bounds.end.0 - a.bounds.from.0) in
    let A = arrays_end g.starts g.parent_starts g.parents a.bounds.from.0 a.bounds.end.0 n a.bounds.inside.0 refl c.requires in
    let l = c.lay in
    let gs : Groups = record { starts = l.new.starts; items = l.new.items } in
    let ts : ChainTables = record { row_starts = l.new.row_starts; chains = l.new.chains; places = l.new.places; lens = l.new.lens } in
    let laid =
    laid_by_arrays g.parent_starts g.parents a.bounds.from.0 a.bounds.end.0 a.bounds.inside.0 c.new-all.result c.new-all.ensures
    a.rows.now l.new.area gs ts (Some c.in-Some.area) c.in-Some.ensures in
    let own_is = own_lent g.starts g.parent_starts g.parents a.bounds.from.0 n A a.bounds.from.0 (a.bounds.from.0 + n + 1) refl refl in
    subst (λ (s : List ℕ). Relatable s n gs) (sym own_is)
    (relatable g.starts g.parent_starts g.parents a.bounds.from.0 n A a.rows.now l.new.area gs ts c.in-Some.area laid)

pub invariant_of-given : goal.invariant_of-given
invariant_of-given c =
    let a = c.args in
    let g = a.graph.now in
    let n = (a.bounds.end.0 - a.bounds.from.0) in
    let A = arrays_end g.starts g.parent_starts g.parents a.bounds.from.0 a.bounds.end.0 n a.bounds.inside.0 refl c.requires in
    let l = c.lay in
    let gs : Groups = record { starts = l.new.starts; items = l.new.items } in
    let ts : ChainTables = record { row_starts = l.new.row_starts; chains = l.new.chains; places = l.new.places; lens = l.new.lens } in
    let laid =
    laid_by_arrays g.parent_starts g.parents a.bounds.from.0 a.bounds.end.0 a.bounds.inside.0 c.new-all.result c.new-all.ensures
    a.rows.now l.new.area gs ts (Some c.in-Some.area) c.in-Some.ensures in
    let q = c.prepare.new.self in
    let own_is = own_lent g.starts g.parent_starts g.parents a.bounds.from.0 n A a.bounds.from.0 (a.bounds.from.0 + n + 1) refl refl in
    let R₀ = subst (λ (u : Groups). RangeLaid (shares g.parent_starts g.parents a.bounds.from.0 n) n a.rows.now (Some c.in-Some.area) l.new.area u ts)
    (sym c.prepare.ensures.kept.0) laid in
    let R = subst (λ (t : ChainTables). RangeLaid (shares g.parent_starts g.parents a.bounds.from.0 n) n a.rows.now (Some c.in-Some.area) l.new.area q.parents t) (sym c.prepare.ensures.kept.1) R₀ in
    let M = subst (λ (s : List ℕ). Measured s n c.in-Some.area.chains l.new.area q.chains q.members q.sizes) own_is c.prepare.ensures.measured in
    let F = subst (λ (s : List ℕ). Related s n q.parents q.children q.weights) own_is c.prepare.ensures.related in
    let f = c.clamped.ensures in
    let low : c.clamped.result ≤ n = omega (arith, f, a.bounds.inside.1) in
    prepared g.starts g.parent_starts g.parents a.bounds.from.0 n A a.rows.now l.new.area q c.in-Some.area R a.bounds.known c.clamped.result M F (omega (arith, f)) low

pub returns-clause-steps_after : goal.returns-clause-steps_after
unfolding range_at
returns-clause-steps_after c =
    let a = c.args in
    let g = a.graph.now in
    let n = (a.bounds.end.0 - a.bounds.from.0) in
    let A = arrays_end g.starts g.parent_starts g.parents a.bounds.from.0 a.bounds.end.0 n a.bounds.inside.0 refl c.requires in
    let l = c.lay in
    let gs : Groups = record { starts = l.new.starts; items = l.new.items } in
    let ts : ChainTables = record { row_starts = l.new.row_starts; chains = l.new.chains; places = l.new.places; lens = l.new.lens } in
    let laid =
    laid_by_arrays g.parent_starts g.parents a.bounds.from.0 a.bounds.end.0 a.bounds.inside.0 c.new-all.result c.new-all.ensures
    a.rows.now l.new.area gs ts (Some c.in-Some.area) c.in-Some.ensures in
    let q = c.prepare.new.self in
    let own_is = own_lent g.starts g.parent_starts g.parents a.bounds.from.0 n A a.bounds.from.0 (a.bounds.from.0 + n + 1) refl refl in
    let R₀ = subst (λ (u : Groups). RangeLaid (shares g.parent_starts g.parents a.bounds.from.0 n) n a.rows.now (Some c.in-Some.area) l.new.area u ts)
    (sym c.prepare.ensures.kept.0) laid in
    let R = subst (λ (t : ChainTables). RangeLaid (shares g.parent_starts g.parents a.bounds.from.0 n) n a.rows.now (Some c.in-Some.area) l.new.area q.parents t) (sym c.prepare.ensures.kept.1) R₀ in
    let M = subst (λ (s : List ℕ). Measured s n c.in-Some.area.chains l.new.area q.chains q.members q.sizes) own_is c.prepare.ensures.measured in
    let F = subst (λ (s : List ℕ). Related s n q.parents q.children q.weights) own_is c.prepare.ensures.related in
    let f = c.clamped.ensures in
    let low : c.clamped.result ≤ n = omega (arith, f, a.bounds.inside.1) in
    let v = c.visits in
    let same = range_same g.starts g.parent_starts g.parents a.bounds.from.0 n A a.rows.now l.new.area q c.in-Some.area R a.bounds.known c.clamped.result M F (omega (arith, f)) low in
    range_walked g.starts g.parent_starts g.parents a.bounds.from.0 n a.rows.now l.new.area q.parents q.chains (Some c.in-Some.area) R (a.bounds.end.0 - a.bounds.from.0) a.bounds.known
    a.bounds.first c.clamped.result _ (so_far a.steps.now) (written v.result v.new.steps) refl c.in-Some.area refl
    (omega (arith, a.bounds.inside.1)) (omega (arith, f)) same v.ensures.steps_after
