-- `walk::areas::Areas::relate`: children and then weights.
use Rattle.std.proofs.Common.{arith}
use Rattle.tables.proofs.JaggedRows.{rows-below, rows-fit, rows_size}
use Rattle.walk.proofs.Kinship.{kids, weighable}
use Rattle.walk.proofs.areas.Areas.relate.Goals as goal

pub children-requires-clause-below : goal.children-requires-clause-below
children-requires-clause-below c =
    let gs = c.args.self.now.parents in
    rows-below gs.starts gs.items c.args.n c.requires.sound c.rows-parents.result c.rows-parents.ensures.rows

pub children-requires-clause-starts : goal.children-requires-clause-starts
children-requires-clause-starts c =
    let gs = c.args.self.now.parents in
    omega (arith, c.requires.sound.few, rows_size gs.starts gs.items c.args.n c.requires.sound c.rows-parents.result c.rows-parents.ensures.rows)

pub children-requires-clause-scratch : goal.children-requires-clause-scratch
children-requires-clause-scratch c =
    let gs = c.args.self.now.parents in
    omega (arith, c.requires.sound.few, rows_size gs.starts gs.items c.args.n c.requires.sound c.rows-parents.result c.rows-parents.ensures.rows)

pub children-requires-clause-room : goal.children-requires-clause-room
children-requires-clause-room c =
    let gs = c.args.self.now.parents in
    omega (arith, c.rows-parents.ensures.few, rows-fit gs.starts gs.items c.args.n c.requires.sound c.rows-parents.result c.rows-parents.ensures.rows)

pub weights_of-requires : goal.weights_of-requires
weights_of-requires c =
    let a = c.args in (
      omega (arith, c.requires.sound.few),
      omega (arith, c.requires.sound.few),
      weighable a.starts.now a.n a.self.now.parents c.requires c.rows-parents.result c.rows-parents.ensures.rows _ _ c.children.ensures,
    )

pub returns-clause-related : goal.returns-clause-related
returns-clause-related c =
    let a = c.args in
    record {
      children = kids a.starts.now a.n a.self.now.parents c.requires c.rows-parents.result c.rows-parents.ensures.rows _ _ c.children.ensures;
      weights = c.weights_of.ensures;
    }
