-- `walk::given::Given::size`: the sizes are those of the histories.
use Rattle.std.proofs.Common.{get_or, ap, ◌∙◌, subst, ℕ, List}
use Rattle.tables.specs.Sizes.{events_from}
use Rattle.tables.proofs.JaggedRows.{row_part}
use Rattle.walk.specs.Given.{Given, Prepared, row_starts, row_for, begins_in, sums_in}
use Rattle.walk.proofs.given.Given.size.Goals as goal

pub returns : goal.returns
unfolding row_for
returns c =
    let g = c.args.self.now in
    let P = subst Prepared c.self.view_is c.self.invariant in
    ap (λ (g : Given). get_or g.areas.sizes c.args.run 0) c.self.view_is ∙ (P.sizes c.args.run c.requires ∙
    ap (λ (l : List ℕ). events_from (sums_in g) (begins_in g) l 0 g.chains) (row_part (row_starts g) g.rows g.runs c.args.run c.requires))
