-- What is read of a run, by the tables that a walk is given. Assumes nothing.
use Rattle.std.proofs.Common.{◌≡◌, sym, ℕ, ◌+◌, ◌≤◌, ◌<◌, arith, length, get_or}
use Rattle.lists.specs.Areas.{part}
use Rattle.model.specs.History.{at}
use Rattle.walk.specs.Given.{Given, row_starts, child_starts, parents_for, Prepared}
use Rattle.walk.proofs.Starting.{group_of}
use Rattle.walk.proofs.Looping.{size}

module _ (g : Given) (P : Prepared g) (run : ℕ) (lt : run < g.runs) where
  -- Its row
  pub row_bounds : (get_or g.areas.chains.row_starts run 0 ≤ get_or g.areas.chains.row_starts (run + 1) 0) × (get_or g.areas.chains.row_starts (run + 1) 0 ≤ length g.rows)
  unfolding row_starts
  row_bounds = P.lies run lt

  -- its children
  pub children_bounds : (get_or g.areas.children.starts run 0 ≤ get_or g.areas.children.starts (run + 1) 0) × (get_or g.areas.children.starts (run + 1) 0 ≤ length g.areas.children.items)
  unfolding child_starts
  children_bounds = let few : run < length (parents_for g) = omega (arith, lt, size g P) in (P.children.climb run few, P.children.inside run few)

  -- and its parents
  pub parents_lent : part (get_or g.areas.parents.starts run 0) (get_or g.areas.parents.starts (run + 1) 0) g.areas.parents.items ≡ at (parents_for g) run
  unfolding at parents_for
  parents_lent = sym (group_of g.areas.parents.starts g.areas.parents.items g.runs run P.sound.long lt)
