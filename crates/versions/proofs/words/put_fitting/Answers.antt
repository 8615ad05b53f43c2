-- `versions::words::put_fitting` meets its contract. Assumes nothing.
use Rattle.std.proofs.Common.{refl}
use Rattle.model.specs.Cut.{unwritten}
use Rattle.versions.specs.Words.{fitting_put}
use Rattle.versions.proofs.words.put_fitting.Goals as goal

pub returns-in-Err : goal.returns-in-Err
unfolding fitting_put unwritten
returns-in-Err c = rw (c.in-Err.is, c.unwritten.ensures) refl
