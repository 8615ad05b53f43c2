-- `book::reading::fresh` meets its contract: a new graph is not broken. Assumes nothing.
use Rattle.model.proofs.Begins.{new-held}
use Rattle.book.proofs.reading.fresh.Goals as goal

pub known-requires : goal.known-requires
known-requires c = rw c.new.ensures new-held
