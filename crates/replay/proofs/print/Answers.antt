-- Of `replay::print`: no more of the text is used than there is. Assumes nothing.
use Rattle.std.proofs.Common.{rules}
use Rattle.book.proofs.Fits.{used-fits}
use Rattle.replay.proofs.print.Goals as goal

pub slice_bounds-text-end : goal.slice_bounds-text-end
slice_bounds-text-end g c = let h = used-fits _ _ _ _ c.print_book-used.ensures.is in search (rules, h)

pub slice_bounds-write_all-end : goal.slice_bounds-write_all-end
slice_bounds-write_all-end g c = let h = used-fits _ _ _ _ c.print_book-used.ensures.is in search (rules, h)
