-- How far a lent buffer is written. Assumes nothing.
use Rattle.std.specs.Prelude.{◌≡◌, false, List, ℕ}
use Rattle.book.specs.declared.printing.Printed.{Printed}
use Rattle.book.specs.declared.printing.Lines.{Lines}

-- Nothing printed yet
abbrev pub unused : Printed
unused = record { used = 0; short = false }

-- How far the buffer is used, and the buffer
abbrev pub state : Lines → Printed × List ℕ
state l = (l.printed, l.out.now)

-- Two are over one buffer
abbrev pub same_buffer : Lines → Lines → Type 0
same_buffer k l = k.out.ghost_name ≡ l.out.ghost_name
