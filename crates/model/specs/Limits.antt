-- 01's limits, each a number with a name. `model::limits` has the same for code; a contract that joins the two is proved only if they
-- are equal. Assumes nothing.
use Rattle.std.specs.Prelude.{ℕ, ◌+◌}

-- "At most 512 runs": the runs of a graph, and its marks, which are runs
abbrev pub max_runs : ℕ
max_runs = 512

-- run starts are "one more than runs"
abbrev pub max_starts : ℕ
max_starts = max_runs + 1

-- "2,048 parent entries"
abbrev pub max_entries : ℕ
max_entries = 2048

-- "512 frontier events"
abbrev pub max_frontier : ℕ
max_frontier = 512

-- "`len` would pass 4,294,967,295"
abbrev pub max_len : ℕ
max_len = 4294967295

-- "book over 65,536 bytes"
abbrev pub max_book : ℕ
max_book = 65536

-- `replay` "lends 4,096 steps and 8,192 row words"
abbrev pub lent_steps : ℕ
lent_steps = 4096

abbrev pub lent_rows : ℕ
lent_rows = 8192

-- "the last 64 ready runs"
abbrev pub max_weighed : ℕ
max_weighed = 64

-- "ceil(events/127)": the bits of a cover
abbrev pub cover_bits : ℕ
cover_bits = 127
