-- Lists of w words, one after another, in one area. Assumes nothing.
use Rattle.std.specs.Prelude.{List, ℕ, ◌+◌, ◌*◌}
use Rattle.lists.specs.Areas.{part}

-- The k-th list
unfoldable pub lane : ℕ → ℕ → List ℕ → List ℕ
lane k w area = part (k * w) (k * w + w) area
