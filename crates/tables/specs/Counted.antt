-- The children of each run, as code counts and places them. Assumes nothing.
use Rattle.std.specs.Prelude.{◌≡◌, true, List, [], ◌∷◌, ◌++◌, ℕ, zero, suc, ◌+◌, ◌≤◌, ◌<◌, length, get_or, set, replicate}
use Rattle.lists.specs.Lists.{mem, occurs}
use Rattle.model.specs.History.{at}
use Rattle.tables.specs.Indexed.{sum_below}

-- How often runs below x have r for a parent
unfoldable pub tally : List (List ℕ) → ℕ → ℕ → ℕ
tally pss r x = sum_below (λ y. occurs r (at pss y)) x

-- Those runs, in run order
unfoldable pub kids : List (List ℕ) → ℕ → ℕ → List ℕ
kids pss r zero = []
kids pss r (suc x) = kids pss r x ++ replicate (occurs r (at pss x)) x

-- Where the kids of run r begin, of n runs
unfoldable pub kids_from : List (List ℕ) → ℕ → ℕ → ℕ
kids_from pss n r = sum_below (λ k. tally pss k n) r

-- Each number's occurrences in ps added, one place on
pub record Counted (ps l₀ l : List ℕ) : Type 0 where
  pub size : length l ≡ length l₀
  pub first : get_or l 0 0 ≡ get_or l₀ 0 0
  pub each : (r : ℕ) → r + 1 < length l₀ → get_or l (r + 1) 0 ≡ get_or l₀ (r + 1) 0 + occurs r ps

-- A run x put after the kids of p so far: where the next of each run goes, and the kids
abbrev pub Placing : Type 0
Placing = List ℕ × List ℕ

abbrev pub put_one : ℕ → Placing → ℕ → Placing
put_one x s p = (set s.0 p (get_or s.0 p 0 + 1), set s.1 (get_or s.0 p 0) x)

-- after those of each of ps
unfoldable pub put_all : ℕ → Placing → List ℕ → Placing
put_all x s [] = s
put_all x s (p ∷ ps) = put_all x (put_one x s p) ps

-- Every item of ps has a place one on
abbrev pub Countable : List ℕ → List ℕ → Type 0
Countable ps l = (i : ℕ) → i < length ps → get_or ps i 0 + 1 < length l

-- Every member of ps has a place for each time that it occurs
abbrev pub Placeable : List ℕ → Placing → Type 0
Placeable ps s = (p : ℕ) → mem p ps ≡ true → (p < length s.0) × (get_or s.0 p 0 + occurs p ps ≤ length s.1)

-- The kids of each of n runs stand in their places
abbrev pub Kids : List (List ℕ) → ℕ → List ℕ → Type 0
Kids pss n items = (r j : ℕ) → r < n → j < length (kids pss r n) → get_or items (kids_from pss n r + j) 0 ≡ get_or (kids pss r n) j 0

-- Where the kids of each of n runs begin, and the kids
pub record KidsTabled (pss : List (List ℕ)) (n : ℕ) (begins items : List ℕ) : Type 0 where
  pub begins_at : (k : ℕ) → k ≤ n → get_or begins k 0 ≡ kids_from pss n k
  pub kids_at : Kids pss n items
  pub room : kids_from pss n n ≤ length items
