-- What the passes behind the wanted parents compute. Rising words, a first and an end in turn, mark an event exactly if those at most the
-- event are odd in number; and what is marked of a run, where no range begins inside it, goes from the run's start up to an end. Assumes nothing.
use Rattle.std.specs.Prelude.{◌≡◌, Bool, false, not, cond, ◌&&◌, ◌||◌, List, map, ℕ, zero, suc, ◌+◌, ◌-◌, ◌%◌, ◌≤◌, ◌<◌, min, length, get_or, replicate, leb, eqb, Option, Some, None, is_some}
use Rattle.lists.specs.Lists.{filter, count, upto}
use Rattle.model.specs.Limits.{max_runs}
use Rattle.model.specs.declared.record.EventIndex.{EventIndex}
use Rattle.versions.specs.Flags.{flag_all}

-- k is odd
unfoldable pub is_odd : ℕ → Bool
is_odd k = eqb (k % 2) 1

-- how many of the words are at most e
unfoldable pub place_of : List ℕ → ℕ → ℕ
place_of ws e = count (λ w. leb w e) ws

-- the words lie between two events: the first is not below the one, nor the last above the other
unfoldable pub words_within : ℕ → ℕ → List ℕ → Bool
words_within first end ws = eqb (length ws) 0 || leb first (get_or ws 0 0) && leb (get_or ws (length ws - 1) 0) end

-- no range begins at place k or behind it and before event `end`
unfoldable pub clear_at : List ℕ → ℕ → ℕ → Bool
clear_at ws k end = leb (length ws) (k + k % 2) || leb end (get_or ws (k + k % 2) 0)

-- the end of what is marked of a run, if something is; as a number, 0 if nothing is
abbrev pub End : Type 0
End = Option EventIndex

unfoldable pub end_number : End → ℕ
end_number None = 0
end_number (Some e) = e.0

-- event n is that end
unfoldable pub ends_at : End → ℕ → Bool
ends_at None n = false
ends_at (Some e) n = eqb e.0 n

-- the end of what is marked from an event up to event `end`, where k words are at most that event
unfoldable pub end_at : List ℕ → ℕ → ℕ → End
end_at ws k end = cond (is_odd k) (Some (record { 0 = min (get_or ws k 0) end })) None

-- no range begins inside run r; the end of what is marked of it; by the runs' starts
unfoldable pub clear_in : (starts ws : List ℕ) → ℕ → Bool
clear_in starts ws r = clear_at ws (place_of ws (get_or starts r 0)) (get_or starts (suc r) 0)

unfoldable pub end_in : (starts ws : List ℕ) → ℕ → End
end_in starts ws r = end_at ws (place_of ws (get_or starts r 0)) (get_or starts (suc r) 0)

-- A table of the ends, of the n first runs
abbrev pub Ends : (starts ws : List ℕ) → ℕ → List End → Type 0
Ends starts ws n ends = (r : ℕ) → r < n → get_or ends r None ≡ end_in starts ws r

-- A flag for each parent of one of the n first runs of which something is marked
unfoldable pub flag_marked : (ℕ → List ℕ) → List End → ℕ → List Bool
flag_marked rows ends zero = replicate max_runs false
flag_marked rows ends (suc r) = cond (is_some (get_or ends r None)) (flag_all (flag_marked rows ends r) (rows r)) (flag_marked rows ends r)

-- run r is not flagged, or all of it is marked
unfoldable pub marked_whole : List Bool → List End → (starts : List ℕ) → ℕ → Bool
marked_whole flags ends starts r = not (get_or flags r false) || ends_at (get_or ends r None) (get_or starts (suc r) 0)

-- something is marked of run r, and it is not flagged
unfoldable pub is_top : List Bool → List End → ℕ → Bool
is_top flags ends r = is_some (get_or ends r None) && not (get_or flags r false)

-- the last marked events of these runs
unfoldable pub tops : List Bool → List End → ℕ → List ℕ
tops flags ends n = map (λ r. end_number (get_or ends r None) - 1) (filter (is_top flags ends) (upto n))

-- Starts of n runs, which do not fall
pub record Starts (starts : List ℕ) (n : ℕ) : Type 0 where
  pub few : n ≤ max_runs
  pub fits : n < length starts
  pub climb : (r : ℕ) → r < n → get_or starts r 0 ≤ get_or starts (suc r) 0
