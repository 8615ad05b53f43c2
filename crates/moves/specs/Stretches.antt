-- Runs in stretches of consecutive numbers, a record for each. Assumes nothing.
use Rattle.std.specs.Prelude.{Bool, true, false, List, [], ◌∷◌, ℕ, ◌+◌, ◌-◌, ◌<◌, get_or, eqb}
use Rattle.moves.specs.declared.writing.Kind.{Kind}
use Rattle.moves.specs.Emit.{Rec, step_of}

-- Each number is below n
abbrev pub Below : ℕ → List ℕ → Type 0
Below n l = (i : ℕ) → get_or l i 0 < n

-- The runs f to l of a range that begins at run b, of runs that start at st
abbrev pub span_of : List ℕ → Kind → ℕ → ℕ → ℕ → Rec
span_of st k b f l = step_of k (b + f) (b + l + 1) (get_or st (b + l + 1) 0 - get_or st (b + f) 0)

abbrev pub pick_l : Bool → List Rec → List Rec → List Rec
pick_l true a b = a
pick_l false a b = b

-- The open stretch f to l, and those of the runs that follow
unfoldable pub stretch_from : List ℕ → Kind → ℕ → ℕ → ℕ → List ℕ → List Rec
stretch_from st k b f l [] = span_of st k b f l ∷ []
stretch_from st k b f l (x ∷ xs) =
    pick_l (eqb x (l + 1)) (stretch_from st k b f x xs) (span_of st k b f l ∷ stretch_from st k b x x xs)

-- All stretches of some runs
unfoldable pub stretches : List ℕ → Kind → ℕ → List ℕ → List Rec
stretches st k b [] = []
stretches st k b (x ∷ xs) = stretch_from st k b x x xs
