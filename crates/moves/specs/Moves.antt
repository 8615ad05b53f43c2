-- A visit's records, by the chains' members; the definitions' steps as records. Assumes nothing.
use Rattle.std.specs.Prelude.{List, [], ◌∷◌, ◌++◌, map, ℕ, zero, suc, ◌+◌, ◌-◌, ◌≤◌, length, get_or}
use Rattle.lists.specs.Areas.{part}
use Rattle.model.specs.Steps.{Step, retreat, advance, opened, apply}
use Rattle.moves.specs.declared.writing.Kind.{Kind}
use Rattle.moves.specs.declared.writing.Kind.TheVariants.{Retreat, Advance, Apply, Open}
use Rattle.moves.specs.Emit.{Rec, step_of}
use Rattle.moves.specs.Stretches.{stretches}

-- The runs of chain c in one version and not in the other
unfoldable pub runs_of : List ℕ → List ℕ → List ℕ → List ℕ → ℕ → List ℕ
runs_of members begins from to c = part (get_or begins c 0 + get_or to c 0) (get_or begins c 0 + get_or from c 0) members

-- What a version has of chain c lies in the members
abbrev pub Inside : List ℕ → List ℕ → List ℕ → ℕ → Type 0
Inside members begins from c = get_or begins c 0 + get_or from c 0 ≤ length members

-- The moves of kind k of n chains from chain c on
unfoldable pub moves_from : List ℕ → Kind → ℕ → List ℕ → List ℕ → List ℕ → List ℕ → ℕ → ℕ → List Rec
moves_from st k b members begins from to c zero = []
moves_from st k b members begins from to c (suc n) =
    stretches st k b (runs_of members begins from to c) ++ moves_from st k b members begins from to (c + 1) n

-- A visit: retreats, advances, Apply
unfoldable pub visit_of : List ℕ → ℕ → List ℕ → List ℕ → List ℕ → List ℕ → ℕ → ℕ → List Rec
visit_of st b members begins current row n run =
    moves_from st Retreat b members begins current row 0 n ++
    (moves_from st Advance b members begins row current 0 n ++ step_of Apply (b + run) (b + run + 1) 0 ∷ [])

-- A step of the definitions as a record, of runs that start at st
unfoldable pub rec_of : List ℕ → Step → Rec
rec_of st (retreat a b) = step_of Retreat a b (get_or st b 0 - get_or st a 0)
rec_of st (advance a b) = step_of Advance a b (get_or st b 0 - get_or st a 0)
rec_of st (apply r) = step_of Apply r (suc r) 0
rec_of st (opened a b) = step_of Open a b 0

abbrev pub recs : List ℕ → List Step → List Rec
recs st ss = map (rec_of st) ss
