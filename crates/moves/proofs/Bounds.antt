-- How many events the moves of a visit move at most. Assumes nothing.
use Rattle.std.proofs.Common.{Bool, true, false, List, [], ◌∷◌, ◌++◌, ℕ, zero, suc, ◌+◌, ◌-◌, ◌*◌, ◌/◌, ◌≤◌, ◌<◌, ◌^◌, arith, length, get_or, drop, ltb, eqb, length-take, length-drop, length-append}
use Rattle.std.specs.Prelude.{Ok, Err}
use Rattle.model.specs.Limits.{max_runs}
use Rattle.model.specs.Refusals.{Outcome}
use Rattle.lists.specs.Areas.{part}
use Rattle.moves.specs.declared.writing.Kind.{Kind}
use Rattle.moves.specs.declared.writing.Kind.TheVariants.{Retreat, Advance, Apply}
use Rattle.moves.specs.Emit.{Rec, Writing, step_of, going, stopped, if_going, pick, put3, kind_word, emit_one, emit, applies, ByCount}
use Rattle.moves.specs.Stretches.{Below, span_of, pick_l, stretch_from, stretches}
use Rattle.moves.specs.Moves.{runs_of, moves_from, visit_of}

-- Each record moves fewer than 2 ^ 32 events
abbrev pub Light : List Rec → Type 0
Light [] = Unit {0}
Light (r ∷ rs) = (r.events < 2 ^ 32) × Light rs

light_append : (rs ss : List Rec) → Light rs → Light ss → Light (rs ++ ss)
light_append [] ss h k = k
light_append (r ∷ rs) ss h k = (h.0, light_append rs ss h.1 k)

-- What is written in one case or in the other moves no more than both may
if_moved : (o : Outcome) (next w : Writing) (m : ℕ) → next.0.moved ≤ m → w.0.moved ≤ m → (if_going o next w).0.moved ≤ m
if_moved (Ok u) next w m h k = h
if_moved (Err e) next w m h k = k

pick_moved : (t : Bool) (a b : Writing) (m : ℕ) → a.0.moved ≤ m → b.0.moved ≤ m → (pick t a b).0.moved ≤ m
pick_moved true a b m h k = h
pick_moved false a b m h k = k

-- One record moves its events at most
pub one_moved : (w : Writing) (r : Rec) → (emit_one w r).0.moved ≤ w.0.moved + r.events
one_moved w r =
    let put : Writing = (going (w.0.count + 1) (w.0.moved + r.events), put3 w.1 (3 * w.0.count) (kind_word r.kind) r.first r.past) in
    let full : Writing = (stopped w.0.count w.0.moved, w.1) in
    let fits : Bool = ltb w.0.count (length w.1 / 3) in
    if_moved w.0.outcome (pick fits put full) w (w.0.moved + r.events) (pick_moved fits put full (w.0.moved + r.events) (omega arith) (omega arith)) (omega arith)

-- and where what stood before it moved at most 2 ^ 64 events for each step, so does what stands with it
pub one_by_count : (w : Writing) (r : Rec) → r.events ≤ 2 ^ 64 → ByCount w → ByCount (emit_one w r)
one_by_count w r low h = go w.0.outcome (ltb w.0.count (length w.1 / 3))
  where
    go : (o : Outcome) (t : Bool) → ByCount (if_going o (pick t (going (w.0.count + 1) (w.0.moved + r.events), put3 w.1 (3 * w.0.count) (kind_word r.kind) r.first r.past)
        (stopped w.0.count w.0.moved, w.1)) w)
    go (Ok u) true = omega (arith, low, h)
    go (Ok u) false = h
    go (Err e) t = h

-- Applies move none
pub applies_moved : (w : Writing) (a n : ℕ) → (emit w (applies a n)).0.moved ≤ w.0.moved
unfolding emit applies
applies_moved w a zero = omega arith
applies_moved w a (suc n) =
    let r : Rec = step_of Apply a (a + 1) 0 in
    omega (arith, applies_moved (emit_one w r) (a + 1) n, one_moved w r)

-- so many records move fewer than 2 ^ 32 each
pub emit_moved : (w : Writing) (rs : List Rec) → Light rs → (emit w rs).0.moved ≤ w.0.moved + length rs * 2 ^ 32
unfolding emit
emit_moved w [] h = omega arith
emit_moved w (r ∷ rs) h = omega (arith, emit_moved (emit_one w r) rs h.1, one_moved w r, h.0)

-- nor do they take away that what stands there moved at most 2 ^ 64 for each step
pub emit_by_count : (w : Writing) (rs : List Rec) → Light rs → ByCount w → ByCount (emit w rs)
unfolding emit
emit_by_count w [] h low = low
emit_by_count w (r ∷ rs) h low = emit_by_count (emit_one w r) rs h.1 (one_by_count w r (omega (arith, h.0)) low)

module _ (st : List ℕ) (k : Kind) (b : ℕ) where
  -- A stretch has a run at least
  from_few : (f l : ℕ) (xs : List ℕ) → length (stretch_from st k b f l xs) ≤ length xs + 1
  unfolding stretch_from
  from_few f l [] = omega arith
  from_few f l (x ∷ xs) = go (eqb x (l + 1)) (stretch_from st k b f x xs) (stretch_from st k b x x xs) (from_few f x xs) (from_few x x xs)
    where
      go : (t : Bool) (us vs : List Rec) → length us ≤ length xs + 1 → length vs ≤ length xs + 1 →
          length (pick_l t us (span_of st k b f l ∷ vs)) ≤ suc (length xs) + 1
      go true us vs p q = omega (arith, p)
      go false us vs p q = omega (arith, q)

  pub stretches_few : (l : List ℕ) → length (stretches st k b l) ≤ length l
  unfolding stretches
  stretches_few [] = omega arith
  stretches_few (x ∷ xs) = omega (arith, from_few x x xs)

  -- and moves fewer events than all runs have
  from_light : Below (2 ^ 32) st → (f l : ℕ) (xs : List ℕ) → Light (stretch_from st k b f l xs)
  unfolding stretch_from
  from_light h f l [] = (omega (arith, h (b + l + 1)), tt)
  from_light h f l (x ∷ xs) = go (eqb x (l + 1)) (stretch_from st k b f x xs) (stretch_from st k b x x xs) (from_light h f x xs) (from_light h x x xs)
    where
      go : (t : Bool) (us vs : List Rec) → Light us → Light vs → Light (pick_l t us (span_of st k b f l ∷ vs))
      go true us vs p q = p
      go false us vs p q = (omega (arith, h (b + l + 1)), q)

  pub stretches_light : Below (2 ^ 32) st → (l : List ℕ) → Light (stretches st k b l)
  unfolding stretches
  stretches_light h [] = tt
  stretches_light h (x ∷ xs) = from_light h x x xs

  -- The events that runs in stretches move
  pub stretches_moved : Below (2 ^ 32) st → (w : Writing) (l : List ℕ) → (emit w (stretches st k b l)).0.moved ≤ w.0.moved + length l * 2 ^ 32
  stretches_moved h w l = omega (arith, emit_moved w (stretches st k b l) (stretches_light h l), stretches_few l)

  module _ (members begins from to : List ℕ) where
    -- A chain has no more runs than there are members
    runs_few : (c : ℕ) → length (runs_of members begins from to c) ≤ length members
    unfolding runs_of part
    runs_few c =
        let s : ℕ = get_or begins c 0 + get_or to c 0 in
        let e : ℕ = get_or begins c 0 + get_or from c 0 in
        omega (arith, length-take (e - s) (drop s members), length-drop s members)

    -- nor do the moves of n chains have more records than that for each
    moves_few : length members ≤ 513 → (c n : ℕ) → length (moves_from st k b members begins from to c n) ≤ n * 513
    unfolding moves_from
    moves_few h c zero = omega arith
    moves_few h c (suc n) =
        let runs : List ℕ = runs_of members begins from to c in
        let rest : List Rec = moves_from st k b members begins from to (c + 1) n in
        omega (arith, length-append (stretches st k b runs) rest, stretches_few runs, runs_few c, moves_few h (c + 1) n)

    moves_light : Below (2 ^ 32) st → (c n : ℕ) → Light (moves_from st k b members begins from to c n)
    unfolding moves_from
    moves_light h c zero = tt
    moves_light h c (suc n) =
        let runs : List ℕ = runs_of members begins from to c in
        light_append (stretches st k b runs) (moves_from st k b members begins from to (c + 1) n) (stretches_light h runs) (moves_light h (c + 1) n)

    -- The events that the moves of one kind move on n chains: half of what a visit may
    pub moves_moved : Below (2 ^ 32) st → length members ≤ 513 → (w : Writing) (c n : ℕ) → n ≤ max_runs →
        (emit w (moves_from st k b members begins from to c n)).0.moved ≤ w.0.moved + 2 ^ 51
    moves_moved h short w c n few = omega (arith, emit_moved w (moves_from st k b members begins from to c n) (moves_light h c n), moves_few short c n, few)

-- The events that a visit moves: it retreats and advances on n chains, and its Apply moves none
pub visit_moved : (st : List ℕ) (b : ℕ) (members begins current row : List ℕ) (n run : ℕ) (w : Writing) → Below (2 ^ 32) st → n ≤ max_runs → length members ≤ 513 →
    (emit w (visit_of st b members begins current row n run)).0.moved ≤ w.0.moved + 2 ^ 52
unfolding visit_of
visit_moved st b members begins current row n run w h few short =
    let back : List Rec = moves_from st Retreat b members begins current row 0 n in
    let on : List Rec = moves_from st Advance b members begins row current 0 n in
    let last : List Rec = step_of Apply (b + run) (b + run + 1) 0 ∷ [] in
    let light : Light (back ++ (on ++ last)) = light_append back (on ++ last) (moves_light st Retreat b members begins current row h 0 n)
    (light_append on last (moves_light st Advance b members begins row current h 0 n) (omega arith, tt)) in
    omega (
      arith,
      emit_moved w (back ++ (on ++ last)) light,
      length-append back (on ++ last),
      length-append on last,
      few,
      moves_few st Retreat b members begins current row short 0 n,
      moves_few st Advance b members begins row current short 0 n,
    )
