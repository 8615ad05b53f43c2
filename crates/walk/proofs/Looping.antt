-- The walk's loop over the tables of its range: what a visit needs, and what it leaves. Assumes nothing.
use Rattle.std.proofs.Common.{◌≡◌, refl, sym, ap, ap₂, ◌∙◌, subst, ◌⊎◌, inl, inr, true, not, List, [], ◌∷◌, ◌++◌, ℕ, ◌+◌, ◌-◌, ◌*◌, ◌^◌, ◌≤◌, ◌<◌, min, max, arith, length, get_or, length-take}
use Rattle.std.proofs.Common.{take, replicate, get_or-take, eqb, eqb-true}
use mathlib.Core.Option.{Option, none, some}
use Rattle.std.specs.Prelude as code
use Rattle.std.specs.Prelude.{Err}
use Rattle.model.specs.declared.answers.Refusal.{Refusal}
use lib.ListN.{length-replicate}
use Rattle.lists.specs.Lists.{mem, filter, upto, reverse}
use Rattle.lists.proofs.Truth.{false_true, or_cases}
use Rattle.lists.proofs.Each.{All, members, all_map, all_take, all-reverse}
use Rattle.lists.proofs.Members.{get_d_mem}
use Rattle.model.specs.History.{at, histories}
use Rattle.model.specs.Choice.{Range, is_ready, is_last, newly_ready, apart, choice}
use Rattle.model.specs.Steps.{Step, visit, steps_of}
use Rattle.model.proofs.Histories.{Below, history-length}
use Rattle.model.proofs.Choosing.{ready_after}
use Rattle.tables.specs.Laid.{chs}
use Rattle.tables.specs.Tables.{Reaches, children_of}
use Rattle.tables.specs.Gaps.{gaps_from}
use Rattle.tables.specs.Reached.{started, arrived, Holds, Standing}
use Rattle.tables.proofs.Chaining.{chs-few}
use Rattle.tables.proofs.Fitted.{chains_are}
use Rattle.tables.proofs.RowsIn.{row-reaches}
use Rattle.tables.proofs.Reaching.{arrive_reaches, chain_fits, place-fits, start-reaches}
use Rattle.tables.proofs.ClosedSets.{Closed, closed_falls, history-closed, visited_closed, first-closed}
use Rattle.tables.proofs.Distances.{distance_is}
use Rattle.moves.specs.Emit.{Writing, emit}
use Rattle.moves.specs.Moves.{recs}
use Rattle.moves.specs.Stretches as stretches
use Rattle.moves.proofs.Emitting.{ends_refused}
use Rattle.moves.proofs.Written.{emit_then}
use Rattle.moves.proofs.Bounds.{visit_moved}
use Rattle.moves.proofs.Defined.{inside, visit-is}
use Rattle.walk.specs.Ranges.{range_by}
use Rattle.walk.specs.Given.{Given, chains_in, places_in, begins_in, members_in, sums_in, row_for, children_for, parents_for, range_for, chains_for, Prepared}
use Rattle.walk.specs.Choose.{index_of, is_only, only_c, cost_c, weight_c}
use Rattle.walk.specs.Readiness.{start_all, start_waits, woken_of, taken_out}
use Rattle.walk.specs.declared.visiting.Progress.{Progress}
use Rattle.walk.specs.Turns.{best_in, run_at, visited, Turned, Ready, Fit, Begun}
use Rattle.walk.proofs.Newest.{newest}
use Rattle.walk.proofs.Chosen.{found_some, found_low, choice_found}
use Rattle.walk.proofs.Distinct.{Once, rising-once}
use Rattle.walk.proofs.Waiting.{left_of, left-start}
use Rattle.walk.proofs.Telling.{Tells, told_list, told_none, left-told}
use Rattle.walk.proofs.Removing.{taken_tells, turn_tells}
use Rattle.walk.proofs.Starting.{length-grouped, start_tells}
use Rattle.walk.proofs.Turning.{Walking, walk_start, walk_end, walk_next, is-ready, fewer_due}

-- Steps written as records
abbrev pub written : List ℕ → Writing → List Step → Writing
written st v ss = emit v (recs st ss)

pub written_none : (st : List ℕ) (v : Writing) → written st v [] ≡ v
written_none st v = unfold emit in refl

pub written-append : (st : List ℕ) (v : Writing) (ss ts : List Step) → written st v (ss ++ ts) ≡ written st (written st v ss) ts
written-append st v ss ts = sym (emit_then st v ss ts)

-- The last run visited, as the definitions have it
abbrev pub last_of : code.Option ℕ → Option ℕ
last_of code.None = none
last_of (code.Some r) = some r

-- The last run visited, if there is one, is one of a range
abbrev pub LastLow : Option ℕ → Type 0
LastLow none = Unit {0}
LastLow (some r) = r < 512

-- What holds of all holds of a member
all-mem : (Q : ℕ → Type 0) (xs : List ℕ) → All Q xs → (x : ℕ) → mem x xs ≡ true → Q x
unfolding mem
all-mem Q [] h x m = false_true m
all-mem Q (y ∷ ys) h x m = go (or_cases (eqb x y) (mem x ys) m) (λ e. all-mem Q ys h.1 x e)
  where
    go : (eqb x y ≡ true) ⊎ (mem x ys ≡ true) → (mem x ys ≡ true → Q x) → Q x
    go (inl e) rec = subst Q (sym (eqb-true x y e)) h.0
    go (inr e) rec = rec e

module _ (g : Given) (P : Prepared g) where
  abbrev pss : List (List ℕ)
  pss = parents_for g

  abbrev H : List (List ℕ)
  H = histories (parents_for g)

  abbrev C : List (List ℕ)
  C = chains_for g

  abbrev W : Range
  W = range_for g

  pub size : length pss ≡ g.runs
  unfolding parents_for
  size = length-grouped g.areas.parents.starts g.areas.parents.items g.runs P.sound.long

  pub below : Below pss
  unfolding parents_for
  below = P.sound.below

  pub once : (x : ℕ) → Once (at pss x)
  once x = rising-once (at pss x) (P.rise x)

  pub parents_are : W.parents ≡ pss
  unfolding range_for range_by
  parents_are = refl

  pub history-is : W.history ≡ H
  unfolding range_for range_by
  history-is = refl

  pub chains-is : W.chains ≡ C
  unfolding range_for range_by chains_for
  chains-is = chains_are H ∙ ap (chs H) (history-length pss)

  -- A run's row reaches as far as its history
  pub row_is : (r : ℕ) → r < g.runs → Reaches C (at H r) (row_for g r)
  unfolding chains_for
  row_is r lt = subst (Reaches C (at H r)) (sym (P.rows r lt)) (row-reaches pss below r (omega (arith, size)))

  -- Chains are few, and a run's chain and place are among theirs
  pub few-chains : g.chains ≤ 512
  unfolding chains_for
  few-chains = omega (arith, P.few, size, P.number, chs-few H (length pss))

  pub chain-low : (r : ℕ) → r < g.runs → get_or (chains_in g) r 0 < g.chains
  unfolding chains_for
  chain-low r lt = omega (
    arith,
    P.number,
    chain_fits pss below (chains_in g) (places_in g) (λ m l. P.chain m (omega (arith, size)))
        (λ m l. P.place m (omega (arith, size))) r (omega (arith, lt, size)),
  )

  pub place-low : (r : ℕ) → r < g.runs → get_or (places_in g) r 0 < 512
  place-low r lt = omega (
    arith,
    P.few,
    size,
    place-fits pss below (chains_in g) (places_in g) (λ m l. P.chain m (omega (arith, size)))
        (λ m l. P.place m (omega (arith, size))) r (omega (arith, lt, size)),
  )

  -- as a walk's start needs it
  pub standing : Standing (chains_in g) (places_in g) g.chains g.known
  standing = record {
    chains = λ r lt. chain-low r (omega (arith, lt, P.known, P.first));
    places = λ r lt. place-low r (omega (arith, lt, P.known, P.first));
  }

  -- Closed sets meet the chains in prefixes
  prefixed : (s : List ℕ) → Closed pss s → (c : ℕ) → c < length C → (i j : ℕ) → i < j → j < length (at C c) → mem (get_or (at C c) j 0) s ≡ true → mem (get_or (at C c) i 0) s ≡ true
  unfolding chains_for
  prefixed s cl c lt = closed_falls pss s cl (length pss) c

  pub few-members : length (members_in g) ≤ 513
  unfolding members_in
  few-members = omega (arith, length-take (g.runs + 1) g.areas.members.runs, P.few)

  -- A visit moves 2 ^ 52 events at most, where runs start at numbers of 32 bits
  visit_moves : stretches.Below (2 ^ 32) g.starts → (t : Progress) (v : Writing) → (emit v (visited g t)).0.moved ≤ v.0.moved + 2 ^ 52
  unfolding visited
  visit_moves small t v = visit_moved g.starts g.base (members_in g) (begins_in g) t.version (row_for g (run_at g t)) g.chains (run_at g t) v small few-chains few-members

  -- Where the walk stands: `fuel` visits at most are left
  module _ (whole : Writing) where
    pub record Walks (fuel : ℕ) (t : Progress) (v : Writing) : Type 0 where
      pub version : List ℕ
      pub last : Option ℕ
      pub visited : List ℕ
      pub ready : List ℕ
      pub walking : Walking Writing (written g.starts) (written_none g.starts) (written-append g.starts) W g.base g.known g.first whole version last visited ready fuel v
      pub reaches : Reaches C version t.version
      pub closed : Closed pss version
      pub tells : Tells W g.known g.first visited ready t.waits
      pub left : t.left ≡ left_of W g.known g.first visited
      pub last-is : last ≡ last_of t.last

    module _ (fuel : ℕ) (t : Progress) (v : Writing) (S : Walks fuel t v) where
      -- A run of the ready list
      listed : (i : ℕ) → i < t.waits.0 → mem (get_or t.waits.2 i 0) S.ready ≡ true
      listed i lt =
          let l = told_list W g.known g.first S.visited S.ready t.waits S.tells in
          let e : get_or t.waits.2 i 0 ≡ get_or S.ready i 0 = sym (get_or-take t.waits.0 t.waits.2 i 0 lt) ∙ ap (λ (x : List ℕ). get_or x i 0) l in
          subst (λ (x : ℕ). mem x S.ready ≡ true) (sym e) (get_d_mem S.ready i 0 (omega (arith, S.tells.says.number)))

      ready-low : (x : ℕ) → mem x S.ready ≡ true → x < g.runs
      ready-low x m = omega (arith, S.walking.going.under x m, ap length parents_are, size)

      run-low : (i : ℕ) → i < t.waits.0 → get_or t.waits.2 i 0 < g.runs
      run-low i lt = ready-low (get_or t.waits.2 i 0) (listed i lt)

      pub is_ready_list : Ready g t
      is_ready_list = record { room = omega (arith, S.tells.says.number, S.tells.says.room); low = run-low }

      -- of the newest ones
      newest_low : (x : ℕ) → mem x (newest t.waits.2 t.waits.0) ≡ true → x < g.runs
      newest_low x m = all-mem (λ y. y < g.runs) (newest t.waits.2 t.waits.0)
          (all_take (λ y. y < g.runs) 64 (reverse [] (take t.waits.0 t.waits.2))
          (all-reverse (λ y. y < g.runs) [] (take t.waits.0 t.waits.2) tt
          (subst (All (λ y. y < g.runs)) (sym (told_list W g.known g.first S.visited S.ready t.waits S.tells))
          (all_map (λ y m. ready-low y m) S.ready (members S.ready))))) x m

    -- While a run is ready
    module _ (fuel : ℕ) (t : Progress) (v : Writing) (S : Walks fuel t v) (some-ready : 0 < t.waits.0) where
      found : (index_of (best_in g t)) < t.waits.0
      unfolding best_in
      found = found_low t.waits.0 _ (found_some _ _ _ t.waits.2 t.waits.0 some-ready)

      abbrev r : ℕ
      r = run_at g t

      low : r < g.runs
      unfolding run_at
      low = run-low fuel t v S (index_of (best_in g t)) found

      -- What a visit needs
      pub fit : Fit g t
      unfolding chains_for
      fit = record {
        ready = is_ready_list fuel t v S;
        below = found;
        from = λ c lt. inside C (begins_in g) (members_in g) P.listed S.version t.version S.reaches c (omega (arith, P.number));
        to = λ c lt. inside C (begins_in g) (members_in g) P.listed (at H r) (row_for g r) (row_is r low) c (omega (arith, P.number));
      }

      -- The run visited is the one that the definitions choose
      only-is : (o : code.Option ℕ) (x : ℕ) → only_c g o x ≡ is_last (last_of o) (at pss x)
      unfolding only_c is_only is_last
      only-is code.None x = refl
      only-is (code.Some l) x = refl

      cost_is : (x : ℕ) → x < g.runs → cost_c g t.version x ≡ apart W S.version (at H x)
      unfolding cost_c chains_for
      cost_is x lt =
          ap (λ (k : ℕ). gaps_from (sums_in g) (begins_in g) t.version (row_for g x) 0 k) P.number ∙
          distance_is pss (λ m. get_or W.sizes m 0) (begins_in g) (sums_in g) P.sums W S.version (at H x) t.version (row_for g x) (λ m l. refl) S.closed
          (history-closed pss below x (omega (arith, size))) S.reaches (row_is x lt)

      pub choice-is : choice W S.version S.last S.ready ≡ some r
      unfolding run_at best_in
      choice-is =
          let l = told_list W g.known g.first S.visited S.ready t.waits S.tells in
          ap (choice W S.version S.last) (sym l) ∙
          choice_found W S.version S.last (only_c g t.last) (cost_c g t.version) (weight_c g) t.waits.2 t.waits.0 (omega (arith, S.tells.says.number, S.tells.says.room)) some-ready
          (λ x m. let lt : x < g.runs = newest_low fuel t v S x m in (
            only-is t.last x ∙ (ap (λ (o : Option ℕ). is_last o (at pss x)) (sym S.last-is) ∙ ap (λ (ps : List (List ℕ)). is_last S.last (at ps x)) (sym parents_are)),
            cost_is x lt ∙ ap (λ (hs : List (List ℕ)). apart W S.version (at hs x)) (sym history-is),
            P.weights x lt,
          ))

      ready-is : is_ready W g.known g.first S.visited r ≡ true
      ready-is = is-ready Writing (written g.starts) (written_none g.starts) (written-append g.starts) W g.base g.known g.first whole
          S.version S.last S.visited S.ready fuel v S.walking r choice-is

      -- One visit fewer is left
      pub fuel_some : 1 ≤ fuel
      fuel_some = omega (
        arith,
        S.walking.enough,
        fewer_due Writing (written g.starts) (written_none g.starts) (written-append g.starts) W g.base g.known g.first whole
            S.version S.last S.visited S.ready fuel v S.walking r choice-is,
      )

      visit-written : visited g t ≡ recs g.starts (visit W g.base S.version r)
      unfolding visited
      visit-written = visit-is C (begins_in g) (members_in g) P.listed W g.starts g.base r g.chains S.version t.version (row_for g r) (sym chains-is) P.number
          (prefixed S.version S.closed) (subst (λ (h : List ℕ). (c : ℕ) → c < length C → (i j : ℕ) → i < j → j < length (at C c) → mem
          (get_or (at C c) j 0) h ≡ true → mem (get_or (at C c) i 0) h ≡ true) (ap (λ (hs : List (List ℕ)). at hs r) (sym history-is))
          (prefixed (at H r) (history-closed pss below r (omega (arith, low, size))))) S.reaches
          (subst (λ (h : List ℕ). Reaches C h (row_for g r)) (ap (λ (hs : List (List ℕ)). at hs r) (sym history-is)) (row_is r low))

      -- A visit goes on with the walk
      pub next : (u : Progress) (v₂ : Writing) → Turned g t u → v₂ ≡ emit v (visited g t) → Walks (fuel - 1) u v₂
      unfolding chains_for
      next u v₂ T e = record {
        version = at H r ++ r ∷ [];
        last = some r;
        visited = r ∷ S.visited;
        ready = ready_after W g.known g.first S.visited S.ready r;
        walking = subst (λ (hs : List (List ℕ)). Walking Writing (written g.starts) (written_none g.starts) (written-append g.starts) W g.base g.known g.first whole
            (at hs r ++ r ∷ []) (some r) (r ∷ S.visited) (ready_after W g.known g.first S.visited S.ready r) (fuel - 1) v₂) history-is
            (walk_next Writing (written g.starts) (written_none g.starts) (written-append g.starts) W g.base g.known g.first whole
            S.version S.last S.visited S.ready fuel v S.walking r choice-is v₂
            (e ∙ ap (emit v) visit-written));
        reaches = arrive_reaches pss below r (get_or (chains_in g) r 0) (get_or (places_in g) r 0) (row_for g r) u.version (omega (arith, low, size)) (P.chain r low)
            (P.place r low) (row_is r low)
            (subst (λ (k : ℕ). Holds (arrived (row_for g r) (get_or (chains_in g) r 0) (get_or (places_in g) r 0)) k u.version) P.number T.version);
        closed = visited_closed pss below r (omega (arith, low, size));
        tells = subst (Tells W g.known g.first (r ∷ S.visited) (ready_after W g.known g.first S.visited S.ready r)) (sym (T.woken ∙ woken-is))
            (turn_tells W g.known g.first S.visited S.ready t.waits (index_of (best_in g t)) r t.left S.walking.going S.tells found run_is ready-is S.left
            (omega (arith, P.first, ap length parents_are, size)));
        left = T.left ∙ left-told W g.known g.first S.visited S.ready r S.walking.going ready-is
            (t.waits.0 - 1, t.waits.1, taken_out t.waits.2 t.waits.0 (index_of (best_in g t))) taken t.left S.left;
        last-is = sym (ap last_of T.last);
      }
        where
          run_is : get_or t.waits.2 (index_of (best_in g t)) 0 ≡ r
          run_is = unfold run_at in refl

          taken : Tells W g.known g.first S.visited (filter (λ x. not (eqb x r)) S.ready) (t.waits.0 - 1, t.waits.1, taken_out t.waits.2 t.waits.0 (index_of (best_in g t)))
          taken = taken_tells W g.known g.first S.visited S.ready t.waits (index_of (best_in g t)) r S.walking.going S.tells found run_is

          kids : children_for g r ≡ children_of W.parents r
          kids = unfold children_for in (P.children.each r (omega (arith, low, size)) ∙ ap (λ (ps : List (List ℕ)). children_of ps r) (sym parents_are))

          woken-is : woken_of (t.waits.0 - 1, t.waits.1, taken_out t.waits.2 t.waits.0 (index_of (best_in g t))) (children_for g r) r g.known g.first g.runs t.left ≡
              woken_of (t.waits.0 - 1, t.waits.1, taken_out t.waits.2 t.waits.0 (index_of (best_in g t))) (children_of W.parents r) r g.known g.first (length W.parents) t.left
          woken-is = ap₂ (λ (ks : List ℕ) (n : ℕ). woken_of (
            t.waits.0 - 1,
            t.waits.1,
            taken_out t.waits.2 t.waits.0
                (index_of (best_in g t)),
          ) ks r g.known g.first n t.left) kids (sym (ap length parents_are ∙ size))

      -- One that was refused: what is written is all that finds room
      pub next-refused : {f : Refusal} {k m : ℕ} {ws : List ℕ} → let v₂ : Writing = (record { count = k; moved = m; outcome = Err f }, ws) in
          v₂ ≡ emit v (visited g t) → v₂ ≡ whole
      next-refused {f} {k} {m} {ws} e =
          let v₂ : Writing = (record { count = k; moved = m; outcome = Err f }, ws) in
          let later = walk_next Writing (written g.starts) (written_none g.starts) (written-append g.starts) W g.base g.known g.first whole
          S.version S.last S.visited S.ready fuel v S.walking r choice-is v₂ (e ∙ ap (emit v) visit-written) in
          ends_refused _ later.writes refl

    -- Nothing is ready: all is written
    pub ended : (fuel : ℕ) (t : Progress) (v : Writing) → Walks fuel t v → t.waits.0 ≤ 0 → v ≡ whole
    ended fuel t v S none-ready = walk_end Writing (written g.starts) (written_none g.starts) (written-append g.starts) W g.base g.known g.first whole
        S.version S.last S.visited S.ready fuel v S.walking
        (told_none W g.known g.first S.visited S.ready t.waits S.tells none-ready S.version S.last)

  -- How it begins
  pub begun : (t : Progress) (v : Writing) → Begun g t → Walks (emit v (recs g.starts (steps_of W g.base g.known g.first))) g.runs t v
  unfolding chains_for
  begun t v B = record {
    version = upto g.known;
    last = none;
    visited = [];
    ready = newly_ready W g.known g.first [] [];
    walking = subst (λ (k : ℕ). Walking Writing (written g.starts) (written_none g.starts) (written-append g.starts) W g.base g.known g.first
        (emit v (recs g.starts (steps_of W g.base g.known g.first))) (upto g.known) none [] (newly_ready W g.known g.first [] []) k v) (ap length parents_are ∙ size)
        (subst (λ (f : ℕ). Walking Writing (written g.starts) (written_none g.starts) (written-append g.starts) W g.base g.known f
        (emit v (recs g.starts (steps_of W g.base g.known g.first))) (upto g.known) none [] (newly_ready W g.known f [] []) (length W.parents) v) clamp
        (walk_start Writing (written g.starts) (written_none g.starts) (written-append g.starts) W g.base g.known g.first v
        (λ x. subst (λ (ps : List (List ℕ)). Once (at ps x)) (sym parents_are) (once x)) (λ x p m. below x p (rw parents_are at m))
        (omega (arith, P.known, P.first, ap length parents_are, size))));
    reaches = start-reaches pss below (chains_in g) (places_in g) (λ m lt. P.chain m (omega (arith, size)))
        (λ m lt. P.place m (omega (arith, size))) g.known t.version (omega (arith, P.known, P.first, size))
        (subst (λ (k : ℕ). Holds (started (chains_in g) (places_in g) g.known) k t.version) P.number B.version);
    closed = first-closed pss below g.known (omega (arith, P.known, P.first, size));
    tells = subst (Tells W g.known g.first [] (newly_ready W g.known g.first [] [])) (sym waits-are)
        (start_tells W g.known g.first (replicate g.runs 0) (replicate 512 0) (length-replicate {A = ℕ} g.runs 0 ∙ sym (ap length parents_are ∙ size))
        (omega (arith, length-replicate {A = ℕ} 512 0, P.few, ap length parents_are, size)));
    left = B.left ∙ sym (left-start W g.known g.first);
    last-is = sym (ap last_of B.last);
  }
    where
      clamp : max g.known (min g.first (length W.parents)) ≡ g.first
      clamp = omega (arith, P.known, P.first, ap length parents_are, size)

      waits-are : t.waits ≡ start_all g.known g.first (0, replicate g.runs 0, replicate 512 0) 0 W.parents
      waits-are = B.waits ∙ (unfold start_waits in (ap (start_all g.known g.first (0, replicate g.runs 0, replicate 512 0) 0) (sym parents_are)))

  -- So it stands, and the last run visited is one of a range, and by the visits that are left all moves no more than `most`
  module _ (whole : Writing) (most : ℕ) where
    pub record WalksWithin (fuel : ℕ) (t : Progress) (v : Writing) : Type 0 where
      pub walks : Walks whole fuel t v
      pub last-low : LastLow walks.last
      pub moved : stretches.Below (2 ^ 32) g.starts → v.0.moved + fuel * 2 ^ 52 ≤ most

    -- While a run is ready
    module _ (fuel : ℕ) (t : Progress) (v : Writing) (S : WalksWithin fuel t v) (some-ready : 0 < t.waits.0) where
      -- If all fits 63 bits, what the visit moves does too
      pub fit-moved : stretches.Below (2 ^ 32) g.starts → most + 2 ^ 52 < 2 ^ 63 → v.0.moved + 2 ^ 52 < 2 ^ 63
      fit-moved small budget = omega (arith, S.moved small, budget)

      -- and with what is left the visit moves no more than that
      pub next-moved : stretches.Below (2 ^ 32) g.starts → (v₂ : Writing) → v₂ ≡ emit v (visited g t) → v₂.0.moved + (fuel - 1) * 2 ^ 52 ≤ most
      next-moved small v₂ e =
          omega (arith, ap (λ (x : Writing). x.0.moved) e, visit_moves small t v, S.moved small, fuel_some whole fuel t v S.walks some-ready)

      -- A visit goes on with the walk
      pub next-within : (u : Progress) (v₂ : Writing) → Turned g t u → v₂ ≡ emit v (visited g t) → WalksWithin (fuel - 1) u v₂
      unfolding next
      next-within u v₂ T e = record {
        walks = next whole fuel t v S.walks some-ready u v₂ T e;
        last-low = omega (arith, low whole fuel t v S.walks some-ready, P.few);
        moved = λ small. next-moved small v₂ e;
      }

  -- How it begins
  pub begun-within : (t : Progress) (v : Writing) → Begun g t → WalksWithin (emit v (recs g.starts (steps_of W g.base g.known g.first))) (v.0.moved + g.runs * 2 ^ 52) g.runs t v
  unfolding begun
  begun-within t v B = record { walks = begun t v B; last-low = tt; moved = λ small. omega arith }
