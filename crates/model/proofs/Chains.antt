-- The chains of a range: they part its runs, each lies along ancestors, and each run stands in the first chain that it could join.
-- Assumes nothing.
use Rattle.std.proofs.Common.{◌≡◌, refl, sym, ap, ◌∙◌, subst, ◌⊎◌, inl, inr, ◌↔◌, Bool, true, false, List, [], ◌∷◌, ◌++◌, ℕ, zero, suc, ◌+◌, ◌-◌, ◌≤◌, ◌<◌, arith, length, ltb, eqb}
use Rattle.lists.specs.Lists.{bit, all, count, sum, concat, mem, occurs, rising}
use Rattle.lists.proofs.Truth.{false_true, or_cases, or_left, or_right}
use Rattle.lists.proofs.Members.{mem-append, mem_one, all-at, all_fails}
use Rattle.lists.proofs.Counts.{count-append, length_snoc}
use Rattle.lists.proofs.Bounds.{below_of}
use Rattle.lists.proofs.Rising.{rising_snoc}
use Rattle.model.specs.Graph.{Graph, runs}
use Rattle.model.specs.Broken.{WellFormed}
use Rattle.model.specs.History.{at, histories}
use Rattle.model.specs.Range.{parents_in, join, chains_from}
use Rattle.model.specs.Choice.{range_of}
use Rattle.model.specs.Meaning.{RunBefore, Chains}
use Rattle.model.proofs.Histories.{fit_below, history-length, parents-length, history-is}
use Rattle.model.proofs.Moves.{in_chains, chains_hold}

-- What stands in the chains stands in their members taken together, as often
in_concat : (x : ℕ) (cs : List (List ℕ)) → occurs x (concat cs) ≡ in_chains x cs
unfolding in_chains sum concat occurs count
in_concat x [] = refl
in_concat x (c ∷ cs) = count-append (λ m. eqb m x) c (concat cs) ∙ ap (λ n. occurs x c + n) (in_concat x cs)

-- A member of a chain is one of the chains
mem-concat : (x k : ℕ) (cs : List (List ℕ)) → mem x (at cs k) ≡ true → mem x (concat cs) ≡ true
unfolding at concat mem
mem-concat x k [] m = false_true m
mem-concat x zero (c ∷ cs) m = mem-append x c (concat cs) ∙ or_left (mem x (concat cs)) m
mem-concat x (suc k) (c ∷ cs) m = mem-append x c (concat cs) ∙ or_right (mem x c) (mem-concat x k cs m)

-- of a list and one more
mem_snoc : (x r : ℕ) (c : List ℕ) → mem x (c ++ r ∷ []) ≡ true → (mem x c ≡ true) ⊎ (x ≡ r)
mem_snoc x r c m = go (or_cases (mem x c) (mem x (r ∷ [])) (sym (mem-append x c (r ∷ [])) ∙ m))
  where
    go : (mem x c ≡ true) ⊎ (mem x (r ∷ []) ≡ true) → (mem x c ≡ true) ⊎ (x ≡ r)
    go (inl h) = inl h
    go (inr h) = inr (mem_one x r h)

-- With the histories H
module _ (H : List (List ℕ)) where
  -- A chain rises, and its lower runs are in the histories of the others
  pub record Along (c : List ℕ) : Type 0 where
    pub rises : rising c ≡ true
    pub seen : (x y : ℕ) → mem x c ≡ true → mem y c ≡ true → x < y → mem x (at H y) ≡ true

  -- Of a chain some lower run is not in the history of y
  abbrev pub Misses : List ℕ → ℕ → Type 0
  Misses c y = (x : ℕ) × (mem x c ≡ true) × (x < y) × (mem x (at H y) ≡ false)

  -- Chains below r: each has a run and lies along histories, and each run misses the chains before its own
  abbrev pub Fine : ℕ → List (List ℕ) → Type 0
  Fine r [] = Unit {0}
  Fine r (c ∷ cs) = Along c × ((x : ℕ) → mem x c ≡ true → x < r) × ((y : ℕ) → mem y (concat cs) ≡ true → Misses c y) × (0 < length c) × Fine r cs

  -- All their runs are below r
  fine_below : (r : ℕ) (cs : List (List ℕ)) → Fine r cs → (x : ℕ) → mem x (concat cs) ≡ true → x < r
  unfolding concat mem
  fine_below r [] F x m = false_true m
  fine_below r (c ∷ cs) F x m = go (or_cases (mem x c) (mem x (concat cs)) (sym (mem-append x c (concat cs)) ∙ m)) (λ h. fine_below r cs F.4 x h)
    where
      go : (mem x c ≡ true) ⊎ (mem x (concat cs) ≡ true) → (mem x (concat cs) ≡ true → x < r) → x < r
      go (inl h) ih = F.1 x h
      go (inr h) ih = ih h

  -- and below what is higher
  fine_later : (r : ℕ) (cs : List (List ℕ)) → Fine r cs → Fine (suc r) cs
  fine_later r [] F = tt
  fine_later r (c ∷ cs) F = (F.0, (λ x m. omega (arith, F.1 x m)), F.2, F.3, fine_later r cs F.4)

  -- A run that has seen a whole chain makes it longer
  along_snoc : (r : ℕ) (c : List ℕ) → Along c → ((x : ℕ) → mem x c ≡ true → x < r) → all (λ m. mem m (at H r)) c ≡ true → Along (c ++ r ∷ [])
  along_snoc r c A under h = record { rises = rising_snoc c r A.rises (below_of r c under); seen = λ x y m n lt. go x y lt (mem_snoc x r c m) (mem_snoc y r c n) }
    where
      go : (x y : ℕ) → x < y → (mem x c ≡ true) ⊎ (x ≡ r) → (mem y c ≡ true) ⊎ (y ≡ r) → mem x (at H y) ≡ true
      go x y lt (inl m) (inl n) = A.seen x y m n lt
      go x y lt (inl m) (inr n) = rw n (all-at (λ m. mem m (at H r)) c h x m)
      go x y lt (inr m) (inl n) = absurd (omega (arith, under y n))
      go x y lt (inr m) (inr n) = absurd (omega arith)

  -- What is in the chains after r has joined
  join_in : (r y : ℕ) (h : List ℕ) (cs : List (List ℕ)) → mem y (concat (join r h cs)) ≡ true → (mem y (concat cs) ≡ true) ⊎ (y ≡ r)
  unfolding join concat
  join_in r y h [] m = inr (mem_one y r m)
  join_in r y h (c ∷ cs) m = go (all (λ m. mem m h) c) m (λ k. join_in r y h cs k)
    where
      there : (mem y c ≡ true) ⊎ (mem y (concat cs) ≡ true) → mem y (c ++ concat cs) ≡ true
      there (inl k) = mem-append y c (concat cs) ∙ or_left (mem y (concat cs)) k
      there (inr k) = mem-append y c (concat cs) ∙ or_right (mem y c) k

      go : (t : Bool) → mem y (concat (elim t as (λ _. List (List ℕ)) [ true ↦ (c ++ r ∷ []) ∷ cs | false ↦ c ∷ join r h cs ])) ≡ true →
          (mem y (concat (join r h cs)) ≡ true → (mem y (concat cs) ≡ true) ⊎ (y ≡ r)) → (mem y (c ++ concat cs) ≡ true) ⊎ (y ≡ r)
      go true k ih = longer (or_cases (mem y (c ++ r ∷ [])) (mem y (concat cs)) (sym (mem-append y (c ++ r ∷ []) (concat cs)) ∙ k))
        where
          own : (mem y c ≡ true) ⊎ (y ≡ r) → (mem y (c ++ concat cs) ≡ true) ⊎ (y ≡ r)
          own (inl q) = inl (there (inl q))
          own (inr q) = inr q

          longer : (mem y (c ++ r ∷ []) ≡ true) ⊎ (mem y (concat cs) ≡ true) → (mem y (c ++ concat cs) ≡ true) ⊎ (y ≡ r)
          longer (inl q) = own (mem_snoc y r c q)
          longer (inr q) = inl (there (inr q))
      go false k ih = later (or_cases (mem y c) (mem y (concat (join r h cs))) (sym (mem-append y c (concat (join r h cs))) ∙ k))
        where
          own : (mem y (concat cs) ≡ true) ⊎ (y ≡ r) → (mem y (c ++ concat cs) ≡ true) ⊎ (y ≡ r)
          own (inl q) = inl (there (inr q))
          own (inr q) = inr q

          later : (mem y c ≡ true) ⊎ (mem y (concat (join r h cs)) ≡ true) → (mem y (c ++ concat cs) ≡ true) ⊎ (y ≡ r)
          later (inl q) = inl (there (inl q))
          later (inr q) = own (ih q)

  -- A run that joins
  pub join_fine : (r : ℕ) (cs : List (List ℕ)) → Fine r cs → Fine (suc r) (join r (at H r) cs)
  unfolding join concat
  join_fine r [] F = (
    record { rises = unfold rising in refl; seen = λ x y m n lt. absurd (omega (arith, mem_one x r m, mem_one y r n)) },
    (λ x m. omega (arith, mem_one x r m)),
    (λ y m. false_true (unfold mem in m)),
    omega arith,
    tt,
  )
  join_fine r (c ∷ cs) F = go (all (λ m. mem m (at H r)) c) refl (join_fine r cs F.4)
    where
      last : (x : ℕ) → (mem x c ≡ true) ⊎ (x ≡ r) → x < suc r
      last x (inl m) = omega (arith, F.1 x m)
      last x (inr e) = omega arith

      misses : (y : ℕ) → Misses c y → Misses (c ++ r ∷ []) y
      misses y M = (M.0, mem-append M.0 c (r ∷ []) ∙ or_left (mem M.0 (r ∷ [])) M.1, M.2, M.3)

      go : (t : Bool) → all (λ m. mem m (at H r)) c ≡ t → Fine (suc r) (join r (at H r) cs) →
          Fine (suc r) (elim t as (λ _. List (List ℕ)) [ true ↦ (c ++ r ∷ []) ∷ cs | false ↦ c ∷ join r (at H r) cs ])
      go true e ih = (
        along_snoc r c F.0 F.1 e,
        (λ x m. last x (mem_snoc x r c m)),
        (λ y m. misses y (F.2 y m)),
        omega (arith, length_snoc c r),
        fine_later r cs F.4,
      )
      go false e ih = (F.0, (λ x m. omega (arith, F.1 x m)), (λ y m. missed y (join_in r y (at H r) cs m)), F.3, ih)
        where
          missed : (y : ℕ) → (mem y (concat cs) ≡ true) ⊎ (y ≡ r) → Misses c y
          missed y (inl m) = F.2 y m
          missed y (inr q) =
              let f : (x : ℕ) × (mem x c ≡ true) × (mem x (at H r) ≡ false) = all_fails (λ m. mem m (at H r)) c e in
              rw q (f.0, f.1, F.1 f.0 f.1, f.2)

  -- All runs that join, in run order
  chains_fine : (r : ℕ) (cs hs : List (List ℕ)) → ((i : ℕ) → at H (r + i) ≡ at hs i) → Fine r cs → Fine (r + length hs) (chains_from r cs hs)
  unfolding chains_from at
  chains_fine r cs [] e F = let z : r + 0 ≡ r = omega arith in rw z F
  chains_fine r cs (h ∷ hs) e F =
      let z : r + suc (length hs) ≡ suc r + length hs = omega arith in
      let q : r + 0 ≡ r = omega arith in
      let own : at H r ≡ h = rw q at (e 0) in
      rw (z, ← own) (chains_fine (suc r) (join r (at H r) cs) hs (λ i. let k : suc r + i ≡ r + suc i = omega arith in rw k (e (suc i))) (join_fine r cs F))

  -- One chain
  fine_along : (r : ℕ) (cs : List (List ℕ)) → Fine r cs → (k : ℕ) → Along (at cs k)
  unfolding at
  fine_along r [] F k = record { rises = unfold rising in refl; seen = λ x y m n lt. false_true (unfold mem in m) }
  fine_along r (c ∷ cs) F zero = F.0
  fine_along r (c ∷ cs) F (suc k) = fine_along r cs F.4 k

  -- Each has a run
  fine_some : (r : ℕ) (cs : List (List ℕ)) → Fine r cs → (k : ℕ) → k < length cs → 0 < length (at cs k)
  unfolding at
  fine_some r [] F k lt = absurd (omega arith)
  fine_some r (c ∷ cs) F zero lt = F.3
  fine_some r (c ∷ cs) F (suc k) lt = fine_some r cs F.4 k (omega arith)

  -- Each run misses the chains before its own
  fine_misses : (r : ℕ) (cs : List (List ℕ)) → Fine r cs → (j k y : ℕ) → j < k → mem y (at cs k) ≡ true → Misses (at cs j) y
  unfolding at
  fine_misses r [] F j k y lt m = false_true (unfold mem in m)
  fine_misses r (c ∷ cs) F j zero y lt m = absurd (omega arith)
  fine_misses r (c ∷ cs) F zero (suc k) y lt m = F.2 y (mem-concat y k cs m)
  fine_misses r (c ∷ cs) F (suc j) (suc k) y lt m = fine_misses r cs F.4 j k y (omega arith) m

-- The chains of n runs from run a on
module _ (g : Graph) (formed : WellFormed g) (a n : ℕ) (fits : a + n ≤ length g.parents) where
  -- their histories
  abbrev H : List (List ℕ)
  H = histories (parents_in g a (a + n))

  -- their chains
  abbrev chains : List (List ℕ)
  chains = chains_from 0 [] H

  -- as many histories as runs
  size : length H ≡ n
  size = history-length (parents_in g a (a + n)) ∙ parents-length g a n fits

  -- The chains are fine
  fine : Fine H (length H) chains
  fine = let z : 0 + length H ≡ length H = omega arith in rw z at (chains_fine H 0 [] H (λ i. ap (at H) (omega arith)) tt)

  -- A history is the runs of the range that happened before the run
  in_history : (q r : ℕ) → r < n → (mem q (at H r) ≡ true) ↔ RunBefore g (a + q) (a + r)
  in_history q r lt = history-is g a n fits (fit_below g.parents formed.parents) q r lt

  -- Each run of a chain is a run of the range
  member : (k r : ℕ) → mem r (at chains k) ≡ true → r < n
  member k r m = omega (arith, fine_below H (length H) chains fine r (mem-concat r k chains m), size)

  -- So these are its chains
  span_chains : Chains g a (a + n) chains
  span_chains = record {
    part = λ r. in_concat r chains ∙ chains_hold r H ∙ ap (λ k. bit (ltb r k)) (size ∙ omega arith);
    some = fine_some H (length H) chains fine;
    rise = λ k. (fine_along H (length H) chains fine k).rises;
    along = λ k q r m p lt. (in_history q r (member k r p)).0 ((fine_along H (length H) chains fine k).seen q r m p lt);
    first = λ j k r lt m.
        let f : Misses H (at chains j) r = fine_misses H (length H) chains fine j k r lt m in
        (f.0, f.1, f.2, λ h. false_true (sym f.3 ∙ (in_history f.0 r (member k r m)).1 h));
  }

-- The chains of runs a to b-1
pub range_chains : (g : Graph) → WellFormed g → (a b : ℕ) → a ≤ b → b ≤ runs g → Chains g a b (range_of g a b).chains
unfolding range_of runs
range_chains g formed a b le fits =
    let z : a + (b - a) ≡ b = omega arith in
    subst (λ (c : ℕ). Chains g a c (chains_from 0 [] (histories (parents_in g a c)))) z (span_chains g formed a (b - a) (omega arith))
