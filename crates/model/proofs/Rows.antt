-- A run's row counts, along each chain of the range, the runs of its history: chains grow by later runs alone. Assumes nothing.
use Rattle.std.proofs.Common.{◌≡◌, refl, sym, ap, ◌∙◌, subst, ◌⊎◌, inl, inr, Bool, true, false, List, [], ◌∷◌, ◌++◌, append-nil, append_assoc, ℕ, zero, suc, ◌+◌, ◌-◌, ◌≤◌, ◌<◌, arith, length}
use Rattle.std.proofs.Common.{get_or, length-append, leb, le-leb}
use lib.ListN.{length-map, get_or-append, get_or-map, get_or-eq_default}
use borrow.Author.Tests.{lt-leb}
use Rattle.lists.specs.Lists.{all, count, mem}
use Rattle.lists.proofs.Truth.{lt_or_le, false_true, not_so, or_cases}
use Rattle.lists.proofs.Members.{mem-append, mem_one, get_d_mem}
use Rattle.lists.proofs.Counts.{count-append, count_same, count_none}
use Rattle.model.specs.Graph.{Graph, runs}
use Rattle.model.specs.Broken.{WellFormed}
use Rattle.model.specs.History.{at, histories}
use Rattle.model.specs.Range.{parents_in, join, chains_from, row, rows_from}
use Rattle.model.specs.Choice.{range_of}
use Rattle.model.specs.Meaning.{Row}
use Rattle.model.proofs.Histories.{fit_below, history-length, history-below, parents-length, parents-below}
use Rattle.model.proofs.Chains.{Fine, join_fine}

-- Chains of runs from n on alone, none empty
abbrev Late : ℕ → List (List ℕ) → Type 0
Late n [] = Unit {0}
Late n (d ∷ ds) = (0 < length d) × ((x : ℕ) → mem x d ≡ true → n ≤ x) × Late n ds

-- Chains grown by runs from n on alone
abbrev Grown : ℕ → List (List ℕ) → List (List ℕ) → Type 0
Grown n [] ds = Late n ds
Grown n (c ∷ cs) [] = ⊥
Grown n (c ∷ cs) (d ∷ ds) = ((e : List ℕ) × (d ≡ c ++ e) × ((x : ℕ) → mem x e ≡ true → n ≤ x)) × Grown n cs ds

-- none
grown-none : (n : ℕ) (cs : List (List ℕ)) → Grown n cs cs
unfolding mem
grown-none n [] = tt
grown-none n (c ∷ cs) = (([], sym (append-nil c), λ x m. false_true m), grown-none n cs)

-- the run that joins
join-grown : (r : ℕ) (h : List ℕ) (cs : List (List ℕ)) → Grown r cs (join r h cs)
unfolding join
join-grown r h [] = (omega arith, (λ x m. omega (arith, mem_one x r m)), tt)
join-grown r h (c ∷ cs) = go (all (λ m. mem m h) c) (join-grown r h cs)
  where
    go : (t : Bool) → Grown r cs (join r h cs) →
        Grown r (c ∷ cs) (elim t as (λ _. List (List ℕ)) [ true ↦ (c ++ r ∷ []) ∷ cs | false ↦ c ∷ join r h cs ])
    go true ih = ((r ∷ [], refl, λ x m. omega (arith, mem_one x r m)), grown-none r cs)
    go false ih = (([], sym (append-nil c), λ x m. false_true (unfold mem in m)), ih)

-- A member of two lists together
either-from : (n x : ℕ) (c e : List ℕ) → ((x : ℕ) → mem x c ≡ true → n ≤ x) → ((x : ℕ) → mem x e ≡ true → n ≤ x) → mem x (c ++ e) ≡ true → n ≤ x
either-from n x c e p q m = go (or_cases (mem x c) (mem x e) (sym (mem-append x c e) ∙ m))
  where
    go : (mem x c ≡ true) ⊎ (mem x e ≡ true) → n ≤ x
    go (inl h) = p x h
    go (inr h) = q x h

-- Late chains grown later are late
late_grown : (n m : ℕ) → n ≤ m → (cs ds : List (List ℕ)) → Late n cs → Grown m cs ds → Late n ds
late_grown n m le [] [] L G = tt
late_grown n m le [] (d ∷ ds) L G = (G.0, (λ x k. omega (arith, G.1 x k)), late_grown n m le [] ds tt G.2)
late_grown n m le (c ∷ cs) [] L G = absurd G
late_grown n m le (c ∷ cs) (d ∷ ds) L G =
    let e : List ℕ = G.0.0 in (
      rw G.0.1 (omega (arith, length-append c e, L.0)),
      (λ x k. either-from n x c e L.1 (λ y z. omega (arith, G.0.2 y z)) (rw G.0.1 at k)),
      late_grown n m le cs ds L.2 G.1,
    )

-- Grown, and grown again later
grown_twice : (n m : ℕ) → n ≤ m → (cs ds es : List (List ℕ)) → Grown n cs ds → Grown m ds es → Grown n cs es
grown_twice n m le [] ds es F G = late_grown n m le ds es F G
grown_twice n m le (c ∷ cs) [] es F G = absurd F
grown_twice n m le (c ∷ cs) (d ∷ ds) [] F G = absurd G
grown_twice n m le (c ∷ cs) (d ∷ ds) (k ∷ ks) F G =
    let x : List ℕ = F.0.0 in
    let y : List ℕ = G.0.0 in (
      (
        x ++ y,
        G.0.1 ∙ ap (λ (l : List ℕ). l ++ y) F.0.1 ∙ append_assoc c x y,
        (λ z q. either-from n z x y F.0.2 (λ u v. omega (arith, G.0.2 u v)) q),
      ),
      grown_twice n m le cs ds ks F.1 G.1,
    )

-- The runs from r on
chains-grown : (r : ℕ) (cs hs : List (List ℕ)) → Grown r cs (chains_from r cs hs)
unfolding chains_from
chains-grown r cs [] = grown-none r cs
chains-grown r cs (h ∷ hs) =
    grown_twice r (suc r) (omega arith) cs (join r h cs) (chains_from (suc r) (join r h cs) hs) (join-grown r h cs) (chains-grown (suc r) (join r h cs) hs)

-- A set of lower runs has as many of a chain when it has grown
module _ (n : ℕ) (p : ℕ → Bool) (low : (x : ℕ) → n ≤ x → p x ≡ false) where
  -- It has none of the later runs
  none_of : (e : List ℕ) → ((x : ℕ) → mem x e ≡ true → n ≤ x) → count p e ≡ 0
  none_of e h = count_same p (λ x. false) e (λ x m. low x (h x m)) ∙ count_none (λ x. false) e (λ x. refl)

  -- none of a late chain
  late_count : (ds : List (List ℕ)) → Late n ds → (k : ℕ) → count p (at ds k) ≡ 0
  unfolding at count
  late_count [] L k = refl
  late_count (d ∷ ds) L zero = none_of d L.1
  late_count (d ∷ ds) L (suc k) = late_count ds L.2 k

  -- and of a grown one as many as before
  grown-count : (cs ds : List (List ℕ)) → Grown n cs ds → (k : ℕ) → count p (at cs k) ≡ count p (at ds k)
  unfolding at count
  grown-count [] ds G k = sym (late_count ds G k)
  grown-count (c ∷ cs) [] G k = absurd G
  grown-count (c ∷ cs) (d ∷ ds) G zero =
      let e : List ℕ = G.0.0 in
      rw G.0.1 (omega (arith, count-append p c e, none_of e G.0.2))
  grown-count (c ∷ cs) (d ∷ ds) G (suc k) = grown-count cs ds G.1 k

-- The chains begun with run r or before
abbrev begun : ℕ → List (List ℕ) → ℕ
begun r cs = count (λ c. leb (get_or c 0 0) r) cs

-- None of the late ones is
late_begun : (r : ℕ) (ds : List (List ℕ)) → Late (suc r) ds → begun r ds ≡ 0
unfolding count
late_begun r [] L = refl
late_begun r (d ∷ ds) L =
    rw (lt-leb (get_or d 0 0) r (omega (arith, L.1 (get_or d 0 0) (get_d_mem d 0 0 L.0)))) (omega (arith, late_begun r ds L.2))

-- All of those that have grown are, and no other
grown-begun : (H : List (List ℕ)) (r : ℕ) (cs ds : List (List ℕ)) → Fine H (suc r) cs → Grown (suc r) cs ds → length cs ≡ begun r ds
unfolding count
grown-begun H r [] ds F G = sym (late_begun r ds G)
grown-begun H r (c ∷ cs) [] F G = absurd G
grown-begun H r (c ∷ cs) (d ∷ ds) F G =
    let e : List ℕ = G.0.0 in
    let same : get_or d 0 0 ≡ get_or c 0 0 = rw G.0.1 (get_or-append c e 0 0 F.3) in
    rw (same, le-leb (get_or c 0 0) r (omega (arith, F.1 (get_or c 0 0) (get_d_mem c 0 0 F.3)))) (omega (arith, grown-begun H r cs ds F.4 G.1))

-- A row of a run with history h, along chains
record RowOf (w h : List ℕ) (r : ℕ) (cs : List (List ℕ)) : Type 0 where
  counts : (k : ℕ) → get_or w k 0 ≡ count (λ q. mem q h) (at cs k)
  wide : length w ≡ begun r cs

-- The row made when run r joins is that along the chains grown
row-along : (H : List (List ℕ)) (r : ℕ) (h : List ℕ) (cs ds : List (List ℕ)) → ((x : ℕ) → mem x h ≡ true → x < r) →
    Fine H (suc r) cs → Grown (suc r) cs ds → RowOf (row h cs) h r ds
unfolding row at count
row-along H r h cs ds low F G = record {
  counts = λ k.
      get_or-map (λ c. count (λ q. mem q h) c) cs k [] ∙
      grown-count (suc r) (λ q. mem q h) (λ x le. not_so (mem x h) (λ m. omega (arith, low x m))) cs ds G k;
  wide = length-map cs (λ c. count (λ q. mem q h) c) ∙ grown-begun H r cs ds F G;
}

-- All rows
module _ (H : List (List ℕ)) (low : (r x : ℕ) → mem x (at H r) ≡ true → x < r) where
  -- each by the chains in the end
  rows-along : (r : ℕ) (cs hs : List (List ℕ)) → ((i : ℕ) → at H (r + i) ≡ at hs i) → Fine H r cs → (i : ℕ) → i < length hs →
      RowOf (at (rows_from r cs hs) i) (at H (r + i)) (r + i) (chains_from r cs hs)
  unfolding rows_from chains_from at
  rows-along r cs [] e F i lt = absurd (omega arith)
  rows-along r cs (h ∷ hs) e F zero lt =
      let q : r + 0 ≡ r = omega arith in
      let own : at H r ≡ h = rw q at (e 0) in
      rw (q, ← own) (row-along H r (at H r) (join r (at H r) cs) (chains_from (suc r) (join r (at H r) cs) hs) (low r) (join_fine H r cs F)
      (chains-grown (suc r) (join r (at H r) cs) hs))
  rows-along r cs (h ∷ hs) e F (suc i) lt =
      let q : r + 0 ≡ r = omega arith in
      let own : at H r ≡ h = rw q at (e 0) in
      let z : r + suc i ≡ suc r + i = omega arith in
      rw (z, ← own) (rows-along (suc r) (join r (at H r) cs) hs (λ j. let k : suc r + j ≡ r + suc j = omega arith in rw k (e (suc j))) (join_fine H r cs F) i (omega arith))

-- The rows of n runs from run a on
module _ (g : Graph) (formed : WellFormed g) (a n : ℕ) (fits : a + n ≤ length g.parents) where
  -- their parents
  abbrev ps : List (List ℕ)
  ps = parents_in g a (a + n)

  -- A history has lower runs alone
  low : (r x : ℕ) → mem x (at (histories ps) r) ≡ true → x < r
  unfolding at mem
  low r x m = go (lt_or_le r (length ps))
    where
      go : (r < length ps) ⊎ (length ps ≤ r) → x < r
      go (inl lt) = history-below ps (parents-below g a n fits (fit_below g.parents formed.parents)) x r lt m
      go (inr le) = let out : length (histories ps) ≤ r = omega (arith, history-length ps) in false_true (rw (get_or-eq_default (histories ps) [] out) at m)

  -- So these are its rows
  span_rows : (r : ℕ) → r < n → Row (range_of g a (a + n)) r
  unfolding range_of
  span_rows r lt =
      let z : 0 + r ≡ r = omega arith in
      let A : RowOf (at (rows_from 0 [] (histories ps)) r) (at (histories ps) r) r (chains_from 0 [] (histories ps)) =
      rw z at (rows-along (histories ps) low 0 [] (histories ps) (λ i. ap (at (histories ps)) (omega arith)) tt r (omega (arith, history-length ps, parents-length g a n fits))) in
      record { counts = A.counts; wide = A.wide }

-- The rows of runs a to b-1
pub range_rows : (g : Graph) → WellFormed g → (a b : ℕ) → a ≤ b → b ≤ runs g → (r : ℕ) → r < b - a → Row (range_of g a b) r
unfolding runs
range_rows g formed a b le fits r lt =
    let z : a + (b - a) ≡ b = omega arith in
    subst (λ (c : ℕ). Row (range_of g a c) r) z (span_rows g formed a (b - a) (omega arith) r lt)
