-- The splits after rising held events keep a graph well-formed; each event that ended no run adds one run and one entry. Assumes nothing.
use Rattle.std.proofs.Common.{◌≡◌, refl, sym, ap, ◌∙◌, ◌⊎◌, inl, inr, Bool, true, false, not, List, [], ◌∷◌, ℕ, suc, ◌+◌, ◌≤◌, ◌<◌, arith}
use Rattle.lists.specs.Lists.{bit, count, mem, rising}
use Rattle.lists.proofs.Truth.{eq_or-not, false_true}
use Rattle.lists.proofs.Members.{mem-first, mem-rest, mem-either, get_d_mem}
use Rattle.lists.proofs.Counts.{count_same}
use Rattle.lists.proofs.Rising.{rising_tail, rising_above}
use Rattle.model.specs.Graph.{Graph, runs, start, first_held, len, entries, containing}
use Rattle.model.specs.Broken.{WellFormed}
use Rattle.model.specs.Split.{split, ends, split_after}
use Rattle.model.proofs.FormedReads.{containing_in}
use Rattle.model.proofs.FormedSplits.{split_runs, split-entries, split-frontier, split-len, split-first, split-formed, split-ends, split-ends-other, split-ends_keep}

-- Where a run starts at p's end, p ends a run
pub start-ends : (g : Graph) → WellFormed g → (r p : ℕ) → r ≤ runs g → start g r ≡ suc p → ends g p ≡ true
unfolding ends start
start-ends g formed r p h e = rw (← e) (get_d_mem g.starts r 0 (omega (arith, formed.starts_count)))

-- A held event that ends no run has its end inside its run
pub ends-inside : (g : Graph) → WellFormed g → (p : ℕ) → first_held g ≤ p → p < len g → ends g p ≡ false → suc p < start g (suc (containing g p))
ends-inside g formed p f l e =
    let w = containing_in g formed p f l in
    go (eq_or-not (start g (suc (containing g p))) (suc p)) w.0 w.2
  where
    go : (start g (suc (containing g p)) ≡ suc p) ⊎ (start g (suc (containing g p)) ≡ suc p → ⊥) → containing g p < runs g →
        p < start g (suc (containing g p)) →
        suc p < start g (suc (containing g p))
    go (inl q) h k = false_true (sym e ∙ start-ends g formed (suc (containing g p)) p h q)
    go (inr q) h k = omega arith

-- Rising held events
abbrev pub Inside : Graph → List ℕ → Type 0
Inside g ps = (rising ps ≡ true) × ((p : ℕ) → mem p ps ≡ true → (first_held g ≤ p) × (p < len g))

-- What the splits after such events come to
pub record SplitAll (g : Graph) (ps : List ℕ) : Type 0 where
  pub formed : WellFormed (split_after g ps)
  pub same_len : len (split_after g ps) ≡ len g
  pub same_first : first_held (split_after g ps) ≡ first_held g
  pub more_runs : runs (split_after g ps) ≡ runs g + count (λ p. not (ends g p)) ps
  pub more_entries : entries (split_after g ps) ≡ entries g + count (λ p. not (ends g p)) ps
  pub ends_keep : (q : ℕ) → ends g q ≡ true → ends (split_after g ps) q ≡ true
  pub all_end : (p : ℕ) → mem p ps ≡ true → ends (split_after g ps) p ≡ true

-- The two ways of the first event
pub split_after-ended : (g : Graph) (p : ℕ) (ps : List ℕ) → ends g p ≡ true → split_after g (p ∷ ps) ≡ split_after g ps
unfolding split_after
split_after-ended g p ps e =
    ap (λ (t : Bool). elim t as (λ _. Graph) [ true ↦ split_after g ps | false ↦ split_after (split g (containing g p) (suc p)) ps ]) e

pub split_after-inside : (g : Graph) (p : ℕ) (ps : List ℕ) → ends g p ≡ false →
    split_after g (p ∷ ps) ≡ split_after (split g (containing g p) (suc p)) ps
unfolding split_after
split_after-inside g p ps e =
    ap (λ (t : Bool). elim t as (λ _. Graph) [ true ↦ split_after g ps | false ↦ split_after (split g (containing g p) (suc p)) ps ]) e

-- They leave the frontier
pub splits-frontier : (g : Graph) (ps : List ℕ) → (split_after g ps).frontier ≡ g.frontier
unfolding split_after
splits-frontier g [] = refl
splits-frontier g (p ∷ ps) =
    go (ends g p) (splits-frontier g ps) (splits-frontier (split g (containing g p) (suc p)) ps ∙ split-frontier g (containing g p) (suc p))
  where
    go : (t : Bool) → (split_after g ps).frontier ≡ g.frontier → (split_after (split g (containing g p) (suc p)) ps).frontier ≡ g.frontier →
        (elim t as (λ _. Graph) [ true ↦ split_after g ps | false ↦ split_after (split g (containing g p) (suc p)) ps ]).frontier ≡ g.frontier
    go true x y = x
    go false x y = y

splits-first : (g : Graph) (p : ℕ) (ps : List ℕ) → count (λ p. not (ends g p)) (p ∷ ps) ≡ bit (not (ends g p)) + count (λ p. not (ends g p)) ps
unfolding count
splits-first g p ps = refl

-- One event that ends a run already
after-ended : (g : Graph) (p : ℕ) (ps : List ℕ) → ends g p ≡ true → SplitAll g ps → SplitAll g (p ∷ ps)
after-ended g p ps e a =
    let w = split_after-ended g p ps e in
    let n : count (λ p. not (ends g p)) (p ∷ ps) ≡ count (λ p. not (ends g p)) ps = splits-first g p ps ∙ rw e (omega arith) in
    record {
      formed = rw w a.formed;
      same_len = rw w a.same_len;
      same_first = rw w a.same_first;
      more_runs = rw (w, n) a.more_runs;
      more_entries = rw (w, n) a.more_entries;
      ends_keep = λ q h. rw w (a.ends_keep q h);
      all_end = λ q m. rw w (last q (mem-either p q ps m));
    }
  where
    last : (q : ℕ) → (q ≡ p) ⊎ (mem q ps ≡ true) → ends (split_after g ps) q ≡ true
    last q (inl h) = rw h (a.ends_keep p e)
    last q (inr m) = a.all_end q m

-- One event that splits its run
after-inside : (g : Graph) (p : ℕ) (ps : List ℕ) → WellFormed g → containing g p < runs g → rising (p ∷ ps) ≡ true → ends g p ≡ false →
    SplitAll (split g (containing g p) (suc p)) ps → SplitAll g (p ∷ ps)
after-inside g p ps f h r e a =
    let c = containing g p in
    let w = split_after-inside g p ps e in
    let other : (q : ℕ) → mem q ps ≡ true → not (ends (split g c (suc p)) q) ≡ not (ends g q) =
    λ q m. ap not (split-ends-other g c p q (λ k. omega (arith, rising_above p ps r q m))) in
    let same = count_same (λ q. not (ends (split g c (suc p)) q)) (λ q. not (ends g q)) ps other in
    let n : count (λ p. not (ends g p)) (p ∷ ps) ≡ 1 + count (λ p. not (ends g p)) ps = splits-first g p ps ∙ rw e in
    record {
      formed = rw w a.formed;
      same_len = rw w (a.same_len ∙ split-len g f c (suc p) h);
      same_first = rw w (a.same_first ∙ split-first g f c (suc p) h);
      more_runs = rw w (omega (arith, a.more_runs, split_runs g c (suc p), same, n));
      more_entries = rw w (omega (arith, a.more_entries, split-entries g c (suc p), same, n));
      ends_keep = λ q k. rw w (a.ends_keep q (split-ends_keep g c (suc p) q k));
      all_end = λ q m. rw w (last q (mem-either p q ps m));
    }
  where
    last : (q : ℕ) → (q ≡ p) ⊎ (mem q ps ≡ true) → ends (split_after (split g (containing g p) (suc p)) ps) q ≡ true
    last q (inl k) = rw k (a.ends_keep p (split-ends g (containing g p) p))
    last q (inr m) = a.all_end q m

none_after : (g : Graph) → WellFormed g → SplitAll g []
unfolding split_after count mem
none_after g f = record {
  formed = f;
  same_len = refl;
  same_first = refl;
  more_runs = omega arith;
  more_entries = omega arith;
  ends_keep = λ q h. h;
  all_end = λ q m. false_true m;
}

-- The first of rising held events, where it ends no run: its end lies inside its run, and the split there leaves the others as they are
module _ (g : Graph) (f : WellFormed g) (p : ℕ) (ps : List ℕ) (i : Inside g (p ∷ ps)) where
  pub rest-inside : Inside g ps
  rest-inside = (rising_tail p ps i.0, λ q m. i.1 q (mem-rest p q ps m))

  first_run : containing g p < runs g
  first_run = (containing_in g f p (i.1 p (mem-first p ps)).0 (i.1 p (mem-first p ps)).1).0

  pub first-inside : ends g p ≡ false → (containing g p < runs g) × (start g (containing g p) < suc p) × (suc p < start g (suc (containing g p)))
  first-inside e =
      let h : (first_held g ≤ p) × (p < len g) = i.1 p (mem-first p ps) in
      let c = containing_in g f p h.0 h.1 in
      (c.0, omega (arith, c.1), ends-inside g f p h.0 h.1 e)

  pub first-formed : ends g p ≡ false → WellFormed (split g (containing g p) (suc p))
  first-formed e =
      let w = first-inside e in
      split-formed g f (containing g p) (suc p) w.0 w.1 w.2

  pub rest-after : Inside (split g (containing g p) (suc p)) ps
  rest-after = rw (split-len g f (containing g p) (suc p) first_run, split-first g f (containing g p) (suc p) first_run) rest-inside

-- The splits after rising held events
pub split-all-formed : (g : Graph) → WellFormed g → (ps : List ℕ) → Inside g ps → SplitAll g ps
split-all-formed g f [] i = none_after g f
split-all-formed g f (p ∷ ps) i =
    go (ends g p) refl (split-all-formed g f ps (rest-inside g f p ps i))
    (λ e. split-all-formed (split g (containing g p) (suc p)) (first-formed g f p ps i e) ps (rest-after g f p ps i))
  where
    go : (t : Bool) → ends g p ≡ t → SplitAll g ps → (ends g p ≡ false → SplitAll (split g (containing g p) (suc p)) ps) → SplitAll g (p ∷ ps)
    go true e a b = after-ended g p ps e a
    go false e a b = after-inside g p ps f (first-inside g f p ps i e).0 i.0 e (b e)
