-- An accepted push keeps a graph well-formed and within the limits. Assumes nothing.
use Rattle.std.proofs.Common.{◌≡◌, refl, sym, ap, ◌∙◌, Bool, true, false, not, ◌&&◌, List, [], ◌∷◌, ℕ, zero, suc, ◌+◌, ◌-◌, ◌≤◌, ◌<◌, arith, length, ltb, ltb-true, ltb-false, eq-eqb}
use borrow.Author.Tests.{eqb-false, not-false}
use Rattle.lists.specs.Lists.{count, mem, rising, below, same, filter}
use Rattle.lists.proofs.Truth.{and_left, and_right, or_left}
use Rattle.lists.proofs.Members.{same_eq}
use Rattle.lists.proofs.Counts.{length_snoc, filter_shorter}
use Rattle.lists.proofs.Rising.{rising-filter}
use Rattle.model.specs.Graph.{Graph, runs, first_held, len, entries, is_held, side, held, all_known, extends}
use Rattle.model.specs.Broken.{WellFormed, WithinLimits}
use Rattle.model.specs.Split.{ends, split_after, splits}
use Rattle.model.specs.Push.{staying, grown, joined, lowered, push, push_outcome}
use Rattle.model.proofs.Tests.{passed}
use Rattle.model.proofs.Siding.{held-mem, held_agree, known-below}
use Rattle.model.proofs.FormedReads.{first-len, frontier-last}
use Rattle.model.proofs.FormedSplitAll.{Inside, SplitAll, splits-frontier, split-all-formed}
use Rattle.model.proofs.FormedJoins.{joined-runs, joined-entries, grown-len, grown-first, grown-formed, joined-len, joined-first, joined-formed, lowered-formed, lowered-len, lowered-first}
use Rattle.std.specs.Prelude.{Ok}

-- What an accepted push has: events, parents that rise and are known, and room for a new run where it makes one
pub record Accepted (g : Graph) (ps : List ℕ) (n : ℕ) : Type 0 where
  pub some : 0 < n
  pub rises : rising ps ≡ true
  pub known : below (len g) ps ≡ true
  pub events : len g + n ≤ 4294967295
  pub runs_fit : extends g ps ≡ false → runs g + splits g ps + 1 ≤ 512
  pub entries_fit : extends g ps ≡ false → entries g + splits g ps + length (held g ps) ≤ 2048
  pub frontier_fits_lem : extends g ps ≡ false → length (staying g ps) + 1 ≤ 512

-- A test that counts only where the push makes a run
passes : (t : Bool) (a b : ℕ) → not t && ltb a b ≡ false → t ≡ false → b ≤ a
passes t a b e f = ltb-false a b (rw f at e)

-- An accepted push has each
pub accepted : (g : Graph) → first_held g ≤ len g → (ps : List ℕ) (n : ℕ) → push_outcome g ps n ≡ Ok tt → Accepted g ps n
unfolding push_outcome
accepted g le ps n e =
    let t₁ = passed _ _ e in
    let t₂ = passed _ _ t₁.1 in
    let t₃ = passed _ _ t₂.1 in
    let t₄ = passed _ _ t₃.1 in
    let t₅ = passed _ _ t₄.1 in
    let t₆ = passed _ _ t₅.1 in
    let t₇ = passed _ _ t₆.1 in
    record {
      some = positive n (eqb-false n 0 t₁.0);
      rises = not-false (rising ps) t₂.0;
      known = sym (known-below g le ps) ∙ not-false (all_known g ps) t₃.0;
      events = ltb-false 4294967295 (len g + n) t₄.0;
      runs_fit = passes (extends g ps) 512 (runs g + splits g ps + 1) t₅.0;
      entries_fit = passes (extends g ps) 2048 (entries g + splits g ps + length (held g ps)) t₆.0;
      frontier_fits_lem = passes (extends g ps) 512 (length (staying g ps) + 1) t₇.0;
    }
  where
    positive : (n : ℕ) → (n ≡ 0 → ⊥) → 0 < n
    positive zero h = absurd (h refl)
    positive (suc n) h = omega arith

abbrev push_by : Graph → List ℕ → ℕ → Bool → Graph
push_by g ps n goes_on_lem = elim goes_on_lem as (λ _. Graph) [
  | true ↦ grown g ps n
  | false ↦ lowered (split_after g (held g ps)) (joined (split_after g (held g ps)) ps n)
]

-- A push grows the last run, or makes a new one once its held parents end runs
pub push_grows : (g : Graph) (ps : List ℕ) (n : ℕ) → extends g ps ≡ true → push g ps n ≡ grown g ps n
unfolding push
push_grows g ps n e = ap (push_by g ps n) e

pub push_joins : (g : Graph) (ps : List ℕ) (n : ℕ) → extends g ps ≡ false →
    push g ps n ≡ lowered (split_after g (held g ps)) (joined (split_after g (held g ps)) ps n)
unfolding push
push_joins g ps n e = ap (push_by g ps n) e

-- A push that grows the last run
module _ (g : Graph) (ps : List ℕ) (e : extends g ps ≡ true) where
  pub extends-runs : 0 < runs g
  unfolding extends
  extends-runs = ltb-true 0 (runs g) (and_left (ltb 0 (runs g)) (same ps ((len g - 1) ∷ [])) e)

  pub extends-parents : ps ≡ (len g - 1) ∷ []
  unfolding extends
  extends-parents = same_eq ps ((len g - 1) ∷ []) (and_right (ltb 0 (runs g)) (same ps ((len g - 1) ∷ [])) e)

  -- takes a place of the frontier for the one that it leaves
  staying_shorter : WellFormed g → length (staying g ps) < length g.frontier
  unfolding staying
  staying_shorter f = filter_shorter (λ x. not (mem x ps)) (len g - 1) g.frontier (frontier-last g f extends-runs) (ap not named)
    where
      named : mem (len g - 1) ps ≡ true
      named = rw extends-parents (unfold mem in or_left false (eq-eqb (len g - 1) (len g - 1) refl))

  grown-limits : (n : ℕ) → WellFormed g → WithinLimits g → WithinLimits (grown g ps n)
  grown-limits n f l = record {
    runs = unfold grown runs in l.runs;
    entries = unfold grown entries in l.entries;
    frontier = unfold grown in omega (arith, length_snoc (staying g ps) (len g + n - 1), staying_shorter f, l.frontier);
  }

-- The held ones of rising parents are rising held events
pub held-inside : (g : Graph) (ps : List ℕ) → rising ps ≡ true → Inside g (held g ps)
held-inside g ps r = ((unfold held in rising-filter (λ e. is_held (side g e)) ps r), λ p m. let w = held-mem g ps p m in (w.1, w.2))

-- A push that makes a run, after its splits
module _ (g : Graph) (formed : WellFormed g) (ps : List ℕ) (n : ℕ) (ok : Accepted g ps n) where
  pub pushed-splits : SplitAll g (held g ps)
  pushed-splits = split-all-formed g formed (held g ps) (held-inside g ps ok.rises)

  -- the same parents are held after the splits
  pub held_same : held (split_after g (held g ps)) ps ≡ held g ps
  held_same = held_agree g (split_after g (held g ps)) pushed-splits.same_first pushed-splits.same_len ps

  pub inside-after : Inside (split_after g (held g ps)) (held (split_after g (held g ps)) ps)
  inside-after = held-inside (split_after g (held g ps)) ps ok.rises

  ended-after : (p : ℕ) → mem p (held (split_after g (held g ps)) ps) ≡ true → ends (split_after g (held g ps)) p ≡ true
  ended-after p m = pushed-splits.all_end p (rw held_same at m)

  staying-same : staying (split_after g (held g ps)) ps ≡ staying g ps
  unfolding staying
  staying-same = ap (filter (λ e. not (mem e ps))) (splits-frontier g (held g ps))

  -- and the graph is well-formed with the new run
  pub run-formed : WellFormed (joined (split_after g (held g ps)) ps n)
  run-formed = joined-formed (split_after g (held g ps)) pushed-splits.formed ps n ok.some inside-after ended-after

  run-limits : extends g ps ≡ false → WithinLimits (joined (split_after g (held g ps)) ps n)
  run-limits e =
      let s = split_after g (held g ps) in
      record {
        runs = omega (arith, joined-runs s ps n, pushed-splits.more_runs, ok.runs_fit e, splits_are);
        entries = omega (
          arith,
          joined-entries s ps n,
          pushed-splits.more_entries,
          ok.entries_fit e,
          splits_are,
          ap length held_same,
        );
        frontier = unfold joined in omega (arith, length_snoc (staying s ps) (len s + n - 1), ap length staying-same, ok.frontier_fits_lem e);
      }
    where
      splits_are : splits g ps ≡ count (λ p. not (ends g p)) (held g ps)
      splits_are = unfold splits in refl

lowered-limits : (g h : Graph) → WithinLimits h → WithinLimits (lowered g h)
unfolding lowered runs entries
lowered-limits g h l = record { runs = l.runs; entries = l.entries; frontier = l.frontier }

-- A push keeps the graph well-formed
pub push-formed : (g : Graph) → WellFormed g → (ps : List ℕ) (n : ℕ) → push_outcome g ps n ≡ Ok tt → WellFormed (push g ps n)
push-formed g formed ps n e = go (extends g ps) refl (accepted g (first-len g formed) ps n e)
  where
    go : (t : Bool) → extends g ps ≡ t → Accepted g ps n → WellFormed (push g ps n)
    go true q ok = rw (push_grows g ps n q) (grown-formed g formed ps n ok.some (extends-runs g ps q))
    go false q ok =
        let s = split_after g (held g ps) in
        rw (push_joins g ps n q) (lowered-formed s (joined s ps n) (run-formed g formed ps n ok))

-- and within the limits
pub push-limits : (g : Graph) → WellFormed g → WithinLimits g → (ps : List ℕ) (n : ℕ) → push_outcome g ps n ≡ Ok tt → WithinLimits (push g ps n)
push-limits g formed l ps n e = go (extends g ps) refl (accepted g (first-len g formed) ps n e)
  where
    go : (t : Bool) → extends g ps ≡ t → Accepted g ps n → WithinLimits (push g ps n)
    go true q ok = rw (push_grows g ps n q) (grown-limits g ps q n formed l)
    go false q ok =
        let s = split_after g (held g ps) in
        rw (push_joins g ps n q) (lowered-limits s (joined s ps n) (run-limits g formed ps n ok q))

-- It adds its events, and the first held event stays
pub pushed-len : (g : Graph) → WellFormed g → (ps : List ℕ) (n : ℕ) → push_outcome g ps n ≡ Ok tt → len (push g ps n) ≡ len g + n
pushed-len g formed ps n e = go (extends g ps) refl (accepted g (first-len g formed) ps n e)
  where
    go : (t : Bool) → extends g ps ≡ t → Accepted g ps n → len (push g ps n) ≡ len g + n
    go true q ok = rw (push_grows g ps n q) (grown-len g formed ps n ok.some)
    go false q ok =
        let s = split_after g (held g ps) in
        let a = pushed-splits g formed ps n ok in
        rw (push_joins g ps n q) (lowered-len s (joined s ps n) ∙ joined-len s a.formed ps n ok.some ∙ ap (λ (k : ℕ). k + n) a.same_len)

pub pushed-first : (g : Graph) → WellFormed g → (ps : List ℕ) (n : ℕ) → push_outcome g ps n ≡ Ok tt → first_held (push g ps n) ≡ first_held g
pushed-first g formed ps n e = go (extends g ps) refl (accepted g (first-len g formed) ps n e)
  where
    go : (t : Bool) → extends g ps ≡ t → Accepted g ps n → first_held (push g ps n) ≡ first_held g
    go true q ok = rw (push_grows g ps n q) (grown-first g formed ps n ok.some (extends-runs g ps q))
    go false q ok =
        let s = split_after g (held g ps) in
        let a = pushed-splits g formed ps n ok in
        rw (push_joins g ps n q) (lowered-first s (joined s ps n) ∙ joined-first s a.formed ps n ok.some ∙ a.same_first)
