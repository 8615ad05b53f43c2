-- Each held parent's run split after it: one parent, the turns over all of them, and how many split a run. Assumes nothing.
use Rattle.std.proofs.Common.{◌≡◌, refl, sym, ap, ◌∙◌, Bool, true, false, cond, not, ◌&&◌, List, [], ◌∷◌, ℕ, suc, ◌+◌, ◌≤◌, ◌<◌, add-one, arith, length, drop, get_or, drop_of_length-le, drop-cons}
use borrow.Author.Tests.{not-true}
use Rattle.lists.specs.Lists.{bit, count, filter, mem, rising}
use Rattle.lists.specs.Scans.{last_at_most}
use Rattle.lists.proofs.Truth.{false_true, and_left, and_right}
use Rattle.lists.proofs.Rising.{rising_tail, rising_above}
use Rattle.lists.proofs.Counts.{count_same}
use Rattle.model.specs.declared.record.CausalGraph.{CausalGraph}
use Rattle.model.specs.Graph.{Graph, runs, start, first_held, len, containing, side, is_held, held}
use Rattle.model.specs.Record.{view, store}
use Rattle.model.specs.Broken.{WellFormed, WithinLimits, Held}
use Rattle.model.specs.Split.{split, ends, split_after, splits}
use Rattle.model.proofs.Stored.{view-store, held-store}
use Rattle.model.proofs.FormedReads.{containing_in}
use Rattle.model.proofs.Siding.{held-between, held-mem, held_agree}
use Rattle.model.proofs.FormedSplits.{split_runs, split-entries, split-frontier, split-len, split-first, split-formed, split-ends-other}
use Rattle.model.proofs.FormedSplitAll.{ends-inside, split_after-ended, split_after-inside}
use Rattle.graph.specs.Loops.{Room}
use Rattle.graph.proofs.Views.{runs-view, entries-view, containing-view}

-- Whether a parent is held and no run, nor the graph, ends in it
abbrev pub needs_split : Graph → ℕ → Bool
needs_split a p = is_held (side a p) && not (ends a p)

-- The ways of one parent
held_yes : (a : Graph) (p : ℕ) (ps : List ℕ) → is_held (side a p) ≡ true → held a (p ∷ ps) ≡ p ∷ held a ps
unfolding held filter
held_yes a p ps e = rw e

held_no : (a : Graph) (p : ℕ) (ps : List ℕ) → is_held (side a p) ≡ false → held a (p ∷ ps) ≡ held a ps
unfolding held filter
held_no a p ps e = rw e

after_none : (a : Graph) → split_after a (held a []) ≡ a
unfolding split_after held filter
after_none a = refl

-- a parent that splits no run leaves the rest to be done
stays : (a : Graph) (p : ℕ) (ps : List ℕ) → needs_split a p ≡ false → split_after a (held a (p ∷ ps)) ≡ split_after a (held a ps)
stays a p ps e = go (is_held (side a p)) (ends a p) refl refl e
  where
    go : (t u : Bool) → is_held (side a p) ≡ t → ends a p ≡ u → t && not u ≡ false → split_after a (held a (p ∷ ps)) ≡ split_after a (held a ps)
    go true true q s z = ap (split_after a) (held_yes a p ps q) ∙ split_after-ended a p (held a ps) s
    go true false q s z = false_true (sym z)
    go false true q s z = ap (split_after a) (held_no a p ps q)
    go false false q s z = ap (split_after a) (held_no a p ps q)

pub after-stays : (a : Graph) (p : ℕ) → needs_split a p ≡ false → split_after a (held a (p ∷ [])) ≡ a
after-stays a p e = stays a p [] e ∙ after_none a

-- what is known of a parent that splits a run
record Splits (a : Graph) (p : ℕ) : Type 0 where
  is_held_lem : is_held (side a p) ≡ true
  from : first_held a ≤ p
  to : p < len a
  inside : ends a p ≡ false
  here : containing a p < runs a
  below_it : start a (containing a p) < suc p
  above_it : suc p < start a (suc (containing a p))

splits_of : (a : Graph) → WellFormed a → (p : ℕ) → needs_split a p ≡ true → Splits a p
splits_of a f p e =
    let h = and_left (is_held (side a p)) (not (ends a p)) e in
    let n = not-true (ends a p) (and_right (is_held (side a p)) (not (ends a p)) e) in
    let b = held-between a p h in
    let w = containing_in a f p b.0 b.1 in
    record {
      is_held_lem = h;
      from = b.0;
      to = b.1;
      inside = n;
      here = w.0;
      below_it = omega (arith, w.1);
      above_it = ends-inside a f p b.0 b.1 n;
    }

module _ (a : Graph) (p : ℕ) (s : Splits a p) where
  -- its run is split, and the rest is done on the graph that this gives
  splits_on : (ps : List ℕ) → split_after a (held a (p ∷ ps)) ≡ split_after (split a (containing a p) (suc p)) (held a ps)
  splits_on ps = ap (split_after a) (held_yes a p ps s.is_held_lem) ∙ split_after-inside a p (held a ps) s.inside

  after-splits : split_after a (held a (p ∷ [])) ≡ split a (containing a p) (suc p)
  unfolding split_after held filter
  after-splits = splits_on []

  module _ (f : WellFormed a) where
    same-held : (ps : List ℕ) → held (split a (containing a p) (suc p)) ps ≡ held a ps
    same-held ps =
        held_agree a (split a (containing a p) (suc p)) (split-first a f (containing a p) (suc p) s.here) (split-len a f (containing a p) (suc p) s.here) ps

    -- later parents split a run after it just where they did before
    same-splits : (ps : List ℕ) → rising (p ∷ ps) ≡ true → splits (split a (containing a p) (suc p)) ps ≡ splits a ps
    unfolding splits
    same-splits ps r =
        ap (count (λ q. not (ends (split a (containing a p) (suc p)) q))) (same-held ps)
        ∙ count_same (λ q. not (ends (split a (containing a p) (suc p)) q)) (λ q. not (ends a q)) (held a ps) other
      where
        other : (q : ℕ) → mem q (held a ps) ≡ true → not (ends (split a (containing a p) (suc p)) q) ≡ not (ends a q)
        other q m =
            let l = rising_above p ps r q (held-mem a ps q m).0 in
            ap not (split-ends-other a (containing a p) p q (λ k. omega arith))

-- One parent's count
pub splits-first : (a : Graph) (p : ℕ) (ps : List ℕ) → splits a (p ∷ ps) ≡ cond (needs_split a p) 1 0 + splits a ps
unfolding splits
splits-first a p ps = go (is_held (side a p)) refl
  where
    one : (t : Bool) → bit (not t) ≡ cond (not t) 1 0
    one true = refl
    one false = refl

    go : (t : Bool) → is_held (side a p) ≡ t → count (λ q. not (ends a q)) (held a (p ∷ ps)) ≡ cond (t && not (ends a p)) 1 0 + count (λ q. not (ends a q)) (held a ps)
    go true e = ap (count (λ q. not (ends a q))) (held_yes a p ps e) ∙ (unfold count in ap (λ (n : ℕ). n + count (λ q. not (ends a q)) (held a ps)) (one (ends a p)))
    go false e = ap (count (λ q. not (ends a q))) (held_no a p ps e) ∙ omega arith

-- A parent that splits a run of a record, with room for it: the scan finds its run, and the split is all that is done
pub record Placed (g : CausalGraph) (p : ℕ) : Type 0 where
  pub here : last_at_most g.starts p g.run_count < g.run_count
  pub more_runs : g.run_count < 512
  pub more_entries : g.entry_count < 2048
  pub done : split_after (view g) (held (view g) (p ∷ [])) ≡ split (view g) (last_at_most g.starts p g.run_count) (p + 1)

pub placed : (g : CausalGraph) → Held g → (p : ℕ) → Room (view g) (p ∷ []) → needs_split (view g) p ≡ true → Placed g p
placed g h p r e =
    let s = splits_of (view g) h.formed p e in
    let c = containing-view g h p s.from s.to in
    let n : splits (view g) (p ∷ []) ≡ 1 + splits (view g) [] = splits-first (view g) p [] ∙ rw e in
    record {
      here = omega (arith, s.here, c, runs-view g h);
      more_runs = omega (arith, r.for_runs, runs-view g h);
      more_entries = omega (arith, r.for_entries, n, entries-view g h);
      done = rw (← c, add-one p) (after-splits (view g) p s);
    }

-- A turn: one parent
record Turn (a : Graph) (p : ℕ) (ps : List ℕ) (b : Graph) : Type 0 where
  formed : WellFormed b
  limits : WithinLimits b
  room : Room b ps
  rest : split_after b (held b ps) ≡ split_after a (held a (p ∷ ps))

turn : (a : Graph) → WellFormed a → WithinLimits a → (p : ℕ) (ps : List ℕ) → Room a (p ∷ ps) → Turn a p ps (split_after a (held a (p ∷ [])))
turn a f l p ps r = go (needs_split a p) refl
  where
    go : (t : Bool) → needs_split a p ≡ t → Turn a p ps (split_after a (held a (p ∷ [])))
    go false e =
        let n : splits a (p ∷ ps) ≡ splits a ps = splits-first a p ps ∙ rw e (omega arith) in
        rw (after-stays a p e) (
        record {
          formed = f;
          limits = l;
          room = record {
            rises = rising_tail p ps r.rises;
            for_runs = omega (arith, r.for_runs, n);
            for_entries = omega (arith, r.for_entries, n);
          };
          rest = sym (stays a p ps e);
        })
    go true e =
        let s = splits_of a f p e in
        let c : ℕ = containing a p in
        let n : splits a (p ∷ ps) ≡ 1 + splits a ps = splits-first a p ps ∙ rw e in
        let m = same-splits a p s f ps r.rises in
        rw (after-splits a p s) (
        record {
          formed = split-formed a f c (suc p) s.here s.below_it s.above_it;
          limits = record {
            runs = omega (arith, split_runs a c (suc p), r.for_runs, n);
            entries = omega (arith, split-entries a c (suc p), r.for_entries, n);
            frontier = rw (split-frontier a c (suc p)) l.frontier;
          };
          room = record {
            rises = rising_tail p ps r.rises;
            for_runs = omega (arith, split_runs a c (suc p), r.for_runs, n, m);
            for_entries = omega (arith, split-entries a c (suc p), r.for_entries, n, m);
          };
          rest = ap (split_after (split a c (suc p))) (same-held a p s f ps) ∙ sym (splits_on a p s ps);
        })

-- The loop over the parents: before turn i the graph is held, has room for the splits of the rest, and these come to those of all

pub record Going (ps : List ℕ) (g₀ g : CausalGraph) (i : ℕ) : Type 0 where
  pub is_held_lem : Held g
  pub room : Room (view g) (drop i ps)
  pub rest : split_after (view g) (held (view g) (drop i ps)) ≡ split_after (view g₀) (held (view g₀) ps)

pub going_start : (ps : List ℕ) (g : CausalGraph) → Held g → Room (view g) ps → Going ps g g 0
going_start ps g h r = record { is_held_lem = h; room = r; rest = refl }

room_here : (ps : List ℕ) (a : Graph) (i : ℕ) → i < length ps → Room a (drop i ps) → Room a (get_or ps i 0 ∷ drop (i + 1) ps)
room_here ps a i h r = rw (add-one, ← drop-cons ps i 0 h) r

-- the room for a turn's own split
pub going_one : (ps : List ℕ) (g₀ g : CausalGraph) (i : ℕ) → i < length ps → Going ps g₀ g i → Room (view g) (get_or ps i 0 ∷ [])
going_one ps g₀ g i h s =
    let p : ℕ = get_or ps i 0 in
    let r = room_here ps (view g) i h s.room in
    let n = splits-first (view g) p (drop (i + 1) ps) in
    let m : splits (view g) (p ∷ []) ≡ cond (needs_split (view g) p) 1 0 = splits-first (view g) p [] ∙ (unfold splits held filter count in omega arith) in
    record {
      rises = unfold rising in refl;
      for_runs = omega (arith, r.for_runs, n, m);
      for_entries = omega (arith, r.for_entries, n, m);
    }

-- a turn
pub going_on : (ps : List ℕ) (g₀ g x : CausalGraph) (i : ℕ) → i < length ps → Going ps g₀ g i →
    x ≡ store (split_after (view g) (held (view g) (get_or ps i 0 ∷ []))) → Going ps g₀ x (i + 1)
going_on ps g₀ g x i h s e =
    let p : ℕ = get_or ps i 0 in
    let k = turn (view g) s.is_held_lem.formed s.is_held_lem.limits p (drop (i + 1) ps) (room_here ps (view g) i h s.room) in
    let b : Graph = split_after (view g) (held (view g) (p ∷ [])) in
    let v : view x ≡ b = ap view e ∙ view-store b k.formed in
    let d : drop i ps ≡ p ∷ drop (i + 1) ps = rw (add-one i) (drop-cons ps i 0 h) in
    record {
      is_held_lem = rw e (held-store b k.formed k.limits);
      room = rw v k.room;
      rest = rw v (k.rest ∙ ap (λ (l : List ℕ). split_after (view g) (held (view g) l)) (sym d) ∙ s.rest);
    }

-- the end
pub going_done : (ps : List ℕ) (g₀ g : CausalGraph) (i : ℕ) → length ps ≤ i → Going ps g₀ g i → g ≡ store (split_after (view g₀) (held (view g₀) ps))
going_done ps g₀ g i h s =
    let d : drop i ps ≡ [] = drop_of_length-le ps h in
    s.is_held_lem.stored ∙ ap store (sym (after_none (view g)) ∙ ap (λ (l : List ℕ). split_after (view g) (held (view g) l)) (sym d) ∙ s.rest)

-- Parents that split no run leave the graph as it is
pub none-split : (a : Graph) (ps : List ℕ) → splits a ps ≡ 0 → split_after a (held a ps) ≡ a
none-split a [] e = after_none a
none-split a (p ∷ ps) e = go (needs_split a p) refl (none-split a ps)
  where
    go : (t : Bool) → needs_split a p ≡ t → (splits a ps ≡ 0 → split_after a (held a ps) ≡ a) → split_after a (held a (p ∷ ps)) ≡ a
    go false f ih =
        let n : splits a (p ∷ ps) ≡ splits a ps = splits-first a p ps ∙ rw f (omega arith) in
        stays a p ps f ∙ ih (omega (arith, n, e))
    go true f ih =
        let n : splits a (p ∷ ps) ≡ 1 + splits a ps = splits-first a p ps ∙ rw f in
        absurd (omega (arith, n, e))
