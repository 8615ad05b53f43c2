-- The marks that a new run takes, and the loop that finds the lowest of them. Assumes nothing.
use Rattle.std.proofs.Common.{◌≡◌, refl, sym, ap, ◌∙◌, Bool, true, false, cond, not, ◌&&◌, List, [], ◌∷◌, ◌++◌, ℕ, ◌+◌, ◌<◌, ◌≤◌, min, arith, add-one, length, drop, get_or, drop_of_length-le}
use Rattle.std.proofs.Common.{drop-cons, leb, ltb}
use lib.Seq.{drop-append-le}
use Rattle.lists.specs.Lists.{all, filter, mem, least}
use Rattle.lists.proofs.Truth.{lt_not, and_true}
use Rattle.lists.proofs.Members.{get_d_mem, all_both, mem-first, mem-rest}
use Rattle.lists.proofs.Passing.{passing}
use Rattle.model.specs.declared.record.CausalGraph.{CausalGraph}
use Rattle.model.specs.Graph.{Graph, runs, start, marked, marks}
use Rattle.model.specs.Record.{view}
use Rattle.model.specs.Broken.{WellFormed, Held}
use Rattle.model.specs.Push.{new_seen, joined, lowered}
use Rattle.model.proofs.Lasting.{marks_list, joined-start}
use Rattle.model.proofs.FormedJoins.{joined-runs}
use Rattle.graph.specs.Loops.{lower_all}
use Rattle.graph.proofs.Views.{runs-view, start-view}

-- The lowest of those that pass, one after another

least-min : (d m : ℕ) (l : List ℕ) → least (min d m) l ≡ min m (least d l)
unfolding least
least-min d m [] = omega arith
least-min d m (x ∷ xs) = rw (least-min d m xs) (omega arith)

lower-is : (xs : List ℕ) (s d : ℕ) (p : ℕ → Bool) (ms : List ℕ) → ((m : ℕ) → mem m ms ≡ true → p m ≡ ltb s (get_or xs m 0)) →
    lower_all xs s d ms ≡ least d (filter p ms)
unfolding lower_all filter least
lower-is xs s d p [] h = refl
lower-is xs s d p (m ∷ ms) h =
    rw (h m (mem-first m ms)) (go (ltb s (get_or xs m 0)) (λ (k : ℕ). lower-is xs s k p ms (λ r q. h r (mem-rest m r ms q))))
  where
    go : (b : Bool) → ((k : ℕ) → lower_all xs s k ms ≡ least k (filter p ms)) →
        lower_all xs s (cond b (min d m) d) ms ≡ least d (cond b (m ∷ filter p ms) (filter p ms))
    go true r = r (min d m) ∙ least-min d m (filter p ms)
    go false r = r d

-- A marked run is one of the runs
pub mark_run : (a : Graph) (r : ℕ) → mem r (marks a) ≡ true → (r < runs a) × (marked a r ≡ true)
unfolding marks
mark_run a r m = (passing (marked a) (runs a) r).0 m

-- A marked run keeps its mark exactly if the new run has seen its start
joined_mark : (a : Graph) → WellFormed a → (ps : List ℕ) (n r : ℕ) → mem r (marks a) ≡ true →
    mem r (marks (joined a ps n)) ≡ leb (start a r) (new_seen a ps)
joined_mark a formed ps n r m =
    let w = mark_run a r m in
    let q : r ≤ length a.seen = omega (arith, formed.seen_count, w.0) in
    marks_list (joined a ps n) r (omega (arith, joined-runs a ps n, w.0)) ∙ mark_is w.0 w.1 q
  where
    mark_is : r < runs a → marked a r ≡ true → r ≤ length a.seen → marked (joined a ps n) r ≡ leb (start a r) (new_seen a ps)
    mark_is h k q =
        unfold marked joined in
        ap (λ (x : ℕ). all (λ s. leb x s) (drop r (a.seen ++ new_seen a ps ∷ []))) (sym (joined-start a ps n formed r (omega arith)))
        ∙ ap (all (λ s. leb (start a r) s)) (drop-append-le r a.seen (new_seen a ps ∷ []) q)
        ∙ all_both (λ s. leb (start a r) s) (drop r a.seen) (new_seen a ps ∷ [])
        ∙ ap (λ (t : Bool). t && all (λ s. leb (start a r) s) (new_seen a ps ∷ [])) k
        ∙ (unfold all in and_true (leb (start a r) (new_seen a ps)))

-- The loop finds the lowest run that loses its mark
pub lower_lost : (a : Graph) → WellFormed a → (ps : List ℕ) (n : ℕ) →
    lower_all a.starts (new_seen a ps) (min (runs a) a.changed) (marks a) ≡ (lowered a (joined a ps n)).changed
unfolding lowered joined runs
lower_lost a formed ps n =
    lower-is a.starts (new_seen a ps) (min (runs a) a.changed) (λ r. not (mem r (marks (joined a ps n)))) (marks a)
    (λ r m. ap not (joined_mark a formed ps n r m) ∙ sym (unfold start in lt_not (new_seen a ps) (start a r)))

-- Turns
module _ (g : CausalGraph) (good : Held g) where
  pub mark_in : (k : ℕ) → k < length (marks (view g)) → get_or (marks (view g)) k 0 < g.run_count
  mark_in k h = omega (arith, runs-view g good, (mark_run (view g) (get_or (marks (view g)) k 0) (get_d_mem (marks (view g)) k 0 h)).0)

  pub lower-step :
      (s d i d' : ℕ) →
      i < length (marks (view g)) →
      d' ≡ cond (ltb s (get_or g.starts (get_or (marks (view g)) i 0) 0)) (min d (get_or (marks (view g)) i 0)) d →
      lower_all (view g).starts s d' (drop (i + 1) (marks (view g))) ≡ lower_all (view g).starts s d (drop i (marks (view g)))
  unfolding lower_all
  lower-step s d i d' h e =
      let v : get_or (view g).starts (get_or (marks (view g)) i 0) 0 ≡ get_or g.starts (get_or (marks (view g)) i 0) 0 =
      unfold start in start-view g good (get_or (marks (view g)) i 0) (omega (arith, mark_in i h)) in
      sym (rw (add-one i, drop-cons (marks (view g)) i 0 h, e, ← v))

  pub lower_end : (s d i : ℕ) → length (marks (view g)) ≤ i → lower_all (view g).starts s d (drop i (marks (view g))) ≡ d
  unfolding lower_all
  lower_end s d i h = rw (drop_of_length-le (marks (view g)) h)
