-- A run's history is its ancestors among the runs, in a whole graph and in a range of it. Assumes nothing.
use Rattle.std.proofs.Common.{◌≡◌, refl, sym, ap, ◌∙◌, subst, ◌⊎◌, inl, inr, ◌↔◌, Bool, true, ◌||◌, List, [], ◌∷◌, ◌++◌, map, ℕ, zero, suc, ◌+◌, ◌-◌, ◌≤◌, ◌<◌, arith, length, get_or, take, drop}
use Rattle.std.proofs.Common.{length-append, length-take, length-drop, get_or-take, get_or-drop, leb, eqb, leb-true, eqb-true, le-leb, eq-eqb}
use mathlib.Core.Path.{fun_ext}
use lib.ListN.{get_or-append, get_or-map, get_or-eq_default, length-map}
use lib.Seq.{get_or-append_seam}
use Rattle.lists.specs.Lists.{any, filter, upto, mem, rising}
use Rattle.lists.specs.Scans.{groups_fit}
use Rattle.lists.proofs.Truth.{lt_or_le, false_true, or_cases, or_left, or_right}
use Rattle.lists.proofs.Members.{mem-filter, filter-mem, mem-map, map-mem, any_intro, any_elim, any_same}
use Rattle.lists.proofs.Passing.{passing, passing_rises}
use Rattle.model.specs.EventGraph.{HappenedBefore, parent, further, Lower}
use Rattle.model.specs.Graph.{Graph}
use Rattle.model.specs.History.{at, run_graph, reached, histories_from, histories}
use Rattle.model.specs.Range.{parents_in}
use Rattle.model.proofs.FormedReads.{groups_fit-at}
use Rattle.model.proofs.Ancestry.{before-lower}

-- Every parent is below its run
abbrev pub Below : List (List ℕ) → Type 0
Below pss = Lower (run_graph pss)

-- So it is where the parents fit
pub fit_below : (pss : List (List ℕ)) → groups_fit 0 pss ≡ true → Below pss
unfolding at
fit_below pss e r p m = omega (arith, groups_fit-at 0 pss e r p m)

-- Run m is an ancestor of run r
abbrev pub Reach : List (List ℕ) → ℕ → ℕ → Type 0
Reach pss m r = HappenedBefore (run_graph pss) m r

-- A run's ancestors are below it
pub reach_below : (pss : List (List ℕ)) {m r : ℕ} → Below pss → Reach pss m r → m < r
reach_below pss b h = before-lower (run_graph pss) b h

-- The next run's history
abbrev next : List (List ℕ) → List ℕ → List ℕ
next hs ps = filter (reached hs ps) (upto (length hs))

history_keeps : (hs pss : List (List ℕ)) (i : ℕ) → i < length hs → at (histories_from hs pss) i ≡ at hs i
unfolding histories_from at
history_keeps hs [] i lt = refl
history_keeps hs (ps ∷ pss) i lt =
    history_keeps (hs ++ next hs ps ∷ []) pss i (omega (arith, length-append hs (next hs ps ∷ []))) ∙ get_or-append hs (next hs ps ∷ []) [] i lt

-- Each run has a history
pub histories-length : (hs pss : List (List ℕ)) → length (histories_from hs pss) ≡ length hs + length pss
unfolding histories_from
histories-length hs [] = omega arith
histories-length hs (ps ∷ pss) = omega (arith, histories-length (hs ++ next hs ps ∷ []) pss, length-append hs (next hs ps ∷ []))

pub history-length : (pss : List (List ℕ)) → length (histories pss) ≡ length pss
unfolding histories
history-length pss = omega (arith, histories-length [] pss)

history-at : (hs pss : List (List ℕ)) → ((i p : ℕ) → mem p (at pss i) ≡ true → p < length hs + i) → (i k : ℕ) → i < length pss → k ≡ length hs + i →
    at (histories_from hs pss) k ≡ filter (reached (histories_from hs pss) (at pss i)) (upto k)
unfolding histories_from reached at
history-at hs [] b i k lt e = absurd (omega arith)
history-at hs (ps ∷ pss) b zero k lt e =
    let q : k ≡ length hs = omega arith in
    rw q (history_keeps (hs ++ next hs ps ∷ []) pss (length hs) (omega (arith, length-append hs (next hs ps ∷ []))) ∙
    (get_or-append_seam hs (next hs ps) [] [] ∙ ap (λ (f : ℕ → Bool). filter f (upto (length hs))) (fun_ext (λ m. same m))))
  where
    same : (m : ℕ) → any (λ p. eqb m p || mem m (get_or hs p [])) ps ≡
        any (λ p. eqb m p || mem m (get_or (histories_from (hs ++ next hs ps ∷ []) pss) p [])) ps
    same m = any_same (λ p. eqb m p || mem m (get_or hs p []))
        (λ p. eqb m p || mem m (get_or (histories_from (hs ++ next hs ps ∷ []) pss) p [])) ps
        (λ p q. ap (λ (l : List ℕ). eqb m p || mem m l) (sym (history_keeps hs (ps ∷ pss) p (omega (arith, b 0 p q)))))
history-at hs (ps ∷ pss) b (suc i) k lt e =
    history-at (hs ++ next hs ps ∷ []) pss (λ j p q. omega (arith, b (suc j) p q, length-append hs (next hs ps ∷ []))) i k (omega arith)
    (omega (arith, length-append hs (next hs ps ∷ [])))

module _ (pss : List (List ℕ)) (b : Below pss) where
  abbrev H : List (List ℕ)
  H = histories pss

  here : (i : ℕ) → i < length pss → at H i ≡ filter (reached H (at pss i)) (upto i)
  unfolding histories
  here i lt = history-at [] pss (λ j p q. omega (arith, b j p q)) i i lt (omega arith)

  -- A run's history is below it
  pub history-below : (m i : ℕ) → i < length pss → mem m (at H i) ≡ true → m < i
  history-below m i lt h = ((passing (reached H (at pss i)) i m).0 (rw (here i lt) at h)).0

  history_in : (m i p : ℕ) → i < length pss → mem p (at pss i) ≡ true → m < i → eqb m p || mem m (at H p) ≡ true → mem m (at H i) ≡ true
  unfolding reached
  history_in m i p lt q l h =
      rw (here i lt) ((passing (reached H (at pss i)) i m).1 (l, any_intro (λ p. eqb m p || mem m (at H p)) (at pss i) p q h))

  history-out : (m i : ℕ) → i < length pss → mem m (at H i) ≡ true → (p : ℕ) × (mem p (at pss i) ≡ true) × (eqb m p || mem m (at H p) ≡ true)
  unfolding reached
  history-out m i lt h = any_elim (λ p. eqb m p || mem m (at H p)) (at pss i) ((passing (reached H (at pss i)) i m).0 (rw (here i lt) at h)).1

  reach_history : {m i : ℕ} → i < length pss → Reach pss m i → mem m (at H i) ≡ true
  reach_history {m} {i} lt (parent q) = history_in m i m lt q (b i m q) (or_left (mem m (at H m)) (eq-eqb m m refl))
  reach_history {m} {i} lt (further {q = j} q k) =
      history_in m i j lt q (omega (arith, b i j q, reach_below pss b k)) (or_right (eqb m j) (reach_history (omega (arith, b i j q)) k))

  history_reach : (k m i : ℕ) → i < k → i < length pss → mem m (at H i) ≡ true → Reach pss m i
  history_reach zero m i l lt h = absurd (omega arith)
  history_reach (suc k) m i l lt h = go (history-out m i lt h) (λ j q r. history_reach k m j q r)
    where
      go : (p : ℕ) × (mem p (at pss i) ≡ true) × (eqb m p || mem m (at H p) ≡ true) →
          ((j : ℕ) → j < k → j < length pss → mem m (at H j) ≡ true → Reach pss m j) → Reach pss m i
      go r ih = cases (or_cases (eqb m r.0) (mem m (at H r.0)) r.2)
        where
          cases : (eqb m r.0 ≡ true) ⊎ (mem m (at H r.0) ≡ true) → Reach pss m i
          cases (inl e) = rw (eqb-true m r.0 e) (parent r.1)
          cases (inr e) = further r.1 (ih r.0 (omega (arith, b i r.0 r.1)) (omega (arith, b i r.0 r.1)) e)

  -- A run's history rises
  pub history_rises : (i : ℕ) → rising (at H i) ≡ true
  unfolding at
  history_rises i = go (lt_or_le i (length pss))
    where
      go : (i < length pss) ⊎ (length pss ≤ i) → rising (at H i) ≡ true
      go (inl lt) = rw (here i lt) (passing_rises (reached H (at pss i)) i)
      go (inr le) = let out : length H ≤ i = omega (arith, history-length pss) in rw (get_or-eq_default H [] out) (unfold rising in refl)

  -- A run's history, by computing, is the runs that happened before it
  pub history_iff : (m r : ℕ) → r < length pss → (mem m (at (histories pss) r) ≡ true) ↔ HappenedBefore (run_graph pss) m r
  history_iff m r lt = ((λ h. history_reach (suc r) m r (omega arith) lt h), (λ k. reach_history lt k))

-- The parents in a range are those of the graph
module _ (g : Graph) (a n : ℕ) (fits : a + n ≤ length g.parents) where
  abbrev inside : List ℕ → List ℕ
  inside ps = map (λ p. p - a) (filter (λ p. leb a p) ps)

  -- as many as the range spans
  pub parents-length : length (parents_in g a (a + n)) ≡ n
  unfolding parents_in
  parents-length =
      length-map (take (a + n - a) (drop a g.parents)) (λ ps. map (λ p. p - a) (filter (λ p. leb a p) ps)) ∙
      omega (arith, length-take (a + n - a) (drop a g.parents), length-drop a g.parents)

  parents-at : (r : ℕ) → r < n → at (parents_in g a (a + n)) r ≡ inside (at g.parents (a + r))
  unfolding parents_in at filter
  parents-at r lt =
      get_or-map inside (take (a + n - a) (drop a g.parents)) r [] ∙
      ap inside (get_or-take (a + n - a) (drop a g.parents) r [] (omega arith) ∙ get_or-drop a g.parents r [])

  parents-from : (r m : ℕ) → r < n → mem m (at (parents_in g a (a + n)) r) ≡ true → mem (a + m) (at g.parents (a + r)) ≡ true
  parents-from r m lt h =
      let k : (x : ℕ) × (mem x (filter (λ p. leb a p) (at g.parents (a + r))) ≡ true) × (m ≡ x - a) =
      map-mem (λ p. p - a) m (filter (λ p. leb a p) (at g.parents (a + r))) (rw (parents-at r lt) at h) in
      let f : (mem k.0 (at g.parents (a + r)) ≡ true) × (leb a k.0 ≡ true) = mem-filter (λ p. leb a p) k.0 (at g.parents (a + r)) k.1 in
      let e : a + m ≡ k.0 = omega (arith, k.2, leb-true a k.0 f.1) in
      rw e f.0

  parents-to : (r m : ℕ) → r < n → mem (a + m) (at g.parents (a + r)) ≡ true → mem m (at (parents_in g a (a + n)) r) ≡ true
  parents-to r m lt h =
      let e : m ≡ (a + m) - a = omega arith in
      rw (parents-at r lt) (subst (λ (k : ℕ). mem k (inside (at g.parents (a + r))) ≡ true) (sym e)
      (mem-map (λ p. p - a) (a + m) (filter (λ p. leb a p) (at g.parents (a + r)))
      (filter-mem (λ p. leb a p) (a + m) (at g.parents (a + r)) h (le-leb a (a + m) (omega arith)))))

  -- and below their runs
  pub parents-below : Below g.parents → Below (parents_in g a (a + n))
  unfolding at
  parents-below b r m h = go (lt_or_le r n)
    where
      out : n ≤ r → at (parents_in g a (a + n)) r ≡ []
      out q = get_or-eq_default (parents_in g a (a + n)) [] (omega (arith, parents-length))

      go : (r < n) ⊎ (n ≤ r) → m < r
      go (inl lt) = omega (arith, b (a + r) (a + m) (parents-from r m lt h))
      go (inr q) = false_true (unfold mem in (rw (out q) at h))

  reach_out : (b : Below g.parents) {m r : ℕ} → r < n → Reach (parents_in g a (a + n)) m r → Reach g.parents (a + m) (a + r)
  reach_out b {m} {r} lt (parent h) = parent (parents-from r m lt h)
  reach_out b {m} {r} lt (further {q = j} h k) = further (parents-from r j lt h) (reach_out b (omega (arith, parents-below b r j h)) k)

  reach_in : (b : Below g.parents) {x y : ℕ} → Reach g.parents x y → (m r : ℕ) → x ≡ a + m → y ≡ a + r → r < n → Reach (parents_in g a (a + n)) m r
  reach_in b {x} {y} (parent h) m r p q lt = parent (parents-to r m lt (rw (p, q) at h))
  reach_in b {x} {y} (further {q = j} h k) m r p q lt =
      let e : j ≡ a + (j - a) = omega (arith, reach_below g.parents b k) in
      further (parents-to r (j - a) lt (rw (q, e) at h)) (reach_in b k m (j - a) p e (omega (arith, b y j h)))

  -- A run's history in the range is its ancestors in the graph that lie in the range
  pub history-is : Below g.parents → (m r : ℕ) → r < n → (mem m (at (histories (parents_in g a (a + n))) r) ≡ true) ↔ Reach g.parents (a + m) (a + r)
  history-is b m r lt = (
    (λ h. reach_out b lt ((history_iff (parents_in g a (a + n)) (parents-below b) m r (omega (arith, parents-length))).0 h)),
    (λ k. (history_iff (parents_in g a (a + n)) (parents-below b) m r (omega (arith, parents-length))).1 (reach_in b k m r refl refl lt)),
  )
