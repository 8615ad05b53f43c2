-- The parents of a range's runs, gathered run by run. Assumes nothing.
use Rattle.std.proofs.Common.{◌≡◌, refl, sym, ap, ap₂, ◌∙◌, Bool, true, false, cond, List, [], ◌∷◌, ◌++◌, map, append_assoc, append-nil, ℕ, zero, suc, ◌+◌, ◌-◌, ◌≤◌, ◌<◌, add-one, zero-add}
use Rattle.std.proofs.Common.{arith, length, get_or, take, drop, set, length-append, drop_of_length-le, drop-cons, leb, le-leb}
use lib.Seq.{append_snoc, set-append_seam}
use borrow.Author.Tests.{lt-leb}
use Rattle.lists.specs.Lists.{filter, concat}
use Rattle.lists.specs.Areas.{over, group_starts}
use Rattle.lists.proofs.Counts.{length_snoc}
use Rattle.lists.proofs.Groups.{concat-append, length_group_starts}
use Rattle.model.specs.History.{at}
use Rattle.tables.specs.Jagged.{rows_in}
use Rattle.tables.specs.Gather.{Gathered, put_parent, put_parents}
use Rattle.tables.specs.Laid.{shares, shares_of}
use Rattle.tables.proofs.JaggedRows.{rows_more, rows-most}

-- Those of a run's parents that lie in the range
abbrev pub inside : ℕ → List ℕ → List ℕ
inside a ps = map (λ p. p - a) (filter (λ p. leb a p) ps)

-- A parent before the range is dropped, one in it is put
pub put_dropped : (a : ℕ) (s : Gathered) (p : ℕ) → p < a → s ≡ put_parent a s p
unfolding put_parent
put_dropped a s p h = rw (lt-leb a p h)

-- one in it is put less a
pub put-kept : (a : ℕ) (s : Gathered) (p : ℕ) → a ≤ p → ◌≡◌ {A = Gathered} (s.0 + 1, set s.1 s.0 (p - a)) (put_parent a s p)
unfolding put_parent
put-kept a s p le = rw (le-leb a p le)

-- at most one more
pub put_count : (a : ℕ) (s : Gathered) (p : ℕ) → (s.0 ≤ (put_parent a s p).0) × ((put_parent a s p).0 ≤ s.0 + 1)
unfolding put_parent
put_count a s p = go (leb a p)
  where
    go : (t : Bool) → (s.0 ≤ (cond t (s.0 + 1, set s.1 s.0 (p - a)) s).0) × ((cond t (s.0 + 1, set s.1 s.0 (p - a)) s).0 ≤ s.0 + 1)
    go true = (omega arith, omega arith)
    go false = (omega arith, omega arith)

-- Turns of the loop over a run's parents
pub puts_next : (a : ℕ) (s : Gathered) (ps : List ℕ) (i : ℕ) → i < length ps → put_parents a (put_parent a s (get_or ps i 0)) (drop (i + 1) ps) ≡ put_parents a s (drop i ps)
unfolding put_parents
puts_next a s ps i h = rw (add-one i, drop-cons ps i 0 h)

-- none is left
pub puts_none : (a : ℕ) (s : Gathered) (ps : List ℕ) (i : ℕ) → length ps ≤ i → put_parents a s (drop i ps) ≡ s
unfolding put_parents
puts_none a s ps i h = rw (drop_of_length-le ps h)

-- at most as many more as there are parents
pub puts_count : (a : ℕ) (s : Gathered) (ps : List ℕ) → (s.0 ≤ (put_parents a s ps).0) × ((put_parents a s ps).0 ≤ s.0 + length ps)
unfolding put_parents
puts_count a s [] = (omega arith, omega arith)
puts_count a s (p ∷ ps) =
    let q = put_count a s p in
    let h = puts_count a (put_parent a s p) ps in
    (omega (arith, h.0, q.0), omega (arith, h.1, q.1))

-- A word written after the words of an area
over_add : (l area : List ℕ) (v : ℕ) → length l < length area → set (over l area) (length l) v ≡ over (l ++ v ∷ []) area
unfolding over
over_add l area v h =
    ap (λ (y : List ℕ). set (l ++ y) (length l) v) (drop-cons area (length l) 0 h) ∙
    (set-append_seam l (get_or area (length l) 0) (drop (suc (length l)) area) v ∙
    (sym (append_snoc l v (drop (suc (length l)) area)) ∙ ap (λ (k : ℕ). l ++ v ∷ [] ++ drop k area) (sym (length_snoc l v))))

-- Items in their area: where the next one goes, and the area
abbrev pub held : List ℕ → List ℕ → Gathered
held l area = (length l, over l area)

put-held : (a : ℕ) (l area : List ℕ) (p : ℕ) → length l < length area → put_parent a (held l area) p ≡ held (cond (leb a p) (l ++ (p - a) ∷ []) l) area
unfolding put_parent
put-held a l area p room = go (leb a p)
  where
    go : (t : Bool) → cond t (length l + 1, set (over l area) (length l) (p - a)) (held l area) ≡ held (cond t (l ++ (p - a) ∷ []) l) area
    go true =
        let q : length l + 1 ≡ length (l ++ (p - a) ∷ []) = omega (arith, length_snoc l (p - a)) in
        ap₂ (λ (x : ℕ) (y : List ℕ). (x, y)) q (over_add l area (p - a) room)
    go false = refl

puts_held : (a : ℕ) (l area ps : List ℕ) → length l + length ps ≤ length area → put_parents a (held l area) ps ≡ held (l ++ inside a ps) area
unfolding put_parents filter
puts_held a l area [] room = ap (λ (x : List ℕ). held x area) (sym (append-nil l))
puts_held a l area (p ∷ ps) room =
    ap (λ (s : Gathered). put_parents a s ps) (put-held a l area p (omega arith)) ∙
    go (leb a p) (puts_held a (l ++ (p - a) ∷ []) area ps (omega (arith, length_snoc l (p - a)))) (puts_held a l area ps (omega arith))
  where
    go : (t : Bool) → put_parents a (held (l ++ (p - a) ∷ []) area) ps ≡ held (l ++ (p - a) ∷ [] ++ inside a ps) area → put_parents a (held l area) ps ≡ held (l ++ inside a ps) area →
        put_parents a (held (cond t (l ++ (p - a) ∷ []) l) area) ps ≡ held (l ++ map (λ p. p - a) (cond t (p ∷ filter (λ p. leb a p) ps) (filter (λ p. leb a p) ps))) area
    go true x y = x ∙ ap (λ (z : List ℕ). held z area) (append_assoc l ((p - a) ∷ []) (inside a ps))
    go false x y = y

-- The starts of groups with one more at the end
starts_snoc : (n : ℕ) (xs : List (List ℕ)) (x : List ℕ) → group_starts n (xs ++ x ∷ []) ≡ group_starts n xs ++ (n + length (concat xs ++ x)) ∷ []
unfolding group_starts concat
starts_snoc n [] x = refl
starts_snoc n (y ∷ ys) x =
    let e : n + length y + length (concat ys ++ x) ≡ n + length (y ++ concat ys ++ x) = omega (arith, length-append (y ++ concat ys) x, length-append y (concat ys), length-append (concat ys) x) in
    ap (λ (l : List ℕ). n ∷ l) (starts_snoc (n + length y) ys x ∙ ap (λ (k : ℕ). group_starts (n + length y) ys ++ k ∷ []) e)

concat_snoc : (xs : List (List ℕ)) (x : List ℕ) → concat (xs ++ x ∷ []) ≡ concat xs ++ x
unfolding concat
concat_snoc xs x = concat-append xs (x ∷ []) ∙ ap (λ (l : List ℕ). concat xs ++ l) (append-nil x)

starts-next : (pss : List (List ℕ)) (x area : List ℕ) → length pss + 1 < length area →
    set (over (group_starts 0 pss) area) (length pss + 1) (length (concat pss ++ x)) ≡ over (group_starts 0 (pss ++ x ∷ [])) area
starts-next pss x area h =
    let at_end : length pss + 1 ≡ length (group_starts 0 pss) = omega (arith, length_group_starts 0 pss) in
    ap (λ (k : ℕ). set (over (group_starts 0 pss) area) k (length (concat pss ++ x))) at_end ∙
    (over_add (group_starts 0 pss) area (length (concat pss ++ x)) (omega arith) ∙
    ap (λ (l : List ℕ). over l area) (sym (starts_snoc 0 pss x ∙ ap (λ (k : ℕ). group_starts 0 pss ++ k ∷ []) (zero-add (length (concat pss ++ x))))))

-- One group more
group_added : (a : ℕ) (pss : List (List ℕ)) (ps area : List ℕ) → length (concat pss) + length ps ≤ length area →
    put_parents a (held (concat pss) area) ps ≡ held (concat (pss ++ inside a ps ∷ [])) area
group_added a pss ps area room = puts_held a (concat pss) area ps room ∙ ap (λ (l : List ℕ). held l area) (sym (concat_snoc pss (inside a ps)))

-- As many groups as runs
pub shares-count : (all : List (List ℕ)) (a n : ℕ) → length (shares_of all a n) ≡ n
unfolding shares_of
shares-count all a zero = refl
shares-count all a (suc n) = length_snoc (shares_of all a n) (inside a (at all (a + n))) ∙ ap suc (shares-count all a n)

pub shares-length : (starts items : List ℕ) (a n : ℕ) → length (shares starts items a n) ≡ n
unfolding shares
shares-length starts items a n = shares-count (rows_in starts items (a + n)) a n

share_more : (all : List (List ℕ)) (a n : ℕ) → shares_of all a (suc n) ≡ shares_of all a n ++ inside a (at all (a + n)) ∷ []
unfolding shares_of
share_more all a n = refl

-- The groups of j runs from run a on, made in areas that held s₀ and i₀, and where the next item goes
pub record Gathers (all : List (List ℕ)) (a j : ℕ) (s₀ i₀ : List ℕ) (next : ℕ) (ss is : List ℕ) : Type 0 where
  pub starts : ss ≡ over (group_starts 0 (shares_of all a j)) s₀
  pub items : ◌≡◌ {A = Gathered} (next, is) (held (concat (shares_of all a j)) i₀)
  pub low : next ≤ length (concat (take (a + j) all))

-- No groups yet
pub gathers_none : (all : List (List ℕ)) (a : ℕ) (s i : List ℕ) → 0 < length s → Gathers all a 0 (set s 0 0) i 0 (set s 0 0) i
unfolding shares_of concat group_starts over
gathers_none all a [] i h = absurd (omega arith)
gathers_none all a (x ∷ xs) i h = record { starts = refl; items = refl; low = omega arith }

-- A turn of the loop over the runs
module _ (all : List (List ℕ)) (a j : ℕ) (lt : a + j < length all) (s₀ i₀ : List ℕ) (next : ℕ) (starts items : List ℕ) (G : Gathers all a j s₀ i₀ next starts items)
    (fits : length (concat all) ≤ length i₀) (long : j + 1 < length s₀) where
  abbrev ps : List ℕ
  ps = at all (a + j)

  -- there is room for the run's parents
  pub turn_room : next + length ps ≤ length (concat all)
  turn_room = omega (arith, G.low, rows_more all (a + j) lt, rows-most all (a + j + 1))

  pub gathers_next : (next' : ℕ) (starts' items' : List ℕ) → ◌≡◌ {A = Gathered} (next', items') (put_parents a (next, items) ps) → starts' ≡ set starts (j + 1) next' →
      Gathers all a (j + 1) s₀ i₀ next' starts' items'
  gathers_next next' starts' items' put ended =
      let pss : List (List ℕ) = shares_of all a j in
      let size : length pss ≡ j = shares-count all a j in
      let here : next ≡ length (concat pss) = ap (λ (s : Gathered). s.0) G.items in
      let more : shares_of all a (j + 1) ≡ pss ++ inside a ps ∷ [] = ap (shares_of all a) (add-one j) ∙ share_more all a j in
      let made : ◌≡◌ {A = Gathered} (next', items') (held (concat (pss ++ inside a ps ∷ [])) i₀) =
      put ∙ (ap (λ (s : Gathered). put_parents a s ps) G.items ∙ group_added a pss ps i₀ (omega (arith, turn_room))) in
      let end : next' ≡ length (concat pss ++ inside a ps) = ap (λ (s : Gathered). s.0) made ∙ ap length (concat_snoc pss (inside a ps)) in
      let count : next' ≤ next + length ps = omega (arith, ap (λ (s : Gathered). s.0) put, (puts_count a (next, items) ps).1) in
      let up : a + j + 1 ≡ a + (j + 1) = omega arith in
      record {
        starts = ended ∙ (ap₂ (λ (l : List ℕ) (k : ℕ). set l (k + 1) next') G.starts (sym size) ∙ (ap (λ (v : ℕ). set (over (group_starts 0 pss) s₀) (length pss + 1) v) end ∙
            (starts-next pss (inside a ps) s₀ (omega (arith, size)) ∙ ap (λ (l : List (List ℕ)). over (group_starts 0 l) s₀) (sym more))));
        items = made ∙ ap (λ (l : List (List ℕ)). held (concat l) i₀) (sym more);
        low = omega (arith, count, G.low, rows_more all (a + j) lt, ap (λ (k : ℕ). length (concat (take k all))) up);
      }
