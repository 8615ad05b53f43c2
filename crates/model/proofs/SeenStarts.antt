-- Seen lengths are run starts: a fresh graph has none, and splits, growth and new runs keep it so. Assumes nothing.
use Rattle.std.proofs.Common.{◌≡◌, sym, ◌∙◌, subst, ◌⊎◌, inl, inr, true, List, [], ◌∷◌, ℕ, suc, ◌+◌, ◌≤◌, ◌<◌, arith, length, get_or, take, length-take, get_or-take}
use Rattle.lists.specs.Lists.{mem, insert_at}
use Rattle.lists.proofs.Truth.{lt_or_le, eq_or-not, false_true, or_cases, or_left}
use Rattle.lists.proofs.Members.{mem_one, mem-append, mem_index, get_d_mem}
use Rattle.lists.proofs.Inserts.{insert-new, insert-other, insert_keeps}
use Rattle.model.specs.Graph.{Graph, runs, start, first_held, len}
use Rattle.model.specs.Broken.{WellFormed}
use Rattle.model.specs.Fresh.{fresh}
use Rattle.model.specs.Split.{second_seen, split}
use Rattle.model.specs.Push.{grown, new_seen, joined, lowered}
use Rattle.model.specs.Start.{taken}
use Rattle.model.specs.StaysTrue.{SeenStarts}
use Rattle.model.proofs.SeenFrom.{second_has, after_has, new_has}
use Rattle.model.proofs.FormedReads.{start-less, seen-within}
use Rattle.model.proofs.FormedJoins.{parent_runs-below}
use Rattle.model.proofs.Persisting.{Persists}

-- Each seen length is among the starts
abbrev pub SeenAmong : Graph → Type 0
SeenAmong g = (x : ℕ) → mem x g.seen ≡ true → mem x g.starts ≡ true

-- In a well-formed graph it is the start of the run that has it or of one before
pub among_starts : (g : Graph) → WellFormed g → SeenAmong g → SeenStarts g
unfolding start
among_starts g w S q lt =
    let x : ℕ = get_or g.seen q 0 in
    let i : (j : ℕ) × (j < length g.starts) × (get_or g.starts j 0 ≡ x) = mem_index x 0 g.starts (S x (get_d_mem g.seen q 0 (omega (arith, w.seen_count)))) in
    (i.0, not-later i.0 (omega (arith, i.1, w.starts_count)) i.2 (lt_or_le q i.0), sym i.2)
  where
    not-later : (j : ℕ) → j ≤ runs g → start g j ≡ get_or g.seen q 0 → (q < j) ⊎ (j ≤ q) → j ≤ q
    not-later j b e (inl c) = absurd (omega (arith, start-less g w q j c b, (seen-within g w q lt).1))
    not-later j b e (inr c) = c

-- The two parts of a split run have seen what it had, or the second its own start
split_among : (g : Graph) (r at : ℕ) → WellFormed g → r < runs g → SeenAmong g → SeenAmong (split g r at)
unfolding split
split_among g r at w b S x m = go (eq_or-not x (second_seen g r at))
  where
    among : ℕ → Type 0
    among y = mem y (insert_at (suc r) at g.starts) ≡ true

    go : (x ≡ second_seen g r at) ⊎ (x ≡ second_seen g r at → ⊥) → mem x (insert_at (suc r) at g.starts) ≡ true
    go (inl e) = subst among (sym e) (second_has among g r at (insert-new (suc r) at g.starts)
        (insert_keeps (suc r) at (get_or g.seen r 0) g.starts (S (get_or g.seen r 0) (get_d_mem g.seen r 0 (omega (arith, w.seen_count))))))
    go (inr e) = insert_keeps (suc r) at x g.starts (S x (sym (insert-other (suc r) (second_seen g r at) x g.seen e) ∙ m))

-- A run that grows had started, and no run has seen up to `len`
grown_among : (g : Graph) (ps : List ℕ) (n : ℕ) → WellFormed g → SeenAmong g → SeenAmong (grown g ps n)
unfolding grown len start
grown_among g ps n w S x m =
    let i : (q : ℕ) × (q < length g.seen) × (get_or g.seen q 0 ≡ x) = mem_index x 0 g.seen m in
    let b : i.0 < runs g = omega (arith, i.1, w.seen_count) in
    let s : (r : ℕ) × (r ≤ i.0) × (get_or g.seen i.0 0 ≡ start g r) = among_starts g w S i.0 b in
    let c : s.0 < runs g = omega (arith, b, s.1) in
    mem-append x (take (runs g) g.starts) ((len g + n) ∷ []) ∙
    or_left (mem x ((len g + n) ∷ []))
    (subst (λ (y : ℕ). mem y (take (runs g) g.starts) ≡ true) (get_or-take (runs g) g.starts s.0 0 c ∙ sym s.2 ∙ i.2)
    (get_d_mem (take (runs g) g.starts) s.0 0 (omega (arith, length-take (runs g) g.starts, w.starts_count, c))))

-- A new run has seen up to its own start, up to the first held event, or what one of its parents hands on: that run's end or what it has seen
module _ (s : Graph) (ps : List ℕ) (w : WellFormed s) (S : SeenAmong s) where
  start_among : (r : ℕ) → r ≤ runs s → mem (start s r) s.starts ≡ true
  unfolding start
  start_among r le = get_d_mem s.starts r 0 (omega (arith, w.starts_count))

  new_among : mem (new_seen s ps) s.starts ≡ true
  unfolding len first_held
  new_among = new_has among s ps (start_among (runs s) (omega arith)) (start_among 0 (omega arith)) (λ r m.
      let lt : r < runs s = parent_runs-below s w ps r m in
      after_has among s r (start_among (suc r) lt) (S (get_or s.seen r 0) (get_d_mem s.seen r 0 (omega (arith, w.seen_count)))))
    where
      among : ℕ → Type 0
      among x = mem x s.starts ≡ true

  joined_among : (n : ℕ) → SeenAmong (lowered s (joined s ps n))
  unfolding lowered joined
  joined_among n x m =
      mem-append x s.starts ((len s + n) ∷ []) ∙
      or_left (mem x ((len s + n) ∷ [])) (go (or_cases (mem x s.seen) (mem x (new_seen s ps ∷ [])) (sym (mem-append x s.seen (new_seen s ps ∷ [])) ∙ m)))
    where
      go : (mem x s.seen ≡ true) ⊎ (mem x (new_seen s ps ∷ []) ≡ true) → mem x s.starts ≡ true
      go (inl k) = S x k
      go (inr k) = subst (λ (y : ℕ). mem y s.starts ≡ true) (sym (mem_one x (new_seen s ps) k)) new_among

pub among_persists : Persists SeenAmong
among_persists = record {
  splits = λ g r at w b lo hi S. split_among g r at w b S;
  grows = grown_among;
  joins = λ s ps n w S. joined_among s ps w S n;
}

pub among_fresh : (events : ℕ) (frontier : List ℕ) → SeenAmong (fresh events frontier)
unfolding fresh mem
among_fresh events frontier x m = false_true m

pub among_taken : (g : Graph) → SeenAmong g → SeenAmong (taken g)
unfolding taken
among_taken g S = S
