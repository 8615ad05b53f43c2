-- What a run comes to have seen is one of a few numbers: what holds of each of them holds of it. Assumes nothing.
use Rattle.std.proofs.Common.{◌≡◌, sym, subst, true, List, map, ℕ, suc, get_or, eqb}
use Rattle.lists.specs.Lists.{mem, same, largest}
use Rattle.lists.proofs.Truth.{cond_has}
use Rattle.lists.proofs.Members.{map-mem}
use Rattle.lists.proofs.Bounds.{largest_has}
use Rattle.model.specs.Graph.{Graph, start, first_held, len}
use Rattle.model.specs.Split.{second_seen}
use Rattle.model.specs.Push.{parent_runs, seen_after, new_seen}

-- The second part of a split: its own start, or what the first has seen
pub second_has : (P : ℕ → Type 0) (g : Graph) (r at : ℕ) → P at → P (get_or g.seen r 0) → P (second_seen g r at)
unfolding second_seen
second_has P g r at p q = cond_has P (eqb (get_or g.seen r 0) (start g r)) at (get_or g.seen r 0) p q

-- "Seen after" a run: its end, or what it has seen
pub after_has : (P : ℕ → Type 0) (g : Graph) (r : ℕ) → P (start g (suc r)) → P (get_or g.seen r 0) → P (seen_after g r)
unfolding seen_after
after_has P g r p q = cond_has P (eqb (get_or g.seen r 0) (start g r)) (start g (suc r)) (get_or g.seen r 0) p q

-- A new run: its own start, the first held event, or "seen after" one of its parent runs
pub new_has : (P : ℕ → Type 0) (g : Graph) (ps : List ℕ) → P (len g) → P (first_held g) → ((r : ℕ) → mem r (parent_runs g ps) ≡ true → P (seen_after g r)) →
    P (new_seen g ps)
unfolding new_seen
new_has P g ps p q h =
    cond_has P (same ps g.frontier) (len g) (largest (first_held g) handed) p
    (largest_has P (first_held g) handed q (λ x m.
    let w : (r : ℕ) × (mem r (parent_runs g ps) ≡ true) × (x ≡ seen_after g r) = map-mem (seen_after g) x (parent_runs g ps) m in
    subst P (sym w.2) (h w.0 w.1)))
  where
    handed : List ℕ
    handed = map (seen_after g) (parent_runs g ps)
