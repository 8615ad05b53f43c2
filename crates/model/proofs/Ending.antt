-- A split keeps all that a graph keeps with its log, and so do splits after each held parent: then a run ends in each. Assumes nothing.
use Rattle.std.proofs.Common.{◌≡◌, refl, sym, ap, ◌∙◌, Bool, true, false, ◌||◌, List, [], ◌∷◌, ◌++◌, map, ℕ, suc, ◌≤◌, ◌<◌, arith, leb, eqb, eq-eqb}
use borrow.Author.Tests.{eqb-false}
use Rattle.lists.specs.Lists.{mem, count}
use Rattle.lists.proofs.Truth.{lt_of_ne, or_right, or-first, or-last}
use Rattle.lists.proofs.Members.{mem-append}
use Rattle.lists.proofs.Rising.{up_append}
use Rattle.model.specs.EventGraph.{ancestor}
use Rattle.model.specs.Graph.{Graph, containing}
use Rattle.model.specs.Split.{split, ends, split_after}
use Rattle.model.specs.Log.{Log, held_of, held_before, edge, edges_at, log_start}
use Rattle.model.proofs.Exact.{ancestors}
use Rattle.model.proofs.Seen.{Front, Inv, containing-is}
use Rattle.model.proofs.Edges.{edge-member, edge-append, count_skip}
use Rattle.model.proofs.Splitting.{split_tied, split-seen}

split_front : (g : Graph) (l : Log) (r a : ℕ) → Front g l → Front (split g r a) (log_start l a)
unfolding split log_start ancestors ancestor held_of held_before
split_front g l r a f = record { below = f.below; covers = f.covers }

-- A split inside run r keeps all
pub split_inv : (g : Graph) (l : Log) → Inv g l → (a r : ℕ) → l.first_held < a → a < l.next → mem a l.edges ≡ false →
    suc r ≡ count (λ s. leb s a) l.edges → Inv (split g r a) (log_start l a)
split_inv g l v a r lo hi new run = record {
  tied = split_tied g l v.tied a r lo hi new run;
  seen = split-seen g l v.tied a r lo hi new run v.seen;
  front = split_front g l r a v.front;
  lower = unfold log_start in v.lower;
}

-- The log with other edges
abbrev pub with_edges : Log → List ℕ → Log
with_edges l es = record { first_held = l.first_held; next = l.next; parents = l.parents; edges = es }

-- Splits after parents: the runs' starts are the edges that the log makes
pub splits_keep : (hs : List ℕ) (g : Graph) (l : Log) → Inv g l → ((p : ℕ) → mem p hs ≡ true → (l.first_held ≤ p) × (p < l.next)) →
    (es : List ℕ) × Inv (split_after g hs) (with_edges l es) × (es ++ l.next ∷ [] ≡ edges_at (map suc hs) (l.edges ++ l.next ∷ []))
unfolding split_after edges_at ends mem log_start
splits_keep [] g l v h = (l.edges, v, refl)
splits_keep (p ∷ ps) g l v h =
    go (mem (suc p) g.starts) refl (λ q. splits_keep ps g l v q)
    (splits_keep ps (split g (containing g p) (suc p)) (log_start l (suc p)))
  where
    here : (l.first_held ≤ p) × (p < l.next)
    here = h p (rw (eq-eqb p p refl))

    rest : (x : ℕ) → mem x ps ≡ true → (l.first_held ≤ x) × (x < l.next)
    rest x m = h x (or_right (eqb x p) m)

    Goal : Bool → Type 0
    Goal b = (es : List ℕ) × Inv (elim b as (λ _. Graph) [ true ↦ split_after g ps | false ↦ split_after (split g (containing g p) (suc p)) ps ]) (with_edges l es) ×
        (es ++ l.next ∷ [] ≡ edges_at (map suc ps) (edge (suc p) (l.edges ++ l.next ∷ [])))

    go : (b : Bool) → mem (suc p) g.starts ≡ b →
        (((x : ℕ) → mem x ps ≡ true → (l.first_held ≤ x) × (x < l.next)) →
        (es : List ℕ) × Inv (split_after g ps) (with_edges l es) × (es ++ l.next ∷ [] ≡ edges_at (map suc ps) (l.edges ++ l.next ∷ []))) →
        (Inv (split g (containing g p) (suc p)) (log_start l (suc p)) → ((x : ℕ) → mem x ps ≡ true → ((log_start l (suc p)).first_held ≤ x) × (x < (log_start l (suc p)).next)) →
        (es : List ℕ) × Inv (split_after (split g (containing g p) (suc p)) ps) (with_edges (log_start l (suc p)) es) ×
        (es ++ (log_start l (suc p)).next ∷ [] ≡ edges_at (map suc ps) ((log_start l (suc p)).edges ++ (log_start l (suc p)).next ∷ []))) → Goal b
    go true m ih₁ ih₂ =
        let k : edge (suc p) (l.edges ++ l.next ∷ []) ≡ l.edges ++ l.next ∷ [] =
        edge-member l.first_held (l.edges ++ l.next ∷ []) (suc l.next) (suc p) (up_append l.first_held l.edges l.next (suc l.next) v.tied.edged.up (omega arith)) (rw v.tied.starts at m) in
        let r : (es : List ℕ) × Inv (split_after g ps) (with_edges l es) × (es ++ l.next ∷ [] ≡ edges_at (map suc ps) (l.edges ++ l.next ∷ [])) = ih₁ rest in
        (r.0, r.1, r.2 ∙ ap (λ (xs : List ℕ). edges_at (map suc ps) xs) (sym k))
    go false m ih₁ ih₂ =
        let k : mem (suc p) l.edges || mem (suc p) (l.next ∷ []) ≡ false = sym (mem-append (suc p) l.edges (l.next ∷ [])) ∙ (rw v.tied.starts at m) in
        let fresh-edge : mem (suc p) l.edges ≡ false = or-first (mem (suc p) l.edges) (mem (suc p) (l.next ∷ [])) k in
        let hi : suc p < l.next = lt_of_ne (suc p) l.next (omega (arith, here.1)) (eqb-false (suc p) l.next (or-first (eqb (suc p) l.next) false (or-last (mem (suc p) l.edges) (mem (suc p) (l.next ∷ [])) k))) in
        let run : suc (containing g p) ≡ count (λ s. leb s (suc p)) l.edges = containing-is g l v.tied p here.1 here.0 ∙ sym (count_skip p l.edges fresh-edge) in
        let v' : Inv (split g (containing g p) (suc p)) (log_start l (suc p)) = split_inv g l v (suc p) (containing g p) (omega (arith, here.0)) hi fresh-edge run in
        let r : (es : List ℕ) × Inv (split_after (split g (containing g p) (suc p)) ps) (with_edges l es) ×
        (es ++ l.next ∷ [] ≡ edges_at (map suc ps) (edge (suc p) l.edges ++ l.next ∷ [])) = ih₂ v' rest in
        (r.0, r.1, r.2 ∙ ap (λ (xs : List ℕ). edges_at (map suc ps) xs) (sym (edge-append l.edges l.next (suc p) hi)))
