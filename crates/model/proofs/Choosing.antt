-- A walk's choice is one of the ready runs, and there is one while a run is ready. Assumes nothing.
use Rattle.std.proofs.Common.{◌≡◌, refl, subst, Bool, true, false, not, ◌&&◌, ◌||◌, List, [], ◌∷◌, ◌++◌, ℕ, get_or, take, ltb, eqb}
use mathlib.Core.Option.{Option, none, some}
use Rattle.lists.specs.Lists.{filter, reverse}
use Rattle.lists.proofs.Truth.{false_true}
use Rattle.lists.proofs.Each.{All, all_take, all-reverse}
use Rattle.model.specs.History.{at}
use Rattle.model.specs.Choice.{Range, newly_ready, Best, is_last, free, better, weigh, weigh_all, chosen, choice, apart}

-- The ready list after a visit of r
abbrev pub ready_after : Range → ℕ → ℕ → List ℕ → List ℕ → ℕ → List ℕ
ready_after w known first visited ready r =
    let rest : List ℕ = filter (λ x. not (eqb x r)) ready in
    rest ++ newly_ready w known first (r ∷ visited) rest

-- The best so far, if any, is a run that P holds of
abbrev Fine : (ℕ → Type 0) → Best → Type 0
Fine P none = Unit {0}
Fine P (some b) = P b.2

better_fine : (P : ℕ → Type 0) (c w r : ℕ) (b : Best) → P r → Fine P b → Fine P (better c w r b)
unfolding better
better_fine P c w r none p h = p
better_fine P c w r (some b) p h = go (ltb c b.0 || (eqb c b.0 && ltb w b.1))
  where
    go : (t : Bool) → Fine P (elim t as (λ _. Best) [ true ↦ some (c, w, r) | false ↦ some b ])
    go true = p
    go false = h

weigh_fine : (P : ℕ → Type 0) (w : Range) (now : List ℕ) (last : Option ℕ) (r : ℕ) (b : Best) → P r → Fine P b → Fine P (weigh w now last r b)
unfolding weigh
weigh_fine P w now last r b p h = go (is_last last (at w.parents r)) (free b)
  where
    go : (t u : Bool) → Fine P (elim t as (λ _. Best) [
      | true ↦ better 0 (get_or w.weight r 0) r b
      | false ↦ elim u as (λ _. Best) [ true ↦ b | false ↦ better (apart w now (at w.history r)) (get_or w.weight r 0) r b ]
    ])
    go true u = better_fine P 0 (get_or w.weight r 0) r b p h
    go false true = h
    go false false = better_fine P (apart w now (at w.history r)) (get_or w.weight r 0) r b p h

weigh_all_fine : (P : ℕ → Type 0) (w : Range) (now : List ℕ) (last : Option ℕ) (rs : List ℕ) (b : Best) → All P rs → Fine P b →
    Fine P (weigh_all w now last rs b)
unfolding weigh_all
weigh_all_fine P w now last [] b p h = h
weigh_all_fine P w now last (r ∷ rs) b p h = weigh_all_fine P w now last rs (weigh w now last r b) p.1 (weigh_fine P w now last r b p.0 h)

-- The run chosen, if any, is one that P holds of
abbrev pub FineRun : (ℕ → Type 0) → Option ℕ → Type 0
FineRun P none = Unit {0}
FineRun P (some r) = P r

chosen_fine : (P : ℕ → Type 0) (b : Best) → Fine P b → FineRun P (chosen b)
unfolding chosen
chosen_fine P none h = tt
chosen_fine P (some b) h = h

-- What holds of each ready run holds of the choice
pub choice_fine : (P : ℕ → Type 0) (w : Range) (now : List ℕ) (last : Option ℕ) (ready : List ℕ) → All P ready → FineRun P (choice w now last ready)
unfolding choice
choice_fine P w now last ready h =
    chosen_fine P (weigh_all w now last (take 64 (reverse [] ready)) none)
    (weigh_all_fine P w now last (take 64 (reverse [] ready)) none (all_take P 64 (reverse [] ready) (all-reverse P [] ready tt h)) tt)

-- There is a best so far
abbrev IsSome : {A : Type 0} → Option A → Type 0
IsSome none = ⊥
IsSome (some x) = Unit {0}

better-some : (c w r : ℕ) (b : Best) → IsSome (better c w r b)
unfolding better
better-some c w r none = tt
better-some c w r (some b) = go (ltb c b.0 || (eqb c b.0 && ltb w b.1))
  where
    go : (t : Bool) → IsSome {A = ℕ × ℕ × ℕ} (elim t as (λ _. Best) [ true ↦ some (c, w, r) | false ↦ some b ])
    go true = tt
    go false = tt

free-some : (b : Best) → free b ≡ true → IsSome b
unfolding free
free-some none e = false_true e
free-some (some b) e = tt

weigh-some : (w : Range) (now : List ℕ) (last : Option ℕ) (r : ℕ) (b : Best) → IsSome (weigh w now last r b)
unfolding weigh
weigh-some w now last r b = go (is_last last (at w.parents r)) (free b) refl
  where
    go : (t u : Bool) → free b ≡ u → IsSome {A = ℕ × ℕ × ℕ} (elim t as (λ _. Best) [
      | true ↦ better 0 (get_or w.weight r 0) r b
      | false ↦ elim u as (λ _. Best) [ true ↦ b | false ↦ better (apart w now (at w.history r)) (get_or w.weight r 0) r b ]
    ])
    go true u e = better-some 0 (get_or w.weight r 0) r b
    go false true e = free-some b e
    go false false e = better-some (apart w now (at w.history r)) (get_or w.weight r 0) r b

weigh_all-some : (w : Range) (now : List ℕ) (last : Option ℕ) (rs : List ℕ) (b : Best) → IsSome b → IsSome (weigh_all w now last rs b)
unfolding weigh_all
weigh_all-some w now last [] b h = h
weigh_all-some w now last (r ∷ rs) b h = weigh_all-some w now last rs (weigh w now last r b) (weigh-some w now last r b)

chosen-some : (b : Best) → IsSome b → chosen b ≡ none → ⊥
unfolding chosen
chosen-some none h e = h
chosen-some (some b) h e = absurd (subst IsSome e tt)

-- A list that is not empty is not empty reversed
reverse-cons : (done xs : List ℕ) (P : List ℕ → Type 0) → ((x : ℕ) (ys : List ℕ) → P (x ∷ ys)) → (y : ℕ) (ys : List ℕ) → done ≡ y ∷ ys →
    P (reverse done xs)
unfolding reverse
reverse-cons done [] P f y ys e = rw e (f y ys)
reverse-cons done (x ∷ xs) P f y ys e = reverse-cons (x ∷ done) xs P f x done refl

-- With no choice nothing is ready
pub none-ready : (w : Range) (now : List ℕ) (last : Option ℕ) (ready : List ℕ) → choice w now last ready ≡ none → ready ≡ []
unfolding choice reverse weigh_all
none-ready w now last [] e = refl
none-ready w now last (x ∷ xs) e =
    absurd (reverse-cons (x ∷ []) xs (λ ys. chosen (weigh_all w now last (take 64 ys) none) ≡ none → ⊥) some-chosen x [] refl e)
  where
    some-chosen : (y : ℕ) (ys : List ℕ) → chosen (weigh_all w now last (take 64 (y ∷ ys)) none) ≡ none → ⊥
    some-chosen y ys =
        let b : Best = weigh w now last y none in
        chosen-some (weigh_all w now last (take 63 ys) b) (weigh_all-some w now last (take 63 ys) b (weigh-some w now last y none))
