-- A candidate weighed by the code and by the definitions. Assumes nothing.
use Rattle.std.proofs.Common.{◌≡◌, refl, sym, Bool, true, false, List, ℕ, get_or}
use mathlib.Core.Option.{none, some}
use Rattle.std.specs.Prelude.{Option, Some, None}
use Rattle.lists.proofs.Truth.{false_true}
use Rattle.model.specs.Choice.{Best, better, free}
use Rattle.walk.specs.declared.choice.Best as code
use Rattle.walk.specs.Choose.{pick, is_lower, try_of, free_c, weigh_c}

-- The best so far, as the definitions have it
unfoldable pub view : List ℕ → Option code.Best → Best
view ready None = none
view ready (Some b) = some (b.cost, b.weight, get_or ready b.at 0)

pick_view : (ready : List ℕ) (t : Bool) (a b : Option code.Best) → view ready (pick t a b) ≡ elim t as (λ _. Best) [ true ↦ view ready a | false ↦ view ready b ]
pick_view ready true a b = refl
pick_view ready false a b = refl

pub try_view : (ready : List ℕ) (b : Option code.Best) (c w i : ℕ) → view ready (try_of b (record { cost = c; weight = w; at = i })) ≡ better c w (get_or ready i 0) (view ready b)
unfolding view try_of better
try_view ready None c w i = refl
try_view ready (Some b) c w i = pick_view ready (is_lower (record { cost = c; weight = w; at = i }) b) (Some (record { cost = c; weight = w; at = i })) (Some b)

free-view : (ready : List ℕ) (b : Option code.Best) → free (view ready b) ≡ free_c b
unfolding view free_c free
free-view ready None = refl
free-view ready (Some b) = refl

-- The definitions' weighing, by tests, distances and weights of runs
unfoldable pub weigh_by : (ℕ → Bool) → (ℕ → ℕ) → (ℕ → ℕ) → ℕ → Best → Best
weigh_by t d w r best = elim (t r) [
  | true ↦ better 0 (w r) r best
  | false ↦ elim (free best) [ true ↦ best | false ↦ better (d r) (w r) r best ]
]

-- A candidate weighed
pub weigh-view : (t : ℕ → Bool) (d w : ℕ → ℕ) (ready : List ℕ) (i : ℕ) (b : Option code.Best) →
    view ready (weigh_c (t (get_or ready i 0)) (d (get_or ready i 0)) (w (get_or ready i 0)) i b) ≡ weigh_by t d w (get_or ready i 0) (view ready b)
unfolding weigh_c weigh_by
weigh-view t d w ready i b = go (t (get_or ready i 0))
  where
    r : ℕ
    r = get_or ready i 0

    low : (z y : Bool) → y ≡ z → view ready (pick z b (try_of b (record { cost = d r; weight = w r; at = i }))) ≡ elim y as
        (λ _. Best) [ true ↦ view ready b | false ↦ better (d r) (w r) r (view ready b) ]
    low true true e = refl
    low true false e = false_true e
    low false true e = false_true (sym e)
    low false false e = try_view ready b (d r) (w r) i

    go : (u : Bool) → view ready (pick u (try_of b (record { cost = 0; weight = w r; at = i }))
        (pick (free_c b) b (try_of b (record { cost = d r; weight = w r; at = i })))) ≡ elim u as (λ _. Best) [
          | true ↦ better 0 (w r) r (view ready b)
          | false ↦ elim (free (view ready b)) as (λ _. Best) [ true ↦ view ready b | false ↦ better (d r) (w r) r (view ready b) ]
        ]
    go true = try_view ready b 0 (w r) i
    go false = low (free_c b) (free (view ready b)) (free-view ready b)
