-- The run chosen by the code is the one that the definitions choose, and there is one while a run is ready. Assumes nothing.
use Rattle.std.proofs.Common.{◌≡◌, refl, sym, ap, ◌∙◌, Bool, true, false, List, [], ◌∷◌, ℕ, zero, suc, ◌+◌, ◌-◌, ◌≤◌, ◌<◌, min, arith, length, get_or, take, eqb, eq-eqb}
use mathlib.Core.Option as maybe
use mathlib.Core.Option.{none, some}
use Rattle.std.specs.Prelude.{Option, Some, None}
use Rattle.lists.specs.Lists.{mem}
use Rattle.lists.proofs.Truth.{or_left, or_right}
use Rattle.model.specs.History.{at}
use Rattle.model.specs.Choice.{Range, Best, better, free, is_last, apart, weigh, weigh_all, chosen, choice}
use Rattle.walk.specs.declared.choice.Best as code
use Rattle.walk.specs.Choose.{pick, index_of, is_lower, try_of, free_c, weigh_c, scan_c}
use Rattle.walk.proofs.Newest.{newest, newest_at, newest_length}
use Rattle.walk.proofs.Viewing.{view, weigh_by, weigh-view}

unfoldable pub weighs_by : (ℕ → Bool) → (ℕ → ℕ) → (ℕ → ℕ) → List ℕ → Best → Best
weighs_by t d w [] best = best
weighs_by t d w (r ∷ rs) best = weighs_by t d w rs (weigh_by t d w r best)

-- where tests, distances and weights are those of the range
pub weighs_are : (v : Range) (now : List ℕ) (last : maybe.Option ℕ) (t : ℕ → Bool) (d w : ℕ → ℕ) (rs : List ℕ) (best : Best) →
    ((r : ℕ) → mem r rs ≡ true → (t r ≡ is_last last (at v.parents r)) × (d r ≡ apart v now (at v.history r)) × (w r ≡ get_or v.weight r 0)) →
    weighs_by t d w rs best ≡ weigh_all v now last rs best
unfolding weighs_by weigh_all weigh_by weigh mem
weighs_are v now last t d w [] best h = refl
weighs_are v now last t d w (r ∷ rs) best h =
    ap (weighs_by t d w rs) (one (h r (or_left (mem r rs) (eq-eqb r r refl)))) ∙
    weighs_are v now last t d w rs (weigh v now last r best) (λ x m. h x (or_right (eqb x r) m))
  where
    form : Bool → ℕ → ℕ → Best
    form t d w = elim t [ true ↦ better 0 w r best | false ↦ elim (free best) [ true ↦ best | false ↦ better d w r best ] ]

    all₃ : (t u : Bool) (d e w x : ℕ) → t ≡ u → d ≡ e → w ≡ x → form t d w ≡ form u e x
    all₃ t u d e w x p q s = λ i. form (p i) (q i) (s i)

    one : (t r ≡ is_last last (at v.parents r)) × (d r ≡ apart v now (at v.history r)) × (w r ≡ get_or v.weight r 0) →
        weigh_by t d w r best ≡ weigh v now last r best
    one e = all₃ (t r) (is_last last (at v.parents r)) (d r) (apart v now (at v.history r)) (w r) (get_or v.weight r 0) e.0 e.1 e.2

-- The code's scan is the definitions' weighing of the last 64, newest first
scan_view : (t : ℕ → Bool) (d w : ℕ → ℕ) (ready : List ℕ) (n i : ℕ) (rs : List ℕ) (b : Option code.Best) →
    ((j : ℕ) → j < length rs → get_or rs j 0 ≡ get_or ready (n - 1 - (i + j)) 0) →
    view ready (scan_c t d w ready n i (length rs) b) ≡ weighs_by t d w rs (view ready b)
unfolding scan_c weighs_by
scan_view t d w ready n i [] b h = refl
scan_view t d w ready n i (x ∷ xs) b h =
    scan_view t d w ready n (i + 1) xs next (λ j l. let e : i + 1 + j ≡ i + suc j = omega arith in rw e (h (suc j) (omega arith))) ∙
    ap (weighs_by t d w xs) (weigh-view t d w ready (n - 1 - i) b ∙ ap (λ (r : ℕ). weigh_by t d w r (view ready b)) (sym first))
  where
    next : Option code.Best
    next = weigh_c (t (get_or ready (n - 1 - i) 0)) (d (get_or ready (n - 1 - i) 0)) (w (get_or ready (n - 1 - i) 0)) (n - 1 - i) b

    first : x ≡ get_or ready (n - 1 - i) 0
    first = let e : i + 0 ≡ i = omega arith in rw e at (h 0 (omega arith))

none_view : (ready : List ℕ) → view ready None ≡ none
unfolding view
none_view ready = refl

pub scan_is : (t : ℕ → Bool) (d w : ℕ → ℕ) (ready : List ℕ) (n : ℕ) → n ≤ length ready →
    view ready (scan_c t d w ready n 0 (min 64 n) None) ≡ weighs_by t d w (newest ready n) none
scan_is t d w ready n le =
    ap (λ (k : ℕ). view ready (scan_c t d w ready n 0 k None)) (sym (newest_length ready n le)) ∙
    (scan_view t d w ready n 0 (newest ready n) None (λ j l. newest_at ready n j le l ∙ ap (λ (k : ℕ). get_or ready (n - 1 - k) 0) (plus j)) ∙
    ap (weighs_by t d w (newest ready n)) (none_view ready))
  where
    plus : (j : ℕ) → j ≡ 0 + j
    plus j = omega arith

-- The run chosen by the code is the one that the definitions choose
pub choice-is : (v : Range) (now : List ℕ) (last : maybe.Option ℕ) (t : ℕ → Bool) (d w : ℕ → ℕ) (ready : List ℕ) (n : ℕ) → n ≤ length ready →
    ((r : ℕ) → mem r (newest ready n) ≡ true → (t r ≡ is_last last (at v.parents r)) × (d r ≡ apart v now (at v.history r)) × (w r ≡ get_or v.weight r 0)) →
    chosen (view ready (scan_c t d w ready n 0 (min 64 n) None)) ≡ choice v now last (take n ready)
unfolding choice
choice-is v now last t d w ready n le h = ap chosen (scan_is t d w ready n le ∙ weighs_are v now last t d w (newest ready n) none h)

-- A best so far, if there is one, stands below place n
abbrev pub Fits : ℕ → Option code.Best → Type 0
Fits n None = Unit
Fits n (Some b) = b.at < n

-- There is one, and it does
abbrev pub Found : ℕ → Option code.Best → Type 0
Found n None = ⊥
Found n (Some b) = b.at < n

found_fits : (n : ℕ) (b : Option code.Best) → Found n b → Fits n b
found_fits n None f = tt
found_fits n (Some b) f = f

pick_found : (n : ℕ) (t : Bool) (a b : Option code.Best) → Found n a → Found n b → Found n (pick t a b)
pick_found n true a b p q = p
pick_found n false a b p q = q

try_found : (n : ℕ) (b : Option code.Best) (a : code.Best) → a.at < n → Fits n b → Found n (try_of b a)
unfolding try_of
try_found n None a l f = l
try_found n (Some b) a l f = pick_found n (is_lower a b) (Some a) (Some b) l f

weigh_found : (n : ℕ) (t : Bool) (d w i : ℕ) (b : Option code.Best) → i < n → Fits n b → Found n (weigh_c t d w i b)
weigh_found n t d w i b l f = unfold weigh_c in
    pick_found n t (try_of b least) (pick (free_c b) b (try_of b full)) (try_found n b least l f) (rest b f)
  where
    least : code.Best
    least = record { cost = 0; weight = w; at = i }

    full : code.Best
    full = record { cost = d; weight = w; at = i }

    rest : (b : Option code.Best) → Fits n b → Found n (pick (free_c b) b (try_of b full))
    rest None f = unfold free_c in try_found n None full l f
    rest (Some b) f = pick_found n (free_c (Some b)) (Some b) (try_of (Some b) full) f (try_found n (Some b) full l f)

scan_found : (t : ℕ → Bool) (d w : ℕ → ℕ) (ready : List ℕ) (n i k : ℕ) (b : Option code.Best) → i + k ≤ n → Found n b → Found n (scan_c t d w ready n i k b)
unfolding scan_c
scan_found t d w ready n i zero b le f = f
scan_found t d w ready n i (suc k) b le f =
    scan_found t d w ready n (i + 1) k next (omega arith)
    (weigh_found n (t run) (d run) (w run) (n - 1 - i) b (omega arith) (found_fits n b f))
  where
    run : ℕ
    run = get_or ready (n - 1 - i) 0

    next : Option code.Best
    next = weigh_c (t run) (d run) (w run) (n - 1 - i) b

-- While a run is ready, one is found
pub found_some : (t : ℕ → Bool) (d w : ℕ → ℕ) (ready : List ℕ) (n : ℕ) → 0 < n → Found n (scan_c t d w ready n 0 (min 64 n) None)
unfolding scan_c
found_some t d w ready n l =
    let e : min 64 n ≡ suc (min 64 n - 1) = omega arith in
    rw e (scan_found t d w ready n 1 (min 64 n - 1) (weigh_c (t run) (d run) (w run) (n - 1 - 0) None) (omega arith) (weigh_found n (t run) (d run) (w run) (n - 1 - 0) None (omega arith) tt))
  where
    run : ℕ
    run = get_or ready (n - 1 - 0) 0

pub found_low : (n : ℕ) (b : Option code.Best) → Found n b → index_of b < n
found_low n None f = absurd f
found_low n (Some b) f = f

found_chosen : (ready : List ℕ) (n : ℕ) (b : Option code.Best) → Found n b → chosen (view ready b) ≡ some (get_or ready (index_of b) 0)
unfolding chosen view
found_chosen ready n None f = absurd f
found_chosen ready n (Some b) f = refl

-- and it is the choice
pub choice_found : (v : Range) (now : List ℕ) (last : maybe.Option ℕ) (t : ℕ → Bool) (d w : ℕ → ℕ) (ready : List ℕ) (n : ℕ) → n ≤ length ready → 0 < n →
    ((r : ℕ) → mem r (newest ready n) ≡ true → (t r ≡ is_last last (at v.parents r)) × (d r ≡ apart v now (at v.history r)) × (w r ≡ get_or v.weight r 0)) →
    choice v now last (take n ready) ≡ some (get_or ready (index_of (scan_c t d w ready n 0 (min 64 n) None)) 0)
choice_found v now last t d w ready n le l h =
    sym (choice-is v now last t d w ready n le h) ∙
    found_chosen ready n (scan_c t d w ready n 0 (min 64 n) None) (found_some t d w ready n l)

-- With nothing ready there is none
pub found_none : (t : ℕ → Bool) (d w : ℕ → ℕ) (ready : List ℕ) → scan_c t d w ready 0 0 (min 64 0) None ≡ None
unfolding scan_c
found_none t d w ready = refl
