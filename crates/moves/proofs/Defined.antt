-- What is written for a visit is the definitions' visit. Assumes nothing.
use Rattle.std.proofs.Common.{◌≡◌, refl, sym, ap, ap₂, ◌∙◌, ◌⊎◌, inl, inr, Bool, true, false, not, ◌&&◌, List, [], ◌∷◌, ◌++◌, map, ℕ, suc, ◌+◌, ◌-◌, ◌<◌, add-one, arith, length, get_or, eqb}
use Rattle.std.proofs.Common.{eq-eqb, ne_eqb}
use Rattle.lists.specs.Lists.{filter, mem, count}
use Rattle.lists.proofs.Truth.{eq_or-not, false_true}
use Rattle.lists.proofs.Counts.{count_le}
use Rattle.model.specs.History.{at}
use Rattle.model.specs.Choice.{Range}
use Rattle.model.specs.Steps.{Step, retreat, advance, apply, add_run, moves, visit}
use Rattle.model.specs.Steps as model
use Rattle.tables.specs.Tables.{Listed, Reaches}
use Rattle.moves.specs.declared.writing.Kind.{Kind}
use Rattle.moves.specs.declared.writing.Kind.TheVariants.{Retreat, Advance, Apply}
use Rattle.moves.specs.Emit.{Rec, step_of}
use Rattle.moves.specs.Stretches.{span_of, pick_l, stretch_from, stretches}
use Rattle.moves.specs.Moves.{Inside, runs_of, moves_from, visit_of, rec_of, recs}
use Rattle.tables.proofs.Prefixes.{Falls}
use Rattle.moves.proofs.Pieces.{filter_falls, piece}

pub map-append : {A B : Type 0} (f : A → B) (xs ys : List A) → map f (xs ++ ys) ≡ map f xs ++ map f ys
map-append f [] ys = refl
map-append f (x ∷ xs) ys = ap (λ l. f x ∷ l) (map-append f xs ys)

-- A kind of moves, and its record
pub record Recorded (st : List ℕ) (k : Kind) (step : ℕ → ℕ → Step) : Type 0 where
  pub is : (a b : ℕ) → rec_of st (step a b) ≡ step_of k a b (get_or st b 0 - get_or st a 0)

pub retreats : (st : List ℕ) → Recorded st Retreat retreat
unfolding rec_of
retreats st = record { is = λ a b. refl }

pub advances : (st : List ℕ) → Recorded st Advance advance
unfolding rec_of
advances st = record { is = λ a b. refl }

add-next : (l : ℕ) (s : ℕ × ℕ) (ss : List (ℕ × ℕ)) → s.0 ≡ suc l → add_run l (s ∷ ss) ≡ (l, s.1) ∷ ss
unfolding add_run
add-next l s ss e = go (eqb s.0 (suc l)) (eq-eqb s.0 (suc l) e)
  where
    go : (t : Bool) → t ≡ true → ◌≡◌ {A = List (ℕ × ℕ)} (elim t as (λ _. List (ℕ × ℕ)) [ true ↦ (l, s.1) ∷ ss | false ↦ (l, suc l) ∷ s ∷ ss ]) ((l, s.1) ∷ ss)
    go true q = refl
    go false q = false_true q

add_apart : (l : ℕ) (s : ℕ × ℕ) (ss : List (ℕ × ℕ)) → (s.0 ≡ suc l → ⊥) → add_run l (s ∷ ss) ≡ (l, suc l) ∷ s ∷ ss
unfolding add_run
add_apart l s ss e = go (eqb s.0 (suc l)) (ne_eqb s.0 (suc l) e)
  where
    go : (t : Bool) → t ≡ false → ◌≡◌ {A = List (ℕ × ℕ)} (elim t as (λ _. List (ℕ × ℕ)) [ true ↦ (l, s.1) ∷ ss | false ↦ (l, suc l) ∷ s ∷ ss ]) ((l, suc l) ∷ s ∷ ss)
    go true q = false_true (sym q)
    go false q = refl

-- Stretches joined from the front are the definitions', joined from the end
module _ (st : List ℕ) (k : Kind) (step : ℕ → ℕ → Step) (K : Recorded st k step) (b : ℕ) where
  abbrev given : List (ℕ × ℕ) → List Rec
  given ss = recs st (map (λ s. step (b + s.0) (b + s.1)) ss)

  span_is : (f l : ℕ) → span_of st k b f l ≡ rec_of st (step (b + f) (b + suc l))
  span_is f l = let e : b + l + 1 ≡ b + suc l = omega arith in rw e (sym (K.is (b + f) (b + suc l)))

  -- an open stretch, and the rest
  from_is : (f l : ℕ) (xs : List ℕ) → (s : ℕ × ℕ) × (ss : List (ℕ × ℕ)) × (model.stretches (l ∷ xs) ≡ s ∷ ss) × (s.0 ≡ l) ×
      (stretch_from st k b f l xs ≡ rec_of st (step (b + f) (b + s.1)) ∷ given ss)
  unfolding model.stretches add_run stretch_from
  from_is f l [] = ((l, suc l), [], refl, refl, ap (λ (x : Rec). x ∷ []) (span_is f l))
  from_is f l (x ∷ xs) = go (eq_or-not x (l + 1)) (from_is f x xs) (from_is x x xs)
    where
      go : (x ≡ l + 1) ⊎ (x ≡ l + 1 → ⊥) →
          ((s : ℕ × ℕ) × (ss : List (ℕ × ℕ)) × (add_run x (model.stretches xs) ≡ s ∷ ss) × (s.0 ≡ x) × (stretch_from st k b f x xs ≡ rec_of st (step (b + f) (b + s.1)) ∷ given ss)) →
          ((s : ℕ × ℕ) × (ss : List (ℕ × ℕ)) × (add_run x (model.stretches xs) ≡ s ∷ ss) × (s.0 ≡ x) × (stretch_from st k b x x xs ≡ rec_of st (step (b + x) (b + s.1)) ∷ given ss)) →
          (s : ℕ × ℕ) × (ss : List (ℕ × ℕ)) × (add_run l (add_run x (model.stretches xs)) ≡ s ∷ ss) × (s.0 ≡ l) ×
          (pick_l (eqb x (l + 1)) (stretch_from st k b f x xs) (span_of st k b f l ∷ stretch_from st k b x x xs) ≡ rec_of st (step (b + f) (b + s.1)) ∷ given ss)
      go (inl e) p q = (
        (l, p.0.1),
        p.1,
        ap (add_run l) p.2 ∙ add-next l p.0 p.1 (p.3 ∙ (e ∙ add-one l)),
        refl,
        rw (eq-eqb x (l + 1) e) p.4,
      )
      go (inr n) p q = (
        (l, suc l),
        q.0 ∷ q.1,
        ap (add_run l) q.2 ∙ add_apart l q.0 q.1 (λ e. n (sym q.3 ∙ (e ∙ sym (add-one l)))),
        refl,
        rw (ne_eqb x (l + 1) n) (ap₂ (λ (a : Rec) (l : List Rec). a ∷ l) (span_is f l)
            (q.4 ∙ ap (λ (j : ℕ). rec_of st (step (b + j) (b + q.0.1)) ∷ given q.1) (sym q.3))),
      )

  pub stretches_are : (xs : List ℕ) → stretches st k b xs ≡ given (model.stretches xs)
  unfolding stretches
  stretches_are [] = unfold model.stretches in refl
  stretches_are (x ∷ xs) =
      let q : (s : ℕ × ℕ) × (ss : List (ℕ × ℕ)) × (model.stretches (x ∷ xs) ≡ s ∷ ss) × (s.0 ≡ x) × (stretch_from st k b x x xs ≡ rec_of st (step (b + x) (b + s.1)) ∷ given ss) = from_is x x xs in
      q.4 ∙ (ap (λ (j : ℕ). rec_of st (step (b + j) (b + q.0.1)) ∷ given q.1) (sym q.3) ∙ ap given (sym q.2))

-- A set of runs meets each chain in a prefix
abbrev pub Prefixed : List (List ℕ) → List ℕ → Type 0
Prefixed C s = (c : ℕ) → c < length C → Falls (λ m. mem m s) (at C c)

module _ (C : List (List ℕ)) (begins members : List ℕ) (L : Listed C begins members) where
  -- What a set has of a chain lies in the members
  pub inside : (s version : List ℕ) → Reaches C s version → (c : ℕ) → c < length C → Inside members begins version c
  unfolding Reaches
  inside s version f c l = omega (arith, f c l, count_le (λ m. mem m s) (at C c), L.fits c l)

  -- All chains' moves
  module _ (gst : List ℕ) (k : Kind) (step : ℕ → ℕ → Step) (K : Recorded gst k step) (b : ℕ) (s t from to : List ℕ)
      (ps : Prefixed C s) (pt : Prefixed C t) (f : Reaches C s from) (g : Reaches C t to) where
    abbrev fresh : ℕ → Bool
    fresh m = mem m s && not (mem m t)

    runs_are : (c : ℕ) → c < length C → runs_of members begins from to c ≡ filter fresh (at C c)
    unfolding runs_of Reaches
    runs_are c l = rw (f c l, g c l)
        (piece members (at C c) (get_or begins c 0) (count (λ m. mem m t) (at C c)) (count (λ m. mem m s) (at C c)) (λ i q. L.member c i l q) (count_le (λ m. mem m s) (at C c)) (L.fits c l) ∙
        sym (filter_falls (λ m. mem m s) (λ m. mem m t) (at C c) (ps c l) (pt c l)))

    from_are : (c : ℕ) (l : List (List ℕ)) → ((i : ℕ) → i < length l → (at l i ≡ at C (c + i)) × (c + i < length C)) →
        moves_from gst k b members begins from to c (length l) ≡ recs gst (moves step b l s t)
    unfolding moves_from moves at
    from_are c [] h = refl
    from_are c (x ∷ xs) h = ap₂ (λ (u v : List Rec). u ++ v) one
        (from_are (c + 1) xs (λ i q. let e : c + 1 + i ≡ c + suc i = omega arith in rw e (h (suc i) (omega arith)))) ∙
        sym (map-append (rec_of gst) (map (λ p. step (b + p.0) (b + p.1)) (model.stretches (filter fresh x))) (moves step b xs s t))
      where
        first : (x ≡ at C c) × (c < length C)
        first = let e : c + 0 ≡ c = omega arith in rw e at (h 0 (omega arith))

        one : stretches gst k b (runs_of members begins from to c) ≡ recs gst (map (λ p. step (b + p.0) (b + p.1)) (model.stretches (filter fresh x)))
        one = ap (stretches gst k b) (runs_are c first.1 ∙ ap (filter fresh) (sym first.0)) ∙ stretches_are gst k step K b (filter fresh x)

    pub moves_are : moves_from gst k b members begins from to 0 (length C) ≡ recs gst (moves step b C s t)
    moves_are = from_are 0 C (λ i q. let e : 0 + i ≡ i = omega arith in rw e (refl, q))

  -- A visit from the version `now` of the run r
  pub visit-is : (w : Range) (gst : List ℕ) (a r n : ℕ) (now cur row : List ℕ) → C ≡ w.chains → n ≡ length C →
      Prefixed C now → Prefixed C (at w.history r) → Reaches C now cur → Reaches C (at w.history r) row →
      visit_of gst a members begins cur row n r ≡ recs gst (visit w a now r)
  unfolding visit_of visit
  visit-is w gst a r n now cur row e f pn ph g h = rw (f, ← e)
      (ap₂ (λ (x y : List Rec). x ++ y) (moves_are gst Retreat retreat (retreats gst) a now hr cur row pn ph g h)
      (ap₂ (λ (x y : List Rec). x ++ y) (moves_are gst Advance advance (advances gst) a hr now row cur ph pn h g) last ∙
      sym (map-append (rec_of gst) (moves advance a C hr now) (apply (a + r) ∷ []))) ∙ sym (map-append (rec_of gst) (moves retreat a C now hr) (moves advance a C hr now ++ apply (a + r) ∷ [])))
    where
      hr : List ℕ
      hr = at w.history r

      last : step_of Apply (a + r) (a + r + 1) 0 ∷ [] ≡ recs gst (apply (a + r) ∷ [])
      last = apply-is
        where
          apply-is : step_of Apply (a + r) (a + r + 1) 0 ∷ [] ≡ rec_of gst (apply (a + r)) ∷ []
          apply-is = let q : a + r + 1 ≡ suc (a + r) = omega arith in rw q (unfold rec_of in refl)
