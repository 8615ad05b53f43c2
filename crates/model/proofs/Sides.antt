-- What the side of an event tells in a well-formed graph, and that it agrees with 01's comparisons. Assumes nothing.
use Rattle.std.proofs.Common.{◌≡◌, sym, ap, ◌∙◌, ◌⊎◌, inl, inr, ◌↔◌, Bool, false, cond, not, ◌||◌, ℕ, suc, ◌≤◌, ◌<◌, arith, leb, le-ltb, le-leb}
use borrow.Author.Tests.{lt-leb}
use Rattle.lists.proofs.Truth.{lt_or_le, lt_eq_gt}
use Rattle.model.specs.Graph.{Graph, runs, start, first_held, len, containing, Side, in_run, before, unknown, side}
use Rattle.model.specs.Broken.{WellFormed}
use Rattle.model.specs.Start.{answers, starting_in, starting}
use Rattle.model.specs.Sides.{Sides}
use Rattle.model.proofs.FormedReads.{start-len, first-start, first-len, containing_in, containing-only, marked-first}
use Rattle.model.proofs.Siding.{side_before, side-unknown, side-run, run-told, is_held_lem, held_below, known-below}
use Rattle.model.proofs.FormedCalls.{starting-out, starting_in_lem, in_there}

-- The sides are told apart
abbrev side_number : Side → ℕ
side_number (in_run r) = suc (suc r)
side_number before = 0
side_number unknown = 1

module _ (g : Graph) (formed : WellFormed g) where
  first-last : first_held g ≤ len g
  first-last = first-len g formed

  run : (e r : ℕ) → (side g e ≡ in_run r) ↔ ((r < runs g) × (start g r ≤ e) × (e < start g (suc r)))
  run e r = (λ q. let t = run-told g e r q in rw t.2 at (containing_in g formed e t.0 t.1), back)
    where
      back : (r < runs g) × (start g r ≤ e) × (e < start g (suc r)) → side g e ≡ in_run r
      back w =
          side-run g e (omega (arith, w.1, first-start g formed r (omega (arith, w.0)))) (omega (arith, w.2, start-len g formed (suc r) w.0)) ∙
          ap in_run (containing-only g formed e r w.0 w.1 w.2)

  before_first : (e : ℕ) → (side g e ≡ before) ↔ (e < first_held g)
  before_first e = (λ q. there q (lt_or_le e (first_held g)) (lt_or_le e (len g)), side_before g e)
    where
      there : side g e ≡ before → (e < first_held g) ⊎ (first_held g ≤ e) → (e < len g) ⊎ (len g ≤ e) → e < first_held g
      there q (inl h) k = h
      there q (inr h) (inl k) = absurd (omega (arith, ap side_number (sym (side-run g e h k) ∙ q)))
      there q (inr h) (inr k) = absurd (omega (arith, ap side_number (sym (side-unknown g e h k) ∙ q)))

  from_len : (e : ℕ) → (side g e ≡ unknown) ↔ (len g ≤ e)
  from_len e = (λ q. there q (lt_or_le e (first_held g)) (lt_or_le e (len g)), λ k. side-unknown g e (omega (arith, first-last)) k)
    where
      there : side g e ≡ unknown → (e < first_held g) ⊎ (first_held g ≤ e) → (e < len g) ⊎ (len g ≤ e) → len g ≤ e
      there q (inl h) k = absurd (omega (arith, ap side_number (sym (side_before g e h) ∙ q)))
      there q (inr h) (inl k) = absurd (omega (arith, ap side_number (sym (side-run g e h k) ∙ q)))
      there q (inr h) (inr k) = k

  -- At the first held event run 0 starts, which is marked
  starting-first : (at : ℕ) → first_held g ≤ at → at ≤ first_held g → at < len g → starting_in g at (containing g at) ≡ answers false
  starting-first at h j k =
      let c = containing_in g formed at h k in
      let r = containing g at in
      let begins : start g r ≡ at = omega (arith, c.1, first-start g formed r (omega (arith, c.0))) in
      in_there g at r begins ∙ ap (λ (b : Bool). answers (not b)) (marked-first g formed r (omega (arith, begins)))

  starts : (at : ℕ) → starting g at ≡ cond (leb at (first_held g) || leb (len g) at) (answers false) (starting_in g at (containing g at))
  starts at = go (lt_eq_gt at (first_held g)) (lt_or_le at (len g))
    where
      out : len g ≤ at → starting g at ≡ answers false
      out k = starting-out g at (is_held_lem g at ∙ rw (le-leb (first_held g) at (omega (arith, first-last)), le-ltb at (len g) k))

      run_at : first_held g ≤ at → at < len g → starting g at ≡ starting_in g at (containing g at)
      run_at h k = starting_in_lem g at (containing g at) (side-run g at h k)

      go : (at < first_held g) ⊎ ((at ≡ first_held g) ⊎ (first_held g < at)) → (at < len g) ⊎ (len g ≤ at) →
          starting g at ≡ cond (leb at (first_held g) || leb (len g) at) (answers false) (starting_in g at (containing g at))
      go (inl h) k = starting-out g at (is_held_lem g at ∙ rw (lt-leb (first_held g) at h)) ∙ rw (le-leb at (first_held g) (omega arith))
      go (inr (inl h)) (inl k) =
          run_at (omega arith) k ∙ starting-first at (omega arith) (omega arith) k ∙ rw (le-leb at (first_held g) (omega arith))
      go (inr (inl h)) (inr k) = out k ∙ rw (le-leb at (first_held g) (omega arith))
      go (inr (inr h)) (inl k) = run_at (omega arith) k ∙ rw (lt-leb at (first_held g) h, lt-leb (len g) at k)
      go (inr (inr h)) (inr k) = out k ∙ rw (lt-leb at (first_held g) h, le-leb (len g) at k)

  pub sides : Sides g
  sides = record {
    run = run;
    before_first = before_first;
    from_len = from_len;
    known = known-below g first-last;
    held_from = λ es k. held_below g es (sym (known-below g first-last es) ∙ k);
    starts = starts;
  }
