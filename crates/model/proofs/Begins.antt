-- `new` and `after`: a fresh graph is well-formed and within the limits, and what the two calls give is held and not broken. Assumes
-- nothing.
use Rattle.std.proofs.Common.{◌≡◌, refl, true, false, List, [], ℕ, ◌≤◌, arith, length, ltb-false}
use borrow.Author.Tests.{not-false}
use Rattle.lists.specs.Lists.{all, sum, rising, below}
use Rattle.model.specs.Graph.{runs, start, first_held, len, entries}
use Rattle.model.specs.Record.{store}
use Rattle.lists.specs.Scans.{groups_fit, between}
use Rattle.model.specs.Broken.{frontier_fits, broken, WellFormed, WithinLimits, Held}
use Rattle.model.specs.Fresh.{fresh, new_of, after_outcome, after_of}
use Rattle.model.proofs.Stored.{held-store, not-broken}
use Rattle.model.proofs.Tests.{passed}
use Rattle.std.specs.Prelude.{Ok, Err}
use Rattle.model.specs.Refusals.{Outcome}
use Rattle.model.specs.Answers.{Made}

-- A graph with no runs is well-formed if its frontier is rising and below its events
pub fresh-formed : (events : ℕ) (frontier : List ℕ) → rising frontier ≡ true → below events frontier ≡ true → WellFormed (fresh events frontier)
unfolding fresh runs start first_held len rising groups_fit frontier_fits between
fresh-formed events frontier r b = record {
  starts_count = refl;
  seen_count = refl;
  starts = refl;
  parents = refl;
  frontier = rw (r, b);
  seen = refl;
  changed = omega arith;
}

-- and within the limits if its frontier is
pub fresh-limits : (events : ℕ) (frontier : List ℕ) → length frontier ≤ 512 → WithinLimits (fresh events frontier)
unfolding fresh runs entries sum
fresh-limits events frontier h = record { runs = omega arith; entries = omega arith; frontier = h }

-- What `new` gives is held, and not broken
pub new-held : Held new_of
unfolding new_of rising below all
new-held = held-store (fresh 0 []) (fresh-formed 0 [] refl refl) (fresh-limits 0 [] (omega arith))

pub new-unbroken : broken new_of ≡ false
new-unbroken = not-broken new_of new-held

-- What an `after` that is not refused was given
pub after-passed :
    (events : ℕ) (frontier : List ℕ) → after_outcome events frontier ≡ Ok tt → (rising frontier ≡ true) × (below events frontier ≡ true) × (length frontier ≤ 512)
unfolding after_outcome
after-passed events frontier e =
    let p = passed _ _ e in
    let q = passed _ _ p.1 in
    let s = passed _ _ q.1 in
    (not-false (rising frontier) p.0, not-false (below events frontier) q.0, ltb-false 512 (length frontier) s.0)

-- What `after` gives, refused or not, is held, and not broken
pub after-held : (events : ℕ) (frontier : List ℕ) → Held (after_of events frontier).graph
unfolding after_of
after-held events frontier = go (after_outcome events frontier) (after-passed events frontier)
  where
    go : (o : Outcome) → (o ≡ Ok tt → (rising frontier ≡ true) × (below events frontier ≡ true) × (length frontier ≤ 512)) →
        Held (elim o as (λ _. Made) [
          | Ok _ ↦ record { graph = store (fresh events frontier); answer = Ok tt }
          | Err r ↦ record { graph = new_of; answer = Err r }
        ]).graph
    go (Ok _) f =
        let p = f refl in
        held-store (fresh events frontier) (fresh-formed events frontier p.0 p.1) (fresh-limits events frontier p.2)
    go (Err r) f = new-held

pub after-unbroken : (events : ℕ) (frontier : List ℕ) → broken (after_of events frontier).graph ≡ false
after-unbroken events frontier = not-broken (after_of events frontier).graph (after-held events frontier)
