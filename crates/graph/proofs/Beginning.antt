-- A fresh record, place by place, and the ways out of `after`. Assumes nothing.
use Rattle.std.proofs.Common.{◌≡◌, refl, sym, ap, ◌∙◌, true, false, List, [], ◌∷◌, ℕ, ◌<◌, ◌≤◌, length, set, lt-ltb, le-ltb}
use Rattle.lists.specs.Lists.{rising, below, filter, upto, from, concat, sum}
use Rattle.lists.specs.Areas.{pad, group_starts}
use Rattle.model.specs.declared.record.CausalGraph.{CausalGraph}
use Rattle.model.specs.declared.answers.Refusal.{Refusal}
use Rattle.model.specs.declared.answers.Refusal.TheVariants.{NotRising, UnknownEvent, FrontierTooLong}
use Rattle.model.specs.Refusals.{first_of, Outcome}
use Rattle.model.specs.Graph.{runs, entries, marks, marked}
use Rattle.model.specs.Record.{store}
use Rattle.model.specs.Fresh.{fresh, new_of, after_outcome, after_of}
use Rattle.std.specs.Prelude.{Ok, Err}
use Rattle.model.specs.Answers.{Made}

-- One item with zeros after it
pub pad_one : (e : ℕ) → set (pad 513 []) 0 e ≡ pad 513 (e ∷ [])
unfolding pad
pad_one e = refl

pub pad-zero : pad 513 [] ≡ pad 513 (0 ∷ [])
unfolding pad
pad-zero = refl

-- A record of such places is the stored fresh graph
pub fresh-stored :
    (events : ℕ) (frontier starts heads parents tips seen marked : List ℕ) →
    starts ≡ pad 513 [] →
    heads ≡ pad 513 [] →
    parents ≡ pad 2048 [] →
    tips ≡ pad 512 frontier →
    seen ≡ pad 512 [] →
    marked ≡ pad 512 [] →
    ◌≡◌ {A = CausalGraph}
    (record {
      starts = set starts 0 events;
      parent_starts = heads;
      parents = parents;
      frontier = tips;
      seen_prefix_len = seen;
      critical_versions = marked;
      run_count = 0;
      entry_count = 0;
      frontier_count = length frontier;
      mark_count = 0;
      changed_from = record { 0 = 0 };
    })
    (store (fresh events frontier))
unfolding store fresh group_starts concat marks filter upto from runs entries sum
fresh-stored events frontier starts heads parents tips seen marked a b c d e f =
    λ i.
    record {
      starts = (ap (λ (x : List ℕ). set x 0 events) a ∙ pad_one events) i;
      parent_starts = (b ∙ pad-zero) i;
      parents = c i;
      frontier = d i;
      seen_prefix_len = e i;
      critical_versions = f i;
      run_count = 0;
      entry_count = 0;
      frontier_count = length frontier;
      mark_count = 0;
      changed_from = record { 0 = 0 };
    }

-- The ways out of `after`
module _ (events : ℕ) (frontier : List ℕ) (made : CausalGraph) where
  refuses : (r : Refusal) → made ≡ new_of → after_outcome events frontier ≡ Err r →
      ◌≡◌ {A = Made} (record { graph = made; answer = Err r }) (after_of events frontier)
  unfolding after_of
  refuses r n e = sym (go (after_outcome events frontier) e)
    where
      go : (o : Outcome) → o ≡ Err r →
          ◌≡◌ {A = Made}
          (elim o as (λ _. Made) [
            | Ok _ ↦ record { graph = store (fresh events frontier); answer = Ok tt }
            | Err q ↦ record { graph = new_of; answer = Err q }
          ])
          (record { graph = made; answer = Err r })
      go o q = rw (q, n)

  pub after_unordered : made ≡ new_of → rising frontier ≡ false →
      ◌≡◌ {A = Made} (record { graph = made; answer = Err NotRising }) (after_of events frontier)
  unfolding after_outcome first_of
  after_unordered n e = refuses NotRising n (rw e)

  pub after-unknown : made ≡ new_of → rising frontier ≡ true → below events frontier ≡ false →
      ◌≡◌ {A = Made} (record { graph = made; answer = Err UnknownEvent }) (after_of events frontier)
  unfolding after_outcome first_of
  after-unknown n e k = refuses UnknownEvent n (rw (e, k))

  pub after-long : made ≡ new_of → rising frontier ≡ true → below events frontier ≡ true → 512 < length frontier →
      ◌≡◌ {A = Made} (record { graph = made; answer = Err FrontierTooLong }) (after_of events frontier)
  unfolding after_outcome first_of
  after-long n e k l = refuses FrontierTooLong n (rw (e, k, lt-ltb 512 (length frontier) l))

  pub after-done : made ≡ store (fresh events frontier) → rising frontier ≡ true → below events frontier ≡ true → length frontier ≤ 512 →
      ◌≡◌ {A = Made} (record { graph = made; answer = Ok tt }) (after_of events frontier)
  unfolding after_of after_outcome first_of
  after-done n e k l = sym (go (after_outcome events frontier) (rw (e, k, le-ltb 512 (length frontier) l)))
    where
      go : (o : Outcome) → o ≡ Ok tt →
          ◌≡◌ {A = Made}
          (elim o as (λ _. Made) [
            | Ok _ ↦ record { graph = store (fresh events frontier); answer = Ok tt }
            | Err q ↦ record { graph = new_of; answer = Err q }
          ])
          (record { graph = made; answer = Ok tt })
      go o q = rw (q, n)
