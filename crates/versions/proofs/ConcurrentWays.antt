-- What the passes find is the concurrency list, and written it is what the call's definition says. Assumes nothing.
use Rattle.std.proofs.Common.{◌≡◌, refl, sym, ap, ◌∙◌, subst, Bool, true, false, List, [], ℕ, suc, ◌+◌, ◌-◌, ◌<◌, ◌∷◌, add-one, arith, length, get_or, set, replicate, not, leb, ltb, Ok, Err}
use Rattle.std.proofs.lemmas.List.{length-replicate}
use Rattle.lists.specs.Lists.{filter, from, upto}
use Rattle.lists.specs.Areas.{over}
use Rattle.lists.proofs.Counts.{filter_same}
use Rattle.model.specs.declared.record.CausalGraph.{CausalGraph}
use Rattle.model.specs.declared.answers.Written.{Written}
use Rattle.model.specs.Refusals.{first_of}
use Rattle.model.specs.Graph.{runs}
use Rattle.model.specs.Record.{view}
use Rattle.model.specs.Broken.{broken, Held}
use Rattle.model.specs.Cut.{unwritten}
use Rattle.model.specs.History.{at}
use Rattle.model.specs.Answers.{answer_or}
use Rattle.model.specs.Lookups.{lookup}
use Rattle.model.specs.Beside.{concurrent_run, concurrency_list, concurrency_outcome, concurrency_list_of}
use Rattle.versions.specs.Flags.{flag_down, flag_up, free, Flags}
use Rattle.graph.proofs.Views.{facts, runs-view}
use Rattle.graph.proofs.Entries.{parents-below}
use Rattle.versions.proofs.Flagging.{replicated}
use Rattle.versions.proofs.Comparing.{flags_are}
use Rattle.versions.specs.Words.{all_put}
use Rattle.versions.proofs.Writing.{fits_last}

module _ (g : CausalGraph) (held : Held g) (r : ℕ) where
  -- Both passes over the graph's rows, from flags that are all 0
  pub passes_flag : r < g.run_count → (rows : ℕ → List ℕ) → ((q : ℕ) → q < g.run_count → rows q ≡ at (view g).parents q) →
      Flags (view g) r (flag_up rows r (flag_down rows (set (replicate 512 false) r true) (r + 1)) (r + 1) (g.run_count - (r + 1)))
  passes_flag h rows same =
      rw (add-one r)
      (subst (λ (n : ℕ). Flags (view g) r (flag_up rows r (flag_down rows (set (replicate 512 false) r true) (suc r)) (suc r) (n - suc r))) (runs-view g held)
      (flags_are (view g) (parents-below g held) rows (λ q l. same q (omega (arith, runs-view g held))) r (omega (arith, runs-view g held)) (replicate 512 false)
      (omega (arith, length-replicate 512 false, (facts g held).runs, runs-view g held))
      (λ q. replicated 512 q false)))

  -- The runs without a flag are the list
  pub free_list : (flags : List Bool) → Flags (view g) r flags → free flags g.run_count ≡ concurrency_list (view g) r
  unfolding free upto concurrency_list
  free_list flags f =
      ap (λ (n : ℕ). filter (λ q. not (get_or flags q false)) (from 0 n)) (sym (runs-view g held)) ∙
      filter_same (λ q. not (get_or flags q false)) (concurrent_run (view g) r) 0 (runs (view g)) (runs (view g)) (omega arith) (λ q h. f.each q h)

-- The list, or why it is not told, written: what the call's definition says
pub is_put : (g : CausalGraph) (r : ℕ) (lent : List ℕ) →
    all_put (answer_or (lookup g (leb (runs (view g)) r)) (concurrency_list (view g) r)) lent ≡ concurrency_list_of g r lent
unfolding all_put lookup first_of concurrency_outcome concurrency_list_of unwritten
is_put g r lent = go (broken g) (leb (runs (view g)) r)
  where
    qs : List ℕ
    qs = concurrency_list (view g) r

    go : (b o : Bool) → all_put (answer_or (first_of ((b, 1) ∷ (o, 9) ∷ [])) qs) lent ≡
        elim (first_of ((b, 1) ∷ (o, 9) ∷ (ltb (length lent) (length qs), 11) ∷ [])) as (λ _. Written × List ℕ) [
          | Ok _ ↦ (record { count = length qs; outcome = Ok (tt {0}) }, over qs lent)
          | Err r ↦ unwritten r lent
        ]
    go true o = refl
    go false true = refl
    go false false = sym (fits_last qs lent)
