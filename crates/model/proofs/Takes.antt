-- The value of a take is at most the lowest run whose events, parents or mark differ: splits, growth and new runs keep every run below
-- `changed_from` as it was. Assumes nothing.
use Rattle.std.proofs.Common.{◌≡◌, refl, sym, ◌∙◌, not, List, ℕ, suc, ◌<◌, min, arith}
use Rattle.lists.specs.Lists.{filter, mem}
use Rattle.lists.proofs.Bounds.{least_le}
use Rattle.model.specs.Graph.{Graph, runs, start, marked, marks}
use Rattle.model.specs.Broken.{WellFormed}
use Rattle.model.specs.Split.{split}
use Rattle.model.specs.Push.{grown, joined, lowered}
use Rattle.model.specs.Claim.{run_state}
use Rattle.model.proofs.FormedSplits.{split_runs}
use Rattle.model.proofs.FormedJoins.{joined-runs}
use Rattle.model.proofs.Persisting.{Persists}
use Rattle.model.proofs.Lasting.{state_same, split-start, split-parents, split-marked, grown-start, grown-marked, lowered_state, joined-start, joined-parents, joined_keeps}

-- Every run below `changed_from` of g is as it is in a
abbrev pub Since : Graph → Graph → Type 0
Since a g = (r : ℕ) → r < g.changed → run_state a r ≡ run_state g r

-- `changed_from` stays 0 once it is 0
pub zero_persists : Persists (λ g. g.changed ≡ 0)
unfolding split grown lowered joined
zero_persists = record {
  splits = λ g r at w b lo hi e. omega arith;
  grows = λ g ps n w e. omega arith;
  joins = λ s ps n w e. omega (arith, least_le (min (runs s) s.changed) (filter (λ r. not (mem r (marks (joined s ps n)))) (marks s)));
}

-- A split keeps the runs before the one split
since_split : (a g : Graph) (r at : ℕ) → WellFormed g → r < runs g → start g r < at → at < start g (suc r) → Since a g → Since a (split g r at)
unfolding split
since_split a g r at w b lo hi s q lt =
    s q (omega arith) ∙
    state_same g (split g r at) q (omega arith) (omega (arith, split_runs g r at)) (sym (split-start g w r at b q (omega arith)))
    (sym (split-start g w r at b (suc q) (omega arith))) (sym (split-parents g w r at b q (omega arith))) (sym (split-marked g w r at b lo q (omega arith)))

-- A new run keeps the runs that keep their marks
since_joined : (a s : Graph) (ps : List ℕ) (n : ℕ) → WellFormed s → Since a s → Since a (lowered s (joined s ps n))
since_joined a s ps n w h q lt =
    let k : (q < runs s) × (q < s.changed) × (marked s q ≡ marked (joined s ps n) q) = joined_keeps s ps n w q lt in
    h q k.1 ∙
    state_same s (joined s ps n) q k.0 (omega (arith, joined-runs s ps n, k.0)) (joined-start s ps n w q (omega (arith, k.0)))
    (joined-start s ps n w (suc q) k.0) (joined-parents s ps n w q k.0) k.2 ∙
    lowered_state s (joined s ps n) q

-- Growth of the last run keeps those before it
since_grown : (a g : Graph) (ps : List ℕ) (n : ℕ) → WellFormed g → Since a g → Since a (grown g ps n)
unfolding grown runs
since_grown a g ps n w h q lt =
    h q (omega arith) ∙
    state_same g (grown g ps n) q (omega arith) (omega arith) (grown-start g ps n w q (omega arith)) (grown-start g ps n w (suc q) (omega arith)) refl
    (grown-marked g ps n w q (omega arith))

-- So every run below `changed_from` stays as it was
pub since_persists : (a : Graph) → Persists (Since a)
since_persists a = record { splits = since_split a; grows = since_grown a; joins = since_joined a }
