-- A full replay by a held record's arrays and the records of its cut is the definitions' full replay. Assumes nothing.
use Rattle.std.proofs.Common.{◌≡◌, refl, sym, ap, ◌∙◌, Bool, true, false, List, [], ◌∷◌, ℕ, ◌-◌, ◌/◌, ◌≤◌, arith, length}
use Rattle.model.specs.declared.record.CausalGraph.{CausalGraph}
use Rattle.model.specs.declared.answers.Refusal.TheVariants.{Broken}
use Rattle.model.specs.Graph.{runs}
use Rattle.model.specs.Record.{view}
use Rattle.model.specs.Broken.{broken, Held}
use Rattle.model.specs.Cut.{HistoryRange, linear, concurrent, cut_from}
use Rattle.model.specs.Choice.{Range, range_of}
use Rattle.model.specs.Walk.{WalkResult, wrote, unwalked}
use Rattle.model.specs.Replay.{Replayed, replay_ranges, replay_of}
use Rattle.model.proofs.Stored.{not-broken}
use Rattle.model.proofs.Results.{replay_is}
use Rattle.model.proofs.RoomsReplay.{Laid, cut_laid}
use Rattle.graph.proofs.Views.{runs-view}
use Rattle.moves.specs.Emit.{Writing}
use Rattle.walk.specs.Walked.{State, unwritten, walked_in, result_of, if_done, opening, open_of, replay_on, replay_all}
use Rattle.walk.specs.Ranges.{range_at}
use Rattle.walk.proofs.Arrays.{starts-same, range_view}
use Rattle.walk.proofs.Answering.{result_eq}
use Rattle.walk.proofs.Ranging.{replay_ends}
use Rattle.walk.proofs.CutRead.{laid_le}
use Rattle.walk.proofs.WholeWalk.{walked_same}
use Rattle.std.specs.Prelude.{Err}

-- A range that is opened alike is replayed alike
on_same : (st st' : List ℕ) (range range' : ℕ → ℕ → Range) (s : State) (c : HistoryRange) →
    ((x : Writing) (rows : List ℕ) → opening st range x rows c ≡ opening st' range' x rows c) → replay_on st range s c ≡ replay_on st' range' s c
unfolding replay_on
on_same st st' range range' s c h =
    let x : Writing = open_of s.0 c in
    ap (λ (t : State). if_done s.0.0.outcome (if_done x.0.outcome t (x, s.1)) s) (h x s.1)

module _ (g : CausalGraph) (held : Held g) where
  abbrev by_arrays : ℕ → ℕ → Range
  by_arrays = range_at g

  abbrev st : List ℕ
  st = (view g).starts

  linear_same : (a b : ℕ) (x : Writing) (rows : List ℕ) → opening g.starts by_arrays x rows (linear a b) ≡ opening st (range_of (view g)) x rows (linear a b)
  unfolding opening
  linear_same a b x rows = refl

  walk_same : (a b : ℕ) → a ≤ b → b ≤ g.run_count → (x : Writing) (rows : List ℕ) →
      opening g.starts by_arrays x rows (concurrent a b) ≡ opening st (range_of (view g)) x rows (concurrent a b)
  unfolding opening range_at
  walk_same a b le few x rows =
      ap (λ (w : Range). walked_in g.starts w a 0 0 x rows) (range_view g held a b le few (b - a) refl) ∙
      walked_same g.starts st (starts-same g held) (range_of (view g) a b) a 0 0 x rows

  all_same : (cs : List HistoryRange) (lo : ℕ) (s : State) → Laid lo cs (runs (view g)) → replay_all g.starts by_arrays s cs ≡ replay_all st (range_of (view g)) s cs
  unfolding replay_all
  all_same [] lo s h = refl
  all_same (linear a b ∷ cs) lo s h =
      ap (λ (t : State). replay_all g.starts by_arrays t cs) (on_same g.starts st by_arrays (range_of (view g)) s (linear a b) (linear_same a b)) ∙
      all_same cs b (replay_on st (range_of (view g)) s (linear a b)) h.2
  all_same (concurrent a b ∷ cs) lo s h =
      let few : b ≤ g.run_count = omega (arith, laid_le b cs (runs (view g)) h.2, runs-view g held) in
      ap (λ (t : State). replay_all g.starts by_arrays t cs)
      (on_same g.starts st by_arrays (range_of (view g)) s (concurrent a b) (walk_same a b (omega (arith, h.1)) few)) ∙
      all_same cs b (replay_on st (range_of (view g)) s (concurrent a b)) h.2

  -- Full replay of a held record
  pub replay_whole : (rows steps : List ℕ) (cs : List HistoryRange) → cs ≡ cut_from (view g) 0 → (s : State) →
      s ≡ replay_all g.starts by_arrays (unwritten steps, rows) cs → result_of s ≡ replay_of g rows steps
  replay_whole rows steps cs q s e =
      ap result_of (e ∙ (ap (replay_all g.starts by_arrays (unwritten steps, rows)) q ∙ all_same (cut_from (view g) 0) 0 (unwritten steps, rows) (cut_laid (view g) 0))) ∙
      (result-is ∙ sym (replay_is g rows steps (not-broken g held)))
    where
      t : State
      t = replay_all st (range_of (view g)) (unwritten steps, rows) (cut_from (view g) 0)

      x : Replayed
      x = replay_ranges (view g) (cut_from (view g) 0) (length steps / 3) rows

      result-is : result_of t ≡ wrote (view g) x.0 x.1 x.2 steps
      result-is =
          let ends = replay_ends (view g) steps (cut_from (view g) 0) rows in
          unfold wrote in (result_eq ends.count ends.moved ends.outcome ends.rows ends.steps)

-- A broken graph is refused
pub replay_broken : (g : CausalGraph) (rows steps : List ℕ) → broken g ≡ true →
    (record { count = 0; moved = 0; outcome = Err Broken }, rows, steps) ≡ replay_of g rows steps
unfolding replay_of unwalked
replay_broken g rows steps e = sym (ap (λ (b : Bool). elim b as (λ _. WalkResult) [
  | true ↦ unwalked Broken rows steps
  | false ↦
      let all = replay_ranges (view g) (cut_from (view g) 0) (length steps / 3) rows in
      wrote (view g) all.0 all.1 all.2 steps
]) e)
