-- `versions::concurrent::flags_of` meets its contract: both passes, from flags that are all 0. Assumes nothing.
use Rattle.std.proofs.Common.{◌≡◌, ℕ, List, Bool, true, false, replicate, refl, sym, ◌∙◌, subst, set, arith, ◌-◌, ◌+◌}
use Rattle.model.specs.Record.{view}
use Rattle.versions.specs.Flags.{flag_up, flag_down, Flags}
use Rattle.versions.specs.Parents.{parents_in, runs_in}
use Rattle.versions.proofs.ConcurrentWays.{passes_flag}
use Rattle.versions.proofs.concurrent.flags_of.Goals as goal

pub returns : goal.returns
returns c =
    let g = c.args.g.now.graph in
    let r = c.args.run.0 in
    let all = c.of_graph-parents in
    let rows : ℕ → List ℕ = parents_in all.result in
    let runs : runs_in all.result ≡ g.run_count = omega (arith, all.ensures.counted) in
    let down : c.flag_down.new.flags ≡ flag_down rows (set (replicate 512 false) r true) (r + 1) = c.flag_down.ensures in
    let up : c.flag_up.new.flags ≡ flag_up rows r (flag_down rows (set (replicate 512 false) r true) (r + 1)) (r + 1) (g.run_count - (r + 1)) =
    c.flag_up.ensures ∙ rw (runs, down) refl in
    subst (λ (l : List Bool). Flags (view g) r l) (sym up) (passes_flag g c.args.g.now.held r c.requires rows all.ensures.parents)
