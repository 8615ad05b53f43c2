-- `versions::archive::point_runs` meets its contract: the runs that are marked by what the passes find start at archive points. Assumes nothing.
use Rattle.std.proofs.Common.{◌≡◌, ◌∙◌, arith}
use Rattle.graph.proofs.Views.{facts}
use Rattle.versions.specs.Parents.{parents_in, runs_in}
use Rattle.versions.proofs.ArchiveWays.{counts_fit, marks_are}
use Rattle.versions.proofs.archive.point_runs.Goals as goal

pub head_counts-counts-requires : goal.head_counts-counts-requires
head_counts-counts-requires c =
    let g = c.args.g.now.graph in
    let held = c.args.g.now.held in
    let all = c.of_graph-parents in
    let runs : runs_in all.result ≡ g.run_count = omega (arith, all.ensures.counted) in
    let firsts = rw runs at c.first_children-firsts.ensures in
    rw runs (counts_fit g held (parents_in all.result) all.ensures.parents _ firsts)

pub returns : goal.returns
returns c =
    let g = c.args.g.now.graph in
    let held = c.args.g.now.held in
    let all = c.of_graph-parents in
    let runs : runs_in all.result ≡ g.run_count = omega (arith, all.ensures.counted) in
    let firsts = rw runs at c.first_children-firsts.ensures in
    let counts = rw runs at c.head_counts-counts.ensures in
    let seen = rw runs at c.seen_lengths-seen.ensures in
    c.marks_of.ensures ∙ marks_are g held (parents_in all.result) all.ensures.parents _ firsts _ counts _ (omega (arith, (facts g held).runs)) seen
