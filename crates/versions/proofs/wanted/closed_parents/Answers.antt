-- `versions::wanted::closed_parents` meets its contract: refused where a range begins inside a run or a parent run is not whole. Assumes nothing.
use Rattle.std.proofs.Common.{◌≤◌, length, length-take, sym, ◌∙◌, ap, arith, Ok}
use Rattle.versions.specs.Parents.{parents_in}
use Rattle.versions.specs.Ranges.{End}
use Rattle.versions.proofs.GraphRows.{few_runs}
use Rattle.versions.proofs.WantedWays.{starts_of, wanted_inside, whole_is, tops_wanted}
use Rattle.versions.proofs.wanted.closed_parents.Goals as goal

pub all_clear-requires : goal.all_clear-requires
all_clear-requires c = let h = c.args.g.now in starts_of h.graph h.held

pub returns-then-not-all_clear : goal.returns-then-not-all_clear
returns-then-not-all_clear c =
    let h = c.args.g.now in
    let ranges = c.args.ranges in
    rw (wanted_inside h.graph ranges.words.now h.held ranges.paired c.requires (sym c.all_clear.ensures ∙ c.if-not-all_clear.true))

pub marked_ends-ends-requires : goal.marked_ends-ends-requires
marked_ends-ends-requires c = let h = c.args.g.now in starts_of h.graph h.held

pub slice_bounds-flag_marked-end : goal.slice_bounds-flag_marked-end
slice_bounds-flag_marked-end c = omega (arith, few_runs c.args.g.now.graph c.args.g.now.held, length-take {A = End})

pub returns-then-not-all_whole : goal.returns-then-not-all_whole
returns-then-not-all_whole c =
    let h = c.args.g.now in
    let ranges = c.args.ranges in
    let ends = c.marked_ends-ends in
    let flags = c.flag_marked-flags in
    let clear = sym c.all_clear.ensures ∙ c.if-not-all_clear.false in
    let long : h.graph.run_count ≤ length ends.result = omega (arith, few_runs h.graph h.held) in
    let whole = whole_is h.graph ranges.words.now h.held ranges.paired c.requires clear ends.result ends.ensures long
    (parents_in c.of_graph.result) c.of_graph.ensures.parents flags.result flags.ensures in
    rw (whole ∙ sym c.all_whole.ensures ∙ c.if-not-all_whole.true)

pub returns : goal.returns
returns c =
    let h = c.args.g.now in
    let ranges = c.args.ranges in
    let ends = c.marked_ends-ends in
    let flags = c.flag_marked-flags in
    let clear = sym c.all_clear.ensures ∙ c.if-not-all_clear.false in
    let all = sym c.all_whole.ensures ∙ c.if-not-all_whole.false in
    let long : h.graph.run_count ≤ length ends.result = omega (arith, few_runs h.graph h.held) in
    let whole = whole_is h.graph ranges.words.now h.held ranges.paired c.requires clear ends.result ends.ensures long
    (parents_in c.of_graph.result) c.of_graph.ensures.parents flags.result flags.ensures in
    let tops = tops_wanted h.graph ranges.words.now h.held ranges.paired c.requires clear ends.result ends.ensures long
    (parents_in c.of_graph.result) c.of_graph.ensures.parents flags.result flags.ensures all in
    rw (whole ∙ all) (ap Ok (c.top_events.ensures ∙ tops))
