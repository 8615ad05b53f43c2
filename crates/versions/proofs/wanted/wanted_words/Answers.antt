-- `versions::wanted::wanted_words` meets its contract: a broken graph, faulty ranges and events that are not held are refused. Assumes nothing.
use Rattle.std.proofs.Common.{◌≡◌, refl, sym, ◌∙◌}
use Rattle.std.proofs.lemmas.Result.{err_from_is_err_and}
use Rattle.model.specs.declared.answers.Refusal.TheVariants.{NotRising}
use Rattle.versions.proofs.WantedWays.{tests_broken, tests_faulty, tests_unknown, tests-last, held-is}
use Rattle.versions.proofs.wanted.wanted_words.Goals as goal

pub returns-in_err-g : goal.returns-in_err-g
returns-in_err-g c =
    let p = err_from_is_err_and c.from_residual.result c.from_residual.ensures.1 in
    let e = c.in_err-g.ensures.err in
    rw (p.1, p.2, e.0, tests_broken c.args.g c.args.ranges.now e.1)

pub returns-in_err-ranges : goal.returns-in_err-ranges
returns-in_err-ranges c =
    let g = c.args.g in
    let ws = c.args.ranges.now in
    let same = c.in_ok-g.ensures.ok in
    let none = c.in_err-ranges.ensures.ok_part in
    let p = err_from_is_err_and c.from_residual-in_err-ranges.result c.from_residual-in_err-ranges.ensures.1 in
    let faulty = rw none at c.of_words.ensures in
    let why : c.in_err-ranges.field-0.0 ≡ NotRising = let e = rw none at c.in_err-ranges.ensures.value in cc in
    rw (p.1, p.2, why, tests_faulty g ws (rw same.0 at same.1) faulty) refl

pub returns-then-not-are_within : goal.returns-then-not-are_within
returns-then-not-are_within c =
    let k = c.in_ok-g.g in
    let same = c.in_ok-g.ensures.ok in
    let ranges = c.in_ok-ranges.ranges in
    let words = rw c.in_ok-ranges.ensures.ok_part at c.of_words.ensures in
    let within = rw c.len.ensures at c.are_within.ensures in
    rw (← same.0, ← words)
    (rw (tests_unknown k.graph ranges.words.now same.1 ranges.paired (held-is k.graph ranges.words.now k.held ranges.paired ∙ sym within ∙ c.if-not-are_within.true)) refl)

pub closed_parents-requires : goal.closed_parents-requires
closed_parents-requires c =
    let k = c.in_ok-g.g in
    let ranges = c.in_ok-ranges.ranges in
    let within = rw c.len.ensures at c.are_within.ensures in
    held-is k.graph ranges.words.now k.held ranges.paired ∙ sym within ∙ c.if-not-are_within.false

pub returns : goal.returns
returns c =
    let k = c.in_ok-g.g in
    let same = c.in_ok-g.ensures.ok in
    let ranges = c.in_ok-ranges.ranges in
    let words = rw c.in_ok-ranges.ensures.ok_part at c.of_words.ensures in
    let within = rw c.len.ensures at c.are_within.ensures in
    rw (← same.0, ← words)
    (c.closed_parents.ensures ∙
    tests-last k.graph ranges.words.now same.1 ranges.paired (held-is k.graph ranges.words.now k.held ranges.paired ∙ sym within ∙ c.if-not-are_within.false))
