-- `calls::start_again` meets its contract: 02's law of what its four calls left. Cited here: a search that was given the law did not find it. Assumes nothing.
use Rattle.calls.proofs.Again.{starts-again}
use Rattle.calls.proofs.start_again.Goals as goal

pub returns : goal.returns
returns c =
    let again = c.start_run_at-started_again in
    let called = c.calls-given in
    let first = c.start_run_at-started in
    let made = c.made_by in
    let a = c.args in
    starts-again a.words.now a.at.0 a.between.now made.result called.result first.result again.result
    made.ensures first.ensures called.ensures again.ensures
