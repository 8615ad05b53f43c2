-- `calls::said::Call::make` meets its contract: the call decides. Assumes nothing.
use Rattle.std.proofs.Common.{sym, ◌∙◌, ap}
use Rattle.model.specs.Log.{answer}
use Rattle.calls.specs.declared.said.Call.{Call}
use Rattle.calls.specs.Said.{call_said}
use Rattle.calls.proofs.said.Call.make.Goals as goal
use Rattle.model.specs.Answers.{Pushed, Started, Taken}

pub returns-in-Push : goal.returns-in-Push
unfolding answer
returns-in-Push c =
    ap (λ (x : Pushed). x.graph) c.push-pushed.ensures ∙ sym (ap (λ (x : Call). (answer c.args.g (call_said x)).1) c.in-Push.is)

pub returns-in-StartRunAt : goal.returns-in-StartRunAt
unfolding answer
returns-in-StartRunAt c =
    ap (λ (x : Started). x.graph) c.start_run_at-started.ensures ∙ sym (ap (λ (x : Call). (answer c.args.g (call_said x)).1) c.in-StartRunAt.is)

pub returns-in-TakeChangedFrom : goal.returns-in-TakeChangedFrom
unfolding answer
returns-in-TakeChangedFrom c =
    ap (λ (x : Taken). x.graph) c.take_changed_from-taken.ensures ∙ sym (ap (λ (x : Call). (answer c.args.g (call_said x)).1) c.in-TakeChangedFrom.is)
