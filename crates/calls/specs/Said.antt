-- What was read of words, as the model has it. Assumes nothing.
use Rattle.std.specs.Prelude.{Bool, true, false, cond, ℕ}
use Rattle.model.specs.Log.{Fresh, new, after, Call as ModelCall, push, start_run_at, take_changed_from}
use Rattle.calls.specs.declared.forms.Form.{Form}
use Rattle.calls.specs.declared.forms.Form.TheVariants.{ByValue, Lent}
use Rattle.calls.specs.declared.said.Operation.{Operation}
use Rattle.calls.specs.declared.said.Operation.TheVariants.{Push as APush, StartRunAt as AStart, TakeChangedFrom as ATake}
use Rattle.calls.specs.declared.said.Start.{Start}
use Rattle.calls.specs.declared.said.Start.TheVariants.{New, After}
use Rattle.calls.specs.declared.said.Call.{Call}
use Rattle.calls.specs.declared.said.Call.TheVariants.{Push, StartRunAt, TakeChangedFrom}

-- lent, or by value
abbrev pub is_lent : Form → Bool
is_lent ByValue = false
is_lent Lent = true

-- the word that says an operation
abbrev pub operation_word : Bool → Operation → ℕ
operation_word lent APush = cond lent 16 2
operation_word lent AStart = cond lent 17 3
operation_word lent ATake = cond lent 18 4

-- a start, with the list that it was given
abbrev pub start_said : Start → Fresh
start_said New = new
start_said (After first frontier) = after first.0 frontier.now

-- a call, with the list that it was given
abbrev pub call_said : Call → ModelCall
call_said (Push parents len) = push parents.now len
call_said (StartRunAt at) = start_run_at at.0
call_said TakeChangedFrom = take_changed_from
