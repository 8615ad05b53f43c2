-- `calls::said::Operation::said` meets its contract: another word says no call. Assumes nothing.
use Rattle.std.proofs.Common.{arith}
use Rattle.calls.proofs.Reading.{call_unknown}
use Rattle.calls.proofs.said.Operation.said.Goals as goal

pub returns-in_default : goal.returns-in_default
returns-in_default c = call_unknown c.args.word (λ e. omega arith) (λ e. omega arith) (λ e. omega arith) (λ e. omega arith) (λ e. omega arith) (λ e. omega arith)
