-- `book::replaying::put_book` meets its contract: a refusal is one line. Assumes nothing.
use Rattle.book.specs.Turns.{read_of}
use Rattle.book.specs.Writing.{state}
use Rattle.book.proofs.Whole.{put_refused}
use Rattle.book.proofs.replaying.put_book.Goals as goal

pub returns-in-Err-clause-written : goal.returns-in-Err-clause-written
returns-in-Err-clause-written c = put_refused (read_of c.args.read) (state c.args.out.now) _ _ _ c.in-Err.is c.refusal_line.ensures c.put.ensures.written
