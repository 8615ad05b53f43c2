-- `book::replaying::put_replay` meets its contract: the steps that the replay wrote are those that are put, and the last line after them. Assumes nothing.
use Rattle.std.proofs.Common.{rules}
use Rattle.book.proofs.Whole.{count_fits, replay_put}
use Rattle.book.proofs.replaying.put_replay.Goals as goal

pub overflow_mul-words : goal.overflow_mul-words
overflow_mul-words c = let h = count_fits c.args.g.now.graph c.args.g.now.held _ _ _ c.replay_held-walked.ensures in search rules

pub slice_bounds-steps-end : goal.slice_bounds-steps-end
slice_bounds-steps-end c = let h = count_fits c.args.g.now.graph c.args.g.now.held _ _ _ c.replay_held-walked.ensures in search rules

pub slice_bounds-put_steps-end : goal.slice_bounds-put_steps-end
slice_bounds-put_steps-end c = let h = count_fits c.args.g.now.graph c.args.g.now.held _ _ _ c.replay_held-walked.ensures in search rules

pub returns-clause-written : goal.returns-clause-written
returns-clause-written c =
    replay_put c.args.g.now.graph c.args.g.now.held _ _ _ c.replay_held-walked.ensures _ _ _ _ c.put_steps.ensures.written c.last_line.ensures c.put.ensures.written
