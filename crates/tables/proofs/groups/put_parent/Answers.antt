-- `tables::groups::put_parent` meets its contract: a parent is dropped or put. Assumes nothing.
use Rattle.tables.proofs.Gathering.{put_dropped, put-kept}
use Rattle.tables.proofs.groups.put_parent.Goals as goal

pub returns-then-p-a : goal.returns-then-p-a
returns-then-p-a c = put_dropped c.args.a (c.args.at, c.args.items.now) c.args.p c.if-p-a.true

pub returns : goal.returns
returns c = put-kept c.args.a (c.args.at, c.args.items.now) c.args.p c.if-p-a.false
