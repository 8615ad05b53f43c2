-- Of `stdio::reading::Reading::read_on`: what came lies within the part from where it stands on, and less may come than before. Assumes nothing.
use Rattle.std.proofs.Common.{◌+◌, ◌≤◌, length, arith}
use Rattle.stdio.proofs.Readings.{on_read, bytes_read, end_read, is_open}
use Rattle.stdio.proofs.reading.Reading.read_on.Goals as goal

pub returns : goal.returns
returns g c =
    let r = c.args.self in
    let part = c.read-got.new.buf in
    let open_ = is_open r _ c.requires.nonzero in
    let fits : r.count + length part ≤ length c.args.buf.now = omega arith in
    record {
      on = rw c.after.ensures (on_read r _ part _ _ c.requires.nonzero fits c.read-got.ensures.bound);
      bytes = λ start before. rw c.after.ensures (bytes_read start _ _ r _ _ _ _ c.requires.count_in_bounds c.read-got.ensures.bound c.read-got.ensures.bytes before);
      end = λ h. end_read _ _ r _ _ open_.0 (omega (arith, open_.1)) c.read-got.ensures.bytes (rw c.after.ensures at h);
    }
