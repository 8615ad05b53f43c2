-- `tables::members::sums_of` meets its contract: prefix sums of the members' events. Assumes nothing.
use Rattle.std.proofs.Common.{◌≡◌, ℕ, ◌<◌, ◌+◌, ◌^◌, length, get_or, arith, ap, get_or-set_same}
use Rattle.std.proofs.Math.ListN.{length-set}
use Rattle.tables.specs.Tables.{size_in}
use Rattle.tables.proofs.Summing.{sums-start, sums_next, bound_more, bound_set}
use Rattle.tables.proofs.members.sums_of.Goals as goal

pub loop-j-init : goal.loop-j-init
loop-j-init c =
    let first = get_or-set_same c.args.before.now 0 0 0 (omega arith) in
    record { low = omega arith; summed = sums-start _ _ first; bounded = λ k le. let e : k ≡ 0 = omega arith in rw e (omega arith); small = λ old. old }

pub loop-j-preserved : goal.loop-j-preserved
loop-j-preserved c =
    let l = c.loop-j in
    let v = get_or l.before l.j 0 + c.from.result in
    let within : l.j + 1 < length l.before = omega (arith, c.requires.1, length-set {A = ℕ}) in
    let size : c.from.result ≡ size_in c.args.starts.now (get_or c.args.members.now l.j 0) = cc in
    record {
      low = omega (arith, get_or-set_same l.before (l.j + 1) v 0 within);
      summed = sums_next l.before _ l.j v within l.invariant.summed (ap (λ (n : ℕ). get_or l.before l.j 0 + n) size);
      bounded = bound_more l.before l.j v (2 ^ 41) within l.invariant.bounded (omega arith);
      small = λ old. bound_set l.before (l.j + 1) v (2 ^ 41) within (omega arith) (l.invariant.small old);
    }

pub returns-clause-small : goal.returns-clause-small
returns-clause-small c = λ old. c.loop-j.invariant.small (bound_set c.args.before.now 0 0 (2 ^ 41) (omega arith) (omega arith) old)
