-- `lists::is_climb` meets its contract: a turn asks one pair more. Assumes nothing.
use Rattle.std.proofs.Common.{◌≡◌, ◌<◌, ◌-◌, sym, ◌∙◌, leb, eqb, length, get_or, take, rules, arith}
use Rattle.lists.proofs.Truth.{and_assoc, and_true}
use Rattle.std.proofs.lemmas.List.{take_all}
use Rattle.lists.proofs.Scanning.{pairs, pairs_first, pairs_more, pairs-climbs, climbs_none}
use Rattle.lists.proofs.is_climb.Goals as goal

pub returns-in_default : goal.returns-in_default
returns-in_default c = sym (climbs_none c.args.last c.args.s.now (search rules))

pub loop-i-init : goal.loop-i-init
loop-i-init c =
    let e : c.in-Some.end.now ≡ get_or c.args.s.now (length c.args.s.now - 1) 0 = search rules in
    rw (pairs_first, and_true, e)

pub loop-i-preserved : goal.loop-i-preserved
loop-i-preserved c =
    let s = c.args.s.now in
    let i = c.loop-i.i in
    rw (c.loop-i.invariant, pairs_more leb s i (omega arith) (omega arith))
    (sym (and_assoc (eqb (get_or s (length s - 1) 0) c.args.last) (pairs leb (take i s)) (leb (get_or s (i - 1) 0) (get_or s i 0))))

pub returns : goal.returns
returns c =
    let s = c.args.s.now in
    let some : 0 < length s = search rules in
    let all = take_all c.loop-i.i s (omega arith) in
    c.loop-i.invariant ∙ rw all (sym (pairs-climbs c.args.last s some))
