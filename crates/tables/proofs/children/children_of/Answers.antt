-- `tables::children::children_of` meets its contract: the kids of each run stand in their places. Assumes nothing.
use Rattle.std.proofs.Common.{◌≡◌, ◌+◌, ◌<◌, ℕ, length, sym, ap, subst, ◌∙◌, arith}
use Rattle.model.specs.History.{at}
use Rattle.tables.specs.Counted.{kids, kids_from, Placing, put_all}
use Rattle.tables.proofs.Rooms.{kids-most}
use Rattle.tables.proofs.Filling.{Filled, filled_start, run_placeable, filled_run}
use Rattle.tables.proofs.children.children_of.Goals as goal

pub loop-r-init : goal.loop-r-init
loop-r-init c = let a = c.args in filled_start a.parents.now (length a.parents.now) (a.next.now, a.children.now) c.requires.summed

pub put_child-requires-clause-room : goal.put_child-requires-clause-room
put_child-requires-clause-room c =
    let l = c.loop-r in
    let p = c.requires in
    let pss = c.args.parents.now in
    let n : ℕ = length pss in
    let lt : l.r < n = omega arith in
    let fits = kids-most pss n (omega arith) in
    rw c.row.ensures (run_placeable pss n l.r (l.next, l.children) lt (λ q m. let b = p.below l.r q m in omega arith) (omega (arith, p.sized)) (omega (arith, p.room)) l.invariant)

pub loop-r-preserved : goal.loop-r-preserved
loop-r-preserved c =
    let l = c.loop-r in
    let p = c.requires in
    let pss = c.args.parents.now in
    let n : ℕ = length pss in
    let put = c.put_child in
    let lt : l.r < n = omega arith in
    let fits = kids-most pss n (omega arith) in
    let whole : ◌≡◌ {A = Placing} (put.new.next, put.new.children) (put_all l.r (l.next, l.children) (at pss l.r)) = put.ensures ∙ ap (put_all l.r (l.next, l.children)) c.row.ensures in
    subst (λ (x : Placing). Filled (kids_from pss n) (λ q. kids pss q (l.r + 1)) n x) (sym whole)
    (filled_run pss n l.r (l.next, l.children) lt (λ q m. let b = p.below l.r q m in omega arith) (omega (arith, p.sized)) (omega (arith, p.room)) l.invariant)
