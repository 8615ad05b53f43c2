-- `lists::insert_and_grow` meets its contract: a turn moves one item up. Assumes nothing.
use Rattle.std.proofs.Common.{◌≡◌, ◌-◌, ◌+◌, ◌∙◌, arith}
use Rattle.lists.specs.Scans.{grow}
use Rattle.lists.proofs.Inserting.{shifted_start, shifted_turn, shifted_read, shifted_end, insert-last}
use Rattle.lists.proofs.insert_and_grow.Goals as goal

pub loop-i-init : goal.loop-i-init
loop-i-init c = (omega arith, shifted_start _ _ _ (omega (arith, c.requires.at_in_bounds)))

pub grown-requires : goal.grown-requires
grown-requires c =
    let l = c.loop-i in
    let p = c.requires in
    let read = shifted_read _ _ _ (omega (arith, p.at_in_bounds)) l.a l.i (omega arith) (omega arith) l.invariant.1 in
    λ z. omega (arith, p.by_bound z (l.i - 1) (omega arith), read)

pub loop-i-preserved : goal.loop-i-preserved
loop-i-preserved c =
    let l = c.loop-i in
    let turn = shifted_turn _ _ _ (omega (arith, c.requires.at_in_bounds)) l.a l.i (omega arith) (omega arith) l.invariant.1 in
    let e : l.i - 1 + 1 ≡ l.i = omega arith in
    (omega arith, rw (c.grown.ensures, e) turn)

pub returns : goal.returns
returns c =
    let l = c.loop-i in
    let a = c.args in
    shifted_end _ _ _ (omega (arith, c.requires.at_in_bounds)) l.a l.i a.at a.item (omega arith) (omega arith) l.invariant.1
    ∙ insert-last a.at a.item (grow a.from a.by) a.a.now (omega (arith, c.requires.at_in_bounds))
