-- `graph::growth::own_all` meets its contract: a turn takes one parent more. Assumes nothing.
use Rattle.std.proofs.Common.{arith, refl, sym, ap, ◌∙◌, ◌+◌, drop, get_or}
use Rattle.lists.proofs.Counts.{count_next}
use Rattle.model.specs.Graph.{is_held}
use Rattle.graph.specs.Loops.{side_in, own_all}
use Rattle.graph.proofs.Owning.{Owned, own-step, own_end, own-count}
use Rattle.graph.proofs.growth.own_all.Goals as goal

pub loop-p-init : goal.loop-p-init
loop-p-init c = record { room = c.requires; rest = refl }

pub add_own-h-requires : goal.add_own-h-requires
add_own-h-requires c =
    let g = c.args.g.now.graph in
    let l = c.loop-p in
    omega (arith, count_next (λ p. is_held (side_in g.starts g.run_count p)) c.args.ps.now l.p-index c.loop-p-test.true, l.invariant.room)

pub loop-p-preserved : goal.loop-p-preserved
loop-p-preserved c =
    let g = c.args.g.now.graph in
    let l = c.loop-p in
    let ps = c.args.ps.now in
    let e = c.add_own-h.ensures in
    let t : Owned = (l.items, l.h) in
    let k = own-count g.starts g.seen_prefix_len g.run_count t (get_or ps l.p-index 0) in
    let n = ap (λ (x : Owned). x.1.count) e in
    let s = count_next (λ p. is_held (side_in g.starts g.run_count p)) ps l.p-index c.loop-p-test.true in
    record {
      room = omega (arith, k, n, s, l.invariant.room);
      rest =
          ap (λ (x : Owned). own_all g.starts g.seen_prefix_len g.run_count x (drop (l.p-index + 1) ps)) e
          ∙ sym (own-step g.starts g.seen_prefix_len g.run_count t ps l.p-index c.loop-p-test.true)
          ∙ l.invariant.rest;
    }

pub returns : goal.returns
returns c =
    let g = c.args.g.now.graph in
    let l = c.loop-p in
    sym (own_end g.starts g.seen_prefix_len g.run_count (l.items, l.h) c.args.ps.now l.p-index c.loop-p-test.false) ∙ l.invariant.rest
