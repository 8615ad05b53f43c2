-- `walk::ready::Waits::start_run`: what a run waits for at the start, and whether it is ready.
use Rattle.std.proofs.Common.{◌<◌, length, length-take, ap, ◌∙◌, leb, arith}
use Rattle.lists.specs.Lists.{count}
use Rattle.model.specs.History.{at}
use Rattle.walk.specs.Given.{Given, parents_for}
use Rattle.walk.specs.Readiness.{Wakes, start_of}
use Rattle.walk.proofs.Keeping.{kept-waits, kept-known, kept-ready}
use Rattle.walk.proofs.ready.Waits.start_run.Goals as goal

pub returns-then-w-ne0 : goal.returns-then-w-ne0
returns-then-w-ne0 c =
    let g = c.args.given.now in
    let r = c.args.r in
    let i = c.self.inside in
    let ps = at (parents_for g) r in
    let known = ap (λ (g : Given). g.known) c.given.view_is in
    let unknown = c.count_unknown.ensures.value ∙ (λ i. count (λ p. leb (known i) p) (c.parents-parents.ensures.value i)) in
    let lt : r < i.runs = omega (arith, c.requires.run, c.requires.long, ap (λ (s : Wakes). length s.1) c.self.view_is, length-take i.runs i.waiting) in
    kept-waits i.count i.runs i.waiting i.ready (omega (arith, c.self.invariant)) r g.known g.first ps c.count_unknown.result c.held_back.result unknown c.held_back.ensures.value lt c.if-w-ne0.true ∙
    ap (λ (s : Wakes). start_of g.known g.first s r ps) c.self.view_is

pub returns-then-r-given : goal.returns-then-r-given
returns-then-r-given c =
    let g = c.args.given.now in
    let r = c.args.r in
    let i = c.self.inside in
    let ps = at (parents_for g) r in
    let known = ap (λ (g : Given). g.known) c.given.view_is in
    let unknown = c.count_unknown.ensures.value ∙ (λ i. count (λ p. leb (known i) p) (c.parents-parents.ensures.value i)) in
    let lt : r < i.runs = omega (arith, c.requires.run, c.requires.long, ap (λ (s : Wakes). length s.1) c.self.view_is, length-take i.runs i.waiting) in
    kept-known i.count i.runs i.waiting i.ready (omega (arith, c.self.invariant)) r g.known g.first ps c.count_unknown.result c.held_back.result unknown
    c.held_back.ensures.value lt (omega (arith, known, c.if-r-given.true)) ∙
    ap (λ (s : Wakes). start_of g.known g.first s r ps) c.self.view_is

pub returns : goal.returns
returns c =
    let g = c.args.given.now in
    let r = c.args.r in
    let i = c.self.inside in
    let ps = at (parents_for g) r in
    let known = ap (λ (g : Given). g.known) c.given.view_is in
    let unknown = c.count_unknown.ensures.value ∙ (λ i. count (λ p. leb (known i) p) (c.parents-parents.ensures.value i)) in
    let lt : r < i.runs = omega (arith, c.requires.run, c.requires.long, ap (λ (s : Wakes). length s.1) c.self.view_is, length-take i.runs i.waiting) in
    kept-ready i.count i.runs i.waiting i.ready (omega (arith, c.self.invariant)) r g.known g.first ps c.count_unknown.result c.held_back.result unknown
    c.held_back.ensures.value lt c.if-w-ne0.false (omega (arith, known, c.if-r-given.false)) ∙
    ap (λ (s : Wakes). start_of g.known g.first s r ps) c.self.view_is
